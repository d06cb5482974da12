-- For private clauses: the rows that an entry leaves, laid over a state.
use Rattle.std.specs.Prelude.{ℕ, List, Bool, true, ◌&&◌, ◌||◌, filter, is_some, Option, Some, None}
use Rattle.std.specs.Prelude.{option_and_then, option_map, slice_get}
use Rattle.std.specs.List.{list_all}
use Rattle.an_base.specs.Outcome.{passes}
use Rattle.an_keyed.specs.Rows.{put_row, row_of}
use Rattle.an_policy.specs.Group.{same_group}
use Rattle.an_policy.specs.declared.group.Audience.{Audience}
use Rattle.an_state.specs.State.{State, ManifestState, NoteState, manifest_key, note_key}
use Rattle.an_state.specs.State.{manifest_row}
use Rattle.an_state.specs.View.{is_on, note_audience}
use Rattle.an_state.specs.declared.entry.Row.{Row}
use Rattle.an_state.specs.declared.entry.Row.TheVariants as kept
use Rattle.an_listed.specs.declared.filed.Filed.{Filed}

-- the later of two, where there is one
abbrev pub latest : {A : Type 0} → Option A → Option A → Option A
latest (Some new) old = Some new
latest None old = old

-- the row of the manifest of this name: among these, or else the state's
abbrev pub manifest_over : State → List ManifestState → List ℕ → Option ManifestState
manifest_over s manifests name =
    latest (row_of manifest_key (record { owner = None; name = name }) manifests)
    (manifest_row s name)

-- the manifests after a row
abbrev pub manifests_with : Row → List ManifestState → List ManifestState
manifests_with (kept.Reader row) manifests = manifests
manifests_with (kept.Manifest row) manifests = put_row manifest_key row manifests
manifests_with (kept.Note row) manifests = manifests
manifests_with (kept.Activity activity) manifests = manifests

-- the annotations after a row
abbrev pub notes_with : Row → List NoteState → List NoteState
notes_with (kept.Reader row) notes = notes
notes_with (kept.Manifest row) notes = notes
notes_with (kept.Note row) notes = put_row note_key row notes
notes_with (kept.Activity activity) notes = notes

-- the manifest has no row yet, or one of the same group
abbrev pub keeps_over : State → List ManifestState → Row → Bool
keeps_over s manifests (kept.Reader row) = true
keeps_over s manifests (kept.Manifest row) =
    elim (manifest_over s manifests row.name) [
      | None ↦ true
      | Some old ↦ same_group old.group row.group
    ]
keeps_over s manifests (kept.Note row) = true
keeps_over s manifests (kept.Activity activity) = true

-- the audience of a live annotation whose manifest has a row then
abbrev pub audience_over : State → List ManifestState → NoteState → Option Audience
audience_over s manifests row = option_and_then (λ live.
    option_map (λ manifest. note_audience manifest row live)
    (manifest_over s manifests live.manifest)) row.live

-- the annotation is deleted, or its manifest is live then
abbrev pub is_based : State → List ManifestState → NoteState → Bool
is_based s manifests row =
    elim row.live [
      | None ↦ true
      | Some live ↦ passes (λ m. is_some m.live) (manifest_over s manifests live.manifest)
    ]

-- one of these has the annotation's key
abbrev pub has_note : List NoteState → NoteState → Bool
has_note notes row = is_some (row_of note_key (note_key row) notes)

-- the manifest is live, or each live annotation that stood on it is among these
abbrev pub is_cleared : State → List NoteState → ManifestState → Bool
is_cleared s notes row =
    is_some row.live || list_all (has_note notes) (filter (is_on row.name) s.notes)

-- where annotations stand on live manifests, they still do with these rows
abbrev pub stand_over : State → List ManifestState → List NoteState → Bool
stand_over s manifests notes =
    list_all (is_based s manifests) notes && list_all (is_cleared s notes) manifests

-- an annotation that a place names is among these
abbrev pub has_place : List NoteState → List Filed → ℕ → Bool
has_place notes rows place =
    elim (slice_get rows place) [ None ↦ true | Some filed ↦ has_note notes filed.note ]
