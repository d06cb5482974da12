-- What the fields of a row have to be, whatever state it stands in.
use Rattle.std.specs.Prelude.{ℕ, ◌^◌, List, [], ◌∷◌, ◌++◌, length, Bool, true, false, ◌&&◌, ◌||◌}
use Rattle.std.specs.Prelude.{not, nat_le, bytes_eq, is_none, is_some, Option, Some, None}
use Rattle.std.specs.List.{list_all}
use Rattle.std.specs.Str.{is_utf8}
use Rattle.serde_json.specs.Data.{Data}
use Rattle.an_base.specs.Moment.{is_moment}
use Rattle.an_base.specs.Name.{is_name}
use Rattle.an_base.specs.Outcome.{passes}
use Rattle.an_base.specs.Token.{is_token}
use Rattle.an_base.specs.Tree.{is_tree}
use Rattle.an_manifest.specs.Manifest.{is_kept}
use Rattle.an_model.specs.Note.{note_refusal, is_bare}
use Rattle.an_policy.specs.Audience.{is_among, is_group_name}
use Rattle.an_policy.specs.Group.{is_valid_group}
use Rattle.an_policy.specs.Inner.{is_valid_inner}
use Rattle.an_policy.specs.declared.inner.Inner.{Inner}
use Rattle.an_policy.specs.declared.inner.Inner.TheVariants as inner
use Rattle.an_rows.specs.Format.{can_say}
use Rattle.an_rows.specs.declared.format.Format.{Format}
use Rattle.an_policy.specs.Reader.{is_user}
use Rattle.an_policy.specs.declared.group.Audience.{Audience}
use Rattle.an_policy.specs.declared.group.Group.{Group}
use Rattle.an_policy.specs.declared.group.Group.TheVariants.{Public, Private, Named}
use Rattle.an_policy.specs.declared.reader.Reader.{Reader}
use Rattle.an_policy.specs.Group.{is_private}
use Rattle.an_state.specs.Commands.{is_number}
use Rattle.an_state.specs.Sound.{agrees}
use Rattle.an_state.specs.State.{State, ReaderState, ManifestState, LiveManifest, NoteState}
use Rattle.an_state.specs.State.{LiveNote}
use Rattle.an_state.specs.declared.activity.Activity.{Activity}
use Rattle.an_state.specs.declared.entry.Row.{Row}
use Rattle.an_state.specs.declared.entry.Row.TheVariants as kept

-- ---- parts

-- an annotation that is deleted with its manifest has the number behind its last
unfoldable pub is_tombstone_number : ℕ → Bool
is_tombstone_number version = nat_le 1 version && nat_le version (10 ^ 9)

-- an IRI that a reader has
abbrev pub is_iri : List ℕ → Bool
is_iri text = is_user text && is_utf8 text

-- a group in which a manifest can be: not the one of nobody
abbrev pub is_manifest_group : Group → Bool
is_manifest_group group = is_valid_group group && not (is_private group)

-- the tree that is kept of a manifest, and that of an annotation
unfoldable pub is_sheet : Data → Bool
is_sheet tree = is_tree tree && is_kept tree

unfoldable pub is_note : Data → Bool
is_note tree = is_tree tree && is_none (note_refusal tree) && is_bare tree

-- ---- a reader

-- each names a group, and none is among those before it
abbrev pub are_groups_behind : List (List ℕ) → List (List ℕ) → Bool
are_groups_behind before [] = true
are_groups_behind before (name ∷ names) =
    is_group_name name && not (is_among before name)
    && are_groups_behind (before ++ name ∷ []) names

-- at most 64 groups, each once
unfoldable pub are_groups : List (List ℕ) → Bool
are_groups names = nat_le (length names) 64 && are_groups_behind [] names

abbrev pub is_valid_reader : Reader → Bool
is_valid_reader reader = is_token reader.token && is_iri reader.user && are_groups reader.groups

-- what stands there is so, if anything does
abbrev pub if_any : {A : Type 0} → (A → Bool) → Option A → Bool
if_any test None = true
if_any test (Some value) = test value

unfoldable pub is_valid_reader_row : ReaderState → Bool
is_valid_reader_row row =
    is_name row.name && is_number row.version && agrees row && if_any is_valid_reader row.live

-- ---- a manifest

abbrev pub is_valid_live_manifest : LiveManifest → Bool
is_valid_live_manifest live =
    is_moment live.created && if_any is_moment live.modified && is_sheet live.tree

unfoldable pub is_valid_manifest_row : ManifestState → Bool
is_valid_manifest_row row =
    is_name row.name && is_number row.version && is_manifest_group row.group
    && if_any is_valid_live_manifest row.live

-- ---- an annotation

abbrev pub is_valid_live_note : LiveNote → Bool
is_valid_live_note live =
    is_name live.manifest && is_valid_inner live.group && is_iri live.creator
    && is_moment live.created && if_any is_moment live.modified && is_note live.tree

abbrev pub is_number_of_note : Option LiveNote → ℕ → Bool
is_number_of_note None version = is_tombstone_number version
is_number_of_note (Some live) version = is_number version

unfoldable pub is_valid_note_row : NoteState → Bool
is_valid_note_row row =
    is_name row.owner && is_name row.name && is_number_of_note row.live row.version
    && if_any is_valid_live_note row.live

-- ---- an activity

abbrev pub is_public : Inner → Bool
is_public inner.Public = true
is_public inner.Private = false
is_public (inner.Names names) = false

-- the inner part of an audience of a manifest, and of an annotation of this owner
abbrev pub is_inner : Option (List ℕ) → Audience → Bool
is_inner None audience = is_public audience.inner && is_none audience.owner
is_inner (Some owner) audience =
    is_valid_inner audience.inner && passes (λ its. bytes_eq its owner) audience.owner

-- an audience that a manifest can have, or an annotation of this owner
unfoldable pub is_valid_audience : Option (List ℕ) → Audience → Bool
is_valid_audience owner audience =
    is_manifest_group audience.outer && is_inner owner audience

unfoldable pub is_valid_activity : Activity → Bool
is_valid_activity activity =
    is_moment activity.at && if_any is_name activity.by && if_any is_name activity.owner
    && is_name activity.name
    && if_any (is_valid_audience activity.owner) activity.before
    && if_any (is_valid_audience activity.owner) activity.after
    && (is_some activity.before || is_some activity.after)

-- ---- a row, and a state

abbrev pub is_valid_row : Row → Bool
is_valid_row (kept.Reader row) = is_valid_reader_row row
is_valid_row (kept.Manifest row) = is_valid_manifest_row row
is_valid_row (kept.Note row) = is_valid_note_row row
is_valid_row (kept.Activity row) = is_valid_activity row

unfoldable pub is_valid : State → Bool
is_valid s =
    list_all is_valid_reader_row s.readers
    && list_all is_valid_manifest_row s.manifests
    && list_all is_valid_note_row s.notes
    && list_all is_valid_activity s.activities

-- ---- which rows and states a format can say

abbrev pub row_can : Format → Row → Bool
row_can format (kept.Reader row) = true
row_can format (kept.Manifest row) = true
row_can format (kept.Note row) = if_any (λ live. can_say format live.group) row.live
row_can format (kept.Activity row) =
    if_any (λ audience. can_say format audience.inner) row.before
    && if_any (λ audience. can_say format audience.inner) row.after

-- the first format: each annotation and each audience has one inner group
abbrev pub state_can : Format → State → Bool
state_can format s =
    list_all (λ row. row_can format (kept.Note row)) s.notes
    && list_all (λ row. row_can format (kept.Activity row)) s.activities
