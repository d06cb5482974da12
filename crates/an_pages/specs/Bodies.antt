-- The bodies of answers that show one thing.
use Rattle.std.specs.Prelude.{ℕ, List, codes, if◌then◌else◌, Option, Some, option_map}
use Rattle.std.specs.Prelude.{option_and_then, ok_or, Result}
use Rattle.serde_json.specs.Data.{string}
use Rattle.serde_json.specs.Written.{compact_text}
use Rattle.an_served.specs.Manifest.{dressed}
use Rattle.an_base.specs.Object.{with_member}
use Rattle.an_base.specs.Outcome.{passes}
use Rattle.an_policy.specs.Seen.{is_deletion}
use Rattle.an_state.specs.State.{ManifestState, NoteState, LiveManifest, LiveNote}
use Rattle.an_state.specs.View.{View, manifest_in, note_in, last_kind}
use Rattle.an_list.specs.Listed.{listed_live}
use Rattle.an_list.specs.Site.{Site}
use Rattle.an_list.specs.declared.error.ReadError.{ReadError}
use Rattle.an_list.specs.declared.error.ReadError.TheVariants.{Absent, Gone}

abbrev pub live_body : Site → ManifestState → LiveManifest → List ℕ
live_body site row live = compact_text (dressed site.base row.name live.tree)

-- the text by which a manifest's row is served; a tombstone has none
abbrev pub manifest_body : Site → ManifestState → Option (List ℕ)
manifest_body site row = option_map (live_body site row) row.live

-- the manifest of this name, as the view has it
unfoldable pub manifest_of_view : Site → View → List ℕ → Result (List ℕ) ReadError
manifest_of_view site view name =
    ok_or (option_and_then (manifest_body site) (manifest_in view name)) Absent

-- ---- an annotation

-- the context of annotations (Web Annotation Data Model)
abbrev pub note_context : List ℕ
note_context = codes "http://www.w3.org/ns/anno.jsonld"

-- an annotation that is live, as its own route shows it: as lists do, and with its context
abbrev pub shown_live : Site → NoteState → LiveNote → List ℕ
shown_live site row live =
    compact_text (with_member (codes "@context") (string note_context)
    (listed_live site.base row live))

abbrev pub note_body : Site → NoteState → Option (List ℕ)
note_body site row = option_map (shown_live site row) row.live

-- why an annotation isn't shown: it is gone where the last change of it that the caller saw was its
-- deletion
abbrev pub missing_note : View → List ℕ → List ℕ → ReadError
missing_note view owner name =
    if passes is_deletion (last_kind (record { owner = Some owner; name = name }) view.seen)
    then Gone
    else Absent

-- the annotation of this owner and name, as the view has it
unfoldable pub annotation_of_view : Site → View → List ℕ → List ℕ → Result (List ℕ) ReadError
annotation_of_view site view owner name =
    ok_or (option_and_then (note_body site) (note_in view owner name))
    (missing_note view owner name)
