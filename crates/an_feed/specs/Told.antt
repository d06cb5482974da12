-- What a change of a view reports to a harvest.
use Rattle.std.specs.Prelude.{ℕ, List, [], ◌++◌, codes, decimal, Bool, true, false, IsTrue}
use Rattle.std.specs.Prelude.{Option, Some, None, is_none, if◌then◌else◌}
use Rattle.an_base.specs.Moment.{IsMoment}
use Rattle.an_base.specs.Name.{is_name}
use Rattle.an_iri.specs.Iris.{manifest_iri, note_iri}
use Rattle.an_keyed.specs.Key.{Key}
use Rattle.an_policy.specs.Seen.{is_deletion}
use Rattle.an_state.specs.View.{last_change}
use Rattle.an_state.specs.declared.activity.Seen.{Seen}
use Rattle.an_state.specs.declared.command.Object.{Object}
use Rattle.an_state.specs.declared.command.Object.TheVariants as object
use Rattle.an_harvest.specs.Feed.{Change}

-- the IRI of a manifest or an annotation; no change is of a reader
abbrev pub iri_of : List ℕ → Object → List ℕ
iri_of base (object.Reader name) = []
iri_of base (object.Manifest name) = manifest_iri base name
iri_of base (object.Note owner name) = note_iri base owner name

abbrev pub is_manifest : Object → Bool
is_manifest (object.Reader name) = false
is_manifest (object.Manifest name) = true
is_manifest (object.Note owner name) = false

abbrev pub change_told : List ℕ → Seen → Change
change_told base seen =
    record { id = iri_of base seen.object; manifest = is_manifest seen.object; kind = seen.kind }

-- names are names, and no change is of a reader
abbrev pub IsNamed : Object → Type 0
IsNamed (object.Reader name) = ⊥
IsNamed (object.Manifest name) = IsTrue (is_name name)
IsNamed (object.Note owner name) = IsTrue (is_name owner) × IsTrue (is_name name)

-- a change as a valid state has it
pub record IsTold (seen : Seen) : Type 0 where
  pub moment : IsMoment seen.moment
  pub named : IsNamed seen.object

-- the target of a page of the stream
abbrev pub page_target : ℕ → List ℕ
page_target page = codes "/changes" ++ (codes "?page=" ++ decimal page)

-- the manifest or the annotation of a key
abbrev pub object_of_key : Key → Object
object_of_key key =
    elim key.owner [
      | None ↦ object.Manifest key.name
      | Some owner ↦ object.Note owner key.name
    ]

-- whether an object is a manifest, where its last change makes it or changes it
abbrev pub lives : Key → List Seen → Option Bool
lives key seen =
    elim (last_change key seen) [
      | None ↦ None
      | Some change ↦ if is_deletion change.kind then None else Some (is_none key.owner)
    ]
