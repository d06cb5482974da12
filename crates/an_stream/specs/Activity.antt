-- A change as the stream tells it (IIIF Change Discovery API 1.0, level 2).
use Rattle.std.specs.Prelude.{ℕ, List, codes, Option, Some, None}
use Rattle.serde_json.specs.Data.{Data, string, object, member, no_members}
use Rattle.an_base.specs.Moment.{moment_text}
use Rattle.an_base.specs.Object.{with_member_if}
use Rattle.an_policy.specs.declared.kind.Kind.{Kind}
use Rattle.an_policy.specs.declared.kind.Kind.TheVariants as kind
use Rattle.an_iri.specs.Iris.{manifest_iri, note_iri}
use Rattle.an_state.specs.declared.activity.Seen.{Seen}
use Rattle.an_state.specs.declared.command.Object.{Object}
use Rattle.an_state.specs.declared.command.Object.TheVariants as object
use Rattle.an_list.specs.Page.{thing}

-- the type of an activity
abbrev pub kind_text : Kind → List ℕ
kind_text kind.Create = codes "Create"
kind_text kind.Update = codes "Update"
kind_text kind.Delete = codes "Delete"

-- what was changed; a reader has no IRI, and no activity is of one
abbrev pub thing_of : List ℕ → Object → Option Data
thing_of base (object.Reader name) = None
thing_of base (object.Manifest name) = Some (thing (manifest_iri base name) (codes "Manifest"))
thing_of base (object.Note owner name) =
    Some (thing (note_iri base owner name) (codes "Annotation"))

-- an activity
unfoldable pub activity : List ℕ → Seen → Data
activity base seen =
    with_member_if (codes "object") (thing_of base seen.object)
    (object (member (codes "endTime") (string (moment_text seen.moment))
    (member (codes "type") (string (kind_text seen.kind)) no_members)))
