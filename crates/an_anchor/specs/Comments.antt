-- Comments: annotations that are about another annotation (Web Annotation Data Model, section 3.2),
-- where they hold in its texts, and those that have lost what they are about.
use Rattle.std.specs.Prelude.{ℕ, ◌+◌, List, [], ◌∷◌, length, map, filter, codes, bytes_eq}
use Rattle.std.specs.Prelude.{Bool, true, false, is_some, if◌then◌else◌, Option, None, Some}
use Rattle.std.specs.Prelude.{option_map, option_and_then, Result, Err}
use Rattle.std.specs.List.{flat_map}
use Rattle.std.specs.Option.{option_map_or}
use Rattle.serde_json.specs.Data.{Data, number, unsigned, string, array, object, member}
use Rattle.serde_json.specs.Data.{no_members}
use Rattle.serde_json.specs.View.{items_of}
use Rattle.serde_json.specs.Written.{compact_text}
use Rattle.an_base.specs.Outcome.{or_refuse, passes}
use Rattle.an_iri.specs.Iris.{anchors_iri, note_iri, orphans_iri}
use Rattle.an_iri.specs.Names.{names_in}
use Rattle.an_model.specs.Bodies.{texts_of}
use Rattle.an_model.specs.Targets.{targets_of}
use Rattle.an_model.specs.declared.target.Target.{Target}
use Rattle.an_state.specs.State.{LiveNote, NoteState}
use Rattle.an_state.specs.View.{View, manifest_in, note_in}
use Rattle.an_list.specs.Page.{on_page, page_count, page_iri, page_of}
use Rattle.an_list.specs.Site.{Site}
use Rattle.an_list.specs.declared.error.ReadError.{ReadError}
use Rattle.an_list.specs.declared.error.ReadError.TheVariants.{Absent}
use Rattle.an_list.specs.declared.page.PagedList.{PagedList}
use Rattle.an_pages.specs.Bodies.{missing_note}
use Rattle.an_pages.specs.Container.{notes_on}
use Rattle.an_anchor.specs.Resolve.{resolved}
use Rattle.an_anchor.specs.declared.anchored.Anchor.{Anchor}
use Rattle.an_anchor.specs.declared.anchored.AnchorPlace.{AnchorPlace}
use Rattle.an_anchor.specs.declared.anchored.AnchorState.{AnchorState}
use Rattle.an_anchor.specs.declared.anchored.AnchorState.TheVariants as state
use Rattle.an_anchor.specs.declared.comment.Comment.{Comment}

-- ---- targets, each with its number

-- targets of an annotation, numbered from the first on
abbrev pub numbered : NoteState → ℕ → List Target → List Comment
numbered row first [] = []
numbered row first (target ∷ targets) =
    record { owner = row.owner; name = row.name; number = first; target = target }
    ∷ numbered row (first + 1) targets

abbrev pub row_targets : NoteState → List Comment
row_targets row = option_map_or (λ live. numbered row 0 (targets_of live.tree)) row.live []

-- all targets of the annotations of the view on a manifest, in their order
unfoldable pub targets_on : View → List ℕ → List Comment
targets_on view manifest = flat_map row_targets (notes_on view manifest)

-- ---- the comments on an annotation

abbrev pub is_about : List ℕ → Comment → Bool
is_about iri comment = bytes_eq comment.target.source iri

-- the targets on the manifest whose source is the annotation of this owner and name
abbrev pub comments : Site → View → List ℕ → List ℕ → List ℕ → List Comment
comments site view owner name manifest =
    filter (is_about (note_iri site.base owner name)) (targets_on view manifest)

-- ---- the comments that have lost what they are about

-- the annotation of this owner and name, live in the view
abbrev pub live_in : View → List ℕ → List ℕ → Option LiveNote
live_in view owner name = option_and_then (λ row. row.live) (note_in view owner name)

-- the texts of the annotation of these names, if the view has it
abbrev pub texts_in : View → List ℕ × List ℕ → Option (List (List ℕ))
texts_in view names = option_map (λ live. texts_of live.tree) (live_in view names.0 names.1)

abbrev pub is_orphan : AnchorState → Bool
is_orphan state.Whole = false
is_orphan state.Found = false
is_orphan state.Exact = false
is_orphan state.Moved = false
is_orphan state.Orphan = true

-- there are no such texts, or its selectors are nowhere in them
abbrev pub is_lost_in : Option (List (List ℕ)) → Comment → Bool
is_lost_in None comment = true
is_lost_in (Some texts) comment = is_orphan (resolved texts comment.target.selectors).state

-- its source is the IRI of an annotation, in whose texts it is lost
abbrev pub is_orphaned : Site → View → Comment → Bool
is_orphaned site view comment =
    passes (λ names. is_lost_in (texts_in view names) comment)
    (names_in site.base comment.target.source)

abbrev pub orphans : Site → View → List ℕ → List Comment
orphans site view manifest = filter (is_orphaned site view) (targets_on view manifest)

-- ---- items

abbrev pub state_name : AnchorState → List ℕ
state_name state.Whole = codes "whole"
state_name state.Found = codes "found"
state_name state.Exact = codes "exact"
state_name state.Moved = codes "moved"
state_name state.Orphan = codes "orphan"

abbrev pub place_tree : AnchorPlace → Data
place_tree place =
    object (member (codes "end") (number (unsigned place.span.end))
    (member (codes "start") (number (unsigned place.span.start))
    (member (codes "text") (number (unsigned place.text)) no_members)))

-- the target of this number of the annotation of this IRI, with what its selectors come to
abbrev pub item_tree : List ℕ → ℕ → Anchor → Data
item_tree iri target anchor =
    object (member (codes "comment") (string iri)
    (member (codes "places") (array (items_of (map place_tree anchor.places)))
    (member (codes "state") (string (state_name anchor.state))
    (member (codes "target") (number (unsigned target)) no_members))))

-- a comment, with what its selectors come to in these texts
abbrev pub anchor_item : List ℕ → List (List ℕ) → Comment → Data
anchor_item base texts comment =
    item_tree (note_iri base comment.owner comment.name) comment.number
    (resolved texts comment.target.selectors)

-- what they come to where nothing is found
abbrev pub orphan : Anchor
orphan = record { state = state.Orphan; places = [] }

abbrev pub orphan_item : List ℕ → Comment → Data
orphan_item base comment =
    item_tree (note_iri base comment.owner comment.name) comment.number orphan

-- ---- pages

-- a page of the comments on an annotation, which are so many
unfoldable pub anchors_tree : PagedList → ℕ → ℕ → ℕ → List Data → Data
anchors_tree whole page size total items =
    object (member (codes "anchors") (array (items_of items))
    (member (codes "id") (string (page_iri whole page))
    (member (codes "pages") (number (unsigned (page_count total size)))
    (member (codes "total") (number (unsigned total)) no_members))))

-- a page of the comments on a manifest that have lost what they are about
unfoldable pub orphans_tree : PagedList → ℕ → ℕ → ℕ → List Data → Data
orphans_tree whole page size total items =
    object (member (codes "id") (string (page_iri whole page))
    (member (codes "orphans") (array (items_of items))
    (member (codes "pages") (number (unsigned (page_count total size)))
    (member (codes "total") (number (unsigned total)) no_members))))

-- ---- the answers, from the caller's view only

abbrev pub anchors_whole : List ℕ → List ℕ → List ℕ → PagedList
anchors_whole base owner name =
    record { path = anchors_iri base owner name; parameters = [] }

abbrev pub orphans_whole : List ℕ → List ℕ → PagedList
orphans_whole base manifest = record { path = orphans_iri base manifest; parameters = [] }

-- the page of this number of these comments on an annotation with these texts
unfoldable pub anchors_text
    : Site → PagedList → ℕ → List (List ℕ) → List Comment → Result (List ℕ) ReadError
anchors_text site whole page texts comments =
    on_page site page (length comments)
    (compact_text (anchors_tree whole page site.size (length comments)
    (map (anchor_item site.base texts) (page_of page site.size comments))))

abbrev pub live_anchors
    : Site → View → List ℕ → List ℕ → ℕ → LiveNote → Result (List ℕ) ReadError
live_anchors site view owner name page live =
    anchors_text site (anchors_whole site.base owner name) page (texts_of live.tree)
    (comments site view owner name live.manifest)

unfoldable pub anchors_of : Site → View → List ℕ → List ℕ → ℕ → Result (List ℕ) ReadError
anchors_of site view owner name page =
    or_refuse (missing_note view owner name) (live_in view owner name)
    (live_anchors site view owner name page)

-- the page of this number of these orphans
unfoldable pub orphans_text : Site → PagedList → ℕ → List Comment → Result (List ℕ) ReadError
orphans_text site whole page orphans =
    on_page site page (length orphans)
    (compact_text (orphans_tree whole page site.size (length orphans)
    (map (orphan_item site.base) (page_of page site.size orphans))))

unfoldable pub orphans_of : Site → View → List ℕ → ℕ → Result (List ℕ) ReadError
orphans_of site view manifest page =
    if is_some (manifest_in view manifest)
    then orphans_text site (orphans_whole site.base manifest) page (orphans site view manifest)
    else Err Absent
