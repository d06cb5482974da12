-- The container of the annotations on a manifest, and its pages (Web Annotation Protocol, section
-- 4; Web Annotation Data Model, section 5).
use Rattle.std.specs.Prelude.{ℕ, List, [], length, map, filter, codes, Bool}
use Rattle.std.specs.Prelude.{if◌then◌else◌, is_some, Result, Ok, Err}
use Rattle.std.specs.List.{filter_map}
use Rattle.serde_json.specs.Data.{Data, number, unsigned, string, array, object, Items, no_items}
use Rattle.serde_json.specs.Data.{item, member, no_members}
use Rattle.serde_json.specs.View.{items_of}
use Rattle.serde_json.specs.Written.{compact_text}
use Rattle.an_base.specs.Object.{with_member, with_member_if}
use Rattle.an_base.specs.declared.span.Prefer.{Prefer}
use Rattle.an_iri.specs.Iris.{container_iri, note_iri}
use Rattle.an_state.specs.State.{NoteState}
use Rattle.an_state.specs.View.{View, is_on, manifest_in}
use Rattle.an_list.specs.Listed.{listed_note}
use Rattle.an_list.specs.Page.{on_page, page_count, page_iri, page_of, start_of}
use Rattle.an_list.specs.Page.{link_after, link_before}
use Rattle.an_list.specs.Site.{Site}
use Rattle.an_list.specs.declared.page.PageForm.TheVariants as form
use Rattle.an_list.specs.declared.page.PagedList.{PagedList}
use Rattle.an_pages.specs.Bodies.{note_context}
use Rattle.an_list.specs.declared.error.ReadError.{ReadError}
use Rattle.an_list.specs.declared.error.ReadError.TheVariants.{Absent}

-- ---- the list that is served in pages

-- its pages have whole annotations, or their IRIs alone, and say so in their own IRIs
abbrev pub iris_form : Bool → List ℕ
iris_form iris = if iris then codes "iris=1" else []

abbrev pub container_whole : List ℕ → List ℕ → Bool → PagedList
container_whole base name iris = record {
  path = container_iri base name;
  parameters = iris_form iris;
}

-- the annotations of the view on the manifest
unfoldable pub notes_on : View → List ℕ → List NoteState
notes_on view manifest = filter (is_on manifest) view.notes

-- an annotation's IRI, as an item
abbrev pub iri_item : List ℕ → NoteState → Data
iri_item base row = string (note_iri base row.owner row.name)

-- annotations as the items of a page
abbrev pub items_on : List ℕ → Bool → List NoteState → Items
items_on base iris rows =
    if iris then items_of (map (iri_item base) rows)
    else items_of (filter_map (listed_note base) rows)

-- ---- what names what

abbrev pub container_types : Data
container_types =
    array (item (string (codes "BasicContainer"))
    (item (string (codes "AnnotationCollection")) no_items))

-- the container, as a page of its own names it
abbrev pub container_link : PagedList → ℕ → Data
container_link whole total =
    object (member (codes "id") (string whole.path)
    (member (codes "total") (number (unsigned total))
    (member (codes "type") container_types no_members)))

-- ---- pages

-- a page as the container holds it (Web Annotation Protocol, section 4.2.2)
unfoldable pub held_page : PagedList → ℕ → ℕ → ℕ → Items → Data
held_page whole page size total items =
    with_member_if (codes "next") (link_after form.Iri whole (page_count total size) page)
    (object (member (codes "id") (string (page_iri whole page))
    (member (codes "items") (array items)
    (member (codes "startIndex") (number (unsigned (start_of page size)))
    (member (codes "type") (string (codes "AnnotationPage")) no_members)))))

-- the same as it is served on its own: with its context, what it is part of, and the page before
unfoldable pub own_page : PagedList → ℕ → ℕ → ℕ → Items → Data
own_page whole page size total items =
    with_member (codes "@context") (string note_context)
    (with_member (codes "partOf") (container_link whole total)
    (with_member_if (codes "prev") (link_before form.Iri whole page)
    (held_page whole page size total items)))

-- ---- the container

abbrev pub container_contexts : Data
container_contexts =
    array (item (string note_context)
    (item (string (codes "http://www.w3.org/ns/ldp.jsonld")) no_items))

-- its first page; where the container alone is preferred, that page's IRI
abbrev pub first_page : PagedList → Bool → ℕ → ℕ → Items → Data
first_page whole minimal size total items =
    if minimal then string (page_iri whole 1) else held_page whole 1 size total items

-- the container with this first page
unfoldable pub container_tree : PagedList → Data → ℕ → ℕ → Data
container_tree whole first size total =
    object (member (codes "@context") container_contexts
    (member (codes "first") first
    (member (codes "id") (string whole.path)
    (member (codes "last") (string (page_iri whole (page_count total size)))
    (member (codes "total") (number (unsigned total))
    (member (codes "type") container_types no_members))))))

-- ---- the answers, from the caller's view alone

-- the container of these annotations
abbrev pub container_body : Site → PagedList → Prefer → List NoteState → List ℕ
container_body site whole prefer notes =
    compact_text (container_tree whole
    (first_page whole prefer.minimal site.size (length notes)
    (items_on site.base prefer.iris (page_of 1 site.size notes)))
    site.size (length notes))

unfoldable pub container_of : Site → View → List ℕ → Prefer → Result (List ℕ) ReadError
container_of site view name prefer =
    if is_some (manifest_in view name)
    then Ok (container_body site (container_whole site.base name prefer.iris) prefer
    (notes_on view name))
    else Err Absent

-- a page of these annotations, where there is one of this number
unfoldable pub own_text : Site → PagedList → Bool → ℕ → List NoteState → Result (List ℕ) ReadError
own_text site whole iris page notes =
    on_page site page (length notes)
    (compact_text (own_page whole page site.size (length notes)
    (items_on site.base iris (page_of page site.size notes))))

unfoldable pub container_page_of
    : Site → View → List ℕ → ℕ → Bool → Result (List ℕ) ReadError
container_page_of site view name page iris =
    if is_some (manifest_in view name)
    then own_text site (container_whole site.base name iris) iris page (notes_on view name)
    else Err Absent
