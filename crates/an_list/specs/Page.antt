-- The pages of a list (IIIF Content Search API 2.0; Web Annotation Data Model, section 5).
use Rattle.std.specs.Prelude.{ℕ, ◌+◌, ◌-◌, ◌*◌, ◌==◌, max, nat_lt, List, ◌++◌, length}
use Rattle.std.specs.Prelude.{map, take, drop, codes, decimal, Option, Some, None, option_map}
use Rattle.std.specs.Prelude.{Bool, ◌||◌, if◌then◌else◌, Result, Ok, Err}
use Rattle.std.specs.Int.{div_ceil}
use Rattle.serde_json.specs.Data.{Data, number, unsigned, string, array, object, Items, no_items}
use Rattle.serde_json.specs.Data.{item, member, no_members}
use Rattle.serde_json.specs.View.{items_of}
use Rattle.an_base.specs.Object.{with_member_if}
use Rattle.an_model.specs.Targets.{is_empty}
use Rattle.an_list.specs.Site.{Site}
use Rattle.an_list.specs.declared.error.ReadError.{ReadError}
use Rattle.an_list.specs.declared.error.ReadError.TheVariants.{NoPage}
use Rattle.an_list.specs.declared.page.PageForm.{PageForm}
use Rattle.an_list.specs.declared.page.PageForm.TheVariants as form
use Rattle.an_list.specs.declared.page.Paging.{Paging}
use Rattle.an_list.specs.declared.page.PagedList.{PagedList}

-- ---- which items stand on a page

-- how many pages a list has: one at least, and as many as hold its items
abbrev pub page_count : ℕ → ℕ → ℕ
page_count total size = max 1 (div_ceil total size)

-- how many items stand on the pages before this one
abbrev pub start_of : ℕ → ℕ → ℕ
start_of page size = (page - 1) * size

-- among so many pages none has this number
abbrev pub lacks_page : ℕ → ℕ → Bool
lacks_page pages page = nat_lt page 1 || nat_lt pages page

-- what is shown of the page of this number of a list of so many items, where there is one
abbrev pub on_page : {A : Type 0} → Site → ℕ → ℕ → A → Result A ReadError
on_page site page total shown =
    let pages = page_count total site.size in
    if lacks_page pages page then Err (NoPage pages) else Ok shown

-- the page itself
abbrev pub paging_of : Site → ℕ → ℕ → Result Paging ReadError
paging_of site page total =
    on_page site page total (record { page = page; size = site.size; total = total })

-- the number of the page after this one, of so many, and of the one before it, where there is one
abbrev pub page_after : ℕ → ℕ → Option ℕ
page_after pages page = if nat_lt page pages then Some (page + 1) else None

abbrev pub page_before : ℕ → Option ℕ
page_before page = if nat_lt 1 page then Some (page - 1) else None

-- the items of a page
abbrev pub page_of : {A : Type 0} → ℕ → ℕ → List A → List A
page_of page size items = take size (drop (start_of page size) items)

-- ---- IRIs

-- `PagedList` is a list that is served in pages: its IRI without parameters, and its parameters as
-- a form writes them, of which there may be none

-- the IRI of the list: PATH, or PATH?PARAMETERS
abbrev pub whole_iri : PagedList → List ℕ
whole_iri whole =
    if length whole.parameters == 0 then whole.path
    else whole.path ++ (codes "?" ++ whole.parameters)

-- that of a page, its number the last parameter: PATH?page=PAGE, or PATH?PARAMETERS&page=PAGE
abbrev pub page_iri : PagedList → ℕ → List ℕ
page_iri whole page =
    if length whole.parameters == 0 then whole.path ++ (codes "?page=" ++ decimal page)
    else whole.path ++ (codes "?" ++ (whole.parameters ++ (codes "&page=" ++ decimal page)))

-- ---- links

-- a thing of this IRI and type
abbrev pub thing : List ℕ → List ℕ → Data
thing iri type =
    object (member (codes "id") (string iri) (member (codes "type") (string type) no_members))

-- the page of this IRI, as another names it
abbrev pub page_named : PageForm → List ℕ → Data
page_named form.Iri iri = string iri
page_named form.Annotations iri = thing iri (codes "AnnotationPage")
page_named form.Changes iri = thing iri (codes "OrderedCollectionPage")

-- the page of this number, as another names it
abbrev pub page_link : PageForm → PagedList → ℕ → Data
page_link form whole page = page_named form (page_iri whole page)

-- the page after this one, of so many, and the one before it, where there is one
abbrev pub link_after : PageForm → PagedList → ℕ → ℕ → Option Data
link_after form whole pages page = option_map (page_link form whole) (page_after pages page)

abbrev pub link_before : PageForm → PagedList → ℕ → Option Data
link_before form whole page = option_map (page_link form whole) (page_before page)

-- the whole, as a page of it names it
abbrev pub whole_link : PagedList → ℕ → ℕ → Data
whole_link whole pages total =
    object (member (codes "first") (page_link form.Annotations whole 1)
    (member (codes "id") (string (whole_iri whole))
    (member (codes "last") (page_link form.Annotations whole pages)
    (member (codes "total") (number (unsigned total))
    (member (codes "type") (string (codes "AnnotationCollection")) no_members)))))

-- ---- what a page may have besides

-- the marks of the page of this IRI, as a page of annotations of their own
abbrev pub marks_page : List ℕ → Items → Data
marks_page page marks =
    object (member (codes "id") (string (page ++ codes "#match"))
    (member (codes "items") (array marks)
    (member (codes "type") (string (codes "AnnotationPage")) no_members)))

-- that page alone, where there are marks
abbrev pub marks_beside : List ℕ → Items → Option Data
marks_beside page marks =
    if is_empty marks then None else Some (array (item (marks_page page marks) no_items))

-- the texts, where there are some
abbrev pub texts_beside : List (List ℕ) → Option Data
texts_beside texts = if length texts == 0 then None else Some (array (items_of (map string texts)))

-- ---- a page

-- the members that every page has
abbrev pub page_members : List ℕ → PagedList → ℕ → ℕ → ℕ → Items → Data
page_members context whole page size total items =
    object (member (codes "@context") (string context)
    (member (codes "id") (string (page_iri whole page))
    (member (codes "items") (array items)
    (member (codes "partOf") (whole_link whole (page_count total size) total)
    (member (codes "startIndex") (number (unsigned (start_of page size)))
    (member (codes "type") (string (codes "AnnotationPage")) no_members))))))

-- a page of a list of so many items: those of them that it has, the marks of what was found in
-- these, and the names of the parameters that were ignored
unfoldable pub list_page
    : List ℕ → PagedList → ℕ → ℕ → ℕ → Items → Items → List (List ℕ) → Data
list_page context whole page size total items marks ignored =
    with_member_if (codes "annotations") (marks_beside (page_iri whole page) marks)
    (with_member_if (codes "ignored") (texts_beside ignored)
    (with_member_if (codes "prev") (link_before form.Annotations whole page)
    (with_member_if (codes "next") (link_after form.Annotations whole (page_count total size) page)
    (page_members context whole page size total items))))
