-- For private clauses: the members of a page in the order in which they are written.
use Rattle.std.specs.Prelude.{ℕ, List, [], ◌++◌, codes, Option, None, Some}
use Rattle.serde_json.specs.Data.{Data, number, unsigned, string, array, Items, Members, member}
use Rattle.serde_json.specs.Data.{no_members}
use Rattle.an_base.specs.Write.{member_text}
use Rattle.an_list.specs.Page.{page_count, start_of, page_iri, whole_link, link_after}
use Rattle.an_list.specs.Page.{link_before, marks_beside, texts_beside}
use Rattle.an_list.specs.declared.page.PageForm.TheVariants as form
use Rattle.an_list.specs.declared.page.PagedList.{PagedList}

-- the member, where there is a value, before others
abbrev pub member_if : List ℕ → Option Data → Members → Members
member_if name None members = members
member_if name (Some value) members = member name value members

-- its text
abbrev pub text_if : List ℕ → Option Data → List ℕ
text_if name None = []
text_if name (Some value) = member_text name value

-- the text of its first members, up to its IRI
abbrev pub head_text : List ℕ → PagedList → ℕ → Items → List ℕ
head_text context whole page marks =
    member_text (codes "@context") (string context)
    ++ (text_if (codes "annotations") (marks_beside (page_iri whole page) marks)
    ++ member_text (codes "id") (string (page_iri whole page)))

-- the text of those behind, up to the page after it
abbrev pub content_text : PagedList → ℕ → ℕ → ℕ → Items → List (List ℕ) → List ℕ
content_text whole page size total items ignored =
    text_if (codes "ignored") (texts_beside ignored)
    ++ (member_text (codes "items") (array items)
    ++ text_if (codes "next") (link_after form.Annotations whole (page_count total size) page))

-- the members of a page from its place in the list on
abbrev pub place_members : PagedList → ℕ → ℕ → ℕ → Members
place_members whole page size total =
    member (codes "partOf") (whole_link whole (page_count total size) total)
    (member_if (codes "prev") (link_before form.Annotations whole page)
    (member (codes "startIndex") (number (unsigned (start_of page size)))
    (member (codes "type") (string (codes "AnnotationPage")) no_members)))

-- those from its parameters that were ignored on
abbrev pub content_members : PagedList → ℕ → ℕ → ℕ → Items → List (List ℕ) → Members
content_members whole page size total items ignored =
    member_if (codes "ignored") (texts_beside ignored)
    (member (codes "items") (array items)
    (member_if (codes "next") (link_after form.Annotations whole (page_count total size) page)
    (place_members whole page size total)))

-- all members of a page
abbrev pub written_members
    : List ℕ → PagedList → ℕ → ℕ → ℕ → Items → Items → List (List ℕ) → Members
written_members context whole page size total items marks ignored =
    member (codes "@context") (string context)
    (member_if (codes "annotations") (marks_beside (page_iri whole page) marks)
    (member (codes "id") (string (page_iri whole page))
    (content_members whole page size total items ignored)))
