-- For private clauses: the members of a container's page in the order in which they are written.
use Rattle.std.specs.Prelude.{ℕ, List, ◌++◌, codes}
use Rattle.serde_json.specs.Data.{number, unsigned, string, array, Items}
use Rattle.an_base.specs.Write.{member_text}
use Rattle.an_list.specs.Page.{page_count, page_iri, start_of, link_after, link_before}
use Rattle.an_list.specs.PageText.{text_if}
use Rattle.an_list.specs.declared.page.PageForm.TheVariants as form
use Rattle.an_list.specs.declared.page.PagedList.{PagedList}
use Rattle.an_pages.specs.Container.{container_link, container_types}

-- the text of the members from its IRI to the page after it
abbrev pub content_text : PagedList → ℕ → ℕ → ℕ → Items → List ℕ
content_text whole page size total items =
    member_text (codes "id") (string (page_iri whole page))
    ++ (member_text (codes "items") (array items)
    ++ text_if (codes "next") (link_after form.Iri whole (page_count total size) page))

-- that of what it is part of, and of the page before it
abbrev pub part_text : PagedList → ℕ → ℕ → List ℕ
part_text whole page total =
    member_text (codes "partOf") (container_link whole total)
    ++ text_if (codes "prev") (link_before form.Iri whole page)

-- that of the members behind these
abbrev pub end_text : ℕ → ℕ → List ℕ
end_text page size =
    member_text (codes "startIndex") (number (unsigned (start_of page size)))
    ++ member_text (codes "type") (string (codes "AnnotationPage"))

-- that of the members of a container behind its first page
abbrev pub whole_text : PagedList → ℕ → ℕ → List ℕ
whole_text whole size total =
    member_text (codes "id") (string whole.path)
    ++ (member_text (codes "last") (string (page_iri whole (page_count total size)))
    ++ (member_text (codes "total") (number (unsigned total))
    ++ member_text (codes "type") container_types))
