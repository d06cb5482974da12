-- For private clauses: the members of a page in the order in which they are written.
use Rattle.std.specs.Prelude.{ℕ, List, ◌++◌, codes}
use Rattle.serde_json.specs.Data.{number, unsigned, string, Members, member, no_members}
use Rattle.an_base.specs.Write.{member_text}
use Rattle.an_list.specs.Page.{page_iri, thing, link_after, link_before}
use Rattle.an_list.specs.PageText.{member_if, text_if}
use Rattle.an_list.specs.declared.page.PageForm.TheVariants as form
use Rattle.an_list.specs.declared.page.PagedList.{PagedList}
use Rattle.an_stream.specs.Stream.{changes_context}

-- the text of the first members of a page, up to the page after it
abbrev pub head_text : PagedList → ℕ → ℕ → List ℕ
head_text whole pages page =
    member_text (codes "@context") (string changes_context)
    ++ (member_text (codes "id") (string (page_iri whole page))
    ++ text_if (codes "next") (link_after form.Changes whole pages page))

-- its members from the stream that it is part of on
abbrev pub place_members : PagedList → ℕ → ℕ → Members
place_members whole page start =
    member (codes "partOf") (thing whole.path (codes "OrderedCollection"))
    (member_if (codes "prev") (link_before form.Changes whole page)
    (member (codes "startIndex") (number (unsigned start))
    (member (codes "type") (string (codes "OrderedCollectionPage")) no_members)))
