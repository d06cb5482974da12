-- The stream of the changes that a caller sees, the earliest first, and its pages (IIIF Change
-- Discovery API 1.0, level 2).
use Rattle.std.specs.Prelude.{ℕ, List, [], length, map, codes, Result}
use Rattle.serde_json.specs.Data.{Data, number, unsigned, string, array, object, Items, member}
use Rattle.serde_json.specs.Data.{no_members}
use Rattle.serde_json.specs.View.{items_of}
use Rattle.serde_json.specs.Written.{compact_text}
use Rattle.an_base.specs.Object.{with_member_if}
use Rattle.an_iri.specs.Iris.{changes_iri}
use Rattle.an_state.specs.View.{View}
use Rattle.an_state.specs.declared.activity.Seen.{Seen}
use Rattle.an_list.specs.Page.{on_page, page_count, page_of, start_of, page_iri, thing}
use Rattle.an_list.specs.Page.{page_link, link_after, link_before}
use Rattle.an_list.specs.Site.{Site}
use Rattle.an_list.specs.declared.page.PageForm.TheVariants as form
use Rattle.an_list.specs.declared.page.PagedList.{PagedList}
use Rattle.an_stream.specs.Activity.{activity}
use Rattle.an_list.specs.declared.error.ReadError.{ReadError}

-- the context of changes
abbrev pub changes_context : List ℕ
changes_context = codes "http://iiif.io/api/discovery/1/context.json"

-- the stream as a list that is served in pages
abbrev pub changes_whole : List ℕ → PagedList
changes_whole base = record { path = changes_iri base; parameters = [] }

-- ---- the stream

-- a stream of so many pages and activities
abbrev pub stream_tree : PagedList → ℕ → ℕ → Data
stream_tree whole pages total =
    object (member (codes "@context") (string changes_context)
    (member (codes "first") (page_link form.Changes whole 1)
    (member (codes "id") (string whole.path)
    (member (codes "last") (page_link form.Changes whole pages)
    (member (codes "totalItems") (number (unsigned total))
    (member (codes "type") (string (codes "OrderedCollection")) no_members))))))

-- the answer, as text: the stream of the activities in the view
abbrev pub changes_of : Site → View → List ℕ
changes_of site view =
    let total = length view.seen in
    compact_text (stream_tree (changes_whole site.base) (page_count total site.size) total)

-- ---- its pages

-- the members that every page has
abbrev pub stream_page_members : PagedList → ℕ → ℕ → Items → Data
stream_page_members whole page start items =
    object (member (codes "@context") (string changes_context)
    (member (codes "id") (string (page_iri whole page))
    (member (codes "orderedItems") (array items)
    (member (codes "partOf") (thing whole.path (codes "OrderedCollection"))
    (member (codes "startIndex") (number (unsigned start))
    (member (codes "type") (string (codes "OrderedCollectionPage")) no_members))))))

-- a page of a stream of so many pages, behind so many activities
unfoldable pub stream_page : PagedList → ℕ → ℕ → ℕ → Items → Data
stream_page whole pages page start items =
    with_member_if (codes "prev") (link_before form.Changes whole page)
    (with_member_if (codes "next") (link_after form.Changes whole pages page)
    (stream_page_members whole page start items))

-- the text of a page of these activities, where there is one of this number
unfoldable pub page_of_stream : Site → List Seen → ℕ → Result (List ℕ) ReadError
page_of_stream site seen page =
    on_page site page (length seen) (compact_text
    (stream_page (changes_whole site.base) (page_count (length seen) site.size) page
    (start_of page site.size)
    (items_of (map (activity site.base) (page_of page site.size seen)))))

-- the answer, of the activities in the view
abbrev pub changes_page_of : Site → View → ℕ → Result (List ℕ) ReadError
changes_page_of site view page = page_of_stream site view.seen page
