-- The pieces of an activity and of a page make its members, and its members the tree.
use Rattle.std.proofs.Common.{◌≡◌, ℕ, List, [], ◌++◌, Option, None, Some, codes, refl, sym, ap, ◌∙◌, append_assoc}
use Rattle.serde_json.specs.Data.{Data, number, unsigned, string, array, object, Items, Members, member, no_members}
use Rattle.an_base.specs.Moment.{moment_text}
use Rattle.an_base.specs.Object.{with_member_if}
use Rattle.an_base.specs.Write.{member_text, commas}
use Rattle.an_state.specs.declared.activity.Seen.{Seen}
use Rattle.an_list.proofs.WrittenLemmas.{commas-member_if, piece_then, last_piece}
use Rattle.an_list.specs.PageText.{member_if, text_if}
use Rattle.an_list.specs.Page.{page_iri, thing, link_after, link_before}
use Rattle.an_list.specs.declared.page.PageForm.TheVariants as form
use Rattle.an_list.specs.declared.page.PagedList.{PagedList}
use Rattle.an_stream.specs.Activity.{activity, kind_text, thing_of}
use Rattle.an_stream.specs.Stream.{changes_context, stream_page}
use Rattle.an_stream.specs.PageText.{head_text, place_members}

-- ---- an activity

-- its members in the order in which they are written
abbrev pub activity_members : List ℕ → Seen → Members
activity_members base seen =
    member (codes "endTime") (string (moment_text seen.moment))
    (member_if (codes "object") (thing_of base seen.object)
    (member (codes "type") (string (kind_text seen.kind)) no_members))

with_object : (changed : Option Data) (moment kind : Data)
    → object (member (codes "endTime") moment
    (member_if (codes "object") changed (member (codes "type") kind no_members)))
    ≡ with_member_if (codes "object") changed
    (object (member (codes "endTime") moment (member (codes "type") kind no_members)))
with_object None moment kind = refl
with_object (Some changed) moment kind = refl

pub written_activity : (base : List ℕ) (seen : Seen)
    → object (activity_members base seen) ≡ activity base seen
unfolding activity
written_activity base seen =
    with_object (thing_of base seen.object) (string (moment_text seen.moment))
    (string (kind_text seen.kind))

pub activity_pieces : (base : List ℕ) (seen : Seen) (out first second text : List ℕ)
    → first ≡ out ++ member_text (codes "endTime") (string (moment_text seen.moment))
    → second ≡ first ++ text_if (codes "object") (thing_of base seen.object)
    → text ≡ second ++ member_text (codes "type") (string (kind_text seen.kind))
    → text ≡ out ++ commas (activity_members base seen)
activity_pieces base seen out first second text moment changed kind =
    piece_then out first text _ _ moment
    (piece_then first second text _ _ changed (last_piece second text _ kind)
    ∙ ap (λ all. first ++ all)
    (sym (commas-member_if (codes "object") (thing_of base seen.object)
    (member (codes "type") (string (kind_text seen.kind)) no_members))))

-- ---- a page

-- its members in the order in which they are written
abbrev pub page_members : PagedList → ℕ → ℕ → ℕ → Items → Members
page_members whole pages page start items =
    member (codes "@context") (string changes_context)
    (member (codes "id") (string (page_iri whole page))
    (member_if (codes "next") (link_after form.Changes whole pages page)
    (member (codes "orderedItems") (array items) (place_members whole page start))))

pub place_text : (whole : PagedList) (page start : ℕ)
    → member_text (codes "partOf") (thing whole.path (codes "OrderedCollection"))
    ++ (text_if (codes "prev") (link_before form.Changes whole page)
    ++ (member_text (codes "startIndex") (number (unsigned start))
    ++ (member_text (codes "type") (string (codes "OrderedCollectionPage")) ++ [])))
    ≡ commas (place_members whole page start)
place_text whole page start =
    ap (λ text. member_text (codes "partOf") (thing whole.path (codes "OrderedCollection")) ++ text)
    (sym (commas-member_if (codes "prev") (link_before form.Changes whole page)
    (member (codes "startIndex") (number (unsigned start))
    (member (codes "type") (string (codes "OrderedCollectionPage")) no_members))))

head_then : (whole : PagedList) (pages page : ℕ) (others : Members)
    → head_text whole pages page ++ commas others
    ≡ commas (member (codes "@context") (string changes_context)
    (member (codes "id") (string (page_iri whole page))
    (member_if (codes "next") (link_after form.Changes whole pages page) others)))
head_then whole pages page others =
    let context = member_text (codes "@context") (string changes_context) in
    let id = member_text (codes "id") (string (page_iri whole page)) in
    let after = text_if (codes "next") (link_after form.Changes whole pages page) in
    append_assoc context (id ++ after) (commas others)
    ∙ ap (λ all. context ++ all) (append_assoc id after (commas others)
    ∙ ap (λ all. id ++ all)
    (sym (commas-member_if (codes "next") (link_after form.Changes whole pages page) others)))

pub page_pieces : (whole : PagedList) (pages page start : ℕ) (items : Items)
    (out head content text : List ℕ)
    → head ≡ out ++ head_text whole pages page
    → content ≡ head ++ member_text (codes "orderedItems") (array items)
    → text ≡ content ++ commas (place_members whole page start)
    → text ≡ out ++ commas (page_members whole pages page start items)
page_pieces whole pages page start items out head content text first second third =
    piece_then out head text _ _ first (piece_then head content text _ _ second third)
    ∙ ap (λ all. out ++ all) (head_then whole pages page
    (member (codes "orderedItems") (array items) (place_members whole page start)))

with_links : (after before : Option Data) (context id items part start type : Data)
    → object (member (codes "@context") context
    (member (codes "id") id (member_if (codes "next") after (member (codes "orderedItems") items
    (member (codes "partOf") part
    (member_if (codes "prev") before
    (member (codes "startIndex") start (member (codes "type") type no_members))))))))
    ≡ with_member_if (codes "prev") before (with_member_if (codes "next") after
    (object (member (codes "@context") context
    (member (codes "id") id (member (codes "orderedItems") items
    (member (codes "partOf") part
    (member (codes "startIndex") start (member (codes "type") type no_members))))))))
with_links None None context id items part start type = refl
with_links None (Some before) context id items part start type = refl
with_links (Some after) None context id items part start type = refl
with_links (Some after) (Some before) context id items part start type = refl

pub written_page : (whole : PagedList) (pages page start : ℕ) (items : Items)
    → object (page_members whole pages page start items) ≡ stream_page whole pages page start items
unfolding stream_page
written_page whole pages page start items =
    with_links (link_after form.Changes whole pages page) (link_before form.Changes whole page)
    (string changes_context) (string (page_iri whole page)) (array items)
    (thing whole.path (codes "OrderedCollection")) (number (unsigned start))
    (string (codes "OrderedCollectionPage"))
