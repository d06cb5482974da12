-- A page's pieces make its members, and its members the page.
use Rattle.std.proofs.Common.{◌≡◌, ℕ, ◌+◌, List, [], ◌++◌, length, ◌==◌, Option, None, Some, codes, refl, sym, ap, ◌∙◌, ◌≤◌, arith, append_assoc, append-nil, length-append}
use Rattle.std.proofs.lemmas.Bool.Decides.{nat_tests}
use Rattle.serde_json.specs.Data.{Data, null, number, unsigned, string, array, object, Items, no_items, item, Members, member, no_members}
use Rattle.serde_json.specs.Written.{compact_text}
use Rattle.an_base.specs.Object.{with_member_if}
use Rattle.an_base.specs.Write.{member_text, commas, item_text, item_commas}
use Rattle.an_model.specs.Targets.{is_empty}
use Rattle.an_list.specs.Page.{page_count, start_of, page_iri, whole_link, link_after, link_before, marks_beside, texts_beside, list_page}
use Rattle.an_list.specs.PageText.{head_text, content_text, member_if, text_if, place_members, content_members, written_members}
use Rattle.an_list.specs.declared.page.PageForm.TheVariants as form
use Rattle.an_list.specs.declared.page.PagedList.{PagedList}

-- ---- pieces join

pub piece_then : (a b c x y : List ℕ) → b ≡ a ++ x → c ≡ b ++ y → c ≡ a ++ (x ++ y)
piece_then a b c x y first second = second ∙ ap (λ front. front ++ y) first ∙ append_assoc a x y

pub last_piece : (a b x : List ℕ) → b ≡ a ++ x → b ≡ a ++ (x ++ [])
last_piece a b x last = last ∙ ap (λ piece. a ++ piece) (sym (append-nil x))

-- ---- members that there may be

pub commas-member_if : (name : List ℕ) (value : Option Data) (others : Members)
    → commas (member_if name value others) ≡ text_if name value ++ commas others
commas-member_if name None others = refl
commas-member_if name (Some value) others = refl

-- there are no marks where their text is empty
pub is_empty-text : (marked : Items) (marks : List ℕ) → marks ≡ item_commas marked
    → is_empty marked ≡ (length marks == 0)
unfolding item_text
is_empty-text no_items marks text = rw text refl
is_empty-text (item mark marked) marks text = rw text (grind (arith, nat_tests))

-- a comma makes a text longer
pub comma_grows : (before after : List ℕ)
    → ((value : Data) → after ++ compact_text value ≡ before ++ item_text value)
    → length before ≤ length after
unfolding item_text
comma_grows before after comma =
    let lengths : length after + 4 ≡ length before + 5 =
    sym (length-append after (compact_text null)) ∙ ap length (comma null)
    ∙ length-append before (item_text null) in
    omega arith

-- so does what is written behind it
pub grows : (before after more : List ℕ) → after ≡ before ++ more → length before ≤ length after
grows before after more is = omega (arith, ap length is, length-append before more)

-- ---- the members' texts

pub place_text : (whole : PagedList) (page size total : ℕ)
    → member_text (codes "partOf") (whole_link whole (page_count total size) total)
    ++ (text_if (codes "prev") (link_before form.Annotations whole page)
    ++ (member_text (codes "startIndex") (number (unsigned (start_of page size)))
    ++ (member_text (codes "type") (string (codes "AnnotationPage")) ++ [])))
    ≡ commas (place_members whole page size total)
place_text whole page size total =
    ap
    (λ text. member_text (codes "partOf") (whole_link whole (page_count total size) total) ++ text)
    (sym (commas-member_if (codes "prev") (link_before form.Annotations whole page)
    (member (codes "startIndex") (number (unsigned (start_of page size)))
    (member (codes "type") (string (codes "AnnotationPage")) no_members))))

-- a member between two that there may be, and others behind
between : (before after : List ℕ) (first last : Option Data) (y : List ℕ) (others : Members)
    → (text_if before first ++ (y ++ text_if after last)) ++ commas others
    ≡ text_if before first ++ (y ++ commas (member_if after last others))
between before after first last y others =
    append_assoc (text_if before first) (y ++ text_if after last) (commas others)
    ∙ ap (λ all. text_if before first ++ all) (append_assoc y (text_if after last) (commas others)
    ∙ ap (λ all. y ++ all) (sym (commas-member_if after last others)))

content_then : (whole : PagedList) (page size total : ℕ) (items : Items) (ignored : List (List ℕ))
    → content_text whole page size total items ignored
    ++ commas (place_members whole page size total)
    ≡ commas (content_members whole page size total items ignored)
content_then whole page size total items ignored =
    let after = link_after form.Annotations whole (page_count total size) page in
    let place = place_members whole page size total in
    between (codes "ignored") (codes "next") (texts_beside ignored) after
    (member_text (codes "items") (array items)) place
    ∙ sym (commas-member_if (codes "ignored") (texts_beside ignored)
    (member (codes "items") (array items) (member_if (codes "next") after place)))

head_then : (context : List ℕ) (whole : PagedList) (page : ℕ) (marks : Items) (others : Members)
    → head_text context whole page marks ++ commas others
    ≡ commas (member (codes "@context") (string context)
    (member_if (codes "annotations") (marks_beside (page_iri whole page) marks)
    (member (codes "id") (string (page_iri whole page)) others)))
head_then context whole page marks others =
    let first = member_text (codes "@context") (string context) in
    let beside = marks_beside (page_iri whole page) marks in
    let id = member_text (codes "id") (string (page_iri whole page)) in
    append_assoc first (text_if (codes "annotations") beside ++ id) (commas others)
    ∙ ap (λ all. first ++ all)
    (append_assoc (text_if (codes "annotations") beside) id (commas others)
    ∙ sym (commas-member_if (codes "annotations") beside
    (member (codes "id") (string (page_iri whole page)) others)))

module _ (context : List ℕ) (whole : PagedList) (page size total : ℕ) (items marks : Items)
    (ignored : List (List ℕ)) where
  pub all_pieces : (out head content text : List ℕ)
      → head ≡ out ++ head_text context whole page marks
      → content ≡ head ++ content_text whole page size total items ignored
      → text ≡ content ++ commas (place_members whole page size total)
      → text ≡ out ++ commas (written_members context whole page size total items marks ignored)
  all_pieces out head content text first second third =
      let behind : text ≡ head ++ commas (content_members whole page size total items ignored) =
      piece_then head content text (content_text whole page size total items ignored)
      (commas (place_members whole page size total)) second third
      ∙ ap (λ all. head ++ all) (content_then whole page size total items ignored) in
      piece_then out head text (head_text context whole page marks)
      (commas (content_members whole page size total items ignored)) first behind
      ∙ ap (λ all. out ++ all)
      (head_then context whole page marks (content_members whole page size total items ignored))

-- ---- the members are the page's

with_links : (after before : Option Data) (context id items part start type : Data)
    → object
    (member (codes "@context") context (member (codes "id") id (member (codes "items") items
    (member_if (codes "next") after
    (member (codes "partOf") part
    (member_if (codes "prev") before
    (member (codes "startIndex") start (member (codes "type") type no_members))))))))
    ≡ with_member_if (codes "prev") before (with_member_if (codes "next") after
    (object (member (codes "@context") context
    (member (codes "id") id (member (codes "items") items
    (member (codes "partOf") part
    (member (codes "startIndex") start (member (codes "type") type no_members))))))))
with_links None None context id items part start type = refl
with_links None (Some before) context id items part start type = refl
with_links (Some after) None context id items part start type = refl
with_links (Some after) (Some before) context id items part start type = refl

with_marks : (marks ignored : Option Data) (context id items : Data) (others : Members)
    → object (member (codes "@context") context
    (member_if (codes "annotations") marks
    (member (codes "id") id
    (member_if (codes "ignored") ignored (member (codes "items") items others)))))
    ≡ with_member_if (codes "annotations") marks (with_member_if (codes "ignored") ignored
    (object (member (codes "@context") context
    (member (codes "id") id (member (codes "items") items others)))))
with_marks None None context id items others = refl
with_marks None (Some ignored) context id items others = refl
with_marks (Some marks) None context id items others = refl
with_marks (Some marks) (Some ignored) context id items others = refl

pub written_page : (context : List ℕ) (whole : PagedList) (page size total : ℕ)
    (items marks : Items) (ignored : List (List ℕ))
    → object (written_members context whole page size total items marks ignored)
    ≡ list_page context whole page size total items marks ignored
unfolding list_page
written_page context whole page size total items marks ignored =
    let after = link_after form.Annotations whole (page_count total size) page in
    with_marks (marks_beside (page_iri whole page) marks) (texts_beside ignored) (string context)
    (string (page_iri whole page)) (array items)
    (member_if (codes "next") after (place_members whole page size total))
    ∙ ap (λ page_with_links. with_member_if (codes "annotations")
    (marks_beside (page_iri whole page) marks)
    (with_member_if (codes "ignored") (texts_beside ignored) page_with_links))
    (with_links after (link_before form.Annotations whole page) (string context)
    (string (page_iri whole page)) (array items)
    (whole_link whole (page_count total size) total) (number (unsigned (start_of page size)))
    (string (codes "AnnotationPage")))
