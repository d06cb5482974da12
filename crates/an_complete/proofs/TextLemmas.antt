-- A page's pieces make its members, and its members the page.
use Rattle.std.proofs.Common.{◌≡◌, ℕ, List, ◌++◌, Option, None, Some, codes, map, refl, sym, ap, ◌∙◌, append_assoc}
use Rattle.serde_json.specs.Data.{Data, string, array, object, Members, member, no_members}
use Rattle.serde_json.specs.View.{items_of}
use Rattle.an_base.specs.Object.{with_member_if}
use Rattle.an_base.specs.Write.{member_text, commas}
use Rattle.an_base.specs.declared.span.TermTotal.{TermTotal}
use Rattle.an_list.proofs.WrittenLemmas.{commas-member_if, piece_then, last_piece}
use Rattle.an_list.specs.Page.{texts_beside}
use Rattle.an_search.specs.Search.{search_context}
use Rattle.an_list.specs.PageText.{member_if, text_if}
use Rattle.an_complete.specs.Complete.{term_tree, terms_page}

-- the text of the members before the items
abbrev pub head_text : List ℕ → List (List ℕ) → List ℕ
head_text iri ignored =
    member_text (codes "@context") (string search_context)
    ++ (member_text (codes "id") (string iri) ++ text_if (codes "ignored") (texts_beside ignored))

-- the members of a page in the order in which they are written
abbrev pub written_members : List ℕ → List (List ℕ) → List TermTotal → Members
written_members iri ignored terms =
    member (codes "@context") (string search_context) (member (codes "id") (string iri)
    (member_if (codes "ignored") (texts_beside ignored)
    (member (codes "items") (array (items_of (map term_tree terms)))
    (member (codes "type") (string (codes "TermPage")) no_members))))

with_ignored : (ignored : Option Data) (context id items type : Data)
    → object (member (codes "@context") context
    (member (codes "id") id (member_if (codes "ignored") ignored
    (member (codes "items") items (member (codes "type") type no_members)))))
    ≡ with_member_if (codes "ignored") ignored
    (object (member (codes "@context") context
    (member (codes "id") id
    (member (codes "items") items (member (codes "type") type no_members)))))
with_ignored None context id items type = refl
with_ignored (Some ignored) context id items type = refl

pub written_page : (iri : List ℕ) (ignored : List (List ℕ)) (terms : List TermTotal)
    → object (written_members iri ignored terms) ≡ terms_page iri ignored terms
unfolding terms_page
written_page iri ignored terms =
    with_ignored (texts_beside ignored) (string search_context) (string iri)
    (array (items_of (map term_tree terms))) (string (codes "TermPage"))

-- what is written before the items, and the items and the type behind it
pub all_pieces : (iri : List ℕ) (ignored : List (List ℕ)) (terms : List TermTotal)
    (out head items text : List ℕ)
    → head ≡ out ++ head_text iri ignored
    → items ≡ head ++ member_text (codes "items") (array (items_of (map term_tree terms)))
    → text ≡ items ++ member_text (codes "type") (string (codes "TermPage"))
    → text ≡ out ++ commas (written_members iri ignored terms)
all_pieces iri ignored terms out head items text first second third =
    let context = member_text (codes "@context") (string search_context) in
    let id = member_text (codes "id") (string iri) in
    let beside = text_if (codes "ignored") (texts_beside ignored) in
    let behind : Members =
    member (codes "items") (array (items_of (map term_tree terms)))
    (member (codes "type") (string (codes "TermPage")) no_members) in
    let rest : text ≡ head ++ commas behind =
    piece_then head items text _ _ second (last_piece items text _ third) in
    piece_then out head text (context ++ (id ++ beside)) (commas behind) first rest
    ∙ ap (λ all. out ++ all) (append_assoc context (id ++ beside) (commas behind)
    ∙ ap (λ all. context ++ all) (append_assoc id beside (commas behind)
    ∙ ap (λ all. id ++ all)
    (sym (commas-member_if (codes "ignored") (texts_beside ignored) behind))))
