-- How the texts of parts join, and what a bracket makes of them.
use Rattle.std.proofs.Common.{◌≡◌, ℕ, zero, suc, ◌<◌, List, [], ◌∷◌, ◌++◌, true, length, take, drop, slice_set, refl, sym, ap, ap₂, ◌∙◌, append-nil, append_assoc, arith}
use Rattle.std.proofs.lemmas.List.{take_at, drop_at}
use Rattle.std.proofs.lemmas.List.Elements.{All-get_or}
use Rattle.std.proofs.lemmas.List.Sums.{AllPass-from_list_all}
use Rattle.std.specs.List.{list_all}
use Rattle.json.specs.Token.{Token}
use Rattle.json.specs.Run.{is_plain}
use Rattle.json.specs.Print.{print, print_from, token_text, escape, quoted}
use Rattle.json.proofs.Printed.Plain.{escape_on_plain}
use Rattle.serde_json.specs.Data.{Data, array, object, Items, no_items, item, Members, no_members, member}
use Rattle.serde_json.specs.Written.{compact_text, items_text, members_text}
use Rattle.serde_json.specs.View.{items_of}
use Rattle.an_base.specs.Write.{name_text, member_text, commas, item_text, item_commas, behind, in_brackets}

-- ---- one token

print_one : (t : Token) → print (t ∷ []) ≡ token_text t
unfolding print_from
print_one t = append-nil (token_text t)

pub one_token : (t : Token) (out before written : List ℕ) (old tokens : List Token)
    → written ≡ before ++ print tokens → tokens ≡ old ++ t ∷ [] → old ≡ [] → before ≡ out
    → written ≡ out ++ token_text t
one_token t out before written old tokens text pushed none start =
    text ∙ ap₂ (λ front ts. front ++ print ts) start (pushed ∙ ap (λ ts. ts ++ t ∷ []) none)
    ∙ ap (λ last. out ++ last) (print_one t)

-- ---- between two signs

between : (left right : ℕ) (out text a b c : List ℕ) → a ≡ out ++ left ∷ [] → b ≡ a ++ text
    → c ≡ b ++ right ∷ []
    → c ≡ out ++ (left ∷ (text ++ right ∷ []))
between left right out text a b c first middle last =
    last
    ∙ ap (λ front. front ++ right ∷ []) (middle ∙ ap (λ front. front ++ text) first)
    ∙ append_assoc (out ++ left ∷ []) text (right ∷ [])
    ∙ append_assoc out (left ∷ []) (text ++ right ∷ [])

plain_stays : (text : List ℕ) → list_all is_plain text ≡ true → escape text ≡ text
plain_stays text all =
    escape_on_plain true text
    (λ k _ within.
    All-get_or (λ x. is_plain x ≡ true) text k 0 within (AllPass-from_list_all is_plain text all))

pub plain_quoted : (text out a b c : List ℕ) → a ≡ out ++ 34 ∷ [] → b ≡ a ++ text → c ≡ b ++ 34 ∷ []
    → list_all is_plain text ≡ true → c ≡ out ++ quoted text
plain_quoted text out a b c first middle last all =
    between 34 34 out text a b c first middle last
    ∙ ap (λ inside. out ++ 34 ∷ (inside ++ 34 ∷ [])) (sym (plain_stays text all))

-- ---- a member and an item

pub name_joined : (name a b c d : List ℕ) → b ≡ a ++ 44 ∷ [] → c ≡ b ++ quoted name
    → d ≡ c ++ 58 ∷ [] → d ≡ a ++ name_text name
unfolding name_text
name_joined name a = between 44 58 a (quoted name)

pub member_joined : (name : List ℕ) (value : Data) (a b c : List ℕ) → b ≡ a ++ name_text name
    → c ≡ b ++ compact_text value → c ≡ a ++ member_text name value
unfolding member_text
member_joined name value a b c named text =
    text ∙ ap (λ front. front ++ compact_text value) named
    ∙ append_assoc a (name_text name) (compact_text value)

pub item_joined : (value : Data) (a b : List ℕ) → b ≡ a ++ 44 ∷ []
    → b ++ compact_text value ≡ a ++ item_text value
unfolding item_text
item_joined value a b comma =
    ap (λ front. front ++ compact_text value) comma ∙ append_assoc a (44 ∷ []) (compact_text value)

pub item_commas-append : (xs ys : List Data)
    → item_commas (items_of (xs ++ ys)) ≡ item_commas (items_of xs) ++ item_commas (items_of ys)
item_commas-append [] ys = refl
item_commas-append (x ∷ xs) ys =
    ap (λ rest. item_text x ++ rest) (item_commas-append xs ys)
    ∙ sym (append_assoc (item_text x) (item_commas (items_of xs)) (item_commas (items_of ys)))

-- ---- brackets

pub set_at_start : (left : ℕ) (xs : List ℕ) (start : ℕ) → start < length xs
    → slice_set xs start left ≡ take start xs ++ behind left (drop start xs)
set_at_start left [] start within = absurd (omega arith)
set_at_start left (x ∷ xs) zero within = refl
set_at_start left (x ∷ xs) (suc start) within =
    ap (λ rest. x ∷ rest) (set_at_start left xs start (omega arith))

pub push_at_end : (left : ℕ) (xs : List ℕ) (start : ℕ) → start ≡ length xs
    → xs ++ left ∷ [] ≡ take start xs ++ behind left (drop start xs)
push_at_end left [] zero e = refl
push_at_end left [] (suc start) e = absurd (omega arith)
push_at_end left (x ∷ xs) zero e = absurd (omega arith)
push_at_end left (x ∷ xs) (suc start) e =
    ap (λ rest. x ∷ rest) (push_at_end left xs start (omega arith))

pub ruleset opening = (set_at_start, push_at_end)

pub closed : (left right : ℕ) (out opened written : List ℕ) (start : ℕ)
    → opened ≡ take start out ++ behind left (drop start out) → written ≡ opened ++ right ∷ []
    → written ≡ take start out ++ in_brackets left right (drop start out)
closed left right out opened written start opening_is closing_is =
    closing_is ∙ ap (λ front. front ++ right ∷ []) opening_is
    ∙ append_assoc (take start out) (behind left (drop start out)) (right ∷ [])

bracketed : (left right : ℕ) (out before parts written : List ℕ) (start : ℕ)
    → written ≡ take start out ++ in_brackets left right (drop start out)
    → out ≡ before ++ parts → start ≡ length before
    → written ≡ before ++ in_brackets left right parts
bracketed left right out before parts written start text parted at =
    text
    ∙ ap₂ (λ front back. front ++ in_brackets left right back)
    (ap (take start) parted ∙ take_at before parts start (sym at))
    (ap (drop start) parted ∙ drop_at before parts start (sym at))

spread : (q t rest : List ℕ) → 44 ∷ (q ++ 58 ∷ (t ++ rest)) ≡ ((44 ∷ (q ++ 58 ∷ [])) ++ t) ++ rest
spread q t rest =
    ap (λ front. 44 ∷ front) (sym (append_assoc q (58 ∷ []) (t ++ rest)))
    ∙ sym (append_assoc (44 ∷ (q ++ 58 ∷ [])) t rest)

member_first : (name : List ℕ) (value : Data) (rest : List ℕ)
    → 44 ∷ (quoted name ++ 58 ∷ (compact_text value ++ rest)) ≡ member_text name value ++ rest
unfolding member_text name_text
member_first name value rest = spread (quoted name) (compact_text value) rest

item_first : (value : Data) (rest : List ℕ)
    → 44 ∷ (compact_text value ++ rest) ≡ item_text value ++ rest
unfolding item_text
item_first value rest = refl

members_text-commas : (ms : Members) → members_text true ms ≡ commas ms ++ 125 ∷ []
members_text-commas no_members = refl
members_text-commas (member name value ms) =
    ap (λ rest. 44 ∷ (quoted name ++ 58 ∷ (compact_text value ++ rest))) (members_text-commas ms)
    ∙ member_first name value (commas ms ++ 125 ∷ [])
    ∙ sym (append_assoc (member_text name value) (commas ms) (125 ∷ []))

items_text-commas : (ds : Items) → items_text true ds ≡ item_commas ds ++ 93 ∷ []
items_text-commas no_items = refl
items_text-commas (item value ds) =
    ap (λ rest. 44 ∷ (compact_text value ++ rest)) (items_text-commas ds)
    ∙ item_first value (item_commas ds ++ 93 ∷ [])
    ∙ sym (append_assoc (item_text value) (item_commas ds) (93 ∷ []))

-- the first part has no comma
pub object_text : (ms : Members) → compact_text (object ms) ≡ in_brackets 123 125 (commas ms)
unfolding member_text name_text
object_text no_members = refl
object_text (member name value ms) = ap (behind 123) (members_text-commas (member name value ms))

pub array_text : (ds : Items) → compact_text (array ds) ≡ in_brackets 91 93 (item_commas ds)
unfolding item_text
array_text no_items = refl
array_text (item value ds) = ap (behind 91) (items_text-commas (item value ds))

pub members_closed : (out before written : List ℕ) (start : ℕ) (ms : Members)
    → written ≡ take start out ++ in_brackets 123 125 (drop start out)
    → out ≡ before ++ commas ms → start ≡ length before
    → written ≡ before ++ compact_text (object ms)
members_closed out before written start ms text parted at =
    bracketed 123 125 out before (commas ms) written start text parted at
    ∙ ap (λ last. before ++ last) (sym (object_text ms))

pub items_closed : (out before written : List ℕ) (start : ℕ) (ds : Items)
    → written ≡ take start out ++ in_brackets 91 93 (drop start out)
    → out ≡ before ++ item_commas ds → start ≡ length before
    → written ≡ before ++ compact_text (array ds)
items_closed out before written start ds text parted at =
    bracketed 91 93 out before (item_commas ds) written start text parted at
    ∙ ap (λ last. before ++ last) (sym (array_text ds))
