-- The text of a tree reads back as the tree.
use Rattle.std.proofs.Common.{◌≡◌, ℕ, suc, ◌≤◌, max, pos, negsuc, List, [], ◌∷◌, ◌++◌, Bool, true, false, ◌&&◌, nat_lt, Some, option_map, option_and_then, Ok, Less, Equal, Greater, Ordering, nat_cmp, IsUtf8, IsTrue, refl, sym, ap, ap₂, ◌∙◌, arith, append-nil, ltb-true}
use Rattle.std.proofs.lemmas.Bool.{and_from, and_parts, leb-true}
use Rattle.std.proofs.lemmas.Cmp.{nat_list_cmp_total}
use Rattle.std.proofs.lemmas.Fmt.{IsAscii-decimal, IsAscii-signed}
use Rattle.std.proofs.lemmas.Str.{IsUtf8-append, IsUtf8-from_ascii, IsUtf8-from_is_utf8}
use Rattle.std.specs.Cmp.Lexicographic.{slice_cmp}
use Rattle.std.specs.List.{list_all}
use Rattle.std.specs.Ordering.{is_lt, ordering_reverse}
use Rattle.std.specs.Str.{is_utf8}
use Rattle.json.specs.Lex.{tokens}
use Rattle.json.specs.Json as json
use Rattle.json.specs.Tree as token_tree
use Rattle.json.specs.Tree.{json_tokens, HasNumbers, ItemsHaveNumbers, MembersHaveNumbers}
use Rattle.json.specs.Print.{IsNumber, quoted}
use Rattle.json.proofs.Printed.Decimals.{IsNumber-decimal, IsNumber-signed_decimal}
use Rattle.json.proofs.Printed.Tokens.{tokens-print}
use Rattle.json.proofs.Printed.Trees.{value-json_tokens, ArePrintable-json_tokens}
use Rattle.json.proofs.Printed.Utf8.{IsUtf8-are_ascii, IsUtf8-quoted, IsUtf8-boolean}
use Rattle.serde_json.specs.Data.{Num, unsigned, negative, float, Data, null, boolean, number, string, array, object, Items, no_items, item, Members, no_members, member, put, depth, items_depth, members_depth}
use Rattle.serde_json.specs.Find.{is_float}
use Rattle.serde_json.specs.Read.{number_of, of_json, of_items, of_members, max_depth, read}
use Rattle.serde_json.specs.Written.{number_text, outline, items_outline, members_outline, has_float, items_have_float, members_have_float, comma_if, compact_text, items_text, members_text}
use Rattle.serde_json.proofs.Numbers.{number_of-decimal, number_of-negative}
use Rattle.serde_json.proofs.Texts.{print-outline}
use Rattle.an_base.specs.Tree.{is_whole_number, ascend, names, is_whole, items_are_whole, members_are_whole, is_tree, tree_of}
use Rattle.an_base.proofs.TreeLemmas.{json_read, tree_of-ok}

-- ---- a whole number

IsNumber-whole : (n : Num) → is_whole_number n ≡ true → IsNumber (number_text n)
IsNumber-whole (unsigned n) h = IsNumber-decimal n (ltb-true _ _ h)
IsNumber-whole (negative (pos n)) h = absurd (cc)
IsNumber-whole (negative (negsuc n)) h =
    let small = ltb-true _ _ h in IsNumber-signed_decimal (negsuc n) (omega arith)
IsNumber-whole (float x) h = absurd (cc)

number_of-whole : (n : Num) → is_whole_number n ≡ true → number_of (number_text n) ≡ Some n
number_of-whole (unsigned n) h = number_of-decimal n (ltb-true _ _ h)
number_of-whole (negative (pos n)) h = absurd (cc)
number_of-whole (negative (negsuc n)) h = number_of-negative n (ltb-true _ _ h)
number_of-whole (float x) h = absurd (cc)

IsUtf8-whole : (n : Num) → is_whole_number n ≡ true → IsUtf8 (number_text n)
IsUtf8-whole (unsigned n) h = IsUtf8-from_ascii _ (IsAscii-decimal n (ltb-true _ _ h))
IsUtf8-whole (negative (pos n)) h = absurd (cc)
IsUtf8-whole (negative (negsuc n)) h =
    let small = ltb-true _ _ h in IsUtf8-from_ascii _ (IsAscii-signed (negsuc n) (omega arith))
IsUtf8-whole (float x) h = absurd (cc)

no_float : (n : Num) → is_whole_number n ≡ true → is_float n ≡ false
no_float (unsigned n) h = refl
no_float (negative z) h = refl
no_float (float x) h = absurd (cc)

-- ---- a whole value's numbers and its depth

pub member_parts : (k : List ℕ) (d : Data) (ms : Members) → members_are_whole (member k d ms) ≡ true
    → (is_utf8 k ≡ true) × (is_whole d ≡ true) × (members_are_whole ms ≡ true)
member_parts k d ms h =
    let p = and_parts (is_utf8 k && is_whole d) _ h in
    let q = and_parts (is_utf8 k) _ p.0 in (q.0, q.1, p.1)

mutual
  HasNumbers-outline : (d : Data) → is_whole d ≡ true → HasNumbers (outline d)
  HasNumbers-outline null h = tt
  HasNumbers-outline (boolean b) h = tt
  HasNumbers-outline (number n) h = IsNumber-whole n h
  HasNumbers-outline (string s) h = tt
  HasNumbers-outline (array ds) h = ItemsHaveNumbers-outline ds h
  HasNumbers-outline (object ms) h = MembersHaveNumbers-outline ms (and_parts _ _ h).1

  ItemsHaveNumbers-outline : (ds : Items) → items_are_whole ds ≡ true
      → ItemsHaveNumbers (items_outline ds)
  ItemsHaveNumbers-outline no_items h = tt
  ItemsHaveNumbers-outline (item d ds) h =
      let p = and_parts (is_whole d) _ h in
      (HasNumbers-outline d p.0, ItemsHaveNumbers-outline ds p.1)

  MembersHaveNumbers-outline : (ms : Members) → members_are_whole ms ≡ true
      → MembersHaveNumbers (members_outline ms)
  MembersHaveNumbers-outline no_members h = tt
  MembersHaveNumbers-outline (member k d ms) h =
      let p = member_parts k d ms h in (HasNumbers-outline d p.1, MembersHaveNumbers-outline ms p.2)

mutual
  depth-outline : (d : Data) → token_tree.depth (outline d) ≡ depth d
  depth-outline null = refl
  depth-outline (boolean b) = refl
  depth-outline (number n) = refl
  depth-outline (string s) = refl
  depth-outline (array ds) = ap suc (items_depth-outline ds)
  depth-outline (object ms) = ap suc (members_depth-outline ms)

  items_depth-outline : (ds : Items) → token_tree.items_depth (items_outline ds) ≡ items_depth ds
  items_depth-outline no_items = refl
  items_depth-outline (item d ds) = ap₂ max (depth-outline d) (items_depth-outline ds)

  members_depth-outline : (ms : Members)
      → token_tree.members_depth (members_outline ms) ≡ members_depth ms
  members_depth-outline no_members = refl
  members_depth-outline (member k d ms) = ap₂ max (depth-outline d) (members_depth-outline ms)

mutual
  pub has_float-is_whole : (d : Data) → is_whole d ≡ true → has_float d ≡ false
  has_float-is_whole null h = refl
  has_float-is_whole (boolean b) h = refl
  has_float-is_whole (number n) h = no_float n h
  has_float-is_whole (string s) h = refl
  has_float-is_whole (array ds) h = items_have_float-whole ds h
  has_float-is_whole (object ms) h = members_have_float-whole ms (and_parts _ _ h).1

  items_have_float-whole : (ds : Items) → items_are_whole ds ≡ true → items_have_float ds ≡ false
  items_have_float-whole no_items h = refl
  items_have_float-whole (item d ds) h =
      let p = and_parts (is_whole d) _ h in
      rw (has_float-is_whole d p.0) (items_have_float-whole ds p.1)

  members_have_float-whole : (ms : Members) → members_are_whole ms ≡ true
      → members_have_float ms ≡ false
  members_have_float-whole no_members h = refl
  members_have_float-whole (member k d ms) h =
      let p = member_parts k d ms h in
      rw (has_float-is_whole d p.1) (members_have_float-whole ms p.2)

-- ---- the text is UTF-8

IsUtf8-comma_if : (later : Bool) → IsUtf8 (comma_if later)
IsUtf8-comma_if true = IsUtf8-are_ascii _ refl
IsUtf8-comma_if false = IsUtf8-are_ascii _ refl

sign_then : (x : ℕ) (xs : List ℕ) → nat_lt x 128 ≡ true → IsUtf8 xs → IsUtf8 (x ∷ xs)
sign_then x xs small u =
    IsUtf8-append (x ∷ []) xs (IsUtf8-are_ascii (x ∷ []) (and_from _ _ small refl)) u

mutual
  pub IsUtf8-compact_text : (d : Data) → is_whole d ≡ true → IsUtf8 (compact_text d)
  IsUtf8-compact_text null h = IsUtf8-are_ascii _ refl
  IsUtf8-compact_text (boolean b) h = IsUtf8-boolean b
  IsUtf8-compact_text (number n) h = IsUtf8-whole n h
  IsUtf8-compact_text (string s) h = IsUtf8-quoted s (IsUtf8-from_is_utf8 s h)
  IsUtf8-compact_text (array ds) h = sign_then 91 _ refl (IsUtf8-items_text false ds h)
  IsUtf8-compact_text (object ms) h =
      sign_then 123 _ refl (IsUtf8-members_text false ms (and_parts _ _ h).1)

  IsUtf8-items_text : (later : Bool) (ds : Items) → items_are_whole ds ≡ true
      → IsUtf8 (items_text later ds)
  IsUtf8-items_text later no_items h = IsUtf8-are_ascii _ refl
  IsUtf8-items_text later (item d ds) h =
      let p = and_parts (is_whole d) _ h in
      IsUtf8-append (comma_if later) _ (IsUtf8-comma_if later)
      (IsUtf8-append (compact_text d) _ (IsUtf8-compact_text d p.0) (IsUtf8-items_text true ds p.1))

  IsUtf8-members_text : (later : Bool) (ms : Members) → members_are_whole ms ≡ true
      → IsUtf8 (members_text later ms)
  IsUtf8-members_text later no_members h = IsUtf8-are_ascii _ refl
  IsUtf8-members_text later (member k d ms) h =
      let p = member_parts k d ms h in
      let value =
      IsUtf8-append (compact_text d) _ (IsUtf8-compact_text d p.1)
      (IsUtf8-members_text true ms p.2) in
      IsUtf8-append (comma_if later) _ (IsUtf8-comma_if later)
      (IsUtf8-append (quoted k) _ (IsUtf8-quoted k (IsUtf8-from_is_utf8 k p.0))
      (sign_then 58 _ refl value))

-- ---- the outline gives the value back; a name that is above those before it goes last

abbrev joined : Members → Members → Members
joined no_members ms = ms
joined (member k d front) ms = member k d (joined front ms)

joined-nil : (front : Members) → joined front no_members ≡ front
joined-nil no_members = refl
joined-nil (member k d front) = ap (member k d) (joined-nil front)

joined-one : (front : Members) (k : List ℕ) (d : Data) (ms : Members)
    → joined (joined front (member k d no_members)) ms ≡ joined front (member k d ms)
joined-one no_members k d ms = refl
joined-one (member l e front) k d ms = ap (member l e) (joined-one front k d ms)

less : (o : Ordering) → is_lt o ≡ true → o ≡ Less
less Less h = refl
less Equal h = absurd (cc)
less Greater h = absurd (cc)

below_middle : (l : List ℕ) (front : Members) (k : List ℕ) (d : Data) (ms : Members)
    → list_all (λ later. is_lt (slice_cmp nat_cmp l later)) (names (joined front (member k d ms)))
    ≡ true
    → slice_cmp nat_cmp l k ≡ Less
below_middle l no_members k d ms h = less _ (and_parts _ _ h).0
below_middle l (member m e front) k d ms h = below_middle l front k d ms (and_parts _ _ h).1

put_last : (front : Members) (k : List ℕ) (d : Data) (ms : Members)
    → ascend (names (joined front (member k d ms))) ≡ true
    → put k d front ≡ joined front (member k d no_members)
put_last no_members k d ms h = refl
put_last (member l e front) k d ms h =
    let p = and_parts _ _ h in
    let above : slice_cmp nat_cmp k l ≡ Greater =
    nat_list_cmp_total.antisymm k l ∙ ap ordering_reverse (below_middle l front k d ms p.0) in
    rw above (ap (member l e) (put_last front k d ms p.1))

mutual
  of_json-outline : (d : Data) → is_whole d ≡ true → of_json (outline d) ≡ Some d
  of_json-outline null h = refl
  of_json-outline (boolean b) h = refl
  of_json-outline (number n) h = ap (option_map number) (number_of-whole n h)
  of_json-outline (string s) h = refl
  of_json-outline (array ds) h = ap (option_map array) (of_items-outline ds h)
  of_json-outline (object ms) h =
      let p = and_parts _ _ h in ap (option_map object) (of_members-outline ms no_members p.1 p.0)

  of_items-outline : (ds : Items) → items_are_whole ds ≡ true
      → of_items (items_outline ds) ≡ Some ds
  of_items-outline no_items h = refl
  of_items-outline (item d ds) h =
      let p = and_parts (is_whole d) _ h in
      ap (option_and_then (λ e. option_map (item e) (of_items (items_outline ds))))
      (of_json-outline d p.0)
      ∙ ap (option_map (item d)) (of_items-outline ds p.1)

  of_members-outline : (ms front : Members) → members_are_whole ms ≡ true
      → ascend (names (joined front ms)) ≡ true
      → of_members (members_outline ms) front ≡ Some (joined front ms)
  of_members-outline no_members front h order = ap Some (sym (joined-nil front))
  of_members-outline (member k d ms) front h order =
      let p = member_parts k d ms h in
      let last = put_last front k d ms order in
      ap (option_and_then (λ e. of_members (members_outline ms) (put k e front)))
      (of_json-outline d p.1)
      ∙ ap (of_members (members_outline ms)) last
      ∙ of_members-outline ms (joined front (member k d no_members)) p.2
      (ap (λ all. ascend (names all)) (joined-one front k d ms) ∙ order)
      ∙ ap Some (joined-one front k d ms)

-- ---- reading back

pub read-compact_text : (d : Data) → is_whole d ≡ true → depth d ≤ max_depth
    → read (compact_text d) ≡ Some d
read-compact_text d whole shallow =
    let printed =
    tokens-print (json_tokens (outline d))
    (ArePrintable-json_tokens (outline d) (HasNumbers-outline d whole)) in
    let same : tokens (compact_text d) ≡ json_tokens (outline d) ++ [] =
    ap tokens (sym (print-outline d)) ∙ printed ∙ sym (append-nil _) in
    ap (λ o. option_and_then of_json (option_and_then (λ p. json.if_last p.0 p.1) o))
    (ap (json.value max_depth) same
    ∙ value-json_tokens (outline d) max_depth [] (omega (arith, depth-outline d)))
    ∙ of_json-outline d whole

pub read_back : (d : Data) → IsTrue (is_tree d) → tree_of (compact_text d) ≡ Ok d
unfolding is_tree
read_back d h =
    let p = and_parts (is_whole d) _ h in
    let shallow : depth d ≤ 100 = leb-true _ _ p.1 in
    let found =
    json_read (compact_text d) d (IsUtf8-compact_text d p.0)
    (read-compact_text d p.0 (omega arith)) in
    tree_of-ok (compact_text d) d (rw found refl) (rw (has_float-is_whole d p.0) refl) p.1

pub no_float_in_tree : (d : Data) → IsTrue (is_tree d) → has_float d ≡ false
unfolding is_tree
no_float_in_tree d h = has_float-is_whole d (and_parts (is_whole d) _ h).0

-- trees with one text are one tree
pub same_from_texts : (d e : Data) → IsTrue (is_tree d) → IsTrue (is_tree e)
    → compact_text d ≡ compact_text e → d ≡ e
same_from_texts d e h k same =
    let both : Ok d ≡ Ok e = sym (read_back d h) ∙ ap tree_of same ∙ read_back e k in cc
