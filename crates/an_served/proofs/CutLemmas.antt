-- The cuts of an object's text part it before a member's name, at the member's values and behind
-- it.
use Rattle.std.proofs.Common.{◌≡◌, ℕ, ◌+◌, ◌-◌, ◌<◌, ◌≤◌, List, [], ◌∷◌, ◌++◌, length, true, Option, Some, None, refl, sym, ap, ◌∙◌, append_assoc, append-nil, length-append, arith}
use Rattle.json.specs.Print.{quoted}
use Rattle.serde_json.specs.Data.{Data, null, boolean, number, string, array, object, Items, no_items, item, Members, no_members, member}
use Rattle.serde_json.specs.Find.{get_member, as_array}
use Rattle.serde_json.specs.Written.{compact_text}
use Rattle.an_base.specs.Cut.{below}
use Rattle.an_base.specs.Items.{many_if}
use Rattle.an_base.specs.Tree.{ascend, names, one_or_many}
use Rattle.an_base.specs.Write.{name_text, member_text, commas, item_text, item_commas, behind}
use Rattle.an_base.proofs.WriteLemmas.{object_text, array_text}
use Rattle.an_manifest.specs.Cuts.{first_cut, last_cut, cut_if, cuts_at, part_at}
use Rattle.an_served.specs.ManifestParts.{beyond, led, piece, IsCutAt}
use Rattle.an_served.proofs.PieceLemmas.{piece_seam}
use Rattle.an_served.proofs.SplitLemmas.{commas-joined, split-absent, split-found}

pub led-commas : (members : Members) → led (commas members) ≡ commas members
unfolding member_text name_text
led-commas no_members = refl
led-commas (member name value members) = refl

pub length-behind : (left : ℕ) (parts : List ℕ) → 0 < length parts
    → length (behind left parts) ≡ length parts
length-behind left [] some = absurd (omega arith)
length-behind left (comma ∷ parts) some = refl

pub length-object : (members : Members) → 0 < length (commas members)
    → length (compact_text (object members)) ≡ length (commas members) + 1
length-object members some =
    ap length (object_text members) ∙ length-append (behind 123 (commas members)) (125 ∷ [])
    ∙ ap (λ n. n + 1) (length-behind 123 (commas members) some)

-- ---- the values of a member

apart_at_colon : (x q t z : List ℕ)
    → x ++ (((44 ∷ (q ++ 58 ∷ [])) ++ t) ++ z) ≡ (x ++ 44 ∷ q) ++ ((58 ∷ t) ++ z)
apart_at_colon x q t z =
    ap (λ rest. x ++ 44 ∷ rest)
    (append_assoc (q ++ 58 ∷ []) t z ∙ append_assoc q (58 ∷ []) (t ++ z))
    ∙ sym (append_assoc x (44 ∷ q) (58 ∷ (t ++ z)))

apart : (x n t z : List ℕ) → x ++ ((n ++ t) ++ z) ≡ (x ++ n) ++ (t ++ z)
apart x n t z = ap (λ rest. x ++ rest) (append_assoc n t z) ∙ sym (append_assoc x n (t ++ z))

one_value : (name x z : List ℕ) (value : Data) (parts rest : List ℕ)
    → parts ≡ x ++ (member_text name value ++ z)
    → piece (behind 123 parts ++ rest) (length x + length (name_text name) - 1)
    (length x + length (name_text name) + length (compact_text value))
    ≡ item_commas (item value no_items)
unfolding member_text name_text item_text
one_value name x z value parts rest parted =
    let q = quoted name in
    let t = compact_text value in
    piece_seam 123 parts (x ++ 44 ∷ q) (58 ∷ t) z rest _ _ (parted ∙ apart_at_colon x q t z)
    (omega (arith, length-append x (44 ∷ q), length-append q (58 ∷ [])))
    (omega (arith, length-append q (58 ∷ [])))
    ∙ sym (append-nil (44 ∷ t))

array_values : (name x z : List ℕ) (items : Items) (parts rest : List ℕ)
    → parts ≡ x ++ (member_text name (array items) ++ z)
    → piece (behind 123 parts ++ rest) (length x + length (name_text name))
    (last_cut (Some items) (length x + length (name_text name))
    (length x + length (name_text name) + length (compact_text (array items)))) ≡ item_commas items
unfolding member_text item_text
array_values name x z no_items parts rest parted =
    piece_seam 123 parts (x ++ name_text name) [] (compact_text (array no_items) ++ z) rest _ _
    (parted ∙ apart x (name_text name) (compact_text (array no_items)) z)
    (sym (length-append x (name_text name))) (omega arith)
array_values name x z (item first items) parts rest parted =
    let inner = compact_text first ++ item_commas items in
    let text : compact_text (array (item first items)) ≡ (91 ∷ inner) ++ 93 ∷ [] =
    array_text (item first items) in
    let size = ap length text ∙ length-append (91 ∷ inner) (93 ∷ []) in
    piece_seam 123 parts (x ++ name_text name) (91 ∷ inner) (93 ∷ z) rest _ _
    (parted ∙ apart x (name_text name) (compact_text (array (item first items))) z
    ∙ ap (λ t. (x ++ name_text name) ++ (t ++ z)) text
    ∙ ap (λ t. (x ++ name_text name) ++ t) (append_assoc (91 ∷ inner) (93 ∷ []) z))
    (sym (length-append x (name_text name))) (omega (arith, size))

-- the cuts of a member that is there
values_found : (name x z : List ℕ) (value : Data) (parts rest : List ℕ)
    → parts ≡ x ++ (member_text name value ++ z)
    → piece (behind 123 parts ++ rest)
    (first_cut (as_array value) (length x + length (name_text name)))
    (last_cut (as_array value) (length x + length (name_text name))
    (length x + length (name_text name) + length (compact_text value)))
    ≡ item_commas (one_or_many value)
values_found name x z null parts rest parted = one_value name x z null parts rest parted
values_found name x z (boolean b) parts rest parted =
    one_value name x z (boolean b) parts rest parted
values_found name x z (number n) parts rest parted = one_value name x z (number n) parts rest parted
values_found name x z (string text) parts rest parted =
    one_value name x z (string text) parts rest parted
values_found name x z (array items) parts rest parted =
    array_values name x z items parts rest parted
values_found name x z (object members) parts rest parted =
    one_value name x z (object members) parts rest parted

-- ---- an object

abbrev Within : Option Items → ℕ → ℕ → Type 0
Within items start end =
    (first_cut items start ≤ last_cut items start end) × (last_cut items start end ≤ end)

in_order : (value : Data) (start : ℕ)
    → Within (as_array value) start (start + length (compact_text value))
in_order null start = (omega arith, omega arith)
in_order (boolean b) start = (omega arith, omega arith)
in_order (number n) start = (omega arith, omega arith)
in_order (string text) start = (omega arith, omega arith)
in_order (object members) start = (omega arith, omega arith)
in_order (array no_items) start = (omega arith, omega arith)
in_order (array (item first items)) start = (omega arith, omega arith)

module _ (name : List ℕ) (members : Members) (some : 0 < length (commas members)) where
  abbrev text : List ℕ
  text = compact_text (object members)

  size : length text ≡ length (commas members) + 1
  size = length-object members some

  -- the part between two cuts
  pub part : (a c : List ℕ) (between : Members) (from to : ℕ)
      → commas members ≡ a ++ (commas between ++ c) → from ≡ length a
      → to ≡ from + length (commas between)
      → piece text from to ≡ commas between
  part a c between from to parted first second =
      ap (λ t. piece t from to) (object_text members)
      ∙ piece_seam 123 (commas members) a (commas between) c (125 ∷ []) from to parted first second
      ∙ led-commas between

  abbrev x : List ℕ
  x = commas (below name members)

  abbrev z : List ℕ
  z = commas (beyond name members)

  holds-absent : ascend (names members) ≡ true → get_member name members ≡ None
      → IsCutAt name (object members) (cut_if name (length text) (length x) None)
  holds-absent order absent =
      let parted : commas members ≡ x ++ z =
      ap commas (split-absent name members order absent)
      ∙ commas-joined (below name members) (beyond name members) in
      let sizes = ap length parted ∙ length-append x z in
      record {
        fits = record {
          size = refl;
          below = omega (arith, size, sizes);
          values = omega arith;
          last = omega (arith, size, sizes);
          above = omega (arith, size, sizes);
        };
        front = part [] z (below name members) 0 (length x) parted refl (omega arith);
        values = ap (λ t. piece t (length x) (length x)) (object_text members)
            ∙ piece_seam 123 (commas members) x [] z (125 ∷ []) (length x) (length x) parted refl
            (omega arith)
            ∙ sym (ap (λ found. item_commas (many_if found)) absent);
        back =
            part x [] (beyond name members) (length x) (length text - 1)
            (parted ∙ ap (λ t. x ++ t) (sym (append-nil z))) refl (omega (arith, size, sizes));
      }

  holds-found : ascend (names members) ≡ true → (value : Data)
      → get_member name members ≡ Some value
      → IsCutAt name (object members) (cut_if name (length text) (length x) (Some value))
  unfolding member_text
  holds-found order value found =
      let n = name_text name in
      let t = compact_text value in
      let parted : commas members ≡ x ++ ((n ++ t) ++ z) =
      ap commas (split-found name value members order found)
      ∙ commas-joined (below name members) (member name value (beyond name members)) in
      let sizes = ap length parted ∙ length-append x ((n ++ t) ++ z) in
      let inner = length-append (n ++ t) z in
      let named = length-append n t in
      let within = in_order value (length x + length n) in
      let grouped : commas members ≡ (x ++ (n ++ t)) ++ (z ++ []) =
      parted ∙ sym (append_assoc x (n ++ t) z)
      ∙ ap (λ rest. (x ++ (n ++ t)) ++ rest) (sym (append-nil z)) in
      record {
        fits = record {
          size = refl;
          below = omega (arith, size, sizes);
          values = within.0;
          last = omega (arith, size, sizes, inner, named, within.1);
          above = omega (arith, size, sizes, inner, named);
        };
        front = part [] ((n ++ t) ++ z) (below name members) 0 (length x) parted refl (omega arith);
        values =
            ap (λ all. piece all (first_cut (as_array value) (length x + length n))
            (last_cut (as_array value) (length x + length n) (length x + length n + length t)))
            (object_text members)
            ∙ values_found name x z value (commas members) (125 ∷ []) parted
            ∙ sym (ap (λ found. item_commas (many_if found)) found);
        back =
            part (x ++ (n ++ t)) [] (beyond name members) (length x + length n + length t)
            (length text - 1) grouped
            (omega (arith, length-append x (n ++ t), named))
            (omega (arith, size, sizes, inner, named));
      }

  -- the text of a member that is there, behind a comma
  found_part : ascend (names members) ≡ true → (value : Data) → get_member name members ≡ Some value
      → piece text (length x) (length x + length (name_text name) + length (compact_text value))
      ≡ member_text name value
  unfolding member_text
  found_part order value found =
      let n = name_text name in
      let t = compact_text value in
      let parted : commas members ≡ x ++ ((n ++ t) ++ z) =
      ap commas (split-found name value members order found)
      ∙ commas-joined (below name members) (member name value (beyond name members)) in
      part x z (member name value no_members) (length x) (length x + length n + length t)
      (parted ∙ ap (λ m. x ++ (m ++ z)) (sym (append-nil (n ++ t)))) refl
      (omega (arith, length-append n t, ap length (append-nil (n ++ t))))
      ∙ append-nil (n ++ t)

  pub member_part : ascend (names members) ≡ true → (value : Data)
      → get_member name members ≡ Some value
      → piece text (part_at name (object members)).below (part_at name (object members)).above
      ≡ member_text name value
  unfolding cuts_at
  member_part order value found = rw found (found_part order value found)

  holds_for : ascend (names members) ≡ true → (found : Option Data)
      → get_member name members ≡ found
      → IsCutAt name (object members) (cut_if name (length text) (length x) found)
  holds_for order None e = holds-absent order e
  holds_for order (Some value) e = holds-found order value e

  pub holds : ascend (names members) ≡ true
      → IsCutAt name (object members) (cuts_at name (object members))
  unfolding cuts_at
  holds order = holds_for order (get_member name members) refl
