-- The text of an object that is kept, and its parts from cut to cut.
use Rattle.std.proofs.Common.{◌≡◌, ℕ, zero, suc, ◌+◌, ◌-◌, ◌<◌, ◌≤◌, ◌⊎◌, inl, inr, List, [], ◌∷◌, ◌++◌, true, length, take, drop, slice_range, IsTrue, refl, sym, ap, ap₂, ◌∙◌, append_assoc, length-append, length-drop, arith}
use Rattle.std.proofs.lemmas.Bool.{and_parts}
use Rattle.std.proofs.lemmas.List.{take-append-le, drop-append-le}
use Rattle.std.specs.Result.{result_unwrap_or}
use Rattle.serde_json.specs.Data.{Data, null, boolean, number, string, array, object, Members, no_members, member}
use Rattle.serde_json.specs.Written.{compact_text}
use Rattle.an_base.specs.Cut.{is_before, below, above, cut, is_object, members_in}
use Rattle.an_base.specs.Kept.{tree_in, IsKept}
use Rattle.an_base.specs.Tree.{ascend, names, is_whole, is_tree, tree_of}
use Rattle.an_base.specs.Write.{name_text, member_text, commas, in_brackets}
use Rattle.an_base.proofs.CutLemmas.{between_cuts, behind_cut, cuts_ascend, cut_within}
use Rattle.an_base.proofs.TreeTexts.{read_back}
use Rattle.an_base.proofs.WriteLemmas.{object_text}

-- ---- what reads back is kept

pub tree_in-text : (t : Data) (bytes : List ℕ) → IsTrue (is_tree t) → bytes ≡ compact_text t
    → tree_in bytes ≡ t
unfolding tree_in
tree_in-text t bytes tree text =
    ap (λ r. result_unwrap_or r null) (ap tree_of text ∙ read_back t tree)

pub kept_text : (t : Data) (bytes : List ℕ) → IsTrue (is_tree t) → is_object t ≡ true
    → bytes ≡ compact_text t → IsKept bytes
kept_text t bytes tree is text =
    let same : tree_in bytes ≡ t = tree_in-text t bytes tree text in
    record {
      tree = ap is_tree same ∙ tree;
      object = ap is_object same ∙ is;
      text = text ∙ ap compact_text (sym same);
    }

pub ordered : (t : Data) → IsTrue (is_tree t) → ascend (names (members_in t)) ≡ true
unfolding is_tree
ordered null h = refl
ordered (boolean b) h = refl
ordered (number n) h = refl
ordered (string text) h = refl
ordered (array items) h = refl
ordered (object ms) h = (and_parts (ascend (names ms)) _ (and_parts (is_whole (object ms)) _ h).0).0

-- ---- the members' text in an object's

in_text : (t : Data) → is_object t ≡ true
    → compact_text t ≡ in_brackets 123 125 (commas (members_in t))
in_text null h = absurd (cc)
in_text (boolean b) h = absurd (cc)
in_text (number n) h = absurd (cc)
in_text (string text) h = absurd (cc)
in_text (array items) h = absurd (cc)
in_text (object ms) h = object_text ms

bytes_of : (name : List ℕ) (value : Data) (rest : List ℕ)
    → (later : List ℕ) × (member_text name value ++ rest ≡ 44 ∷ 34 ∷ later)
unfolding member_text name_text
bytes_of name value rest = (_, refl)

bracketed_length : (parts later : List ℕ) → parts ≡ 44 ∷ 34 ∷ later
    → (length (in_brackets 123 125 parts) ≡ length parts + 1) × (2 ≤ length parts)
bracketed_length parts later e = (
  ap (λ bytes. length (in_brackets 123 125 bytes)) e
      ∙ length-append (123 ∷ 34 ∷ later) (125 ∷ []) ∙ sym (ap (λ bytes. length bytes + 1) e),
  omega (arith, ap length e),
)

lengths : (ms : Members)
    → ((length (in_brackets 123 125 (commas ms)) ≡ 2) × (length (commas ms) ≡ 0))
    ⊎ ((length (in_brackets 123 125 (commas ms)) ≡ length (commas ms) + 1)
    × (2 ≤ length (commas ms)))
lengths no_members = inl (refl, refl)
lengths (member name value ms) =
    let bytes = bytes_of name value (commas ms) in
    inr (bracketed_length (commas (member name value ms)) bytes.0 bytes.1)

text_lengths : (t : Data) (text : List ℕ) → is_object t ≡ true → text ≡ compact_text t
    → ((length text ≡ 2) × (length (commas (members_in t)) ≡ 0))
    ⊎ ((length text ≡ length (commas (members_in t)) + 1) × (2 ≤ length (commas (members_in t))))
text_lengths t text is e = elim (lengths (members_in t)) [
  | inl h ↦ inl (ap length (e ∙ in_text t is) ∙ h.0, h.1)
  | inr h ↦ inr (ap length (e ∙ in_text t is) ∙ h.0, h.1)
]

pub end_of_long : (t : Data) (text : List ℕ) → is_object t ≡ true → text ≡ compact_text t
    → 2 < length text → length text - 1 ≡ length (commas (members_in t))
end_of_long t text is e long = elim (text_lengths t text is e) [
  | inl h ↦ absurd (omega (arith, h.0))
  | inr h ↦ omega (arith, h.0)
]

pub end_of_short : (t : Data) (text : List ℕ) → is_object t ≡ true → text ≡ compact_text t
    → length text ≤ 2 → 0 ≡ length (commas (members_in t))
end_of_short t text is e short = elim (text_lengths t text is e) [
  | inl h ↦ sym h.1
  | inr h ↦ absurd (omega (arith, h.0, h.1))
]

parts_within : (t : Data) (text : List ℕ) → is_object t ≡ true → text ≡ compact_text t
    → length (commas (members_in t)) ≤ length text
parts_within t text is e = elim (text_lengths t text is e) [
  | inl h ↦ omega (arith, h.0, h.1)
  | inr h ↦ omega (arith, h.0)
]

-- ---- ranges of them

pub prefix_range : (front back : List ℕ) (from to : ℕ) → from ≤ to → to ≤ length front
    → slice_range (front ++ back) from to ≡ slice_range front from to
prefix_range front back from to order within =
    ap (take (to - from)) (drop-append-le from front back (omega arith))
    ∙ take-append-le (to - from) (drop from front) back (omega (arith, length-drop from front))

range_step : (parts later : List ℕ) (from to : ℕ) → parts ≡ 44 ∷ 34 ∷ later → from ≤ to
    → to ≤ length parts
    → slice_range (44 ∷ drop 1 (in_brackets 123 125 parts)) from to ≡ slice_range parts from to
range_step parts later from to e order within =
    ap (λ bytes. slice_range (44 ∷ drop 1 (in_brackets 123 125 bytes)) from to) e
    ∙ prefix_range (44 ∷ 34 ∷ later) (125 ∷ []) from to order (omega (arith, ap length e))
    ∙ sym (ap (λ bytes. slice_range bytes from to) e)

with_comma : (ms : Members) (from to : ℕ) → from ≤ to → to ≤ length (commas ms)
    → slice_range (44 ∷ drop 1 (in_brackets 123 125 (commas ms))) from to
    ≡ slice_range (commas ms) from to
with_comma no_members from to order within =
    let none : to - from ≡ 0 = omega arith in
    ap (λ n. take n (drop from (44 ∷ 125 ∷ []))) none ∙ sym (ap (λ n. take n (drop from [])) none)
with_comma (member name value ms) from to order within =
    let bytes = bytes_of name value (commas ms) in
    range_step (commas (member name value ms)) bytes.0 from to bytes.1 order within

range_of_text : (t : Data) (text : List ℕ) (from to : ℕ) → is_object t ≡ true
    → text ≡ compact_text t → from ≤ to → to ≤ length (commas (members_in t))
    → slice_range (44 ∷ drop 1 text) from to ≡ slice_range (commas (members_in t)) from to
range_of_text t text from to is e order within =
    ap (λ bytes. slice_range (44 ∷ drop 1 bytes) from to) (e ∙ in_text t is)
    ∙ with_comma (members_in t) from to order within

-- the first part begins with a comma
pub first_part : (text : List ℕ) (from to : ℕ) (a b c : List ℕ) → from ≡ 0 → 0 < to
    → b ≡ a ++ 44 ∷ [] → c ≡ b ++ slice_range text 1 to
    → c ≡ a ++ slice_range (44 ∷ drop 1 text) from to
first_part text from zero a b c start some comma part = absurd (omega arith)
first_part text from (suc m) a b c start some comma part =
    let one : suc m - 1 ≡ m = omega arith in
    let all : suc m - 0 ≡ suc m = omega arith in
    part ∙ ap₂ (λ front n. front ++ take n (drop 1 text)) comma one
    ∙ append_assoc a (44 ∷ []) (take m (drop 1 text))
    ∙ sym (ap (λ n. a ++ slice_range (44 ∷ drop 1 text) n (suc m)) start
    ∙ ap (λ n. a ++ take n (44 ∷ drop 1 text)) all)

-- ---- what is written of it

pub between_part : (t : Data) (text out written : List ℕ) (from to : ℕ) → IsTrue (is_tree t)
    → is_object t ≡ true → text ≡ compact_text t
    → (from ≤ to → to ≤ length text → written ≡ out ++ slice_range (44 ∷ drop 1 text) from to)
    → (low high : List ℕ) → is_before low high ≡ true → from ≡ cut low (members_in t)
    → to ≡ cut high (members_in t)
    → written ≡ out ++ commas (below high (above low (members_in t)))
between_part t text out written from to tree is e part low high order f u =
    let names_ascend = ordered t tree in
    let up : from ≤ to = omega (arith, cuts_ascend low high (members_in t) names_ascend order) in
    let within : to ≤ length (commas (members_in t)) =
    omega (arith, cut_within high (members_in t) names_ascend) in
    part up (omega (arith, parts_within t text is e))
    ∙ ap (λ last. out ++ last)
    (range_of_text t text from to is e up within
    ∙ between_cuts low high (members_in t) from to names_ascend order f u)

pub above_part : (t : Data) (text out written : List ℕ) (from to : ℕ) → IsTrue (is_tree t)
    → is_object t ≡ true → text ≡ compact_text t → to ≡ length (commas (members_in t))
    → (from ≤ to → to ≤ length text → written ≡ out ++ slice_range (44 ∷ drop 1 text) from to)
    → (low : List ℕ) → from ≡ cut low (members_in t)
    → written ≡ out ++ commas (above low (members_in t))
above_part t text out written from to tree is e end part low f =
    let names_ascend = ordered t tree in
    let up : from ≤ to = omega (arith, cut_within low (members_in t) names_ascend) in
    part up (omega (arith, parts_within t text is e))
    ∙ ap (λ last. out ++ last)
    (range_of_text t text from to is e up (omega arith)
    ∙ behind_cut low (members_in t) from to names_ascend f end)
