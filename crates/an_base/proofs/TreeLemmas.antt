-- What the types of a `Value` keep of a tree, and how a walk goes through its items.
use Rattle.std.proofs.Common.{◌≡◌, ℕ, max, List, [], ◌∷◌, Bool, true, false, ◌&&◌, ◌||◌, not, nat_lt, nat_le, Option, Some, None, ok_or, Ok, Err, String, Global, Less, string_bytes, string_cmp, nat_cmp, IsUtf8, inl, inr, refl, ap, ◌∙◌, arith}
use Rattle.std.proofs.Math.Bool.{Bool-set}
use Rattle.std.proofs.lemmas.Bool.{and_from, cases_Bool}
use Rattle.std.proofs.lemmas.Bool.Decides.{nat_tests}
use Rattle.std.proofs.lemmas.Str.{IsUtf8-from_is_utf8, is_utf8-from_IsUtf8}
use Rattle.std.specs.Cmp.Lexicographic.{slice_cmp}
use Rattle.std.specs.List.{AllByRecursion, list_all}
use Rattle.std.specs.List.Sorted.{IsStrictlySortedBy}
use Rattle.std.specs.Map.{keys_of, values_of}
use Rattle.std.specs.Ordering.{is_lt}
use Rattle.std.specs.Str.{is_utf8}
use mathlib.Core.Logic.{∥∥₁_elim}
use Rattle.serde_json.specs.Data.{Data, depth, items_depth, members_depth}
use Rattle.serde_json.specs.Read.{read}
use Rattle.serde_json.specs.View.{view, items_view, members_view}
use Rattle.serde_json.specs.Written.{has_float, items_have_float, members_have_float}
use Rattle.serde_json.proofs.Views.{Entry}
use Rattle.an_base.specs.declared.tree.TreeError.{TreeError}
use Rattle.an_base.specs.declared.tree.TreeError.TheVariants.{Json, NotWhole, Deep}
use Rattle.an_base.specs.Outcome.{first_of, unless}
use Rattle.an_base.specs.Tree.{max_tree_depth, ascend, names, is_whole, items_are_whole, members_are_whole, is_tree, json_of, tree_refusals, tree_if_json, tree_of}

-- ---- what the types keep

pub is_utf8-string_bytes : (text : String Global) → is_utf8 (string_bytes text) ≡ true
is_utf8-string_bytes text =
    ∥∥₁_elim text.ok (Bool-set _ _) (is_utf8-from_IsUtf8 (string_bytes text))

below_later : (name : String Global) (es : List Entry)
    → AllByRecursion (λ later. string_cmp name later ≡ Less) (keys_of es)
    → list_all (λ later. is_lt (slice_cmp nat_cmp (string_bytes name) later))
    (names (members_view es)) ≡ true
below_later name [] h = refl
below_later name (e ∷ es) h = and_from _ _ (ap is_lt h.0) (below_later name es h.1)

pub ascend-names : (es : List Entry) → IsStrictlySortedBy string_cmp (keys_of es)
    → ascend (names (members_view es)) ≡ true
unfolding IsStrictlySortedBy
ascend-names [] h = refl
ascend-names (e ∷ es) h = and_from _ _ (below_later e.0 es h.0) (ascend-names es h.1)

-- ---- members, seen as their values

pub members_are_whole-values : (es : List Entry)
    → members_are_whole (members_view es) ≡ items_are_whole (items_view (values_of es))
members_are_whole-values [] = refl
members_are_whole-values (e ∷ es) =
    rw (is_utf8-string_bytes e.0)
    (ap (λ rest. is_whole (view e.1) && rest) (members_are_whole-values es))

pub members_have_float-values : (es : List Entry)
    → members_have_float (members_view es) ≡ items_have_float (items_view (values_of es))
members_have_float-values [] = refl
members_have_float-values (e ∷ es) =
    ap (λ rest. has_float (view e.1) || rest) (members_have_float-values es)

pub members_depth-values : (es : List Entry)
    → members_depth (members_view es) ≡ items_depth (items_view (values_of es))
members_depth-values [] = refl
members_depth-values (e ∷ es) = ap (max (depth (view e.1))) (members_depth-values es)

pub ruleset members_walk =
    (members_are_whole-values, members_have_float-values, members_depth-values, ascend-names)

-- ---- what was read

pub json_read : (bytes : List ℕ) (value : Data) → IsUtf8 bytes → read bytes ≡ Some value
    → json_of bytes ≡ Some value
json_read bytes value utf8 e = rw (is_utf8-from_IsUtf8 bytes utf8) e

pub json_refused : (bytes : List ℕ) → (IsUtf8 bytes → read bytes ≡ None) → json_of bytes ≡ None
json_refused bytes refused = elim (cases_Bool (is_utf8 bytes)) [
  | inl is ↦ rw is (refused (IsUtf8-from_is_utf8 bytes is))
  | inr is ↦ rw is refl
]

pub known : {A E : Type 0} (o : Option A) (e : E) (a : A) → ok_or o e ≡ Ok a → o ≡ Some a
known None e a h = absurd (cc)
known (Some b) e a h = cc

read_as : (bytes : List ℕ) (value : Data) → ok_or (json_of bytes) Json ≡ Ok value
    → tree_of bytes ≡ unless (first_of (tree_refusals value)) value
unfolding tree_of
read_as bytes value e = ap tree_if_json (known (json_of bytes) Json value e)

is_deep : (value : Data) (b : Bool) → nat_le (depth value) max_tree_depth ≡ b
    → nat_lt max_tree_depth (depth value) ≡ not b
is_deep value true h = grind (arith, nat_tests)
is_deep value false h = grind (arith, nat_tests)

not_false : (b c : Bool) → not b ≡ c → b ≡ not c
not_false true c e = ap not e
not_false false c e = ap not e

pub tree_of-not_whole : (bytes : List ℕ) (value : Data) → ok_or (json_of bytes) Json ≡ Ok value
    → not (has_float value) ≡ false → tree_of bytes ≡ Err NotWhole
tree_of-not_whole bytes value e float = read_as bytes value e ∙ rw (not_false _ false float) refl

pub tree_of-deep : (bytes : List ℕ) (value : Data) → ok_or (json_of bytes) Json ≡ Ok value
    → not (has_float value) ≡ true → nat_le (depth value) max_tree_depth ≡ false
    → tree_of bytes ≡ Err Deep
tree_of-deep bytes value e whole deep =
    read_as bytes value e ∙ rw (not_false _ true whole, is_deep value false deep) refl

pub tree_of-ok : (bytes : List ℕ) (value : Data) → ok_or (json_of bytes) Json ≡ Ok value
    → not (has_float value) ≡ true → nat_le (depth value) max_tree_depth ≡ true
    → tree_of bytes ≡ Ok value
tree_of-ok bytes value e whole shallow =
    read_as bytes value e ∙ rw (not_false _ true whole, is_deep value true shallow) refl

pub refused : {A E : Type 0} (o : Option A) (e f : E) → ok_or o e ≡ Err f → (o ≡ None) × (e ≡ f)
refused None e f h = (refl, cc)
refused (Some a) e f h = absurd (cc)

pub tree_of-refused : (bytes : List ℕ) (e : TreeError) → ok_or (json_of bytes) Json ≡ Err e
    → tree_of bytes ≡ Err e
unfolding tree_of
tree_of-refused bytes e h =
    let both = refused (json_of bytes) Json e h in ap tree_if_json both.0 ∙ ap (λ f. Err f) both.1

pub is_tree-parts : (value : Data) → is_whole value ≡ true
    → nat_le (depth value) max_tree_depth ≡ true → is_tree value ≡ true
unfolding is_tree
is_tree-parts value whole shallow = and_from _ _ whole shallow

pub ruleset reading = (
  json_read,
  json_refused,
  tree_of-not_whole,
  tree_of-deep,
  tree_of-ok,
  tree_of-refused,
  is_tree-parts,
)
