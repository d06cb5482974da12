-- The text that says inner groups is cut at its commas into the texts of the groups, and so it is
-- read as those.
use Rattle.std.proofs.Common.{◌≡◌, ℕ, Bool, true, false, not, List, [], ◌∷◌, ◌++◌, length, refl, sym, ap, ◌∙◌, Ordering, Less, Equal, Greater, arith, IsTrue}
use Rattle.std.specs.Prelude.{◌&&◌, ◌==◌, nat_le, Option, Some, None}
use Rattle.std.specs.List.{AllByRecursion, join_with_byte, list_all, slice_split}
use Rattle.std.specs.List.Sorted.{IsStrictlySortedBy}
use Rattle.std.specs.Ordering.{is_lt}
use Rattle.std.proofs.lemmas.Bool.{and_parts, and_from, both_ways}
use Rattle.std.proofs.lemmas.Bool.Decides.{nat_tests}
use Rattle.std.proofs.lemmas.Cmp.{nat_list_cmp_total}
use Rattle.an_base.specs.Name.{is_name, is_name_sign}
use Rattle.an_base.specs.TextSet.{Ascend, ascending}
use Rattle.an_base.proofs.NameLemmas.{name-signs}
use Rattle.an_base.proofs.AscendLemmas.{by_bytes, ascend-ascending, has_text-ascending, same-ascend}
use Rattle.an_policy.specs.Inner.{inner_named, inner_of, inner_text, is_valid_inner}
use Rattle.an_policy.specs.Names.{are_names, ascend_behind, is_behind, is_group_name}
use Rattle.an_policy.specs.declared.inner.Inner.{Inner}
use Rattle.an_policy.specs.declared.inner.Inner.TheVariants.{Public, Private, Names}
use Rattle.an_policy.proofs.InnerLaws.{inner-read-back}

-- ---- names have no comma

abbrev is_other : ℕ → Bool
is_other b = not (b == 44)

sign-other : (b : ℕ) → is_name_sign b ≡ true → is_other b ≡ true
sign-other b is = grind (arith, nat_tests)

name-other : (name : List ℕ) → is_name name ≡ true → list_all is_other name ≡ true
name-other name is = all-pass name (name-signs (λ b. is_other b ≡ true) sign-other name is)
  where
    all-pass : (text : List ℕ) → AllByRecursion (λ b. is_other b ≡ true) text
        → list_all is_other text ≡ true
    all-pass [] h = refl
    all-pass (b ∷ text) h = and_from _ _ h.0 (all-pass text h.1)

-- ---- texts without commas, cut at those between them

abbrev cut : List ℕ → List (List ℕ)
cut text = slice_split (λ b. b == 44) text

comma-none : (b : Bool) → not b ≡ true → b ≡ false
comma-none false is = refl
comma-none true is = absurd (cc)

cut-one : (text : List ℕ) → list_all is_other text ≡ true → cut text ≡ text ∷ []
cut-one [] all = refl
cut-one (b ∷ text) all =
    let parts = and_parts (is_other b) (list_all is_other text) all in
    rw (comma-none (b == 44) parts.0, cut-one text parts.1) refl

cut-first : (text rest : List ℕ) → list_all is_other text ≡ true
    → cut (text ++ 44 ∷ rest) ≡ text ∷ cut rest
cut-first [] rest all = refl
cut-first (b ∷ text) rest all =
    let parts = and_parts (is_other b) (list_all is_other text) all in
    rw (comma-none (b == 44) parts.0, cut-first text rest parts.1) refl

cut-joined : (text : List ℕ) (texts : List (List ℕ))
    → list_all (list_all is_other) (text ∷ texts) ≡ true
    → cut (join_with_byte 44 (text ∷ texts)) ≡ text ∷ texts
cut-joined text [] all = cut-one text (and_parts (list_all is_other text) true all).0
cut-joined text (other ∷ texts) all =
    let parts =
    and_parts (list_all is_other text) (list_all (list_all is_other) (other ∷ texts)) all in
    cut-first text (join_with_byte 44 (other ∷ texts)) parts.0
    ∙ ap (λ l. text ∷ l) (cut-joined other texts parts.1)

-- ---- names that ascend

less : (o : Ordering) → is_lt o ≡ true → o ≡ Less
less Less is = refl
less Equal is = absurd (both_ways false refl is)
less Greater is = absurd (both_ways false refl is)

-- what is behind the last of them is behind it too
all-behind : (last : List ℕ) (names : List (List ℕ)) → ascend_behind (Some last) names ≡ true
    → AllByRecursion (λ name. by_bytes last name ≡ Less) names
all-behind last [] ascends = tt
all-behind last (name ∷ names) ascends =
    let parts = and_parts (is_behind (Some last) name) (ascend_behind (Some name) names) ascends in
    let first : by_bytes last name ≡ Less = less (by_bytes last name) parts.0 in
    (first, through last name names first (all-behind name names parts.1))
  where
    through : (last name : List ℕ) (names : List (List ℕ)) → by_bytes last name ≡ Less
        → AllByRecursion (λ u. by_bytes name u ≡ Less) names
        → AllByRecursion (λ u. by_bytes last u ≡ Less) names
    through last name [] first above = tt
    through last name (other ∷ names) first above = (
      nat_list_cmp_total.trans last name other first above.0,
      through last name names first above.1,
    )

ascend-from : (last : Option (List ℕ)) (names : List (List ℕ)) → ascend_behind last names ≡ true
    → Ascend names
unfolding IsStrictlySortedBy
ascend-from last [] ascends = tt
ascend-from last (name ∷ names) ascends =
    let parts = and_parts (is_behind last name) (ascend_behind (Some name) names) ascends in
    (all-behind name names parts.1, ascend-from (Some name) names parts.1)

-- ---- names that may stand together

group-other : (names : List (List ℕ)) → list_all is_group_name names ≡ true
    → list_all (list_all is_other) names ≡ true
group-other [] all = refl
group-other (name ∷ names) all =
    let parts = and_parts (is_group_name name) (list_all is_group_name names) all in
    let is = and_parts (is_name name) _ (and_parts _ _ parts.0).0 in
    and_from _ _ (name-other name is.0) (group-other names parts.1)

ascending-stays : (names : List (List ℕ)) → ascend_behind None names ≡ true
    → ascending names ≡ names
ascending-stays names ascends =
    same-ascend (ascending names) names (ascend-ascending names) (ascend-from None names ascends)
    (λ q. has_text-ascending q names)

names-again : (names : List (List ℕ)) → are_names names ≡ true
    → ascending (cut (join_with_byte 44 names)) ≡ names
unfolding are_names
names-again [] are = absurd (cc)
names-again (name ∷ names) are =
    let parts =
    and_parts ((nat_le 1 (length (name ∷ names)) && nat_le (length (name ∷ names)) 8)
    && list_all is_group_name (name ∷ names))
    (ascend_behind None (name ∷ names)) are in
    let all =
    and_parts (nat_le 1 (length (name ∷ names)) && nat_le (length (name ∷ names)) 8)
    (list_all is_group_name (name ∷ names)) parts.0 in
    ap ascending (cut-joined name names (group-other (name ∷ names) all.1))
    ∙ ascending-stays (name ∷ names) parts.1

pub inner-again : (inner : Inner) → IsTrue (is_valid_inner inner)
    → inner_named (inner_text inner) ≡ Some inner
unfolding inner_named
inner-again Public valid = refl
inner-again Private valid = refl
inner-again (Names names) valid =
    ap inner_of (names-again names valid) ∙ inner-read-back (Names names) valid

pub ruleset groups_again = (inner-again)
