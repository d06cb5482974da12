-- Tests of texts, and of the same texts in another order or more often.
use Rattle.std.proofs.Common.{◌≡◌, ℕ, ◌+◌, ◌<◌, List, [], ◌∷◌, length, get_or, drop, Bool, true, false, ◌&&◌, ◌||◌, refl, sym, ap, ◌∙◌, ⊎_elim, drop-cons, add-one, arith}
use Rattle.std.proofs.lemmas.Bool.{and_from, and_parts, both_ways, or_cases, or_left, or_right}
use Rattle.std.proofs.lemmas.Slice.Eq.{bytes_eq-Decides}
use Rattle.std.specs.List.{list_all, list_any}
use Rattle.std.specs.Prelude.{bytes_eq}
use Rattle.an_base.specs.TextSet.{ascending, has_text}
use Rattle.an_base.proofs.AscendLemmas.{has_text-ascending}

-- two tests that pass where the other does are one
pub same_bool : (a b : Bool) → (a ≡ true → b ≡ true) → (b ≡ true → a ≡ true) → a ≡ b
same_bool true b there back = sym (there refl)
same_bool false true there back = back refl
same_bool false false there back = refl

-- ---- what is among texts

pub first_text : (text : List ℕ) (texts : List (List ℕ)) → has_text text (text ∷ texts) ≡ true
first_text text texts =
    or_left (bytes_eq text text) (has_text text texts) ((bytes_eq-Decides text text).1 refl)

later_text : (text first : List ℕ) (texts : List (List ℕ)) → has_text text texts ≡ true
    → has_text text (first ∷ texts) ≡ true
later_text text first texts there = or_right (bytes_eq first text) (has_text text texts) there

-- ---- each of them

module _ (test : List ℕ → Bool) where
  pub all_passes : (texts : List (List ℕ)) (text : List ℕ) → list_all test texts ≡ true
      → has_text text texts ≡ true → test text ≡ true
  all_passes [] text all there = absurd (both_ways false refl there)
  all_passes (first ∷ texts) text all there =
      let parts = and_parts (test first) (list_all test texts) all in
      ⊎_elim (λ same. sym (ap test ((bytes_eq-Decides first text).0 same)) ∙ parts.0)
      (all_passes texts text parts.1) (or_cases (bytes_eq first text) (has_text text texts) there)

  pub all_from : (texts : List (List ℕ))
      → ((text : List ℕ) → has_text text texts ≡ true → test text ≡ true)
      → list_all test texts ≡ true
  all_from [] each = refl
  all_from (first ∷ texts) each =
      and_from (test first) (list_all test texts) (each first (first_text first texts))
      (all_from texts (λ text there. each text (later_text text first texts there)))

  pub all_same : (us vs : List (List ℕ)) → ((text : List ℕ) → has_text text us ≡ has_text text vs)
      → list_all test us ≡ list_all test vs
  all_same us vs same = same_bool (list_all test us) (list_all test vs)
      (λ all. all_from vs (λ text there. all_passes us text all (same text ∙ there)))
      (λ all. all_from us (λ text there. all_passes vs text all (sym (same text) ∙ there)))

  pub all-ascending : (texts : List (List ℕ))
      → list_all test (ascending texts) ≡ list_all test texts
  all-ascending texts = all_same (ascending texts) texts (λ text. has_text-ascending text texts)

  -- ---- one of them

  pub any_from : (texts : List (List ℕ)) (text : List ℕ) → has_text text texts ≡ true
      → test text ≡ true → list_any test texts ≡ true
  any_from [] text there passes = absurd (both_ways false refl there)
  any_from (first ∷ texts) text there passes =
      ⊎_elim (λ same. or_left (test first) (list_any test texts)
      (ap test ((bytes_eq-Decides first text).0 same) ∙ passes))
      (λ found. or_right (test first) (list_any test texts) (any_from texts text found passes))
      (or_cases (bytes_eq first text) (has_text text texts) there)

  pub any_then : (texts : List (List ℕ)) {P : Type 0} → list_any test texts ≡ true
      → ((text : List ℕ) → has_text text texts ≡ true → test text ≡ true → P) → P
  any_then [] any then_it = absurd (both_ways false refl any)
  any_then (first ∷ texts) any then_it =
      ⊎_elim (then_it first (first_text first texts))
      (λ later. any_then texts later
      (λ text there passes. then_it text (later_text text first texts there) passes))
      (or_cases (test first) (list_any test texts) any)

  pub any_same : (us vs : List (List ℕ)) → ((text : List ℕ) → has_text text us ≡ has_text text vs)
      → list_any test us ≡ list_any test vs
  any_same us vs same = same_bool (list_any test us) (list_any test vs)
      (λ any.
      any_then us any (λ text there passes. any_from vs text (sym (same text) ∙ there) passes))
      (λ any. any_then vs any (λ text there passes. any_from us text (same text ∙ there) passes))

  pub any-ascending : (texts : List (List ℕ))
      → list_any test (ascending texts) ≡ list_any test texts
  any-ascending texts = any_same (ascending texts) texts (λ text. has_text-ascending text texts)

-- texts share one with others as the others with them
pub share_back : (us vs : List (List ℕ))
    → list_any (λ text. has_text text us) vs ≡ list_any (λ text. has_text text vs) us
share_back us vs = same_bool _ _ (one us vs) (one vs us)
  where
    one : (us vs : List (List ℕ)) → list_any (λ text. has_text text us) vs ≡ true
        → list_any (λ text. has_text text vs) us ≡ true
    one us vs any =
        any_then (λ text. has_text text us) vs any
        (λ text there among. any_from (λ text. has_text text vs) us text among there)

-- so do the same in order
pub share_ascending : (us vs : List (List ℕ))
    → list_any (λ text. has_text text (ascending us)) (ascending vs)
    ≡ list_any (λ text. has_text text us) vs
share_ascending us vs =
    any-ascending (λ text. has_text text (ascending us)) vs ∙ share_back (ascending us) vs
    ∙ any-ascending (λ text. has_text text vs) us ∙ share_back vs us

-- the only one of texts in order is shared where it is among the others
pub one_shared : (pieces own : List (List ℕ)) → length (ascending own) ≡ 1
    → has_text (get_or (ascending own) 0 []) pieces ≡ list_any (λ piece. has_text piece own) pieces
one_shared pieces own one =
    only (ascending own) one ∙ any-ascending (λ text. has_text text pieces) own
    ∙ share_back pieces own
  where
    or_false : (a : Bool) → a ≡ (a || false)
    or_false true = refl
    or_false false = refl

    only : (texts : List (List ℕ)) → length texts ≡ 1
        → has_text (get_or texts 0 []) pieces ≡ list_any (λ text. has_text text pieces) texts
    only [] one = absurd (omega (arith, one))
    only (text ∷ []) one = or_false (has_text text pieces)
    only (text ∷ other ∷ texts) one = absurd (omega (arith, one))

-- ---- a loop along texts

-- the text at a place is the first of those from there on
pub texts_at : (texts : List (List ℕ)) (place : ℕ) → place < length texts
    → drop place texts ≡ get_or texts place [] ∷ drop (place + 1) texts
texts_at texts place within =
    drop-cons texts place [] within
    ∙ ap (λ n. get_or texts place [] ∷ drop n texts) (sym (add-one place))

module _ (test : List ℕ → Bool) (texts : List (List ℕ)) (place : ℕ)
    (within : place < length texts) where
  pub any_here : (is : Bool) → test (get_or texts place []) ≡ is
      → list_any test (drop place texts) ≡ (is || list_any test (drop (place + 1) texts))
  any_here is passes =
      ap (list_any test) (texts_at texts place within)
      ∙ ap (λ b. b || list_any test (drop (place + 1) texts)) passes

  pub all_here : (is : Bool) → test (get_or texts place []) ≡ is
      → list_all test (drop place texts) ≡ (is && list_all test (drop (place + 1) texts))
  all_here is passes =
      ap (list_all test) (texts_at texts place within)
      ∙ ap (λ b. b && list_all test (drop (place + 1) texts)) passes
