-- The terms of the annotations on several manifests, one manifest after the other.
use Rattle.std.proofs.Common.{◌≡◌, ℕ, zero, suc, ◌+◌, ◌<◌, ◌≤◌, List, [], ◌∷◌, ◌++◌, length, get_or, take, drop, Bool, true, nat_eq, Bor, refl, sym, ap, ◌∙◌, arith, append_assoc, append-nil}
use Rattle.std.specs.Prelude.{filter}
use Rattle.std.specs.List.{flat_map, starts_with, sum_by}
use Rattle.std.proofs.lemmas.List.{take_more}
use Rattle.std.proofs.lemmas.List.Sums.{sum_by-append}
use Rattle.an_base.specs.Totals.{Adds, totals_of, with_prefix}
use Rattle.an_base.specs.declared.span.TermTotal.{TermTotal}
use Rattle.an_search.specs.Gathered.{each_once, is_on_one, lent_names}
use Rattle.an_search.specs.Wanted.{matches}
use Rattle.an_search.specs.declared.wanted.Wanted.{Wanted}
use Rattle.an_state.specs.State.{NoteState}
use Rattle.an_state.specs.Terms.{terms_in, terms_of_row, totals_in}
use Rattle.an_state.specs.View.{View, is_on}
use Rattle.an_complete.specs.Complete.{asked_notes, asked_notes_on}
use Rattle.an_search.proofs.ApartLemmas.{on-apart, swapped}
use Rattle.an_complete.proofs.GatheredTotals.{filter-flat, totals-gathered}

-- ---- all manifests

flat-same : {B : Type 0} (f g : List ℕ → List B) → ((m : List ℕ) → f m ≡ g m) → (ms : List (List ℕ))
    → flat_map f ms ≡ flat_map g ms
flat-same f g same [] = refl
flat-same f g same (m ∷ ms) = rw (same m, flat-same f g same ms) refl

module _ (view : View) (filters : Wanted) (prefix : List ℕ) where
  terms_on : List ℕ → List (List ℕ)
  terms_on m = terms_in prefix (asked_notes view m filters)

  passed : List NoteState
  passed = filter (matches filters) view.notes

  of_row : NoteState → List (List ℕ)
  of_row row = with_prefix prefix (terms_of_row row)

  terms-passed : (on : NoteState → Bool)
      → terms_in prefix (filter (matches filters) (filter on view.notes))
      ≡ flat_map of_row (filter on passed)
  unfolding passed of_row
  terms-passed on =
      ap (terms_in prefix) (swapped (matches filters) on view.notes)
      ∙ filter-flat (λ term. starts_with nat_eq term prefix) terms_of_row
      (filter on (filter (matches filters) view.notes))

  pub gathered-totals : (ms : List (List ℕ)) → each_once ms ≡ true
      → totals_of (flat_map (λ m. terms_in prefix (asked_notes view m filters)) ms)
      ≡ totals_in prefix (asked_notes_on view ms filters)
  gathered-totals ms once =
      ap totals_of (flat-same (λ m. terms_in prefix (asked_notes view m filters))
      (λ m. flat_map of_row (filter (is_on m) passed)) (λ m. terms-passed (is_on m)) ms)
      ∙ totals-gathered is_on of_row ms (on-apart ms once) passed
      ∙ ap totals_of (sym (terms-passed (is_on_one ms)))

-- ---- one manifest more

flat-append : {B : Type 0} (f : List ℕ → List B) (xs ys : List (List ℕ))
    → flat_map f (xs ++ ys) ≡ flat_map f xs ++ flat_map f ys
flat-append f [] ys = refl
flat-append f (x ∷ xs) ys =
    ap (λ l. f x ++ l) (flat-append f xs ys)
    ∙ sym (append_assoc (f x) (flat_map f xs) (flat_map f ys))

lent-append : (xs ys : List (Bor (List ℕ))) → lent_names (xs ++ ys) ≡ lent_names xs ++ lent_names ys
lent-append [] ys = refl
lent-append (x ∷ xs) ys = ap (λ (l : List (List ℕ)). x.now ∷ l) (lent-append xs ys)

module _ (ms : List (Bor (List ℕ))) (i : ℕ) (item : Bor (List ℕ)) (within : i < length ms)
    (is : item ≡ get_or ms i item) where
  lent-more : lent_names (take (i + 1) ms) ≡ lent_names (take i ms) ++ item.now ∷ []
  lent-more =
      ap lent_names (take_more ms i item within) ∙ lent-append (take i ms) (get_or ms i item ∷ [])
      ∙ ap (λ (l : Bor (List ℕ)). lent_names (take i ms) ++ l.now ∷ []) (sym is)

  pub totals-more : (f : List ℕ → List (List ℕ)) (old new more : List TermTotal)
      → ((terms : List (List ℕ)) → more ≡ totals_of terms → Adds old new terms)
      → more ≡ totals_of (f item.now) → old ≡ totals_of (flat_map f (lent_names (take i ms)))
      → new ≡ totals_of (flat_map f (lent_names (take (i + 1) ms)))
  totals-more f old new more adds is_more so_far =
      adds (f item.now) is_more (flat_map f (lent_names (take i ms))) so_far
      ∙ ap totals_of
      (ap (λ l. flat_map f (lent_names (take i ms)) ++ l) (sym (append-nil (f item.now)))
      ∙ sym (flat-append f (lent_names (take i ms)) (item.now ∷ []))
      ∙ ap (flat_map f) (sym lent-more))

  pub sum-more : (f : List ℕ → ℕ)
      → sum_by f (lent_names (take (i + 1) ms)) ≡ sum_by f (lent_names (take i ms)) + f item.now
  sum-more f =
      ap (sum_by f) lent-more ∙ sum_by-append f (lent_names (take i ms)) (item.now ∷ [])
      ∙ omega arith

-- what comes first costs no more than all
pub sum-first : (f : List ℕ → ℕ) (ms : List (Bor (List ℕ))) (i : ℕ)
    → sum_by f (lent_names (take i ms)) ≤ sum_by f (lent_names ms)
sum-first f ms i =
    let all = ap (λ l. sum_by f (lent_names l)) (take-drop i ms) in
    let parts =
    ap (sum_by f) (lent-append (take i ms) (drop i ms))
    ∙ sum_by-append f (lent_names (take i ms)) (lent_names (drop i ms)) in
    omega (arith, all, parts)
  where
    take-drop : (n : ℕ) (ls : List (Bor (List ℕ))) → take n ls ++ drop n ls ≡ ls
    take-drop zero ls = refl
    take-drop (suc n) [] = refl
    take-drop (suc n) (l ∷ ls) = ap (λ (xs : List (Bor (List ℕ))). l ∷ xs) (take-drop n ls)
