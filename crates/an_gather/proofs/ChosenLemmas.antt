-- Chosen names, each once.
use Rattle.std.proofs.Common.{◌≡◌, ℕ, List, [], ◌∷◌, Bool, true, false, cond, ◌&&◌, Bor, refl, sym, ap, ◌∙◌}
use Rattle.std.proofs.lemmas.Bool.{both_ways}
use Rattle.std.specs.Prelude.{filter, not}
use Rattle.std.specs.List.Sorted.{IsStrictlySortedBy}
use Rattle.an_base.specs.TextSet.{Ascend, ascending, has_text}
use Rattle.an_base.proofs.AscendLemmas.{ascend-ascending, has_text-filter, none-above}
use Rattle.an_search.specs.Gathered.{each_once, lent_names, searched}
use Rattle.an_state.specs.View.{View}
use Rattle.an_gather.specs.Chosen.{chosen, is_shown, scope_of}

above_once : (us : List (List ℕ)) → Ascend us → each_once us ≡ true
unfolding IsStrictlySortedBy
above_once [] ascends = refl
above_once (u ∷ us) ascends = rw (none-above u us ascends.0) (above_once us ascends.1)

-- texts in the order of their bytes each stand once
pub ascending-once : (texts : List (List ℕ)) → each_once (ascending texts) ≡ true
ascending-once texts = above_once (ascending texts) (ascend-ascending texts)

pub once-filter : (p : List ℕ → Bool) (us : List (List ℕ)) → each_once us ≡ true
    → each_once (filter p us) ≡ true
once-filter p [] once = refl
once-filter p (u ∷ us) once = by (has_text u us) refl (p u) refl (once-filter p us)
  where
    by : (h : Bool) → has_text u us ≡ h → (b : Bool) → p u ≡ b
        → (each_once us ≡ true → each_once (filter p us) ≡ true)
        → each_once (cond b (u ∷ filter p us) (filter p us)) ≡ true
    by true there b is later =
        absurd (both_ways false refl (sym (ap (λ t. not t && each_once us) there) ∙ once))
    by false nowhere false is later = later (sym (ap (λ t. not t && each_once us) nowhere) ∙ once)
    by false nowhere true is later =
        let none : has_text u (filter p us) ≡ false =
        has_text-filter p u us ∙ ap (λ t. t && p u) nowhere in
        rw none (later (sym (ap (λ t. not t && each_once us) nowhere) ∙ once))

-- names that are looked up each stand once
pub chosen_once : (p : List ℕ → Bool) (texts : List (List ℕ))
    → each_once (filter p (ascending texts)) ≡ true
chosen_once p texts = once-filter p (ascending texts) (ascending-once texts)

-- all are chosen where none is named, and else those of the names that are shown
pub chosen-searched : (view : View) (names : List (List ℕ)) (found : List (Bor (List ℕ)))
    → lent_names found ≡ filter (is_shown view) (ascending names)
    → searched view (scope_of names) found ≡ chosen view names
chosen-searched view [] found are = refl
chosen-searched view (name ∷ names) found are = are
