-- A set of lent texts with one more.
use Rattle.std.proofs.Common.{◌≡◌, ℕ, List, Bool, true, false, ◌||◌, ⊎_elim, sym, ap, subst, ◌∙◌}
use Rattle.std.specs.Prelude.{bytes_eq}
use Rattle.std.specs.List.{list_any}
use Rattle.std.specs.Cmp.Lexicographic.{slice_cmp, nat_list_cmp_total, nat_list_eq_equiv, bytes_decides}
use Rattle.std.specs.Cmp.{eq_by_cmp_equiv}
use Rattle.std.specs.Ordering.{is_eq, nat_cmp}
use Rattle.std.specs.BTreeSet.{BTreeSet, UpdatesBy}
use Rattle.std.specs.Set.{KeepsOthers}
use Rattle.std.specs.Map.{IsKeyTest, AreApart}
use Rattle.std.proofs.lemmas.Map.Text.{is_eq-slice_cmp}
use Rattle.std.proofs.lemmas.Bool.{cases_Bool}
use Rattle.an_query.specs.Lent.{is_lent}
use denote.Ref.{Bor}

apart : (bs cs ks : List ℕ) → bytes_eq bs cs ≡ false → is_eq (slice_cmp nat_cmp bs ks) ≡ true
    → is_eq (slice_cmp nat_cmp cs ks) ≡ false
apart bs cs ks n y =
    is_eq-slice_cmp cs ks
    ∙ (nat_list_eq_equiv.symm cs ks
    ∙ sym (nat_list_eq_equiv.congr bs ks cs (sym (is_eq-slice_cmp bs ks) ∙ y)) ∙ n)

other_keys : {K : Type 0} (eq : K → K → Bool) (test : K → Bool) (old new : List K)
    → KeepsOthers eq test old new → (other : K → Bool) → IsKeyTest eq other → AreApart test other
    → list_any other new ≡ list_any other old
unfolding KeepsOthers
other_keys eq test old new h = h

pub lent-added : (old new : BTreeSet (Bor (List ℕ))) (text : List ℕ)
    → UpdatesBy (λ x y. slice_cmp nat_cmp x.now y.now)
    (λ k. slice_cmp nat_cmp text k.now) old new true
    → (other : List ℕ) → is_lent other new ≡ (bytes_eq text other || is_lent other old)
lent-added old new text h other =
    ⊎_elim
    (λ y. subst (λ t. is_lent t new ≡ true) ((bytes_decides text other).0 y) h.1
    ∙ ap (λ b. b || is_lent other old) (sym y))
    (λ n. other_keys _ _ _ _ h.3 _
    (λ x y. (eq_by_cmp_equiv nat_list_cmp_total).congr other x.now y.now)
    (λ k. apart text other k.now n)
    ∙ ap (λ b. b || is_lent other old) (sym n))
    (cases_Bool (bytes_eq text other))
