-- One part after the other.
use Rattle.std.proofs.Common.{◌≡◌, ℕ, zero, suc, ◌+◌, ◌<◌, ◌≤◌, Bool, true, false, ◌||◌, List, [], ◌∷◌, ◌⊎◌, inl, inr, length, get_or, drop, map, sym, subst, refl, arith}
use Rattle.an_base.specs.declared.span.TermTotal.{TermTotal}
use Rattle.an_slots.specs.Rows.{parts, is_posted}
use Rattle.an_slots.specs.Slot.{Slot, slot_of, same_slot}
use Rattle.an_slots.proofs.SlotLemmas.{same_slot-true, same_slot-refl}

pub parts-next : (manifest : List ℕ) (class : ℕ) (terms : List TermTotal) (i : ℕ) (item : TermTotal)
    (term : List ℕ) → i < length terms → item ≡ get_or terms i item → term ≡ item.term
    → parts manifest class (drop i terms)
    ≡ (slot_of manifest term class, item.total) ∷ parts manifest class (drop (i + 1) terms)
parts-next manifest class [] i item term h is same = absurd (omega arith)
parts-next manifest class (t ∷ ts) zero item term h is same = rw (same, is) refl
parts-next manifest class (t ∷ ts) (suc i) item term h is same =
    let e : suc i + 1 ≡ suc (i + 1) = omega arith in
    rw e (parts-next manifest class ts i item term (omega arith) is same)

-- the same, where the terms and the numbers are looked up apart
pub parts-listed : (manifest : List ℕ) (class : ℕ) (terms : List TermTotal) (i : ℕ)
    (term : List ℕ) (total : ℕ) → i < length terms → term ≡ get_or (map (λ t. t.term) terms) i []
    → total ≡ get_or (map (λ t. t.total) terms) i 0
    → parts manifest class (drop i terms)
    ≡ (slot_of manifest term class, total) ∷ parts manifest class (drop (i + 1) terms)
parts-listed manifest class [] i term total h is number = absurd (omega arith)
parts-listed manifest class (t ∷ ts) zero term total h is number = rw (is, number) refl
parts-listed manifest class (t ∷ ts) (suc i) term total h is number =
    let e : suc i + 1 ≡ suc (i + 1) = omega arith in
    rw e (parts-listed manifest class ts i term total (omega arith) is number)

-- what holds at the slot of each part holds at that of the first, and of each other
module _ (all rest : List (Slot × ℕ)) (part : Slot × ℕ) (next : all ≡ part ∷ rest) where
  pub each-first : (P : Slot → Type 0) → ((s : Slot) → is_posted s all ≡ true → P s) → P part.0
  each-first P each = each part.0 (rw (next, same_slot-refl part.0) refl)

  pub each-rest : (P : Slot → Type 0) → ((s : Slot) → is_posted s all ≡ true → P s) → (s : Slot)
      → is_posted s rest ≡ true → P s
  each-rest P each s h = each s (rw next (second (same_slot s part.0) (is_posted s rest) h))
    where
      second : (a b : Bool) → b ≡ true → (a || b) ≡ true
      second true b e = refl
      second false b e = e

  -- it holds at a slot, or the slot is still to come
  pub done-step : (P Q : Slot → Type 0) → ((s : Slot) → P s → Q s) → Q part.0 → (s : Slot)
      → P s ⊎ (is_posted s all ≡ true) → Q s ⊎ (is_posted s rest ≡ true)
  done-step P Q kept here s (inl h) = inl (kept s h)
  done-step P Q kept here s (inr h) =
      split (same_slot s part.0) (is_posted s rest)
      (λ e. subst Q (sym (same_slot-true s part.0 e)) here) (rw next at h)
    where
      split : {A : Type 0} (a b : Bool) → (a ≡ true → A) → (a || b) ≡ true → A ⊎ (b ≡ true)
      split true b f e = inl (f refl)
      split false b f e = inr e

pub parts-done : (manifest : List ℕ) (class : ℕ) (terms : List TermTotal) (i : ℕ) → length terms ≤ i
    → parts manifest class (drop i terms) ≡ []
parts-done manifest class [] zero h = refl
parts-done manifest class [] (suc i) h = refl
parts-done manifest class (t ∷ ts) zero h = absurd (omega arith)
parts-done manifest class (t ∷ ts) (suc i) h = parts-done manifest class ts i (omega arith)

pub done-end : (P : Slot → Type 0) (left : List (Slot × ℕ)) → left ≡ [] → (s : Slot)
    → P s ⊎ (is_posted s left ≡ true) → P s
done-end P left e s (inl h) = h
done-end P left e s (inr h) = let no = rw e at h in absurd (cc)
