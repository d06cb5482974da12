-- Counts that are the sums over rows stay so.
use Rattle.std.proofs.Common.{◌≡◌, ℕ, ◌+◌, ◌-◌, ◌^◌, ◌<◌, ◌≤◌, Bool, true, false, cond, List, [], ◌∷◌, ◌++◌, length, get_or, sym, ap, ◌∙◌, arith}
use Rattle.std.proofs.Math.ListN.{set}
use Rattle.std.specs.List.{sum_by}
use Rattle.std.proofs.lemmas.List.Sums.{sum_by-cons, sum_by_push, sum_by-set, get_or-le-sum_by}
use Rattle.an_slots.specs.Slot.{Slot, same_slot, at}
use Rattle.an_slots.specs.Rows.{part_at, parts_at, AreCounted, added, taken, IsThere}
use Rattle.an_slots.proofs.SlotLemmas.{same_slot-refl}

-- adding parts one after the other adds their sum
pub added-is : (parts : List (Slot × ℕ)) (counts : Slot → ℕ) (slot : Slot)
    → added counts parts slot ≡ counts slot + parts_at parts slot
added-is [] counts slot = nothing (counts slot)
  where
    nothing : (n : ℕ) → n ≡ n + 0
    nothing n = omega arith
added-is (part ∷ parts) counts slot =
    added-is parts (at part.0 (λ m. m + part.1) counts) slot
    ∙ step (same_slot slot part.0) (counts slot) part.1 (parts_at parts slot)
    ∙ ap (λ (n : ℕ). counts slot + n) (sym (sum_by-cons (part_at slot) part parts))
  where
    step : (b : Bool) (m n s : ℕ) → cond b (m + n) m + s ≡ m + (cond b n 0 + s)
    step true m n s = omega arith
    step false m n s = omega arith

-- taking them takes their sum
pub taken-is : (parts : List (Slot × ℕ)) (counts : Slot → ℕ) (slot : Slot)
    → taken counts parts slot ≡ counts slot - parts_at parts slot
taken-is [] counts slot = nothing (counts slot)
  where
    nothing : (n : ℕ) → n ≡ n - 0
    nothing n = omega arith
taken-is (part ∷ parts) counts slot =
    taken-is parts (at part.0 (λ m. m - part.1) counts) slot
    ∙ step (same_slot slot part.0) (counts slot) part.1 (parts_at parts slot)
    ∙ ap (λ (n : ℕ). counts slot - n) (sym (sum_by-cons (part_at slot) part parts))
  where
    step : (b : Bool) (m n s : ℕ) → cond b (m - n) m - s ≡ m - (cond b n 0 + s)
    step true m n s = omega arith
    step false m n s = omega arith

pub there-first : (part : Slot × ℕ) (parts : List (Slot × ℕ)) (counts : Slot → ℕ)
    → IsThere counts (part ∷ parts) → part.1 ≤ counts part.0
there-first part parts counts there =
    let e = sum_by-cons (part_at part.0) part parts in
    let s : part_at part.0 part ≡ part.1 =
    ap (λ (b : Bool). cond b part.1 0) (same_slot-refl part.0) in
    let h = there part.0 in
    omega arith

pub there-rest : (part : Slot × ℕ) (parts : List (Slot × ℕ)) (counts : Slot → ℕ)
    → IsThere counts (part ∷ parts) → IsThere (at part.0 (λ m. m - part.1) counts) parts
there-rest part parts counts there slot =
    step (same_slot slot part.0) (counts slot) part.1 (parts_at parts slot)
    (rw (sum_by-cons (part_at slot) part parts) at (there slot))
  where
    step : (b : Bool) (m n s : ℕ) → cond b n 0 + s ≤ m → s ≤ cond b (m - n) m
    step true m n s h = omega arith
    step false m n s h = omega arith

module _ {A : Type 0} (parts_of : A → List (Slot × ℕ)) (rows : List A) (counts : Slot → ℕ)
    (stands : AreCounted parts_of counts rows) where
  count_is : (slot : Slot) → counts slot ≡ sum_by (λ row. parts_at (parts_of row) slot) rows
  count_is slot = ap (λ (f : Slot → ℕ). f slot) stands

  -- a row behind all
  pub AreCounted-push : (new : A)
      → AreCounted parts_of (added counts (parts_of new)) (rows ++ new ∷ [])
  AreCounted-push new = λ j slot. (
      added-is (parts_of new) counts slot
      ∙ ap (λ (n : ℕ). n + parts_at (parts_of new) slot) (count_is slot)
      ∙ sym (sum_by_push (λ row. parts_at (parts_of row) slot) rows new)) j

  -- what a row counts is there
  pub row-there : (i : ℕ) (old : A) → i < length rows → old ≡ get_or rows i old
      → IsThere counts (parts_of old)
  row-there i old h is slot =
      let low = get_or-le-sum_by (λ row. parts_at (parts_of row) slot) rows i old h in
      let e = count_is slot in
      let same = ap (λ (row : A). parts_at (parts_of row) slot) is in
      omega arith

  -- a row in place of another: each count is what it was, less what the old row has and with what
  -- the new one has
  pub AreCounted-put : (i : ℕ) (old new : A) (after : Slot → ℕ) → i < length rows
      → old ≡ get_or rows i old
      → ((slot : Slot)
      → after slot + parts_at (parts_of old) slot ≡ counts slot + parts_at (parts_of new) slot)
      → AreCounted parts_of after (set rows i new)
  AreCounted-put i old new after h is count = λ j slot. (one slot) j
    where
      one : (slot : Slot)
          → after slot ≡ sum_by (λ row. parts_at (parts_of row) slot) (set rows i new)
      one slot =
          let s = sum_by-set (λ row. parts_at (parts_of row) slot) rows i new old h in
          let e = count_is slot in
          let c = count slot in
          let same = ap (λ (row : A). parts_at (parts_of row) slot) is in
          omega (arith, s, e, c, same)

  -- the old row's parts taken, the new one's added
  pub AreCounted-set : (i : ℕ) (old new : A) → i < length rows → old ≡ get_or rows i old
      → AreCounted parts_of (added (taken counts (parts_of old)) (parts_of new)) (set rows i new)
  AreCounted-set i old new h is = AreCounted-put i old new _ h is (λ slot.
      let a = added-is (parts_of new) (taken counts (parts_of old)) slot in
      let t = taken-is (parts_of old) counts slot in
      let low = row-there i old h is slot in
      omega (arith, a, t, low))

-- ---- one part after the other

module _ (counts new : Slot → ℕ) (all rest : List (Slot × ℕ)) (part : Slot × ℕ)
    (next : all ≡ part ∷ rest) where
  pub taken_step : new ≡ at part.0 (λ m. m - part.1) counts → taken new rest ≡ taken counts all
  taken_step is = ap (λ (f : Slot → ℕ). taken f rest) is ∙ ap (taken counts) (sym next)

  pub added_step : new ≡ at part.0 (λ m. m + part.1) counts → added new rest ≡ added counts all
  added_step is = ap (λ (f : Slot → ℕ). added f rest) is ∙ ap (added counts) (sym next)

  pub small_step : new ≡ at part.0 (λ m. m + part.1) counts
      → ((slot : Slot) → counts slot + parts_at all slot < 2 ^ 128) → (slot : Slot)
      → new slot + parts_at rest slot < 2 ^ 128
  small_step is small slot =
      let e = ap (λ (f : Slot → ℕ). f slot) is in
      let s =
      ap (λ (ps : List (Slot × ℕ)). parts_at ps slot) next ∙ sum_by-cons (part_at slot) part rest in
      let h = small slot in
      step (same_slot slot part.0) (counts slot) part.1 (parts_at rest slot) (new slot) e
      (omega (arith, h, s))
    where
      step : (b : Bool) (m n s x : ℕ) → x ≡ cond b (m + n) m → m + (cond b n 0 + s) < 2 ^ 128
          → x + s < 2 ^ 128
      step true m n s x e h = omega arith
      step false m n s x e h = omega arith

pub small_first : (counts : Slot → ℕ) (all rest : List (Slot × ℕ)) (part : Slot × ℕ)
    → all ≡ part ∷ rest → ((slot : Slot) → counts slot + parts_at all slot < 2 ^ 128)
    → counts part.0 + part.1 < 2 ^ 128
small_first counts all rest part next small =
    let s =
    ap (λ (ps : List (Slot × ℕ)). parts_at ps part.0) next
    ∙ sum_by-cons (part_at part.0) part rest in
    let e : part_at part.0 part ≡ part.1 =
    ap (λ (b : Bool). cond b part.1 0) (same_slot-refl part.0) in
    let h = small part.0 in
    omega (arith, s, e, h)
