-- A row has each of its slots once, and what it has there fits in 64 bits.
use Rattle.std.proofs.Common.{◌≡◌, ℕ, ◌+◌, ◌-◌, ◌^◌, ◌≤◌, Bool, true, false, cond, eqb, ◌&&◌, List, [], ◌∷◌, map, Option, Some, None, ap, ◌∙◌, refl, arith}
use Rattle.std.specs.Prelude.{bytes_eq, count_by}
use Rattle.std.specs.List.Sorted.{IsStrictlySortedBy}
use Rattle.std.proofs.lemmas.List.Sums.{sum_by-cons}
use Rattle.std.proofs.lemmas.Slice.Eq.{bytes_eq-Decides}
use Rattle.an_base.specs.TextSet.{Ascend, ascending}
use Rattle.an_base.specs.Totals.{capped, total_of, totals_of}
use Rattle.an_base.specs.declared.span.TermTotal.{TermTotal}
use Rattle.an_base.proofs.AscendLemmas.{Above, ascend-ascending, before-other, bytes_eq-turned}
use Rattle.an_model.specs.Bodies.{note_terms}
use Rattle.an_slots.specs.Rows.{part_at, parts, parts_at}
use Rattle.an_slots.specs.Slot.{Slot, same_slot, slot_of}
use Rattle.an_state.specs.State.{LiveNote}
use Rattle.an_listed.specs.Keys.{empty_term, parts_by}
use Rattle.an_listed.specs.Room.{times}
use Rattle.an_listed.specs.declared.filed.Filed.{Filed}
use Rattle.an_listed.specs.declared.kind.Kind.{Kind}
use Rattle.an_listed.specs.declared.kind.Kind.TheVariants.{Words, Anywhere, Whole}
use Rattle.an_listed.proofs.RoomLemmas.{times-cons}

capped-most : (n : ℕ) → capped n ≤ 2 ^ 64 - 1
unfolding capped
capped-most n = omega arith

-- how a slot counts in the parts of terms that ascend: at most once, and no more than 64 bits tell
module _ (m : List ℕ) (c : ℕ) (terms : List (List ℕ)) (slot : Slot) where
  abbrev told : List (List ℕ) → List TermTotal
  told us = map (total_of terms) us

  shut : (a b d : Bool) (n : ℕ) → b ≡ false → cond (a && (b && d)) n 0 ≡ 0
  shut true true d n h = cc
  shut true false d n h = refl
  shut false b d n h = refl

  none-times : (u : List ℕ) (us : List (List ℕ)) → slot.term ≡ u → Above u us
      → times slot (parts m c (told us)) ≡ 0
  none-times u [] is above = refl
  none-times u (v ∷ us) is above =
      let apart : bytes_eq slot.term v ≡ false =
      ap (λ (x : List ℕ). bytes_eq x v) is ∙ bytes_eq-turned u v ∙ before-other u v above.0 in
      let e = times-cons slot (slot_of m v c, (total_of terms v).total) (parts m c (told us)) in
      let first =
      shut (bytes_eq slot.manifest m) (bytes_eq slot.term v) (eqb slot.class c) 1 apart in
      let rest = none-times u us is above.1 in
      omega (arith, e, first, rest)

  none-parts : (u : List ℕ) (us : List (List ℕ)) → slot.term ≡ u → Above u us
      → parts_at (parts m c (told us)) slot ≡ 0
  none-parts u [] is above = refl
  none-parts u (v ∷ us) is above =
      let apart : bytes_eq slot.term v ≡ false =
      ap (λ (x : List ℕ). bytes_eq x v) is ∙ bytes_eq-turned u v ∙ before-other u v above.0 in
      let e =
      sum_by-cons (part_at slot) (slot_of m v c, (total_of terms v).total) (parts m c (told us)) in
      let first =
      shut (bytes_eq slot.manifest m) (bytes_eq slot.term v) (eqb slot.class c)
      (total_of terms v).total apart in
      let rest = none-parts u us is above.1 in
      omega (arith, e, first, rest)

  -- one part and those behind it, of which the first leaves the others nothing
  at_most : (a b d : Bool) (n s w most : ℕ) → w ≡ cond (a && (b && d)) n 0 + s → (b ≡ true → s ≡ 0)
      → n ≤ most → s ≤ most → w ≤ most
  at_most true true true n s w most e none small rest = let z = none refl in omega arith
  at_most true true false n s w most e none small rest = omega arith
  at_most true false d n s w most e none small rest = omega arith
  at_most false b d n s w most e none small rest = omega arith

  once-told : (us : List (List ℕ)) → Ascend us → times slot (parts m c (told us)) ≤ 1
  unfolding IsStrictlySortedBy
  once-told [] up = omega arith
  once-told (u ∷ us) up =
      at_most (bytes_eq slot.manifest m) (bytes_eq slot.term u) (eqb slot.class c) 1
      (times slot (parts m c (told us))) (times slot (parts m c (told (u ∷ us)))) 1
      (times-cons slot (slot_of m u c, (total_of terms u).total) (parts m c (told us)))
      (λ h. none-times u us ((bytes_eq-Decides slot.term u).0 h) up.0) (omega arith)
      (once-told us up.1)

  fits-told : (us : List (List ℕ)) → Ascend us → parts_at (parts m c (told us)) slot ≤ 2 ^ 64 - 1
  unfolding IsStrictlySortedBy
  fits-told [] up = omega arith
  fits-told (u ∷ us) up =
      at_most (bytes_eq slot.manifest m) (bytes_eq slot.term u) (eqb slot.class c)
      (total_of terms u).total (parts_at (parts m c (told us)) slot)
      (parts_at (parts m c (told (u ∷ us))) slot) (2 ^ 64 - 1)
      (sum_by-cons (part_at slot) (slot_of m u c, (total_of terms u).total) (parts m c (told us)))
      (λ h. none-parts u us ((bytes_eq-Decides slot.term u).0 h) up.0)
      (capped-most (count_by (bytes_eq u) terms)) (fits-told us up.1)

totals-once : (m : List ℕ) (c : ℕ) (terms : List (List ℕ)) (slot : Slot)
    → times slot (parts m c (totals_of terms)) ≤ 1
unfolding totals_of
totals-once m c terms slot = once-told m c terms slot (ascending terms) (ascend-ascending terms)

totals-fit : (m : List ℕ) (c : ℕ) (terms : List (List ℕ)) (slot : Slot)
    → parts_at (parts m c (totals_of terms)) slot ≤ 2 ^ 64 - 1
unfolding totals_of
totals-fit m c terms slot = fits-told m c terms slot (ascending terms) (ascend-ascending terms)

module _ (kind : Kind) (row : Filed) (slot : Slot) where
  pub keys-once : times slot (parts_by kind row) ≤ 1
  keys-once = by kind row.note.live refl
    where
      one : (b : Bool) (w : ℕ) → w ≡ cond b 1 0 + 0 → w ≤ 1
      one true w e = omega arith
      one false w e = omega arith

      by : (kind : Kind) (live : Option LiveNote) → row.note.live ≡ live
          → times slot (parts_by kind row) ≤ 1
      by kind None is = rw is (omega arith)
      by Words (Some live) is =
          rw is (totals-once live.manifest row.class (note_terms live.tree) slot)
      by Anywhere (Some live) is = rw is (totals-once [] row.class (note_terms live.tree) slot)
      by Whole (Some live) is =
          rw is (one (same_slot slot (slot_of live.manifest [] row.class))
          (times slot (parts live.manifest row.class (empty_term ∷ [])))
          (times-cons slot (slot_of live.manifest [] row.class, 0) []))

  pub keys-fit : parts_at (parts_by kind row) slot ≤ 2 ^ 64 - 1
  keys-fit = by kind row.note.live refl
    where
      one : (b : Bool) (w : ℕ) → w ≡ cond b 0 0 + 0 → w ≤ 2 ^ 64 - 1
      one true w e = omega arith
      one false w e = omega arith

      by : (kind : Kind) (live : Option LiveNote) → row.note.live ≡ live
          → parts_at (parts_by kind row) slot ≤ 2 ^ 64 - 1
      by kind None is = rw is (omega arith)
      by Words (Some live) is =
          rw is (totals-fit live.manifest row.class (note_terms live.tree) slot)
      by Anywhere (Some live) is = rw is (totals-fit [] row.class (note_terms live.tree) slot)
      by Whole (Some live) is =
          rw is (one (same_slot slot (slot_of live.manifest [] row.class))
          (parts_at (parts live.manifest row.class (empty_term ∷ [])) slot)
          (sum_by-cons (part_at slot) (slot_of live.manifest [] row.class, 0) []))
