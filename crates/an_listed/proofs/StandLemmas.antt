-- What stands for rows stands for them once a row is put.
use Rattle.std.proofs.Common.{◌≡◌, ℕ, ◌+◌, ◌*◌, ◌-◌, ◌^◌, ◌<◌, ◌≤◌, List, [], ◌∷◌, ◌++◌, length, get_or, ap, ◌∙◌, arith}
use Rattle.std.proofs.Math.ListN.{set}
use Rattle.std.specs.List.{sum_by}
use Rattle.std.proofs.lemmas.List.Sums.{sum_by-cons}
use Rattle.an_postings.specs.Postings.{Lists, count_in, places_in}
use Rattle.an_slots.specs.Rows.{IsThere, added, parts_at, posted, taken, unposted}
use Rattle.an_slots.specs.Slot.{Slot}
use Rattle.an_slots.proofs.ChangeLemmas.{AreListed-push}
use Rattle.an_slots.proofs.SumLemmas.{AreCounted-push, AreCounted-set, row-there, taken-is}
use Rattle.an_listed.specs.Keys.{parts_by}
use Rattle.an_listed.specs.Left.{left_parts}
use Rattle.an_listed.specs.Stands.{AreOf}
use Rattle.an_listed.specs.declared.filed.Filed.{Filed}
use Rattle.an_listed.specs.declared.kind.Kind.{Kind}
use Rattle.an_listed.proofs.LeftLemmas.{AreListed-left, left-all}
use Rattle.an_listed.proofs.OnceLemmas.{keys-fit}

module _ (kind : Kind) (lists : Lists) (rows : List Filed) (of : AreOf kind lists rows) where
  pub of-there : (place : ℕ) (old : Filed) → place < length rows → old ≡ get_or rows place old
      → IsThere (count_in lists) (parts_by kind old)
  of-there place old h is = row-there (parts_by kind) rows (count_in lists) of.counts place old h is

  sum-few : (slot : Slot) (rs : List Filed)
      → sum_by (λ row. parts_at (parts_by kind row) slot) rs ≤ length rs * (2 ^ 64 - 1)
  sum-few slot [] = omega arith
  sum-few slot (row ∷ rs) =
      let e = sum_by-cons (λ (row : Filed). parts_at (parts_by kind row) slot) row rs in
      let one = keys-fit kind row slot in
      let rest = sum-few slot rs in
      omega (arith, e, one, rest)

  -- a count takes what one row more has
  pub of-small : length rows ≤ 2 ^ 32 → (new : Filed) (slot : Slot)
      → count_in lists slot + parts_at (parts_by kind new) slot < 2 ^ 128
  of-small few new slot =
      let is = ap (λ (f : Slot → ℕ). f slot) of.counts in
      let sum = sum-few slot rows in
      let one = keys-fit kind new slot in
      omega (arith, is, sum, one, few)

  -- and does so once another was taken
  pub small-taken : length rows ≤ 2 ^ 32 → (old new : Filed) (counts : Slot → ℕ)
      → counts ≡ taken (count_in lists) (parts_by kind old) → (slot : Slot)
      → counts slot + parts_at (parts_by kind new) slot < 2 ^ 128
  small-taken few old new counts is slot =
      let e =
      ap (λ (f : Slot → ℕ). f slot) is ∙ taken-is (parts_by kind old) (count_in lists) slot in
      let small = of-small few new slot in
      omega (arith, e, small)

  pub of-set : (after : Lists) (place : ℕ) (old new : Filed) → place < length rows
      → old ≡ get_or rows place old
      → places_in after
      ≡ posted place
      (unposted place (places_in lists) (left_parts (parts_by kind new) (parts_by kind old)))
      (parts_by kind new)
      → count_in after ≡ added (taken (count_in lists) (parts_by kind old)) (parts_by kind new)
      → AreOf kind after (set rows place new)
  of-set after place old new h is places counts = record {
    places =
        places
        ∙ AreListed-left (parts_by kind) rows (places_in lists) of.places place old new h is
        (left_parts (parts_by kind new) (parts_by kind old))
        (λ slot none. left-all slot (parts_by kind old) (parts_by kind new) none);
    counts =
        counts ∙ AreCounted-set (parts_by kind) rows (count_in lists) of.counts place old new h is;
  }

  pub of-push : (after : Lists) (new : Filed)
      → places_in after ≡ posted (length rows) (places_in lists) (parts_by kind new)
      → count_in after ≡ added (count_in lists) (parts_by kind new)
      → AreOf kind after (rows ++ new ∷ [])
  of-push after new places counts = record {
    places = places ∙ AreListed-push (parts_by kind) rows (places_in lists) of.places new;
    counts = counts ∙ AreCounted-push (parts_by kind) rows (count_in lists) of.counts new;
  }
