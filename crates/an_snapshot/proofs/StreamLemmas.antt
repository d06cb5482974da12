-- Changes as a caller sees them.
use Rattle.std.proofs.Common.{◌≡◌, ℕ, ◌<◌, ◌≤◌, ◌^◌, max, Bor, inl, inr, List, All, drop, map, take, sym, ap, subst, arith}
use Rattle.std.proofs.lemmas.Bool.{cases_lt}
use Rattle.an_slots.specs.Places.{Rises}
use Rattle.an_snapshot.specs.Changes.{numbers_in, seen_by_kinds}
use Rattle.an_snapshot.specs.PairLists.{all_below}
use Rattle.an_snapshot.specs.Stream.{IsStream}
use Rattle.an_snapshot.specs.declared.stream.Stream.{Stream}
use Rattle.an_snapshot.proofs.PageLemmas.{below-few, none-between}
use Rattle.an_snapshot.proofs.SeenListLemmas.{all-behind, rise-filed}

module _ (stream : Stream) (is : IsStream stream) where
  pub lists-rise : All (λ (l : Bor (List ℕ)). Rises 0 l.now) stream.lists.now
  lists-rise =
      all-behind (Rises 0) stream.lists.now
      (subst (All (Rises 0)) (sym is.lists)
      (rise-filed stream.kinds.now (numbers_in (take stream.filed.now.count stream.rows.now))
      stream.filed.now is.filed))

  pub few-below : (place : ℕ) → all_below place (map (λ l. l.now) stream.lists.now) < 2 ^ 64
  few-below place =
      let same = ap (all_below place) is.lists in
      let few =
      below-few stream.kinds.now stream.rows.now stream.filed.now is.within is.filed place in
      omega (arith, same, few, is.few)

  -- between a place and the next that no more places stand below nothing is seen
  pub skipped : (place next : ℕ) → place ≤ next → next ≤ max place stream.filed.now.count
      → all_below next (map (λ l. l.now) stream.lists.now)
      ≤ all_below place (map (λ l. l.now) stream.lists.now)
      → seen_by_kinds stream.kinds.now (drop next stream.rows.now)
      ≡ seen_by_kinds stream.kinds.now (drop place stream.rows.now)
  skipped place next after within few = elim (cases_lt place next) [
    | inl less ↦
        let one = ap (all_below place) is.lists in
        let two = ap (all_below next) is.lists in
        none-between stream.kinds.now stream.rows.now stream.filed.now is.within is.filed place next
        after (omega (arith, less, within)) (omega (arith, one, two, few))
    | inr not ↦
        let same : next ≡ place = omega (arith, after, not) in
        ap (λ (n : ℕ). seen_by_kinds stream.kinds.now (drop n stream.rows.now)) same
  ]
