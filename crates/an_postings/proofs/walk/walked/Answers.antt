use Rattle.std.proofs.Common.{ℕ, ◌+◌, List, ◌∷◌, [], ◌++◌, ◌∙◌, ap, arith, cond, drop, get_or, refl, subst, sym}
use Rattle.std.specs.Prelude.{filter}
use Rattle.an_slots.specs.Places.{Rises, has}
use Rattle.an_postings.specs.Walk.{is_first, not_below}
use Rattle.an_postings.proofs.WalkLemmas.{walked_on, Rises-behind, Rises-not_below}
use Rattle.an_postings.proofs.walk.walked.Goals as goal

pub loop-place-preserved : goal.loop-place-preserved
loop-place-preserved c =
    let places = c.args.places.now in
    let at = c.loop-place.place-index in
    let place = get_or places at 0 in
    let so_far = c.loop-place.common.items in
    let left : List ℕ → List ℕ = λ rest. filter (λ place. has place rest) (drop (at + 1) places) in
    let with : List ℕ → List ℕ =
    λ rest. cond (is_first place rest) (so_far ++ place ∷ []) so_far ++ left rest in
    record {
      gathered = ap (λ items. items ++ left c.not_below-rest.result.now) c.push_if.ensures.items
          ∙ ap (λ is. cond is (so_far ++ place ∷ []) so_far ++ left c.not_below-rest.result.now)
          c.is_first.ensures
          ∙ ap with c.not_below-rest.ensures
          ∙ walked_on so_far places c.loop-place.rest.now _ at c.loop-place-test.true
          c.loop-place.invariant.places c.loop-place.invariant.rest c.loop-place.invariant.gathered
          (is_first place (not_below place c.loop-place.rest.now)) refl;
      places = Rises-behind places at c.loop-place-test.true c.loop-place.invariant.places;
      rest =
          subst (Rises 0) (sym c.not_below-rest.ensures)
          (Rises-not_below 0 _ c.loop-place.rest.now c.loop-place.invariant.rest);
      room = omega (
        arith,
        c.loop-place-test.true,
        c.push_if.ensures.len,
        c.push_if.ensures.capacity,
        c.loop-place.invariant.room,
      );
    }
