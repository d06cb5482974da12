use Rattle.std.proofs.Common.{arith, sym, ◌∙◌}
use Rattle.an_keyed.proofs.RowLemmas.{length-hashed, place_of-here, place_of-nowhere, other_here}
use Rattle.an_keyed.proofs.WalkLemmas.{walk_goes}
use Rattle.an_keyed.proofs.rows.place_in.Goals as goal

pub offset_bounds-rows-place : goal.offset_bounds-rows-place
offset_bounds-rows-place g c = omega (
  arith,
  c.loop-next.invariant.at_hash c.in-Some.place c.in-Some.is,
  length-hashed g.R.Keyed.key _ _ c.requires.hashed,
)

pub bounds-rows-place : goal.bounds-rows-place
bounds-rows-place g c = omega (
  arith,
  c.loop-next.invariant.at_hash c.in-Some.place c.in-Some.is,
  length-hashed g.R.Keyed.key _ _ c.requires.hashed,
)

pub returns-then-has_key : goal.returns-then-has_key
returns-then-has_key g c =
    let at = c.loop-next.invariant.at_hash c.in-Some.place c.in-Some.is in
    record {
      place =
          sym (place_of-here g.R.Keyed.key _ _ c.requires.hashed _
          c.in-Some.place c.index-rows-place.result at.0 c.index-rows-place.is
          (sym c.has_key.ensures ∙ c.if-has_key.true));
    }

pub before-next-requires : goal.before-next-requires
before-next-requires g c =
    record { place = (c.loop-next.invariant.at_hash c.in-Some.place c.in-Some.is).0 }

pub loop-next-preserved : goal.loop-next-preserved
loop-next-preserved g c =
    let at = c.loop-next.invariant.at_hash c.in-Some.place c.in-Some.is in
    let other =
    other_here g.R.Keyed.key _ _ c.requires.hashed _ c.in-Some.place c.index-rows-place.result at.0
    c.index-rows-place.is (sym c.has_key.ensures ∙ c.if-has_key.false) in
    walk_goes _ _ _ c.in-Some.place _ (rw c.in-Some.is at c.loop-next.invariant) other
    c.before-next.ensures.last

pub returns : goal.returns
returns g c = record {
  place =
      sym (place_of-nowhere g.R.Keyed.key _ _ c.requires.hashed _ c.args.hash c.requires.hash
      (rw c.in_default.is at c.loop-next.invariant));
}
