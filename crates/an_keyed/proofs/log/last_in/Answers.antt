use Rattle.std.proofs.Common.{arith, sym, ◌∙◌}
use Rattle.an_keyed.proofs.LogLemmas.{below-end, last-here, last-nowhere, length-logged, other-here, walk-on}
use Rattle.an_keyed.proofs.log.last_in.Goals as goal

pub offset_bounds-items-place : goal.offset_bounds-items-place
offset_bounds-items-place g c =
    let walk = rw c.in-Some.is at c.loop-next.invariant in
    omega (
      arith,
      below-end g.R.Keyed.key _ _ _ c.requires.hashed c.requires.end _ _ c.in-Some.place walk,
    )

pub bounds-items-place : goal.bounds-items-place
bounds-items-place g c =
    let walk = rw c.in-Some.is at c.loop-next.invariant in
    omega (
      arith,
      below-end g.R.Keyed.key _ _ _ c.requires.hashed c.requires.end _ _ c.in-Some.place walk,
    )

pub returns-then-has_key : goal.returns-then-has_key
returns-then-has_key g c =
    let walk = rw c.in-Some.is at c.loop-next.invariant in
    record {
      last =
          last-here g.R.Keyed.key _ _ _ c.requires.hashed c.requires.end _
          c.in-Some.place c.index-items-place.result walk c.index-items-place.is
          (sym c.has_key.ensures ∙ c.if-has_key.true);
    }

pub before-next-requires : goal.before-next-requires
before-next-requires g c =
    let walk = rw c.in-Some.is at c.loop-next.invariant in
    record {
      place = omega (
        arith,
        below-end g.R.Keyed.key _ _ _ c.requires.hashed c.requires.end _ _ c.in-Some.place walk,
        length-logged g.R.Keyed.key _ _ _ c.requires.hashed c.requires.end,
      );
    }

pub loop-next-preserved : goal.loop-next-preserved
loop-next-preserved g c =
    let walk = rw c.in-Some.is at c.loop-next.invariant in
    let below =
    below-end g.R.Keyed.key _ _ _ c.requires.hashed c.requires.end _ _ c.in-Some.place walk in
    let other =
    other-here g.R.Keyed.key _ _ _ c.requires.hashed c.requires.end _
    c.in-Some.place c.index-items-place.result below c.index-items-place.is
    (sym c.has_key.ensures ∙ c.if-has_key.false) in
    walk-on g.R.Keyed.key _ _ _ c.requires.hashed c.requires.end _ _ c.in-Some.place _ walk other
    c.before-next.ensures.last

pub returns : goal.returns
returns g c = record {
  last =
      last-nowhere g.R.Keyed.key _ _ _ c.requires.hashed c.requires.end _
      (rw c.in_default.is at c.loop-next.invariant);
}
