use Rattle.std.proofs.Common.{◌<◌, length, None, arith, refl, sym, ◌∙◌}
use Rattle.std.proofs.lemmas.List.{get_or_default}
use Rattle.an_keyed.proofs.PlaceLemmas.{length-hashed, place_of_key-here, place_of_key-nowhere, other_here}
use Rattle.an_keyed.proofs.WalkLemmas.{walk_goes}
use Rattle.an_snapshot.specs.PairHash.{pair_hash}
use Rattle.an_snapshot.specs.Pairs.{same_pair}
use Rattle.an_snapshot.specs.declared.change.ClassChange.{ClassChange}
use Rattle.an_snapshot.proofs.PairLemmas.{same_pair-true, same_pair-refl}
use Rattle.an_snapshot.proofs.pairs.place_in.Goals as goal

abbrev none : ClassChange
none = record { before = None; after = None }

pub offset_bounds-pairs-place : goal.offset_bounds-pairs-place
offset_bounds-pairs-place c = omega (
  arith,
  c.loop-next.invariant.at_hash c.in-Some.place c.in-Some.is,
  length-hashed same_pair pair_hash same_pair-true same_pair-refl _ _ c.requires.hashed,
)

pub bounds-pairs-place : goal.bounds-pairs-place
bounds-pairs-place c = omega (
  arith,
  c.loop-next.invariant.at_hash c.in-Some.place c.in-Some.is,
  length-hashed same_pair pair_hash same_pair-true same_pair-refl _ _ c.requires.hashed,
)

pub returns-then-is_same : goal.returns-then-is_same
returns-then-is_same c =
    let at = c.loop-next.invariant.at_hash c.in-Some.place c.in-Some.is in
    let within : c.in-Some.place < length c.args.pairs.now = omega (
      arith,
      at,
      length-hashed same_pair pair_hash same_pair-true same_pair-refl _ _ c.requires.hashed,
    ) in
    record {
      place =
          sym (place_of_key-here same_pair pair_hash same_pair-true
          same_pair-refl _ _ c.requires.hashed _ c.in-Some.place _ at.0
          (get_or_default c.args.pairs.now c.in-Some.place none _ within)
          (sym c.is_same.ensures ∙ c.if-is_same.true));
    }

pub before-next-requires : goal.before-next-requires
before-next-requires c =
    record { place = (c.loop-next.invariant.at_hash c.in-Some.place c.in-Some.is).0 }

pub loop-next-preserved : goal.loop-next-preserved
loop-next-preserved c =
    let at = c.loop-next.invariant.at_hash c.in-Some.place c.in-Some.is in
    let within : c.in-Some.place < length c.args.pairs.now = omega (
      arith,
      at,
      length-hashed same_pair pair_hash same_pair-true same_pair-refl _ _ c.requires.hashed,
    ) in
    let other =
    other_here same_pair pair_hash same_pair-true same_pair-refl _ _ c.requires.hashed _
    c.in-Some.place _ at.0 (get_or_default c.args.pairs.now c.in-Some.place none _ within)
    (sym c.is_same.ensures ∙ c.if-is_same.false) in
    walk_goes _ _ _ c.in-Some.place _ (rw c.in-Some.is at c.loop-next.invariant) other
    c.before-next.ensures.last

pub returns : goal.returns
returns c = record {
  place =
      sym (place_of_key-nowhere same_pair pair_hash same_pair-true same_pair-refl _ _
      c.requires.hashed _ _ refl (rw c.in_default.is at c.loop-next.invariant));
}
