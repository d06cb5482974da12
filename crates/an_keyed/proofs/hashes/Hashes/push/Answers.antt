use Rattle.std.proofs.Common.{ap, arith, rules}
use Rattle.an_keyed.proofs.HashesLemmas.{IsIndex-push}
use Rattle.an_keyed.proofs.hashes.Hashes.push.Goals as goal

pub invariant_of-self : goal.invariant_of-self
invariant_of-self c = record {
  index =
      rw (c.push_reserved.ensures.items)
      (IsIndex-push c.self.inside.newest c.insert.new.self c.self.inside.earlier c.link.new.earlier
      _ c.args.hash c.in-Ok.before c.len-place.result c.self.invariant.index c.in-Ok.ensures.old
      (search rules) c.in-Ok.ensures.updates c.link.ensures.linked);
  newest = omega arith;
  hashes = omega arith;
  earlier = omega arith;
  small = omega (arith, c.self.invariant.small, c.requires.room, ap (λ h. h.room) c.self.view_is);
}
