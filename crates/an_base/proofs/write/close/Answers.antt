use Rattle.std.proofs.Common.{arith}
use Rattle.an_base.proofs.WriteLemmas.{closed}
use Rattle.an_base.proofs.write.close.Goals as goal

pub returns : goal.returns
returns c = record {
  text =
      closed c.args.left c.args.right c.args.out.items _ _ c.args.start c.in_ok-out.ensures.text
      c.in_ok-push.ensures.items;
  grows = omega (arith, c.in_ok-out.ensures.grows, c.in_ok-push.ensures.len);
}
