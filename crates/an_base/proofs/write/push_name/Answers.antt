use Rattle.an_base.proofs.WriteLemmas.{name_joined}
use Rattle.an_base.proofs.write.push_name.Goals as goal

pub returns : goal.returns
returns c = record {
  text =
      name_joined c.args.name.now c.args.out.items _ _ _ c.in_ok-push.ensures.items
      c.in_ok-out.ensures.text c.in_ok-push-2.ensures.items;
}
