use Rattle.an_base.proofs.WriteLemmas.{item_joined}
use Rattle.an_base.proofs.write.push_comma.Goals as goal

pub returns : goal.returns
returns c =
    record { text = λ value. item_joined value c.args.out.items _ c.in_ok-push.ensures.items }
