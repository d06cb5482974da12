use Rattle.std.proofs.Common.{sym, ◌∙◌, arith}
use Rattle.an_message.proofs.HeadLemmas.{scan-next}
use Rattle.an_message.proofs.head.head_end.Goals as goal

pub loop-at-preserved : goal.loop-at-preserved
loop-at-preserved c =
    scan-next c.args.bytes.now c.loop-at.at _ (omega arith)
    (sym c.begins_with_end.ensures.end ∙ c.if-begins_with_end.false) c.loop-at.invariant
