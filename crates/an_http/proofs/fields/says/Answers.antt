use Rattle.std.proofs.Common.{sym, ◌∙◌, arith}
use Rattle.an_http.proofs.FieldLemmas.{says-next}
use Rattle.an_http.proofs.fields.says.Goals as goal

pub loop-at-preserved : goal.loop-at-preserved
loop-at-preserved c =
    says-next c.args.case c.args.word.now c.args.bytes.now c.loop-at.at (omega arith)
    (sym c.begins.ensures ∙ c.if-begins.false) c.loop-at.invariant
