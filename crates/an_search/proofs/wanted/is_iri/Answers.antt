use Rattle.std.proofs.Common.{sym, ◌∙◌, arith}
use Rattle.an_search.proofs.IriLemmas.{is_iri_here, is_iri_next}
use Rattle.an_search.proofs.wanted.is_iri.Goals as goal

pub loop-at-preserved : goal.loop-at-preserved
loop-at-preserved c =
    is_iri_next c.args.bytes.now c.loop-at.at (omega arith)
    (sym c.starts_with.ensures.value ∙ c.if-starts_with.false) c.loop-at.invariant

pub returns-then-starts_with : goal.returns-then-starts_with
returns-then-starts_with c =
    sym (is_iri_here c.args.bytes.now c.loop-at.at (omega arith)
    (sym c.starts_with.ensures.value ∙ c.if-starts_with.true) c.loop-at.invariant)
