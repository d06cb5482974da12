use Rattle.an_http.proofs.NextLemmas.{refused_next}
use Rattle.an_http.proofs.next.behind_head.Goals as goal

pub returns-in-Ok-Err-clause-next : goal.returns-in-Ok-Err-clause-next
returns-in-Ok-Err-clause-next g c =
    let plans = rw (c.in-Ok-Err.field-0-is, c.as_slice.ensures.value) at c.in-Ok-Err.ensures.plan in
    rw c.refused.ensures
    (refused_next _ _ c.args.end c.in-Ok-Err.refusal c.requires.ends c.requires.short plans)
