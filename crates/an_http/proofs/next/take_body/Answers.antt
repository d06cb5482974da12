use Rattle.an_http.proofs.NextLemmas.{whole_next, cut_short_next, unfull_next}
use Rattle.an_http.proofs.next.take_body.Goals as goal

pub returns-in-Ok-clause-next : goal.returns-in-Ok-clause-next
returns-in-Ok-clause-next g c =
    whole_next _ _ _ _ _ c.args.end c.args.plan c.in-Ok.request c.requires.ends c.requires.short
    c.requires.plans c.fill_to.ensures.reads c.in-Ok.ensures.taken c.fill_to.ensures.most
    c.requires.within

pub returns-in-Ok-false-clause-next : goal.returns-in-Ok-false-clause-next
returns-in-Ok-false-clause-next g c =
    let short_of = rw c.in-Ok-false.field-0-test at c.in-Ok-false.ensures.full in
    rw c.refused.ensures (cut_short_next _ _ _ _ c.args.end c.args.plan c.requires.ends
    c.requires.short c.requires.plans c.fill_to.ensures.reads short_of c.fill_to.ensures.most
    c.requires.within)

pub returns-in-Err-clause-next : goal.returns-in-Err-clause-next
returns-in-Err-clause-next g c =
    unfull_next _ _ _ _ c.args.end c.args.plan c.in-Err.error c.requires.ends c.requires.short
    c.requires.plans c.fill_to.ensures.reads c.in-Err.ensures.full
