use Rattle.an_harvest.proofs.ReplyLemmas.{whole_read, cut_short_read}
use Rattle.an_harvest.proofs.reply.take_body.Goals as goal

pub returns-in-Ok-clause-read : goal.returns-in-Ok-clause-read
returns-in-Ok-clause-read g c =
    whole_read _ _ _ _ _ c.args.end c.args.plan c.in-Ok.got c.requires.ends c.requires.short
    c.requires.plans c.fill_to.ensures.reads c.in-Ok.ensures.taken

pub returns-in-Ok-false-clause-read : goal.returns-in-Ok-false-clause-read
returns-in-Ok-false-clause-read g c =
    let short_of = rw c.in-Ok-false.field-0-test at c.in-Ok-false.ensures.full in
    cut_short_read _ _ _ _ c.args.end c.args.plan c.requires.ends c.requires.short c.requires.plans
    c.fill_to.ensures.reads short_of
