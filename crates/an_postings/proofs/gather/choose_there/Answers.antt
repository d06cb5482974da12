use Rattle.an_postings.proofs.GatherLemmas.{front_rises, both_rise}
use Rattle.an_postings.proofs.gather.choose_there.Goals as goal

pub returns-then-is_empty-clause-rise : goal.returns-then-is_empty-clause-rise
returns-then-is_empty-clause-rise c =
    rw c.in_ok-push.ensures.items
    (front_rises c.args.chosen.now.items c.args.front c.args.back c.requires.chosen c.requires.list)

pub returns-clause-rise : goal.returns-clause-rise
returns-clause-rise c =
    rw (c.in_ok-push-2.ensures.items, c.in_ok-push.ensures.items)
    (both_rise c.args.chosen.now.items c.args.front c.args.back c.requires.chosen c.requires.list)
