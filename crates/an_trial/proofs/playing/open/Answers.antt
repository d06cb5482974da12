use Rattle.an_trial.proofs.PlayLemmas.{opens_empty, never_damaged}
use Rattle.an_trial.proofs.playing.open.Goals as goal

pub returns-in-Ok-clause-empty : goal.returns-in-Ok-clause-empty
returns-in-Ok-clause-empty c =
    opens_empty c.new-2.result _ c.new-2.ensures.start c.new.ensures.items _ _
    c.in-Ok.ensures.opened

pub unreachable-requires-in-Damaged : goal.unreachable-requires-in-Damaged
unreachable-requires-in-Damaged c =
    never_damaged c.new-2.result _ c.new-2.ensures.start c.new.ensures.items
    c.in-Err.unopened.keeper _ _ _ c.in-Err.ensures.kept c.in-Err.ensures.refused c.in-Damaged.is
