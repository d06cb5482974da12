use Rattle.an_world.proofs.InputLemmas.{pieces_behind-at}
use Rattle.an_world.proofs.input.Input.give.Goals as goal

pub returns-clause-after : goal.returns-clause-after
returns-clause-after c =
    rw (← c.self.view_is) (pieces_behind-at _ _ _ _ _ c.pass-self-inside.ensures.behind)
