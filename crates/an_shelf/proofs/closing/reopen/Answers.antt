use Rattle.an_shelf.proofs.ClosingLemmas.{again-same, again-nothing, again-undamaged}
use Rattle.an_shelf.proofs.closing.reopen.Goals as goal

pub returns-clause-same : goal.returns-clause-same
returns-clause-same g c =
    again-same c.args.desk c.into_keeper.ensures.stand (g.K.Keeper.told c.into_keeper.result)
    c.into_keeper.ensures.told c.open.result c.open.ensures.opened

pub returns-clause-undamaged : goal.returns-clause-undamaged
returns-clause-undamaged g c =
    λ tab key.
    again-undamaged (λ its. g.K.Keeper.told its.keeper) (λ its. its.why) c.args.desk.state tab key
    c.args.desk.told (g.K.Keeper.told c.into_keeper.result) c.into_keeper.ensures.told
    c.into_keeper.ensures.stand c.open.result c.open.ensures.kept c.open.ensures.refused

pub returns-clause-sent_again : goal.returns-clause-sent_again
returns-clause-sent_again g c =
    again-nothing c.args.desk c.into_keeper.ensures.stand
    (g.K.Keeper.told c.into_keeper.result) c.into_keeper.ensures.told c.open.result
    (again-same c.args.desk c.into_keeper.ensures.stand (g.K.Keeper.told c.into_keeper.result)
    c.into_keeper.ensures.told c.open.result c.open.ensures.opened)
