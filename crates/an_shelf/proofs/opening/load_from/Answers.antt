use Rattle.std.proofs.Common.{◌∙◌, sym}
use Rattle.an_shelf.proofs.ReadingLemmas.{first-formless}
use Rattle.an_shelf.proofs.opening.load_from.Goals as goal

pub returns-in-None-clause-damaged : goal.returns-in-None-clause-damaged
returns-in-None-clause-damaged g c =
    first-formless (g.K.Keeper.told c.args.keeper.now) c.args.first.now _ c.damage.ensures
    (sym c.format_of.ensures.format ∙ c.in-None.is) c.requires.first
