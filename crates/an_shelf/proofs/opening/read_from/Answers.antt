use Rattle.an_shelf.proofs.ReadingLemmas.{first-alone, first-leads}
use Rattle.an_shelf.proofs.opening.read_from.Goals as goal

pub read_rows-requires : goal.read_rows-requires
read_rows-requires g c = record {
  next =
      first-leads c.args.format (g.K.Keeper.told c.args.keeper.now)
      (g.K.Keeper.told c.next_after.new.self) c.args.first.now c.in-Some.cell _ c.requires.format
      c.requires.first c.requires.ascend
      c.next_after.ensures.still c.in-Some.is c.in_ok-cell.ensures.cell;
}

pub returns-in-None-clause-damaged : goal.returns-in-None-clause-damaged
returns-in-None-clause-damaged g c =
    first-alone (g.K.Keeper.told c.args.keeper.now) (g.K.Keeper.told c.next_after.new.self)
    c.args.first.now _ _ c.damage.ensures c.requires.first c.requires.ascend
    c.next_after.ensures.still c.in-None.is c.in_ok-cell.ensures.cell
