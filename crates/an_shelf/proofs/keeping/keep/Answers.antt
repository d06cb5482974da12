use Rattle.an_shelf.proofs.WritingLemmas.{kept-turn}
use Rattle.an_shelf.proofs.keeping.keep.Goals as goal

pub returns-clause-told : goal.returns-clause-told
returns-clause-told g c =
    kept-turn c.commit.result c.args.book.now.state c.args.entry.now c.as_slice.result.now
    (g.K.Keeper.told c.args.keeper.now) (g.K.Keeper.told c.commit.new.self)
    (rw c.as_slice.ensures.value c.in_ok-changes.ensures.changes) c.requires.cells
    c.commit.ensures.done
