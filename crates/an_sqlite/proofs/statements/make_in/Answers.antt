use Rattle.sqlite.specs.Held.{state}
use Rattle.an_sqlite.proofs.FirstLemmas.{makes_again_inside, makes_inside}
use Rattle.an_sqlite.proofs.statements.make_in.Goals as goal

pub returns-clause-made : goal.returns-clause-made
returns-clause-made g c clean inside has =
    makes_inside (state g.S.Store c.args.tx.now.conn.now)
    (state g.S.Store c.execute.new.self.conn.now) c.execute.result has
    (c.execute.ensures.runs clean inside)

pub returns-clause-again : goal.returns-clause-again
returns-clause-again g c clean inside tells =
    makes_again_inside (state g.S.Store c.args.tx.now.conn.now)
    (state g.S.Store c.execute.new.self.conn.now) c.execute.result tells
    (c.execute.ensures.runs clean inside)
