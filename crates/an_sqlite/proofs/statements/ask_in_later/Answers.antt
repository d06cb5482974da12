use Rattle.sqlite.specs.Held.{state}
use Rattle.an_sqlite.proofs.OpenLemmas.{asked}
use Rattle.an_sqlite.proofs.statements.ask_in_later.Goals as goal

pub returns-clause-open : goal.returns-clause-open
returns-clause-open g c clean is_open =
    asked (state g.S.Store c.args.conn.now) (state g.S.Store c.query_all.new.self) _ _
    c.query_all.result (c.query_all.ensures.ok clean) (c.query_all.ensures.err clean) is_open
