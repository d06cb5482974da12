use Rattle.sqlite.specs.Held.{state}
use Rattle.an_sqlite.proofs.LaterLemmas.{in_later_shows, in_later_same}
use Rattle.an_sqlite.proofs.statements.in_later.Goals as goal

pub returns-in-Ok-clause-rows : goal.returns-in-Ok-clause-rows
returns-in-Ok-clause-rows g c clean tells =
    in_later_shows (state g.S.Store c.args.conn.now) (state g.S.Store c.ask_in_later.new.conn)
    c.args.tab c.in-Ok.rows.items tells (c.in-Ok.ensures.ok clean)

pub returns-in-Ok-clause-kept : goal.returns-in-Ok-clause-kept
returns-in-Ok-clause-kept g c clean tells =
    in_later_same (state g.S.Store c.args.conn.now)
    (state g.S.Store c.ask_in_later.new.conn) _ c.in-Ok.rows.items tells (c.in-Ok.ensures.ok clean)
