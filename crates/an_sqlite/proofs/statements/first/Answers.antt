use Rattle.std.proofs.Common.{◌≡◌, [], Ok, Err, IsTrue, subst, rules}
use Rattle.sqlite.specs.Held.{state}
use Rattle.sqlite.specs.State.{QueriesRow}
use Rattle.sqlite.specs.declared.error.Error.TheVariants.{QueryReturnedNoRows}
use Rattle.an_sqlite.specs.Statements.{first_text}
use Rattle.an_sqlite.proofs.FirstLemmas.{first_failed, first_shows, first_none, first_same, none_same}
use Rattle.an_sqlite.proofs.statements.first.Goals as goal

pub returns-in-Ok-clause-row : goal.returns-in-Ok-clause-row
returns-in-Ok-clause-row g c clean tells =
    first_shows (state g.S.Store c.args.conn.now) (state g.S.Store c.query_row.new.self)
    (Ok c.in-Ok.row) tells (c.in-Ok.ensures.row clean)

pub returns-in-Err-QueryReturnedNoRows-clause-row :
    goal.returns-in-Err-QueryReturnedNoRows-clause-row
returns-in-Err-QueryReturnedNoRows-clause-row g c clean tells =
    let none_is : c.query_row.result ≡ Err QueryReturnedNoRows = search rules in
    first_none (state g.S.Store c.args.conn.now) (state g.S.Store c.query_row.new.self) tells
    (subst (QueriesRow first_text [] (state g.S.Store c.args.conn.now)
    (state g.S.Store c.query_row.new.self)) none_is
    (c.query_row.ensures.row clean))

pub returns-in-Ok-clause-kept : goal.returns-in-Ok-clause-kept
returns-in-Ok-clause-kept g c clean tells =
    first_same (state g.S.Store c.args.conn.now)
    (state g.S.Store c.query_row.new.self) c.in-Ok.row tells (c.in-Ok.ensures.row clean)

pub returns-in-Err-QueryReturnedNoRows-clause-kept :
    goal.returns-in-Err-QueryReturnedNoRows-clause-kept
returns-in-Err-QueryReturnedNoRows-clause-kept g c clean tells =
    let none_is : c.query_row.result ≡ Err QueryReturnedNoRows = search rules in
    none_same (state g.S.Store c.args.conn.now) (state g.S.Store c.query_row.new.self) tells
    (subst (QueriesRow first_text [] (state g.S.Store c.args.conn.now)
    (state g.S.Store c.query_row.new.self)) none_is
    (c.query_row.ensures.row clean))

pub returns-in-Err-clause-still : goal.returns-in-Err-clause-still
returns-in-Err-clause-still g c clean is_open tells =
    let settled : IsTrue c.is_autocommit.result = search rules in
    first_failed (state g.S.Store c.args.conn.now)
    (state g.S.Store c.query_row.new.self) c.in-Err.error
    (c.is_autocommit.ensures.settled settled) tells (c.in-Err.ensures.row clean) is_open
