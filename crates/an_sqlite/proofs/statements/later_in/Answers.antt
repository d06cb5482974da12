use Rattle.std.proofs.Common.{◌≡◌, ◌-◌, ◌^◌, ◌∙◌, min, pos, rules, to_z, of_z, w64}
use Rattle.sqlite.specs.Held.{state}
use Rattle.an_sqlite.proofs.LaterLemmas.{later_in_at, later_in_same}
use Rattle.an_sqlite.proofs.statements.later_in.Goals as goal

pub returns-in-Ok-clause-rows : goal.returns-in-Ok-clause-rows
returns-in-Ok-clause-rows g c clean tells =
    let last = min c.args.key (2 ^ 63 - 1) in
    let from = c.key_or_last.result in
    let is : from ≡ pos last = c.key_or_last.ensures in
    let same : to_z w64 (of_z w64 from) ≡ from = search rules in
    later_in_at (state g.S.Store c.args.conn.now) (state g.S.Store c.ask_later_in.new.conn)
    c.args.tab last (to_z w64 (of_z w64 from)) c.in-Ok.rows.items (same ∙ is) tells
    (c.in-Ok.ensures.ok clean)

pub returns-in-Ok-clause-kept : goal.returns-in-Ok-clause-kept
returns-in-Ok-clause-kept g c clean tells =
    later_in_same (state g.S.Store c.args.conn.now)
    (state g.S.Store c.ask_later_in.new.conn) _ c.in-Ok.rows.items tells (c.in-Ok.ensures.ok clean)
