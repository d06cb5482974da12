use Rattle.std.proofs.Common.{◌≡◌, [], length, refl, arith}
use Rattle.std.proofs.lemmas.Bool.Decides.{nat_tests}
use Rattle.std.proofs.lemmas.List.{nil_from_length}
use Rattle.sqlite.specs.Held.{state}
use Rattle.sqlite.specs.State.{HasCleanDisk}
use Rattle.an_sqlite.proofs.AheadLemmas.{reads_first, reads_later}
use Rattle.an_sqlite.proofs.FirstLemmas.{if_ok, tells_still}
use Rattle.an_sqlite.proofs.base.rows_behind.Goals as goal

pub returns-then-is_empty-clause-rows : goal.returns-then-is_empty-clause-rows
returns-then-is_empty-clause-rows g c clean tells =
    let old = state g.S.Store c.args.conn.now in
    let mid = state g.S.Store c.later_in.new.conn in
    let early : HasCleanDisk mid = omega (arith, c.in_later.ensures.clean, clean) in
    let same = c.in_ok-rows.ensures.kept early tells in
    let none : c.in_ok-rows.rows.items ≡ [] =
    nil_from_length c.in_ok-rows.rows.items (grind (arith, nat_tests)) in
    let first = c.in_ok-rows.ensures.rows early tells in
    if_ok c.in_later.result (λ others is. reads_later c.args.tab c.args.key old mid
    c.in_ok-rows.rows.items c.requires first others.items none same is)
    (c.in_later.ensures.rows clean (tells_still old mid tells same))

pub returns-clause-rows : goal.returns-clause-rows
returns-clause-rows g c clean tells =
    reads_first c.args.tab c.args.key (state g.S.Store c.args.conn.now)
    (state g.S.Store c.args.conn.now) c.in_ok-rows.rows.items c.requires
    (c.in_ok-rows.ensures.rows clean tells)
    (λ none.
    let zero : length c.in_ok-rows.rows.items ≡ 0 = rw none refl in
    absurd (grind (arith, nat_tests)))
