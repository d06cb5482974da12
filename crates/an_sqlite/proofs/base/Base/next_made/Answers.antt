use Rattle.std.proofs.Common.{◌≡◌, IfSome, Some, rules, subst, sym}
use Rattle.sqlite.specs.Held.{state}
use Rattle.an_keep.specs.Cells.{next_after}
use Rattle.an_sqlite.specs.Tells.{cells_of}
use Rattle.an_sqlite.proofs.AheadLemmas.{cells_ascend, found_or_none, have_next, have_read}
use Rattle.an_sqlite.proofs.base.Base.next_made.Goals as goal

pub returns-in_err-cell-clause-ahead : goal.returns-in_err-cell-clause-ahead
returns-in_err-cell-clause-ahead g c clean tells next =
    c.next_ahead.ensures.left (cells_of (state g.S.Store c.args.self.now.conn))
    (cells_ascend (state g.S.Store c.args.self.now.conn)) next

pub returns-in-Some-clause-cell : goal.returns-in-Some-clause-cell
returns-in-Some-clause-cell g c clean tells next =
    let cells = cells_of (state g.S.Store c.args.self.now.conn) in
    let is : c.in_ok-cell.field-0 ≡ Some c.in-Some.cell = search rules in
    sym (subst (λ o. IfSome o (λ cell. next_after c.args.tab c.args.key cells ≡ Some cell)) is
    (c.in_ok-cell.ensures.next cells (cells_ascend (state g.S.Store c.args.self.now.conn)) next))

pub returns-in-Some-clause-ahead : goal.returns-in-Some-clause-ahead
returns-in-Some-clause-ahead g c clean tells next =
    c.next_ahead.ensures.left (cells_of (state g.S.Store c.args.self.now.conn))
    (cells_ascend (state g.S.Store c.args.self.now.conn)) next

pub returns-clause-cell : goal.returns-clause-cell
returns-clause-cell g c clean tells next =
    let old = c.args.self.now.conn in
    let cells = cells_of (state g.S.Store old) in
    let was : c.next_ahead.new.self.conn ≡ old = search rules in
    let is : c.next_ahead-2.new.self.conn ≡ c.read_ahead.new.self.conn = search rules in
    let read =
    have_read g.S.Store c.args.tab c.args.key old c.next_ahead.new.self.conn
    c.read_ahead.new.self.conn c.next_ahead-2.new.self.conn c.read_ahead.new.self.ahead was is clean
    tells c.in_ok-read_ahead.ensures.read in
    found_or_none (next_after c.args.tab c.args.key cells) c.next_ahead-2.result
    (c.next_ahead-2.ensures.next cells (cells_ascend (state g.S.Store c.args.self.now.conn))
    (have_next c.args.tab c.args.key cells c.read_ahead.new.self.ahead read))
    (c.next_ahead-2.ensures.none cells (cells_ascend (state g.S.Store c.args.self.now.conn)) read)

pub returns-clause-ahead : goal.returns-clause-ahead
returns-clause-ahead g c clean tells next =
    let old = c.args.self.now.conn in
    let cells = cells_of (state g.S.Store old) in
    let was : c.next_ahead.new.self.conn ≡ old = search rules in
    let is : c.next_ahead-2.new.self.conn ≡ c.read_ahead.new.self.conn = search rules in
    let read =
    have_read g.S.Store c.args.tab c.args.key old c.next_ahead.new.self.conn
    c.read_ahead.new.self.conn c.next_ahead-2.new.self.conn c.read_ahead.new.self.ahead was is clean
    tells c.in_ok-read_ahead.ensures.read in
    c.next_ahead-2.ensures.left cells (cells_ascend (state g.S.Store c.args.self.now.conn))
    (have_next c.args.tab c.args.key cells c.read_ahead.new.self.ahead read)
