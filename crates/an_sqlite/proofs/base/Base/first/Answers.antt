use Rattle.std.proofs.Common.{◌≡◌, None, Some, arith, rules, subst}
use Rattle.sqlite.specs.Held.{state}
use Rattle.sqlite.specs.State.{HasCleanDisk}
use Rattle.an_keep.specs.Cells.{first_of}
use Rattle.an_sqlite.specs.Cells.{ShowsIf}
use Rattle.an_sqlite.specs.Tells.{cells_of}
use Rattle.an_sqlite.proofs.FirstLemmas.{finds_cell, finds_no_cell}
use Rattle.an_sqlite.proofs.base.Base.first.Goals as goal

pub returns-in_ok-cell_of-in-Some-clause-cell : goal.returns-in_ok-cell_of-in-Some-clause-cell
returns-in_ok-cell_of-in-Some-clause-cell g c clean cells held =
    let mid = state g.S.Store c.make.new.self.conn in
    let early : HasCleanDisk mid = omega (arith, c.first.ensures.clean, clean) in
    let made = c.in_ok-make.ensures.made early cells held in
    let is : c.in_ok-row.field-0 ≡ Some c.in-Some.row = search rules in
    finds_cell mid c.in-Some.row c.in_ok-cell_of-in-Some.field-0 cells made
    (λ t. subst (ShowsIf (first_of (cells_of mid))) is (c.in_ok-row.ensures.row clean t))
    c.in_ok-cell_of-in-Some.ensures.shows

pub returns-in-None-clause-cell : goal.returns-in-None-clause-cell
returns-in-None-clause-cell g c clean cells held =
    let mid = state g.S.Store c.make.new.self.conn in
    let early : HasCleanDisk mid = omega (arith, c.first.ensures.clean, clean) in
    let is : c.in_ok-row.field-0 ≡ None = search rules in
    finds_no_cell mid cells (c.in_ok-make.ensures.made early cells held)
    (λ t. subst (ShowsIf (first_of (cells_of mid))) is (c.in_ok-row.ensures.row clean t))
