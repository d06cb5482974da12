use Rattle.std.proofs.Common.{◌≡◌, ◌-◌, ◌^◌, min, IfOk, arith, rules, subst, sym}
use Rattle.sqlite.specs.Held.{state}
use Rattle.sqlite.specs.State.{HasCleanDisk}
use Rattle.an_keep.specs.Cells.{next_after}
use Rattle.an_sqlite.specs.Ahead.{AreNext}
use Rattle.an_sqlite.proofs.AheadLemmas.{clamped, still_next}
use Rattle.an_sqlite.proofs.base.Base.next_after.Goals as goal

pub returns-clause-cell : goal.returns-clause-cell
returns-clause-cell g c clean cells held =
    let mid = state g.S.Store c.make.new.self.conn in
    let early : HasCleanDisk mid = omega (arith, c.next_made.ensures.clean, clean) in
    let made = c.in_ok-make.ensures.made early cells held in
    let next =
    still_next c.args.self.now.ahead c.make.new.self.ahead cells held.1
    c.in_ok-make.ensures.ahead in
    let found =
    c.next_made.ensures.cell clean made.0
    (subst (AreNext c.make.new.self.ahead) (sym made.1) next) in
    let last : c.min.result ≡ min c.args.key (2 ^ 63 - 1) = search rules in
    clamped c.args.tab c.args.key cells c.next_made.result c.next_made.ensures.fits
    (subst (λ key. IfOk c.next_made.result (λ cell. cell ≡ next_after c.args.tab key cells)) last
    (subst (λ all. IfOk c.next_made.result (λ cell. cell ≡ next_after c.args.tab c.min.result all))
    made.1 found))
