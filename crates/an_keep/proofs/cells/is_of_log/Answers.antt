use Rattle.std.proofs.Common.{◌≡◌, arith, false, nat_lt}
use Rattle.std.proofs.lemmas.Bool.Decides.{nat_tests}
use Rattle.an_keep.specs.Cells.{is_before}
use Rattle.an_keep.proofs.PartLemmas.{all_before}
use Rattle.an_keep.proofs.cells.is_of_log.Goals as goal

-- all rows come before where as many do as there are
pub returns-then-tab-ge4 : goal.returns-then-tab-ge4
returns-then-tab-ge4 c =
    let late : nat_lt c.args.tab 4 ≡ false = grind (arith, nat_tests, c.if-tab-ge4.true) in
    rw (late, c.place_of.ensures.place)
    (all_before (is_before c.args.tab c.args.key) c.args.rows.now)
