use Rattle.std.proofs.Common.{arith}
use Rattle.an_selectors.proofs.CutLemmas.{number-le-at}
use Rattle.an_selectors.proofs.RepeatLemmas.{gap_order, IsPointOf-next, IsNext-tested}
use Rattle.an_selectors.proofs.walk.point_repeated.Goals as goal

pub overflow_sub-gap : goal.overflow_sub-gap
overflow_sub-gap c =
    gap_order c.args.needle.now c.args.text.now c.args.last c.args.point c.utf8.needle c.utf8.text
    c.requires.last c.requires.stands

pub overflow_add-result-then-starts_with : goal.overflow_add-result-then-starts_with
overflow_add-result-then-starts_with c =
    let next =
    IsPointOf-next c.args.needle.now c.args.text.now c.args.last c.args.point c.utf8.needle
    c.utf8.text c.requires.last c.requires.stands (omega arith) in
    let bound = number-le-at c.args.text.now _ c.utf8.text next in
    omega (arith, bound, next.boundary.0)

pub returns-then-starts_with : goal.returns-then-starts_with
returns-then-starts_with c =
    IsNext-tested c.args.needle.now c.args.text.now c.args.last c.args.point c.utf8.needle
    c.utf8.text c.requires.last c.requires.stands (omega arith)
    c.as_bytes.result.now c.as_bytes-2.result.now c.as_bytes.ensures.value
    c.as_bytes-2.ensures.value c.if-starts_with.ensures.value (omega arith)
