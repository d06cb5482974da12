use Rattle.std.proofs.Common.{arith, sym, ◌∙◌}
use Rattle.an_selectors.proofs.CutLemmas.{number-le-at, IsPointOf-behind}
use Rattle.an_selectors.proofs.cut.point_behind.Goals as goal

pub overflow_add-result-in-Some : goal.overflow_add-result-in-Some
overflow_add-result-in-Some c =
    let bound = number-le-at c.args.text.now c.args.point c.utf8.text c.requires.is in omega arith

pub returns-clause-is : goal.returns-clause-is
returns-clause-is c =
    IsPointOf-behind c.args.text.now _ c.args.point c.in-Some.c c.len_utf8.result c.utf8.text
    c.requires.is
    (sym c.range_from.ensures.value ∙ sym c.chars.ensures.rest ∙ c.in-Some.ensures.steps.0)
    c.len_utf8.ensures.value
