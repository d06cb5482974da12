use Rattle.std.proofs.Common.{arith}
use Rattle.an_selectors.proofs.CutLemmas.{number-le-at}
use Rattle.an_selectors.proofs.WalkLemmas.{IsNext-some, StandsNowhere-none}
use Rattle.an_selectors.proofs.walk.next_point.Goals as goal

pub overflow_add-result-in-Some : goal.overflow_add-result-in-Some
overflow_add-result-in-Some c =
    let bound = number-le-at c.args.text.now c.args.from c.utf8.text c.requires in omega arith

pub returns-in-Some : goal.returns-in-Some
returns-in-Some c =
    IsNext-some c.args.needle.now c.args.text.now c.args.from c.utf8.needle c.utf8.text c.requires
    _ _ c.in-Some.skipped c.char_count.result c.range_from-rest.ensures.value c.range.ensures.value
    c.in-Some.ensures.cases c.char_count.ensures.count

pub returns-in-None : goal.returns-in-None
returns-in-None c =
    StandsNowhere-none c.args.needle.now c.args.text.now c.args.from c.utf8.needle c.utf8.text
    c.requires _ c.range_from-rest.ensures.value c.in-None.ensures.cases
