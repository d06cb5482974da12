use Rattle.std.proofs.Common.{ap, subst, sym, ◌∙◌, arith}
use Rattle.std.specs.Str.Iter.{chars_rest}
use Rattle.an_selectors.specs.Walk.{IsRestOf}
use Rattle.an_selectors.proofs.CutLemmas.{IsRestOf-zero, IsRestOf-more, IsRestOf-end}
use Rattle.an_selectors.proofs.cut.rest_behind.Goals as goal

pub loop-init : goal.loop-init
loop-init c = IsRestOf-zero c.args.text.now _ c.utf8.text c.chars-rest.ensures.rest

pub returns-in-None : goal.returns-in-None
returns-in-None c =
    let steps = c.in-None.ensures.steps.0 in
    subst (IsRestOf c.args.text.now c.args.count) (sym (c.as_str.ensures ∙ ap chars_rest steps.1))
    (IsRestOf-end c.args.text.now _ c.loop.counter c.args.count c.loop.invariant steps.0
    (omega arith))

pub loop-preserved : goal.loop-preserved
loop-preserved c =
    IsRestOf-more c.args.text.now _ _ c.loop.counter c.in-Some.field-0 c.utf8.text c.loop.invariant
    c.in-Some.ensures.steps.0
