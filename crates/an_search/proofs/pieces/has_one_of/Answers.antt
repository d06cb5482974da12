use Rattle.std.proofs.Common.{sym, ap, ◌∙◌, arith}
use Rattle.an_base.specs.TextSet.{has_text}
use Rattle.an_search.proofs.SetLemmas.{any_here}
use Rattle.an_search.proofs.pieces.has_one_of.Goals as goal

pub loop-place-preserved : goal.loop-place-preserved
loop-place-preserved c =
    let others = c.args.others.now in
    let is =
    sym (c.has.ensures.found ∙ ap (λ text. has_text text others) c.text.ensures.text)
    ∙ c.if-has.false in
    c.loop-place.invariant
    ∙ any_here (λ text. has_text text others) c.args.texts.now c.loop-place.place
    (omega (arith, c.len-place-end.ensures.length)) _ is

pub returns-then-has : goal.returns-then-has
returns-then-has c =
    let others = c.args.others.now in
    let is =
    sym (c.has.ensures.found ∙ ap (λ text. has_text text others) c.text.ensures.text)
    ∙ c.if-has.true in
    sym (c.loop-place.invariant
    ∙ any_here (λ text. has_text text others) c.args.texts.now c.loop-place.place
    (omega (arith, c.len-place-end.ensures.length)) _ is)
