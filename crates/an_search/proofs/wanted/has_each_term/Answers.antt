use Rattle.std.proofs.Common.{ℕ, List, Bool, sym, ap, ◌∙◌, arith}
use Rattle.an_base.specs.TextSet.{has_text}
use Rattle.an_model.specs.Bodies.{note_terms}
use Rattle.an_search.proofs.SetLemmas.{all_here}
use Rattle.an_search.proofs.wanted.has_each_term.Goals as goal

pub loop-place-preserved : goal.loop-place-preserved
loop-place-preserved c =
    let has : List ℕ → Bool = λ text. has_text text (note_terms c.args.note.now) in
    let is =
    sym (c.has_term.ensures.found ∙ ap has c.text.ensures.text) ∙ c.if-not-has_term.false in
    c.loop-place.invariant
    ∙ all_here has c.args.terms.now c.loop-place.place
    (omega (arith, c.len-place-end.ensures.length)) _ is

pub returns-then-not-has_term : goal.returns-then-not-has_term
returns-then-not-has_term c =
    let has : List ℕ → Bool = λ text. has_text text (note_terms c.args.note.now) in
    let is = sym (c.has_term.ensures.found ∙ ap has c.text.ensures.text) ∙ c.if-not-has_term.true in
    sym (c.loop-place.invariant
    ∙ all_here has c.args.terms.now c.loop-place.place
    (omega (arith, c.len-place-end.ensures.length)) _ is)
