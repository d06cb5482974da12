use Rattle.std.proofs.Common.{ℕ, List, Bool, sym, ap, ◌∙◌, arith}
use Rattle.an_base.specs.TextSet.{has_text}
use Rattle.an_model.specs.Bodies.{iris_of}
use Rattle.an_search.proofs.SetLemmas.{all_here}
use Rattle.an_search.proofs.wanted.has_each_iri.Goals as goal

pub loop-place-preserved : goal.loop-place-preserved
loop-place-preserved c =
    let has : List ℕ → Bool = λ text. has_text text (iris_of c.args.note.now) in
    let is = sym (c.has_iri.ensures.found ∙ ap has c.text.ensures.text) ∙ c.if-not-has_iri.false in
    c.loop-place.invariant
    ∙ all_here has c.args.iris.now c.loop-place.place
    (omega (arith, c.len-place-end.ensures.length)) _ is

pub returns-then-not-has_iri : goal.returns-then-not-has_iri
returns-then-not-has_iri c =
    let has : List ℕ → Bool = λ text. has_text text (iris_of c.args.note.now) in
    let is = sym (c.has_iri.ensures.found ∙ ap has c.text.ensures.text) ∙ c.if-not-has_iri.true in
    sym (c.loop-place.invariant
    ∙ all_here has c.args.iris.now c.loop-place.place
    (omega (arith, c.len-place-end.ensures.length)) _ is)
