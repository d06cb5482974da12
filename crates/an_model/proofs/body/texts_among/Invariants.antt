use Rattle.std.proofs.Common.{◌≡◌, ◌++◌}
use Rattle.std.specs.Prelude.{option_and_then}
use Rattle.an_model.specs.Bodies.{body_of, text_of_body}
use Rattle.an_model.proofs.WalkLemmas.{left}
use Rattle.an_model.proofs.body.texts_among.Given as goal

-- the texts so far stand before those that are left
abbrev pub invariant-loop-body : goal.invariant-loop-body
invariant-loop-body l =
    l.texts.items
    ++ left (λ tree. option_and_then text_of_body (body_of tree)) l.bodies l.body-index
    ≡ left (λ tree. option_and_then text_of_body (body_of tree)) l.bodies 0
