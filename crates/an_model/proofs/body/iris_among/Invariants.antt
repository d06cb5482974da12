use Rattle.std.proofs.Common.{◌≡◌, ◌++◌}
use Rattle.std.specs.Prelude.{option_and_then}
use Rattle.an_model.specs.Bodies.{body_of, iri_of_body}
use Rattle.an_model.proofs.WalkLemmas.{left}
use Rattle.an_model.proofs.body.iris_among.Given as goal

-- the IRIs so far stand before those that are left
abbrev pub invariant-loop-body : goal.invariant-loop-body
invariant-loop-body l =
    l.iris.items ++ left (λ tree. option_and_then iri_of_body (body_of tree)) l.bodies l.body-index
    ≡ left (λ tree. option_and_then iri_of_body (body_of tree)) l.bodies 0
