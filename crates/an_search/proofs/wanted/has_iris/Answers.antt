use Rattle.std.proofs.Common.{ap, ◌∙◌}
use Rattle.an_base.specs.TextSet.{has_text}
use Rattle.an_model.specs.Bodies.{iris_of}
use Rattle.an_search.specs.Wanted.{has_all}
use Rattle.an_search.proofs.SetLemmas.{all-ascending}
use Rattle.an_search.proofs.wanted.has_iris.Goals as goal

pub returns : goal.returns
returns c =
    let own = iris_of c.args.note.now in
    c.has_each_iri.ensures ∙ ap (λ texts. has_all texts own) c.ordered.ensures.ordered
    ∙ all-ascending (λ text. has_text text own) c.args.iris.now
