use Rattle.std.proofs.Common.{ap, ◌∙◌}
use Rattle.an_base.specs.TextSet.{has_text}
use Rattle.an_model.specs.Bodies.{note_terms}
use Rattle.an_search.specs.Wanted.{has_all}
use Rattle.an_search.proofs.SetLemmas.{all-ascending}
use Rattle.an_search.proofs.wanted.has_terms.Goals as goal

pub returns : goal.returns
returns c =
    let own = note_terms c.args.note.now in
    c.has_each_term.ensures ∙ ap (λ texts. has_all texts own) c.ordered.ensures.ordered
    ∙ all-ascending (λ text. has_text text own) c.args.terms.now
