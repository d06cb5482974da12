use Rattle.std.proofs.Common.{◌∙◌}
use Rattle.an_terms.proofs.TermsLemmas.{term_of_steps}
use Rattle.an_terms.proofs.term.folded.Goals as goal

pub returns : goal.returns
returns c =
    c.from_string.ensures.value
    ∙ term_of_steps _ _ _ _ c.as_str.utf8 c.as_str-2.utf8
    (c.as_str.ensures.value ∙ c.in_ok-decomposed.ensures)
    (c.as_str-2.ensures.value ∙ c.in_ok-folded.ensures) c.in_ok-composed.ensures
