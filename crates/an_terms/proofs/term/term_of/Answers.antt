use Rattle.std.proofs.Common.{sym, ◌∙◌}
use Rattle.an_terms.proofs.TermsLemmas.{term_of-ascii}
use Rattle.an_terms.proofs.term.term_of.Goals as goal

pub returns-then-is_ascii-clause-term : goal.returns-then-is_ascii-clause-term
returns-then-is_ascii-clause-term c =
    c.from_string.ensures.value ∙ c.in_ok-to_ascii_lowercase.ensures.ok
    ∙ sym (term_of-ascii _ c.if-is_ascii.ensures.cases)
