use Rattle.std.proofs.Common.{◌∙◌}
use Rattle.an_terms.proofs.WordLemmas.{has_alphanumeric-words, has_alphanumeric-ascii}
use Rattle.an_terms.proofs.words.is_word.Goals as goal

pub returns-then-is_ascii : goal.returns-then-is_ascii
returns-then-is_ascii c =
    c.has_ascii_alphanumeric.ensures ∙ has_alphanumeric-ascii _ c.if-is_ascii.ensures.cases

pub returns : goal.returns
returns c =
    c.is_some.ensures
    ∙ has_alphanumeric-words _ _ _ _ c.utf8.text c.next.ensures.steps c.unicode_words.ensures.left
