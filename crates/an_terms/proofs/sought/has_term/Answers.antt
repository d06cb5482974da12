use Rattle.std.proofs.Common.{map, sym, ap, ◌∙◌}
use Rattle.std.specs.Char.{to_ascii_lowercase}
use Rattle.an_base.specs.TextSet.{has_text}
use Rattle.an_terms.proofs.TermsLemmas.{term_of-ascii}
use Rattle.an_terms.proofs.sought.has_term.Goals as goal

pub returns : goal.returns
returns c =
    let pushed = c.in_ok-push_str.ensures.bytes in
    let lowered =
    c.make_ascii_lowercase.ensures.bytes
    ∙ ap (map to_ascii_lowercase) (rw c.clear.ensures.bytes at pushed) in
    c.has-2.ensures.found
    ∙ ap (λ t. has_text t c.args.terms.now)
    (c.as_str-2.ensures.value ∙ lowered ∙ sym (term_of-ascii _ c.if-not-is_ascii.ensures.cases))
