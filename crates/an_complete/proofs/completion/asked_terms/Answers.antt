use Rattle.std.proofs.Common.{ap, ◌∙◌}
use Rattle.std.proofs.lemmas.Result.{IfOk-weaker}
use Rattle.an_policy.specs.Audience.{identity}
use Rattle.an_state.specs.Terms.{totals_in}
use Rattle.an_terms.specs.Terms.{term_of}
use Rattle.an_state.specs.View.{view_of}
use Rattle.an_complete.specs.Complete.{asked_notes, asked_terms, first_terms}
use Rattle.an_complete.proofs.completion.asked_terms.Goals as goal

pub returns-clause-terms : goal.returns-clause-terms
unfolding asked_terms
returns-clause-terms g c =
    let view = view_of (g.T.Look.state c.args.look.now) (identity c.args.who.now) in
    let ask = c.args.ask.now in
    IfOk-weaker c.first_terms.result _ _ (λ terms are. are
    ∙ ap (λ min. first_terms min c.in_ok-totals.totals.items) c.min.ensures.value
    ∙ ap (first_terms ask.min) (c.in_ok-totals.ensures.totals
    ∙ ap (λ prefix. totals_in prefix (asked_notes view c.args.manifest.now c.in_ok-filters.filters))
    (c.as_str.ensures.value ∙ c.in_ok-prefix.ensures.term ∙ ap term_of c.q.ensures.value)
    ∙ ap (λ filters. totals_in (term_of ask.q) (asked_notes view c.args.manifest.now filters))
    c.in_ok-filters.ensures))
    c.first_terms.ensures.first
