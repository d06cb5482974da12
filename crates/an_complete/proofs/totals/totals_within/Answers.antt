use Rattle.std.proofs.Common.{◌≡◌, ◌+◌, ◌≤◌, length, cond, subst, sym, ap, ◌∙◌}
use Rattle.std.proofs.lemmas.Result.{IfOk-weaker}
use Rattle.std.specs.Prelude.{OnOk}
use Rattle.std.specs.Option.{option_copied}
use Rattle.an_policy.specs.Audience.{identity}
use Rattle.an_state.specs.Terms.{totals_in}
use Rattle.an_state.specs.View.{sought_places}
use Rattle.an_complete.proofs.NoteLemmas.{all_asked, asked_at_places}
use Rattle.an_complete.proofs.totals.totals_within.Goals as goal

pub returns-then-wants_nothing-clause-totals : goal.returns-then-wants_nothing-clause-totals
returns-then-wants_nothing-clause-totals g c =
    IfOk-weaker c.terms_from.result _ _ (λ totals are. are
    ∙ all_asked (g.T.Look.state c.args.look.now) (identity c.args.who.now)
    (option_copied c.args.manifest) c.args.prefix.now c.args.filters.now
    (sym c.wants_nothing.ensures.nothing ∙ c.if-wants_nothing.true))
    c.terms_from.ensures.terms

pub returns-in_ok-places-clause-totals : goal.returns-in_ok-places-clause-totals
returns-in_ok-places-clause-totals g c =
    IfOk-weaker c.count.result _ _ (λ totals are. are
    ∙ ap (totals_in c.args.prefix.now)
    (asked_at_places (g.T.Look.state c.args.look.now) (identity c.args.who.now)
    (option_copied c.args.manifest) c.args.filters.now c.as_slice.result.now
    (c.as_slice.ensures.value ∙ c.in_ok-places.ensures.places)))
    c.count.ensures.totals

pub returns-in_ok-places-clause-steps : goal.returns-in_ok-places-clause-steps
returns-in_ok-places-clause-steps g c =
    let all =
    sought_places (g.T.Look.state c.args.look.now) (identity c.args.who.now)
    (option_copied c.args.manifest) in
    let some = sym c.wants_nothing.ensures.nothing ∙ c.if-wants_nothing.false in
    let count =
    ap length (c.as_slice.ensures.value ∙ c.in_ok-places.ensures.places)
    ∙ sym (ap (λ b. cond b 0 (length all)) some) in
    subst (λ n. OnOk c.count.result (c.count.new.steps ≡ c.args.steps.now + n)) count
    c.count.ensures.steps

pub returns-in_ok-places-clause-steps_most : goal.returns-in_ok-places-clause-steps_most
returns-in_ok-places-clause-steps_most g c =
    let all =
    sought_places (g.T.Look.state c.args.look.now) (identity c.args.who.now)
    (option_copied c.args.manifest) in
    let some = sym c.wants_nothing.ensures.nothing ∙ c.if-wants_nothing.false in
    let count =
    ap length (c.as_slice.ensures.value ∙ c.in_ok-places.ensures.places)
    ∙ sym (ap (λ b. cond b 0 (length all)) some) in
    subst (λ n. c.count.new.steps ≤ c.args.steps.now + n) count c.count.ensures.steps_most
