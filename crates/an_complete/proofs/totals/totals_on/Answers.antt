use Rattle.std.proofs.Common.{◌≡◌, ℕ, ◌+◌, List, ap, subst, ◌∙◌, arith, take_all}
use Rattle.std.specs.List.{flat_map}
use Rattle.std.specs.Prelude.{IfOk}
use Rattle.an_base.specs.Totals.{totals_of}
use Rattle.an_policy.specs.Audience.{identity}
use Rattle.an_search.specs.Gathered.{lent_names}
use Rattle.an_state.specs.Terms.{terms_in}
use Rattle.an_state.specs.View.{view_of}
use Rattle.an_complete.specs.Complete.{asked_notes}
use Rattle.an_complete.specs.Cost.{filter_cost}
use Rattle.an_complete.proofs.GatheredNotes.{gathered-totals, sum-first, sum-more, totals-more}
use Rattle.an_complete.proofs.totals.totals_on.Goals as goal

pub loop-manifest-preserved : goal.loop-manifest-preserved
loop-manifest-preserved g c =
    let view = view_of (g.T.Look.state c.args.look.now) (identity c.args.who.now) in
    let filters = c.args.filters.now in
    let prefix = c.args.prefix.now in
    let ms = c.args.manifests.now in
    let i = c.loop-manifest.manifest-index in
    record {
      totals =
          totals-more ms i c.manifest-item.result c.loop-manifest-test.true c.manifest-item.is
          (λ m. terms_in prefix (asked_notes view m filters))
          c.loop-manifest.totals c.add_totals.new.self
          c.as_slice.result.now c.in_ok-add_totals.ensures.added
          (c.as_slice.ensures.value ∙ c.in_ok-more.ensures.totals) c.loop-manifest.invariant.totals;
      steps =
          (let more =
          sum-more ms i c.manifest-item.result c.loop-manifest-test.true c.manifest-item.is
          (λ m. filter_cost view m filters) in
          omega (arith, more, c.in_ok-more.ensures.steps, c.loop-manifest.invariant.steps));
    }

pub returns-in_err-more-clause-steps_most : goal.returns-in_err-more-clause-steps_most
returns-in_err-more-clause-steps_most g c =
    let view = view_of (g.T.Look.state c.args.look.now) (identity c.args.who.now) in
    let cost : List ℕ → ℕ = λ m. filter_cost view m c.args.filters.now in
    let ms = c.args.manifests.now in
    let i = c.loop-manifest.manifest-index in
    let more =
    sum-more ms i c.manifest-item.result c.loop-manifest-test.true c.manifest-item.is cost in
    let all = sum-first cost ms (i + 1) in
    omega (arith, more, all, c.asked_totals.ensures.steps_most, c.loop-manifest.invariant.steps)

pub returns-in_err-add_totals-clause-steps_most : goal.returns-in_err-add_totals-clause-steps_most
returns-in_err-add_totals-clause-steps_most g c =
    let view = view_of (g.T.Look.state c.args.look.now) (identity c.args.who.now) in
    let cost : List ℕ → ℕ = λ m. filter_cost view m c.args.filters.now in
    let ms = c.args.manifests.now in
    let i = c.loop-manifest.manifest-index in
    let more =
    sum-more ms i c.manifest-item.result c.loop-manifest-test.true c.manifest-item.is cost in
    let all = sum-first cost ms (i + 1) in
    omega (arith, more, all, c.in_ok-more.ensures.steps_most, c.loop-manifest.invariant.steps)

pub returns-clause-totals : goal.returns-clause-totals
returns-clause-totals g c =
    let view = view_of (g.T.Look.state c.args.look.now) (identity c.args.who.now) in
    let filters = c.args.filters.now in
    let prefix = c.args.prefix.now in
    let ms = c.args.manifests.now in
    let all =
    take_all c.loop-manifest.manifest-index ms (omega (arith, c.loop-manifest-test.false)) in
    let whole =
    c.loop-manifest.invariant.totals
    ∙ ap (λ shown.
    totals_of (flat_map (λ m. terms_in prefix (asked_notes view m filters)) (lent_names shown))) all
    ∙ gathered-totals view filters prefix (lent_names ms) c.requires.once in
    subst (λ sums. IfOk c.into_vec.result (λ totals. totals.items ≡ sums)) whole
    c.into_vec.ensures.totals
