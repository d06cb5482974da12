use Rattle.std.proofs.Common.{◌+◌, ◌≤◌, length, subst, ap, ◌∙◌}
use Rattle.an_policy.specs.Audience.{identity}
use Rattle.an_pages.proofs.CostLemmas.{on_count}
use Rattle.std.specs.Prelude.{filter, slice_get}
use Rattle.std.specs.List.{filter_map, flat_map}
use Rattle.an_anchor.proofs.TargetLemmas.{targets-read}
use Rattle.an_anchor.specs.Comments.{anchor_item, is_about, row_targets}
use Rattle.an_anchor.specs.Walk.{HasCounted}
use Rattle.an_anchor.proofs.counting.count_on.Goals as goal

pub returns-clause-counted : goal.returns-clause-counted
returns-clause-counted g c =
    let s = g.T.Look.state c.args.look.now in
    let asked = c.args.asked.now in
    let read =
    ap (λ places. flat_map row_targets (filter_map (slice_get s.notes) places))
    (c.as_slice.ensures.value ∙ c.in_ok-places.ensures.places)
    ∙ targets-read s (identity c.args.who.now) c.args.manifest.now in
    subst (λ targets. HasCounted (anchor_item asked.base.now asked.texts.now) asked.window
    (filter (is_about asked.iri.now) targets) c.in_ok-counted.counted) read
    c.in_ok-counted.ensures.counted

pub returns-clause-steps : goal.returns-clause-steps
returns-clause-steps g c =
    let count =
    ap length (c.as_slice.ensures.value ∙ c.in_ok-places.ensures.places)
    ∙ on_count (g.T.Look.state c.args.look.now) (identity c.args.who.now) c.args.manifest.now in
    c.in_ok-counted.ensures.steps ∙ ap (λ n. c.args.steps.now + n) count

pub returns-clause-steps_most : goal.returns-clause-steps_most
returns-clause-steps_most g c =
    let count =
    ap length (c.as_slice.ensures.value ∙ c.in_ok-places.ensures.places)
    ∙ on_count (g.T.Look.state c.args.look.now) (identity c.args.who.now) c.args.manifest.now in
    subst (λ n. c.count_at.new.steps ≤ c.args.steps.now + n) count c.count_at.ensures.steps_most

pub returns-in_err-counted-clause-steps_most : goal.returns-in_err-counted-clause-steps_most
returns-in_err-counted-clause-steps_most g c =
    let count =
    ap length (c.as_slice.ensures.value ∙ c.in_ok-places.ensures.places)
    ∙ on_count (g.T.Look.state c.args.look.now) (identity c.args.who.now) c.args.manifest.now in
    subst (λ n. c.count_at.new.steps ≤ c.args.steps.now + n) count c.count_at.ensures.steps_most
