use Rattle.std.proofs.Common.{◌+◌, ◌≤◌, length, subst, ap, ◌∙◌}
use Rattle.an_policy.specs.Audience.{identity}
use Rattle.an_pages.proofs.CostLemmas.{on_count}
use Rattle.std.specs.Prelude.{filter, slice_get}
use Rattle.std.specs.List.{filter_map, flat_map}
use Rattle.an_anchor.proofs.TargetLemmas.{targets-read}
use Rattle.an_anchor.specs.Comments.{row_targets}
use Rattle.an_anchor.specs.Walk.{is_comment}
use Rattle.an_anchor.proofs.targets.comments_on.Goals as goal

pub returns-clause-comments : goal.returns-clause-comments
returns-clause-comments g c =
    let s = g.T.Look.state c.args.look.now in
    c.in_ok-comments.ensures.comments
    ∙ ap (filter (is_comment c.args.base.now))
    (ap (λ places. flat_map row_targets (filter_map (slice_get s.notes) places))
    (c.as_slice.ensures.value ∙ c.in_ok-places.ensures.places)
    ∙ targets-read s (identity c.args.who.now) c.args.manifest.now)

pub returns-clause-steps : goal.returns-clause-steps
returns-clause-steps g c =
    let count =
    ap length (c.as_slice.ensures.value ∙ c.in_ok-places.ensures.places)
    ∙ on_count (g.T.Look.state c.args.look.now) (identity c.args.who.now) c.args.manifest.now in
    c.in_ok-comments.ensures.steps ∙ ap (λ n. c.args.steps.now + n) count

pub returns-clause-steps_most : goal.returns-clause-steps_most
returns-clause-steps_most g c =
    let count =
    ap length (c.as_slice.ensures.value ∙ c.in_ok-places.ensures.places)
    ∙ on_count (g.T.Look.state c.args.look.now) (identity c.args.who.now) c.args.manifest.now in
    subst (λ n. c.comments_at.new.steps ≤ c.args.steps.now + n) count
    c.comments_at.ensures.steps_most

pub returns-in_err-comments-clause-steps_most : goal.returns-in_err-comments-clause-steps_most
returns-in_err-comments-clause-steps_most g c =
    let count =
    ap length (c.as_slice.ensures.value ∙ c.in_ok-places.ensures.places)
    ∙ on_count (g.T.Look.state c.args.look.now) (identity c.args.who.now) c.args.manifest.now in
    subst (λ n. c.comments_at.new.steps ≤ c.args.steps.now + n) count
    c.comments_at.ensures.steps_most
