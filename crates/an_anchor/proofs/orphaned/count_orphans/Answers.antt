use Rattle.std.proofs.Common.{length, map, ap, subst, sym, ◌∙◌}
use Rattle.std.proofs.lemmas.List.{length-map}
use Rattle.std.proofs.lemmas.Result.{IfOk-weaker}
use Rattle.std.specs.Prelude.{filter}
use Rattle.an_policy.specs.Audience.{identity}
use Rattle.an_state.specs.View.{view_of}
use Rattle.an_anchor.proofs.TargetLemmas.{orphans-are}
use Rattle.an_anchor.specs.Comments.{orphan_item, orphans, targets_on}
use Rattle.an_anchor.specs.Walk.{HasCounted, is_comment, is_lost}
use Rattle.an_anchor.proofs.orphaned.count_orphans.Goals as goal

pub count_lost-requires : goal.count_lost-requires
count_lost-requires g c =
    let view = view_of (g.T.Look.state c.args.look.now) (identity c.args.who.now) in
    let lost = c.as_slice-3.ensures.value ∙ c.in_ok-lost.ensures.lost in
    let same = c.as_slice.ensures.value ∙ sym c.as_slice-2.ensures.value in
    record {
      each =
          ap length lost ∙ length-map c.as_slice.result.now (is_lost c.base-base.result.now view)
          ∙ ap length same;
    }

pub returns-clause-counted : goal.returns-clause-counted
returns-clause-counted g c =
    let view = view_of (g.T.Look.state c.args.look.now) (identity c.args.who.now) in
    let site = c.args.site.now in
    let base = c.base-base.result.now in
    let on = targets_on view c.args.manifest.now in
    let same = c.as_slice.ensures.value ∙ sym c.as_slice-2.ensures.value in
    let lost =
    c.as_slice-3.ensures.value ∙ c.in_ok-lost.ensures.lost ∙ ap (map (is_lost base view)) same in
    let found = c.as_slice-2.ensures.value ∙ c.in_ok-comments.ensures.comments in
    let asked =
    ap (filter (is_lost base view)) found
    ∙ ap (λ base. filter (is_lost base view) (filter (is_comment base) on))
    c.base-base.ensures.value
    ∙ orphans-are site view on in
    IfOk-weaker c.count_lost.result _ _ (λ counted has.
    subst (λ base.
    HasCounted (orphan_item base) c.args.window (orphans site view c.args.manifest.now) counted)
    c.base-base.ensures.value
    (subst (λ orphans. HasCounted (orphan_item base) c.args.window orphans counted) asked
    (has (is_lost base view) lost)))
    c.count_lost.ensures
