use Rattle.std.proofs.Common.{ap, subst, ◌∙◌}
use Rattle.std.specs.Prelude.{filter}
use Rattle.an_base.specs.Outcome.{Gives}
use Rattle.an_iri.specs.Iris.{note_iri}
use Rattle.an_model.specs.Bodies.{texts_of}
use Rattle.an_policy.specs.Audience.{identity}
use Rattle.an_state.specs.View.{view_of}
use Rattle.an_list.specs.Page.{start_of}
use Rattle.an_list.specs.declared.error.ReadError.TheVariants.{Memory}
use Rattle.an_anchor.proofs.PageLemmas.{takes_anyway}
use Rattle.an_anchor.specs.Comments.{anchor_item, anchors_text, anchors_whole, comments, is_about, targets_on}
use Rattle.an_anchor.specs.Walk.{HasCounted}
use Rattle.an_anchor.proofs.commented.live_anchors.Goals as goal

pub returns-clause-answer : goal.returns-clause-answer
returns-clause-answer g c =
    let view = view_of (g.T.Look.state c.args.look.now) (identity c.args.who.now) in
    let site = c.args.site.now in
    let owner = c.args.owner.now in
    let name = c.args.name.now in
    let live = c.args.live.now in
    let texts = texts_of live.tree.now in
    let on = targets_on view live.manifest.now in
    let whole =
    c.in_ok-whole.ensures ∙ ap (λ base. anchors_whole base owner name) c.base-base.ensures.value in
    let has =
    subst (λ base. HasCounted (anchor_item base texts) c.of-window.result
    (filter (is_about (note_iri base owner name)) on) c.in_ok-counted.counted)
    c.base-base.ensures.value c.in_ok-counted.ensures.counted in
    let start = c.of-window.ensures.start ∙ ap (start_of c.args.page) c.size.ensures.value in
    let size = c.of-window.ensures.size ∙ c.size.ensures.value in
    subst (λ whole. Gives (λ body. body) Memory c.anchors_page.result
    (anchors_text site whole c.args.page texts (comments site view owner name live.manifest.now)))
    whole
    (c.anchors_page.ensures texts _ c.of-window.result start size has)

pub returns-clause-steps : goal.returns-clause-steps
returns-clause-steps g c =
    takes_anyway Memory c.anchors_page.result _ _ _ c.in_ok-counted.ensures.steps
