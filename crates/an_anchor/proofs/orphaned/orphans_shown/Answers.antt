use Rattle.std.proofs.Common.{ap, subst, ◌∙◌}
use Rattle.an_base.specs.Outcome.{Gives}
use Rattle.an_policy.specs.Audience.{identity}
use Rattle.an_state.specs.View.{view_of}
use Rattle.an_list.specs.Page.{start_of}
use Rattle.an_list.specs.declared.error.ReadError.TheVariants.{Memory}
use Rattle.an_anchor.proofs.PageLemmas.{takes_anyway}
use Rattle.an_anchor.specs.Comments.{orphans, orphans_text, orphans_whole}
use Rattle.an_anchor.proofs.orphaned.orphans_shown.Goals as goal

pub returns-clause-body : goal.returns-clause-body
returns-clause-body g c =
    let view = view_of (g.T.Look.state c.args.look.now) (identity c.args.who.now) in
    let site = c.args.site.now in
    let whole =
    c.in_ok-whole.ensures
    ∙ ap (λ base. orphans_whole base c.args.manifest.now) c.base.ensures.value in
    let start = c.of-window.ensures.start ∙ ap (start_of c.args.page) c.size.ensures.value in
    let size = c.of-window.ensures.size ∙ c.size.ensures.value in
    subst (λ whole. Gives (λ body. body) Memory c.orphans_page.result
    (orphans_text site whole c.args.page (orphans site view c.args.manifest.now))) whole
    (c.orphans_page.ensures _ c.of-window.result start size c.in_ok-counted.ensures.counted)

pub returns-clause-steps : goal.returns-clause-steps
returns-clause-steps g c =
    takes_anyway Memory c.orphans_page.result _ _ _ c.in_ok-counted.ensures.steps
