use Rattle.std.proofs.Common.{◌≡◌, ◌+◌, ◌<◌, length, get_or, set, take, refl, sym, ap, subst, ◌∙◌, arith, Some}
use Rattle.std.proofs.lemmas.List.{length-set, take_all}
use Rattle.std.proofs.lemmas.Option.{slice_get_read}
use Rattle.std.specs.Prelude.{slice_get}
use Rattle.std.specs.List.{All}
use Rattle.an_policy.specs.Audience.{identity}
use Rattle.an_state.specs.View.{view_of}
use Rattle.an_anchor.proofs.JudgeLemmas.{judged-more}
use Rattle.an_anchor.specs.Comments.{is_lost_in}
use Rattle.an_anchor.specs.Walk.{IsJudged, is_lost, texts_at}
use Rattle.an_anchor.proofs.lost.judge.Goals as goal

pub loop-place-preserved : goal.loop-place-preserved
loop-place-preserved g c =
    let view = view_of (g.T.Look.state c.args.look.now) (identity c.args.who.now) in
    let base = c.args.base.now in
    let comments = c.args.comments.now in
    let order = c.args.order.now in
    let found = c.loop-place.lost.items in
    let i = c.loop-place.place-index in
    let place = get_or order i 0 in
    let comment = c.index-comments-place.result in
    let within : place < length comments = c.requires.within i 0 c.loop-place-test.true in
    let is : slice_get comments place ≡ Some comment =
    slice_get_read comments (length comments) place comment refl within c.index-comments-place.is in
    let inside : place < length found = omega (arith, c.loop-place.invariant.1, within) in
    let texts =
    c.in_ok-known-2.ensures.known
    ∙ ap (texts_at base view) (c.in_ok-known-2.ensures.source ∙ c.as_str.ensures.value) in
    let lost = c.in_ok-lost-2.ensures ∙ ap (λ texts. is_lost_in texts comment) texts in
    let more =
    judged-more (is_lost base view) comments found order i place comment c.loop-place-test.true refl
    inside is c.loop-place.invariant.2 in (
      c.in_ok-known-2.ensures.known,
      length-set found place c.in_ok-lost-2.field-0 ∙ c.loop-place.invariant.1,
      subst (λ b.
          All (IsJudged (is_lost base view) comments (set found place b)) (take (i + 1) order))
          (sym lost) more,
    )

pub returns-clause-judged : goal.returns-clause-judged
returns-clause-judged g c =
    let view = view_of (g.T.Look.state c.args.look.now) (identity c.args.who.now) in
    subst
    (All (IsJudged (is_lost c.args.base.now view) c.args.comments.now c.loop-place.lost.items))
    (take_all c.loop-place.place-index c.args.order.now (omega (arith, c.loop-place-test.false)))
    c.loop-place.invariant.2
