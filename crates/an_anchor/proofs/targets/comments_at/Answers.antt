use Rattle.std.proofs.Common.{◌++◌, take, ap, ◌∙◌, arith}
use Rattle.std.proofs.lemmas.List.{take_all}
use Rattle.std.specs.Prelude.{filter, slice_get}
use Rattle.std.specs.List.{filter_map, flat_map}
use Rattle.an_list.proofs.ListedLemmas.{place_with_row, place_without}
use Rattle.an_anchor.proofs.TargetLemmas.{targets-more}
use Rattle.an_anchor.specs.Comments.{row_targets}
use Rattle.an_anchor.specs.Walk.{is_comment}
use Rattle.an_anchor.proofs.targets.comments_at.Goals as goal
use Rattle.an_anchor.proofs.targets.comments_at.Goals.{in-Some+in_ok-push_comments-in-Some, in-None}

pub loop-place-preserved : goal.loop-place-preserved
loop-place-preserved g c =
    let notes = (g.T.Look.state c.args.look.now).notes in
    let test = is_comment c.args.base.now in
    let found = filter_map (slice_get notes) (take c.loop-place.place-index c.args.places.now) in
    elim c.match-note_at.branch [
      | in-Some+in_ok-push_comments-in-Some w ↦
          let more =
          ap (λ rows. filter test (flat_map row_targets rows))
          (place_with_row notes c.args.places.now c.loop-place.place-index c.loop-place-test.true
          w.in-Some.row.now w.in-Some.ensures.row)
          ∙ targets-more test found w.in-Some.row.now in
          rw (w.comments-is, more) (
            w.in_ok-push_comments-in-Some.ensures
                ∙ ap (λ front. front ++ filter test (row_targets w.in-Some.row.now))
                c.loop-place.invariant.0,
            omega (arith, c.note_at.ensures.step, c.loop-place.invariant.1),
          )
      | in-None w ↦
          let more =
          ap (λ rows. filter test (flat_map row_targets rows))
          (place_without notes c.args.places.now c.loop-place.place-index c.loop-place-test.true
          w.in-None.ensures.row) in
          rw (w.comments-is, more) (
            c.loop-place.invariant.0,
            omega (arith, c.note_at.ensures.step, c.loop-place.invariant.1),
          )
    ]

pub returns-clause-comments : goal.returns-clause-comments
returns-clause-comments g c =
    c.loop-place.invariant.0
    ∙ ap (λ places. filter (is_comment c.args.base.now)
    (flat_map row_targets (filter_map (slice_get (g.T.Look.state c.args.look.now).notes) places)))
    (take_all c.loop-place.place-index c.args.places.now (omega (arith, c.loop-place-test.false)))
