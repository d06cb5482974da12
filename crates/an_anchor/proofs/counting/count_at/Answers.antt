use Rattle.std.proofs.Common.{take, ap, ◌∙◌, arith}
use Rattle.std.proofs.lemmas.List.{take_all}
use Rattle.std.specs.Prelude.{filter, slice_get}
use Rattle.std.specs.List.{filter_map, flat_map}
use Rattle.an_list.proofs.ListedLemmas.{place_with_row, place_without}
use Rattle.an_anchor.proofs.CountLemmas.{counted-none}
use Rattle.an_anchor.proofs.TargetLemmas.{targets-more}
use Rattle.an_anchor.specs.Comments.{anchor_item, is_about, row_targets}
use Rattle.an_anchor.proofs.counting.count_at.Goals as goal
use Rattle.an_anchor.proofs.counting.count_at.Goals.{in-Some+in_ok-counted-in-Some, in-None}

pub loop-place-init : goal.loop-place-init
loop-place-init g c = (
  counted-none (anchor_item c.args.asked.now.base.now c.args.asked.now.texts.now)
      c.args.asked.now.window _ c.none_counted-counted.ensures.items
      c.none_counted-counted.ensures.total,
  omega arith,
)

pub loop-place-preserved : goal.loop-place-preserved
loop-place-preserved g c =
    let notes = (g.T.Look.state c.args.look.now).notes in
    let asked = c.args.asked.now in
    let about = is_about asked.iri.now in
    let found = filter_map (slice_get notes) (take c.loop-place.place-index c.args.places.now) in
    let so_far = filter about (flat_map row_targets found) in
    elim c.match-note_at.branch [
      | in-Some+in_ok-counted-in-Some w ↦
          let more =
          ap (λ rows. filter about (flat_map row_targets rows))
          (place_with_row notes c.args.places.now c.loop-place.place-index c.loop-place-test.true
          w.in-Some.row.now w.in-Some.ensures.row)
          ∙ targets-more about found w.in-Some.row.now in
          rw (w.counted-is, more) (
            w.in_ok-counted-in-Some.ensures.counted so_far c.loop-place.invariant.0,
            omega (arith, c.note_at.ensures.step, c.loop-place.invariant.1),
          )
      | in-None w ↦
          let more =
          ap (λ rows. filter about (flat_map row_targets rows))
          (place_without notes c.args.places.now c.loop-place.place-index c.loop-place-test.true
          w.in-None.ensures.row) in
          rw (w.counted-is, more) (
            c.loop-place.invariant.0,
            omega (arith, c.note_at.ensures.step, c.loop-place.invariant.1),
          )
    ]

pub returns-clause-counted : goal.returns-clause-counted
returns-clause-counted g c =
    rw
    (take_all c.loop-place.place-index c.args.places.now (omega (arith, c.loop-place-test.false)))
    at c.loop-place.invariant.0
