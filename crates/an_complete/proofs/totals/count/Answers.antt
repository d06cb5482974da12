use Rattle.std.proofs.Common.{[], ◌∷◌, take, arith, ap, ◌∙◌}
use Rattle.std.proofs.lemmas.List.Elements.{filter-append}
use Rattle.std.specs.Prelude.{filter, slice_get}
use Rattle.std.specs.List.{filter_map}
use Rattle.an_list.proofs.ListedLemmas.{place_with_row, place_without}
use Rattle.an_search.specs.Wanted.{matches}
use Rattle.an_complete.proofs.totals.count.Goals as goal
use Rattle.an_complete.proofs.totals.count.Goals.{in-Some+in_ok-try_row-in-Some, in-None}

pub loop-place-preserved : goal.loop-place-preserved
loop-place-preserved g c =
    let test = matches c.args.filters.now in
    let notes = (g.T.Look.state c.args.look.now).notes in
    let found = filter_map (slice_get notes) (take c.loop-place.place-index c.args.places.now) in
    let so_far = filter test found in
    elim c.match-note_at.branch [
      | in-Some+in_ok-try_row-in-Some w ↦
          let more =
          ap (filter test) (place_with_row notes c.args.places.now c.loop-place.place-index
          c.loop-place-test.true w.in-Some.row.now w.in-Some.ensures.row)
          ∙ filter-append test found (w.in-Some.row.now ∷ []) in
          rw (w.totals-is, w.last-is, more) (
            w.in_ok-try_row-in-Some.ensures.row so_far c.loop-place.invariant.0,
            w.in_ok-try_row-in-Some.ensures.known,
            omega (arith, c.note_at.ensures.step, c.loop-place.invariant.2),
          )
      | in-None w ↦
          let more =
          ap (filter test) (place_without notes c.args.places.now c.loop-place.place-index
          c.loop-place-test.true w.in-None.ensures.row) in
          rw (w.totals-is, w.last-is, more) (
            c.loop-place.invariant.0,
            c.loop-place.invariant.1,
            omega (arith, c.note_at.ensures.step, c.loop-place.invariant.2),
          )
    ]
