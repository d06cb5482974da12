use Rattle.std.proofs.Common.{take, subst, arith}
use Rattle.std.proofs.lemmas.List.{take_all}
use Rattle.std.specs.Prelude.{slice_get}
use Rattle.std.specs.List.{filter_map}
use Rattle.an_list.specs.Listed.{HasListed}
use Rattle.an_list.proofs.ListedLemmas.{place_with_row, place_without, stand-found}
use Rattle.an_list.proofs.items.list_rows.Goals as goal
use Rattle.an_list.proofs.items.list_rows.Goals.{in-Some+in_ok-listed-in-Some, in-None}

pub loop-place-init : goal.loop-place-init
loop-place-init g c =
    (c.in_ok-listed.ensures.nothing _ _ _, omega (arith, c.in_ok-listed.ensures.none), omega arith)

pub loop-place-preserved : goal.loop-place-preserved
loop-place-preserved g c =
    let notes = (g.T.Look.state c.args.look.now).notes in
    let so_far = filter_map (slice_get notes) (take c.loop-place.place-index c.args.places.now) in
    elim c.match-note_at.branch [
      | in-Some+in_ok-listed-in-Some w ↦
          let more =
          place_with_row notes c.args.places.now c.loop-place.place-index c.loop-place-test.true
          w.in-Some.row.now w.in-Some.ensures.row in
          rw (w.listed-is, more) (
            w.in_ok-listed-in-Some.ensures.row so_far c.loop-place.invariant.0,
            omega (arith, w.in_ok-listed-in-Some.ensures.few, c.loop-place.invariant.1),
            omega (arith, c.note_at.ensures.step, c.loop-place.invariant.2),
          )
      | in-None w ↦
          let more =
          place_without notes c.args.places.now c.loop-place.place-index c.loop-place-test.true
          w.in-None.ensures.row in
          rw (w.listed-is, more) (
            c.loop-place.invariant.0,
            omega (arith, c.loop-place.invariant.1),
            omega (arith, c.note_at.ensures.step, c.loop-place.invariant.2),
          )
    ]

pub returns-clause-listed : goal.returns-clause-listed
returns-clause-listed g c = λ rows stand.
    subst
    (λ rows. HasListed c.args.base.now c.args.terms.now c.args.page.now rows c.loop-place.listed)
    (stand-found _ c.args.places.now rows stand)
    (rw
    (take_all c.loop-place.place-index c.args.places.now (omega (arith, c.loop-place-test.false)))
    at c.loop-place.invariant.0)
