use Rattle.std.proofs.Common.{arith, sym}
use Rattle.std.proofs.lemmas.Option.{slice_get_within}
use Rattle.an_policy.specs.Audience.{identity}
use Rattle.an_state.specs.View.{shows_note}
use Rattle.an_export.specs.Export.{note_line}
use Rattle.an_export.proofs.PlaceLemmas.{all_written, line_written, past_all}
use Rattle.an_export.proofs.shown.push_notes.Goals as goal

pub returns-in-None : goal.returns-in-None
returns-in-None g c =
    let notes = (g.T.Look.state c.args.look.now).notes in
    record {
      text =
          all_written (shows_note (g.T.Look.state c.args.look.now) (identity c.args.who.now))
          note_line notes c.loop-place.place _ _ c.in-None.ensures.row c.loop-place.invariant.text;
      steps = omega (
        arith,
        c.note_at.ensures.step,
        c.loop-place.invariant.steps,
        c.loop-place.invariant.within,
        past_all notes c.loop-place.place c.in-None.ensures.row,
      );
    }

pub loop-place-preserved : goal.loop-place-preserved
loop-place-preserved g c =
    let notes = (g.T.Look.state c.args.look.now).notes in
    record {
      text =
          line_written (shows_note (g.T.Look.state c.args.look.now) (identity c.args.who.now))
          note_line notes c.loop-place.place c.in-Some.row.now
          c.loop-place.out.items c.in_ok-out-in-Some.out.items _ c.in-Some.ensures.row
          c.in_ok-out-in-Some.ensures.text c.loop-place.invariant.text;
      steps = omega (arith, c.note_at.ensures.step, c.loop-place.invariant.steps);
      within =
          omega (arith, slice_get_within notes c.loop-place.place _ (sym c.in-Some.ensures.row));
    }
