use Rattle.std.proofs.Common.{◌+◌, ap, ◌∙◌}
use Rattle.an_trial.specs.Writes.{note_write}
use Rattle.an_trial.proofs.PlayLemmas.{four_more, note_more}
use Rattle.an_trial.proofs.playing.put_notes.Goals as goal

pub loop-notes-preserved : goal.loop-notes-preserved
loop-notes-preserved c =
    let notes = c.loop-notes.notes in
    let number = c.loop-notes.generator.number in
    record {
      number =
          four_more c.args.seed notes number _ c.loop-notes.invariant.number
          c.draws-draws.ensures.number;
      state =
          note_more c.args.seed notes number _ c.loop-notes.desk.state _ c.in_ok-write.write
          c.loop-notes.invariant.number c.loop-notes.invariant.state
          (c.in_ok-write.ensures.value ∙ ap (note_write (notes + 1)) c.draws-draws.ensures.value)
          c.in_ok-put.ensures.state;
      nothing_waits = c.in_ok-put.ensures.nothing_waits;
      told = λ some. c.loop-notes.invariant.told (c.put.ensures.told some);
    }
