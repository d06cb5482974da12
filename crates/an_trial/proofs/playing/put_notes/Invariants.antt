use Rattle.std.proofs.Common.{◌≡◌, ◌*◌, IsSome, None}
use Rattle.std.specs.Prelude.{fold}
use Rattle.an_trial.specs.Draws.{number_behind}
use Rattle.an_trial.specs.Trial.{state_behind}
use Rattle.an_trial.specs.Writes.{note_writes}
use Rattle.an_trial.proofs.playing.put_notes.Given as goal

-- so many annotations were put and are shown, for which four draws each were taken
abbrev pub invariant-loop-notes : goal.invariant-loop-notes
invariant-loop-notes l = record {
  number : l.generator.number ≡ number_behind l.seed (4 * l.notes);
  state : l.desk.state ≡ fold state_behind l.initial.desk.state (note_writes l.seed l.notes);
  nothing_waits : l.desk.waiting ≡ None;
  told : IsSome l.desk.told → IsSome l.initial.desk.told;
}
