use Rattle.std.proofs.Common.{◌≡◌, ◌+◌, ◌≤◌, ◌++◌, drop, length}
use Rattle.std.specs.Prelude.{filter}
use Rattle.std.specs.List.{flat_map}
use Rattle.an_policy.specs.Audience.{identity}
use Rattle.an_state.specs.View.{shows_note}
use Rattle.an_export.specs.Export.{note_line}
use Rattle.an_export.proofs.shown.push_notes.Given as goal

-- what was written, and the lines of the annotations that are left; each row so far took a step
abbrev pub invariant-loop-place : goal.invariant-loop-place
invariant-loop-place g l =
    let notes = (g.T.Look.state l.look).notes in
    let shown = shows_note (g.T.Look.state l.look) (identity l.who) in
    record {
      text : l.out.items ++ flat_map note_line (filter shown (drop l.place notes))
          ≡ l.initial.out.items ++ flat_map note_line (filter shown notes);
      steps : l.steps ≡ l.fn.steps + l.place;
      within : l.place ≤ length notes;
    }
