use Rattle.std.proofs.Common.{◌≡◌, ◌+◌, ◌^◌, ◌<◌, ◌≤◌, length, IsSome}
use Rattle.an_state.specs.State.{State}
use Rattle.an_lines.specs.Import.{import_lines, start}
use Rattle.an_lines.specs.Split.{lines_of}
use Rattle.an_lines.proofs.ImportLemmas.{Front}
use Rattle.an_lines.proofs.importing.import_lines.Given as goal

-- the lines that are left lead to what all lead to, and some of the first of them to what some of
-- the first of all lead to
abbrev pub invariant-lines : goal.invariant-lines
invariant-lines g l = record {
  all : import_lines (lines_of l.left) l.number (record { state = l.desk.state; counts = l.counts })
      ≡ import_lines (lines_of l.fn.input.items) 1 (start l.initial.desk.state);
  fronts : (t : State)
      → Front (lines_of l.left) l.number (record { state = l.desk.state; counts = l.counts }) t
      → Front (lines_of l.fn.input.items) 1 (start l.initial.desk.state) t;
  kept : l.initial.desk.faults ≤ l.desk.faults;
  told : IsSome l.desk.told → IsSome l.initial.desk.told;
  counted : l.counts.accepted + l.counts.repeated + l.counts.old < l.number;
  few : l.number + length l.left ≤ length l.fn.input.items + 1;
  within : length l.fn.input.items < 2 ^ 63;
}

abbrev pub decreases-lines : goal.decreases-lines
decreases-lines g l = length l.left
