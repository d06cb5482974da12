use Rattle.std.proofs.Common.{◌≡◌, ◌+◌, ◌^◌, ◌<◌, ◌≤◌, ◌++◌, length}
use Rattle.an_state.specs.State.{empty}
use Rattle.an_lines.specs.Find.{play}
use Rattle.an_lines.specs.Split.{lines_of}
use Rattle.an_lines.proofs.lines.play.Given as goal

-- what is printed for the lines that are left stands behind what was printed, and they stop where
-- all do
abbrev pub invariant-lines : goal.invariant-lines
invariant-lines l = record {
  output : l.output.items ++ (play l.settings (lines_of l.left) l.number l.book.state).output
      ≡ (play l.settings (lines_of l.fn.input.items) 1 empty).output;
  stop : (play l.settings (lines_of l.left) l.number l.book.state).stop
      ≡ (play l.settings (lines_of l.fn.input.items) 1 empty).stop;
  few : l.number + length l.left ≤ length l.fn.input.items + 1;
  within : length l.fn.input.items < 2 ^ 63;
}

abbrev pub decreases-lines : goal.decreases-lines
decreases-lines l = length l.left
