-- The lines of an input, which need not be a text.
use Rattle.std.specs.Prelude.{ℕ, List}
use Rattle.std.specs.Str.Lines.{lines}

-- LF ends a line, and one CR before it is dropped; what follows the last LF is a line where it is
-- not empty, and keeps its CR
abbrev pub lines_of : List ℕ → List (List ℕ)
lines_of input = lines input
