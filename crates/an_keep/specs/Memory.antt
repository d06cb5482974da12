-- What a keeper in memory does at each call.
use Rattle.std.specs.Prelude.{ℕ, ◌+◌, ◌-◌, ◌^◌, ◌==◌, min, Bool, if◌then◌else◌, List}
use Rattle.std.specs.List.{list_any}
use Rattle.an_keep.specs.declared.cell.Cell.{Cell}

-- the cells, how many calls were made, how many of them failed, and the numbers, from 1, of those
-- that fail
pub record Memory : Type 0 where
  pub cells : List Cell
  pub made : ℕ
  pub faults : ℕ
  pub failing : List ℕ

-- a keeper before its first call
abbrev pub memory_of : List Cell → List ℕ → Memory
memory_of cells failing = record { cells = cells; made = 0; faults = 0; failing = failing }

-- the next number of a count, which stands still at its end
abbrev pub next_count : ℕ → ℕ
next_count count = min (count + 1) (2 ^ 64 - 1)

-- whether the next call is one that fails
abbrev pub is_next_failing : Memory → Bool
is_next_failing keeper = list_any (λ number. number == next_count keeper.made) keeper.failing

-- one more call was made, and counted as a fault where it failed
abbrev pub called : Memory → Memory
called keeper = record keeper {
  made = next_count keeper.made;
  faults = if is_next_failing keeper then next_count keeper.faults else keeper.faults;
}

-- a keeper in memory that never fails a call
pub record Sure : Type 0 where
  pub cells : List Cell
