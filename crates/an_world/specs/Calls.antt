-- The calls of one kind that were made of a link in memory, which fails some of them.
use Rattle.std.specs.Prelude.{ℕ, ◌+◌, ◌-◌, ◌^◌, ◌==◌, min, Bool, List}
use Rattle.std.specs.List.{list_any}

-- how many were made, how many of them failed, and the numbers, from 1, of those that fail
pub record CallCounts : Type 0 where
  pub made : ℕ
  pub faults : ℕ
  pub failing : List ℕ

-- the next number of a count, which stands still at its end
abbrev pub next_count : ℕ → ℕ
next_count count = min (count + 1) (2 ^ 64 - 1)

-- whether the next call is one that fails
abbrev pub is_next_failing : CallCounts → Bool
is_next_failing calls = list_any (λ number. number == next_count calls.made) calls.failing

-- one more call was made
abbrev pub called : CallCounts → CallCounts
called calls =
    record { made = next_count calls.made; faults = calls.faults; failing = calls.failing }

-- one more call was made, and it failed
abbrev pub failed : CallCounts → CallCounts
failed calls =
    record {
      made = next_count calls.made;
      faults = next_count calls.faults;
      failing = calls.failing;
    }
