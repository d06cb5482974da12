-- Counts of faults.
use Rattle.std.specs.Prelude.{ℕ, ◌-◌, ◌^◌, ◌<◌}

-- one more fault was counted; a count stands still at its end
abbrev pub Rises : ℕ → ℕ → Type 0
Rises old new = old < 2 ^ 64 - 1 → old < new
