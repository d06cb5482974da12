-- For private clauses: that a turn was taken.
use Rattle.std.specs.Prelude.{◌≡◌, ℕ, List, ◌++◌, Option, Some, None}
use Rattle.an_code.specs.declared.code.Code.{Code}
use Rattle.an_state.specs.State.{State}
use Rattle.an_lines.specs.Find.{Turn, passes, prints, writes, stops}

-- the state and the output before and after a turn, and where it stops
abbrev pub Takes : Turn → State → State → List ℕ → List ℕ → Option Code → Type 0
Takes passes old new output printed stop = (new ≡ old) × (printed ≡ output) × (stop ≡ None)
Takes (prints text) old new output printed stop =
    (new ≡ old) × (printed ≡ output ++ text) × (stop ≡ None)
Takes (writes s) old new output printed stop = (new ≡ s) × (printed ≡ output) × (stop ≡ None)
Takes (stops refusal) old new output printed stop =
    (new ≡ old) × (printed ≡ output) × (stop ≡ Some refusal)
