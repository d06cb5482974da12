-- A turn that was taken, and the lines behind it.
use Rattle.std.proofs.Common.{◌≡◌, ℕ, ◌+◌, List, ◌++◌, Option, None, Some, refl, sym, ap, ◌∙◌, append-nil, append_assoc}
use Rattle.std.proofs.lemmas.Option.{same_Some}
use Rattle.an_code.specs.declared.code.Code.{Code}
use Rattle.an_state.specs.State.{State}
use Rattle.an_lines.specs.Find.{Turn, passes, prints, writes, stops, Played, follow}
use Rattle.an_lines.specs.Turned.{Takes}
use Rattle.an_lines.specs.declared.stop.Stop.{Stop}

-- behind a line that doesn't end the run stands what the lines behind it print, from the state that
-- it left
pub follows : (turn : Turn) (number : ℕ) (go : ℕ → State → Played) (old new : State)
    (output printed : List ℕ) → Takes turn old new output printed None
    → (printed ++ (go (number + 1) new).output ≡ output ++ (follow number old go turn).output)
    × ((go (number + 1) new).stop ≡ (follow number old go turn).stop)
follows passes number go old new output printed taken = rw (taken.0, taken.1) (refl, refl)
follows (prints text) number go old new output printed taken =
    rw (taken.0, taken.1) (append_assoc output text (go (number + 1) old).output, refl)
follows (writes s) number go old new output printed taken = rw (taken.0, taken.1) (refl, refl)
follows (stops refusal) number go old new output printed taken = absurd (cc)

abbrev stopped : ℕ → Code → Option Stop
stopped line why = Some (record { line = line; why = why })

-- where a line ends the run, nothing more is printed
pub ends : (turn : Turn) (number : ℕ) (go : ℕ → State → Played) (old new : State)
    (output printed : List ℕ) (why : Code) → Takes turn old new output printed (Some why)
    → (printed ≡ output ++ (follow number old go turn).output)
    × (stopped number why ≡ (follow number old go turn).stop)
ends passes number go old new output printed why taken = absurd (cc)
ends (prints text) number go old new output printed why taken = absurd (cc)
ends (writes s) number go old new output printed why taken = absurd (cc)
ends (stops refusal) number go old new output printed why taken =
    (taken.1 ∙ sym (append-nil output), ap (stopped number) (same_Some why refusal taken.2))
