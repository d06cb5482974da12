-- The history of a store, and what a step on it tells.
use Rattle.std.specs.Prelude.{◌≡◌, ℕ, ◌+◌, ◌==◌, true, List, [], ◌∷◌, ◌++◌, length}
use Rattle.std.specs.Prelude.{MatchBool, ⊤}
use Rattle.logbook.specs.Pages.{Cell, Step, View, Book, Named}
use Rattle.an_state.specs.State.{State}
use Rattle.an_laws.specs.Events.{Event}

-- a beginning of a history that was reached
pub record Reached : Type 0 where
  pub book : Book
  pub list : List Event

-- a state, and the beginning of a history that led to it
pub record Led : Type 0 where
  pub state : State
  pub mark : Reached

-- the one word of a history is the number of the events behind its first
pub record IsKept (cells : List Cell) (log : List Event) : Type 0 where
  pub count : ℕ
  pub word : cells ≡ (count, true) ∷ []
  pub is : length log ≡ count + 1

-- the word of a history
abbrev pub head_of : Book → Named
head_of book = record { tracked = true; key = 0; book = book }

-- the event was added to all that had been seen; or the history has another length
abbrev pub Adds : Step Event → View Event ℕ → ℕ → View Event ℕ → Type 0
Adds step before found behind =
    MatchBool (found == step.old) (behind.0 ≡ before.0 ++ step.ask ∷ []) ⊤
