-- What a seat has seen of its store, and what of that is its own.
use Rattle.std.specs.Prelude.{◌≡◌, ◌⊎◌, List, [], ◌∷◌, ⊤}
use mathlib.Core.List.{IsPrefix}
use Rattle.logbook.specs.Pages.{Book}
use Rattle.an_state.specs.State.{State}
use Rattle.an_laws.specs.Events.{Event, IsLegal, state_at}

-- the first list's items stand in the second, each once and in this order
abbrev pub Stands : {A : Type 0} → List A → List A → Type 0
Stands [] ys = ⊤
Stands (x ∷ xs) [] = ⊥
Stands (x ∷ xs) (y ∷ ys) = ((x ≡ y) × Stands xs ys) ⊎ Stands (x ∷ xs) ys

-- the last item, if there is one
abbrev pub last_of : {A : Type 0} → List A → List A
last_of [] = []
last_of (x ∷ []) = x ∷ []
last_of (x ∷ y ∷ ys) = last_of (y ∷ ys)

-- a store is named by its history; this is the name of none
abbrev pub no_book : Book
no_book = record { number = 0; log_name = 0; cells_name = 0 }

-- a seat: its store, the events that it saw, and those of them that are its own writes
pub record Seated : Type 0 where
  pub book : Book
  pub seen : List Event
  pub own : List Event

-- a seat, and the state that it is shown
pub record Showing : Type 0 where
  pub seat : Seated
  pub state : State

-- what was seen behind the opening of a store
abbrev pub newly_seated : Book → List Event → Seated
newly_seated book list = record { book = book; seen = list; own = [] }

-- A seat that looks is shown the state of a list that goes on from the one that it saw, and has
-- then seen that list. Its own events stand there.
pub record Sees (old : Seated) (new : Showing) : Type 0 where
  pub same_book : new.seat.book ≡ old.book
  pub same_own : new.seat.own ≡ old.own
  pub later : IsPrefix old.seen new.seat.seen
  pub legal : IsLegal new.seat.seen
  pub stands : Stands new.seat.own new.seat.seen
  pub state : new.state ≡ state_at new.seat.seen
