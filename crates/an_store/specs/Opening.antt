-- A store that was opened, and one that is closed.
use Rattle.std.specs.Prelude.{◌≡◌, ℕ, List, [], ◌∷◌, All, IfSome}
use mathlib.Core.List.{IsPrefix}
use Rattle.logbook.specs.Pages.{Book, Named}
use Rattle.an_keep.specs.Keeper.{Told}
use Rattle.an_rows.specs.Cells.{cells}
use Rattle.an_state.specs.State.{State}
use Rattle.an_shelf.specs.Opening.{StandFor}
use Rattle.an_shelf.specs.Store.{Stands}
use Rattle.an_laws.specs.Events.{Event, Opened, IsLegal, Keeps, state_at, told_at}
use Rattle.an_published.specs.History.{head_of}
use Rattle.an_published.specs.Known.{Known}
use Rattle.an_published.specs.Lists.{Seated, newly_seated}
use Rattle.an_published.specs.Rule.{notice}
use Rattle.an_published.specs.declared.published.Published.{Published}
use Rattle.an_published.specs.declared.published.Addition.{Addition}

-- the history that names the store, the list that is published, its seats, the state, the cells
-- where the keeper tells them, and how often the keeper failed
pub record Start : Type 0 where
  pub book : Book
  pub list : List Event
  pub seats : List Seated
  pub state : State
  pub told : Told
  pub faults : ℕ

-- There is a legal list, which goes on from the one that was seen, and each of whose writes was
-- kept as it came, the last of them still. The cells, where the keeper tells them, are those of its
-- state and stand for it.
pub record Closes (seen : List Event) (told : Told) : Type 0 where
  pub list : List Event
  pub later : IsPrefix seen list
  pub legal : IsLegal list
  pub keeps : Keeps (told_at list) (state_at list) told
  pub cells : IfSome told (λ found. found ≡ cells (state_at list))
  pub stand : StandFor told (state_at list)

-- For private clauses: what holds of the parts of a store that was opened. Nothing pends, the
-- writer knows what is shown, and the list has only the opening, with the state that is shown.
pub record Begun (v : Known) (head : Named) (pending : List Addition) (shown : Published)
    (told : Told) : Type 0 where
  pub none : pending ≡ []
  pub knows : v ≡ notice shown
  pub is_head : head ≡ head_of shown.mark.book
  pub list : shown.mark.list ≡ Opened shown.snapshot.state told ∷ []

-- For private clauses: the state is valid, sound and kept, and all seats are new ones.
pub record IsStart (start : Start) : Type 0 where
  pub stands : Stands start.told start.state
  pub seats : All (λ seat. seat ≡ newly_seated start.book start.list) start.seats
