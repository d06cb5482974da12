-- What a seat knows.
use Rattle.std.specs.Prelude.{◌≡◌, List, [], Option, None, Some}
use Rattle.logbook.specs.Pages.{Book}
use Rattle.an_laws.specs.Events.{Event, IsLegal}
use Rattle.an_published.specs.History.{Reached}
use Rattle.an_published.specs.Lists.{Stands}

-- the store at which it looked, if it did, the events that it saw, and those of its own writes
pub record Known : Type 0 where
  pub book : Option Book
  pub seen : List Event
  pub own : List Event

-- one that has not looked
abbrev pub newcomer : Known
newcomer = record { book = None; seen = []; own = [] }

-- what holds of a seat that knows this and has this mark
pub record Sits (v : Known) (mark : Reached) : Type 0 where
  pub book : v.book ≡ Some mark.book
  pub seen : v.seen ≡ mark.list
  pub legal : IsLegal mark.list
  pub stands : Stands v.own mark.list
