-- How a store that others write to meanwhile answers at one of its seats, and what a connection
-- there comes to.
use Rattle.std.specs.Prelude.{ℕ, ℤ, Bool, List, true}
use mathlib.Core.List.{IsPrefix}
use Rattle.an_laws.specs.Events.{Event}
use Rattle.an_list.specs.Site.{Site}
use Rattle.an_serve.specs.AtDesk.{Answered}
use Rattle.an_session.specs.Session.{Line, Session}
use Rattle.an_session.specs.Trail.{Known, Rules}
use Rattle.an_session.specs.declared.ended.Ended.{Ended}
use Rattle.an_published.specs.Lists.{Seated}

-- by what a store answers that others write to meanwhile
abbrev pub store_rules : Type 0 → (ℤ → Bool) → Site → Rules Event
store_rules Unsure clock site = record { shared = true; answers = Answered Unsure clock site }

-- the list of a seat goes on from each of these lists
abbrev pub GoesOn : (List Event → Type 0) → Seated → Type 0
GoesOn since seat = (list : List Event) → since list → IsPrefix list seat.seen

-- what is known at a seat: the events that it saw, those of its own writes, and so many faults
abbrev pub known_at : Seated → ℕ → Known Event
known_at seat faults = record { list = seat.seen; own = seat.own; faults = faults }

-- Each request of a connection at a seat is answered at a list that goes on from all that the seat
-- saw before. `Unsure` says that the keeper can fail, and moments are those that the clock tells.
pub record Sitting (Unsure : Type 0) (clock : ℤ → Bool) (site : Site) (ended : Ended)
    (old new : Line) (from to : Seated) : Type 0 where
  pub faults : ℕ
  pub session : Session (store_rules Unsure clock site) ended old new (known_at from 0)
      (known_at to faults)

-- There are a clock, settings and what a seat saw before and behind, by which all this went over a
-- link.
pub record SatSomewhere (Unsure : Type 0) (ended : Ended) (old new : Line) : Type 0 where
  pub clock : ℤ → Bool
  pub site : Site
  pub from : Seated
  pub to : Seated
  pub sitting : Sitting Unsure clock site ended old new from to
