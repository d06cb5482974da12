-- For private clauses: what a seat comes to by one request.
use Rattle.std.specs.Prelude.{◌≡◌, ◌⊎◌, ℕ, ℤ, List, ◌++◌, Bool}
use mathlib.Core.List.{IsPrefix}
use Rattle.an_http.specs.declared.reply.Reply.{Reply}
use Rattle.an_keep.specs.Keeper.{Told}
use Rattle.an_laws.specs.Events.{Event, IsLegal, state_at, wrote}
use Rattle.an_machine.specs.Legal.{Write}
use Rattle.an_list.specs.Site.{Site}
use Rattle.an_serve.specs.AtDesk.{IsAnswer}
use Rattle.an_serve.specs.declared.responding.Response.{Response}
use Rattle.an_session.specs.Trail.{Known}
use Rattle.an_published.specs.Lists.{Seated}
use Rattle.an_seats.specs.Seats.{known_at}

-- a seat stands for what is known there
abbrev pub IsKnownAt : Seated → Known Event → Type 0
IsKnownAt seat known = known ≡ known_at seat known.faults

-- a seat saw a list that goes on from the one that it saw before
pub record Looked (old new : Seated) : Type 0 where
  pub book : new.book ≡ old.book
  pub own : new.own ≡ old.own
  pub later : IsPrefix old.seen new.seen
  pub legal : IsLegal new.seen

-- the same, but for what is legal: nothing came of a request
pub record Rested (old new : Seated) : Type 0 where
  pub own : new.own ≡ old.own
  pub later : IsPrefix old.seen new.seen

-- A seat came to this reply to what a request comes to, at a list that goes on from the one that it
-- saw. What was added there was kept, as the keeper told then, is the seat's own, and was seen.
pub record SeatComes (Unsure : Type 0) (clock : ℤ → Bool) (site : Site) (response : Response)
    (old : Seated) (reply : Reply) (new : Seated) : Type 0 where
  pub at : List Event
  pub writes : List Write
  pub told : Told
  pub faults : ℕ
  pub found : IsPrefix old.seen at
  pub legal : IsLegal (at ++ wrote told writes)
  pub answers : IsAnswer Unsure clock site (state_at at) response reply writes faults
  pub seen : IsPrefix (at ++ wrote told writes) new.seen
  pub own : new.own ≡ old.own ++ wrote told writes

-- where a reply is lost, nothing came of the request, or it was answered all the same
abbrev pub SeatLoses : Type 0 → (ℤ → Bool) → Site → Response → Seated → Seated → Type 0
SeatLoses Unsure clock site response old new =
    Rested old new ⊎ ((reply : Reply) × SeatComes Unsure clock site response old reply new)
