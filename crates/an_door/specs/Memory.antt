-- What a door in memory does at each call.
use Rattle.std.specs.Prelude.{ℕ, ◌-◌, nat_lt, Bool, true, false, if◌then◌else◌, List, [], ◌∷◌}
use Rattle.std.specs.Prelude.{◌++◌, length, Option, Some, None}
use Rattle.an_session.specs.declared.ended.Ended.{Ended}
use Rattle.an_world.specs.Calls as calls
use Rattle.an_world.specs.Calls.{CallCounts, is_next_failing, failed}
use Rattle.an_door.specs.Doors.{unbound, bound_with, accepted_one, finished_one, ended_now}
use Rattle.an_door.specs.Doors.{has_most}
use Rattle.an_door.specs.declared.door.Tally.{Tally}
use Rattle.an_door.specs.declared.door.Accepted.{Accepted}
use Rattle.an_door.specs.declared.door.Accepted.TheVariants as accepted

-- a link that was handed in, and why its connection ended
pub record Returned (L : Type 0) : Type 0 where
  pub link : L
  pub ended : Ended

-- the links that are left to come, those that were handed in and are kept, how many more of these
-- there is room for, and what was counted
pub record Waiting (L : Type 0) : Type 0 where
  pub left : List L
  pub finished : List (Returned L)
  pub room : ℕ
  pub tally : Tally

-- a door before its first call, with room for as many as there are links
abbrev pub waiting_of : {L : Type 0} → List L → Waiting L
waiting_of links =
    record { left = links; finished = []; room = length links; tally = unbound }

abbrev pub is_empty : {L : Type 0} → List L → Bool
is_empty [] = true
is_empty (link ∷ links) = false

-- the link that comes next: the first that is left, until as many were accepted as the door is
-- bound to
abbrev pub next_of : {L : Type 0} → Waiting L → Option L
next_of door = if has_most door.tally then None else first_of door.left where
  first_of : {L : Type 0} → List L → Option L
  first_of [] = None
  first_of (link ∷ links) = Some link

-- what is answered to `accept`
abbrev pub accepted_of : {L : Type 0} → Waiting L → Accepted L
accepted_of door = of (next_of door) where
  of : {L : Type 0} → Option L → Accepted L
  of None = accepted.Ended
  of (Some link) = accepted.Link link

-- the door behind a `bind` that didn't fail
abbrev pub after_bind : {L : Type 0} → ℕ → ℕ → Waiting L → Waiting L
after_bind port most door = record door { tally = bound_with port most door.tally }

-- the door behind an `accept`
abbrev pub after_accept : {L : Type 0} → Waiting L → Waiting L
after_accept door = if has_most door.tally then ended door else behind door.left door where
  ended : {L : Type 0} → Waiting L → Waiting L
  ended door = record door { tally = ended_now door.tally }

  behind : {L : Type 0} → List L → Waiting L → Waiting L
  behind [] door = ended door
  behind (link ∷ links) door = record door { left = links; tally = accepted_one door.tally }

-- the door behind a `finish`: the link is kept where there is room, and counted
abbrev pub after_finish : {L : Type 0} → L → Ended → Waiting L → Waiting L
after_finish link ended door = if nat_lt 0 door.room
    then record door {
      finished = door.finished ++ record { link = link; ended = ended } ∷ [];
      room = door.room - 1;
      tally = finished_one door.tally;
    }
    else record door { tally = finished_one door.tally }

-- a door in memory, and its calls of `bind` and `accept`
pub record Memory (L : Type 0) : Type 0 where
  pub waiting : Waiting L
  pub calls : CallCounts

-- a door before its first call, of which the calls with these numbers fail
abbrev pub memory_of : {L : Type 0} → List L → List ℕ → Memory L
memory_of links failing = record {
  waiting = waiting_of links;
  calls = record { made = 0; faults = 0; failing = failing };
}

-- one more call was made, and counted as a fault where it failed
abbrev pub called : {L : Type 0} → Memory L → Memory L
called door = record door {
  calls = if is_next_failing door.calls then failed door.calls else calls.called door.calls;
}
