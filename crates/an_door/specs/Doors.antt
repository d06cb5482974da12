-- What a door counts, and what a run of its workers comes to.
use Rattle.std.specs.Prelude.{◌≡◌, ◌<◌, ℕ, ◌==◌, nat_le, Bool, true, false, not, ◌&&◌, ◌||◌, List}
use Rattle.std.specs.Prelude.{◌++◌, codes, decimal, Option, Some, None}
use Rattle.an_world.specs.Calls.{next_count}
use Rattle.an_world.specs.Link.{Traffic, Writes, WritesFront}
use Rattle.an_door.specs.declared.door.Accepted.{Accepted}
use Rattle.an_door.specs.declared.door.Accepted.TheVariants.{Link, Ended}
use Rattle.an_door.specs.declared.door.Tally.{Tally}

-- a door that nothing was asked of yet
abbrev pub unbound : Tally
unbound = record { accepted = 0; finished = 0; ended = false; port = 0; most = 0 }

abbrev pub bound_with : ℕ → ℕ → Tally → Tally
bound_with port most tally = record tally { port = port; most = most }

abbrev pub accepted_one : Tally → Tally
accepted_one tally = record tally { accepted = next_count tally.accepted }

abbrev pub finished_one : Tally → Tally
finished_one tally = record tally { finished = next_count tally.finished }

abbrev pub ended_now : Tally → Tally
ended_now tally = record tally { ended = true }

-- whether as many links were accepted as the door is bound to
abbrev pub has_most : Tally → Bool
has_most tally = not (tally.most == 0) && nat_le tally.most tally.accepted

-- A fresh link is accepted; or the end is told, exactly where the door has accepted as many as it
-- is bound to, or has none left.
abbrev pub Accepts : {L : Type 0} → (L → Type 0) → Bool → Accepted L → Tally → Tally → Type 0
Accepts Fresh has_none (Link link) old new =
    Fresh link × ((has_none || has_most old) ≡ false) × (new ≡ accepted_one old)
Accepts Fresh has_none Ended old new =
    ((has_none || has_most old) ≡ true) × (new ≡ ended_now old)

-- The door was bound with these and has ended, and as many links were handed in as were accepted:
-- so many.
pub record IsComplete (port most count : ℕ) (tally : Tally) : Type 0 where
  pub port_is : tally.port ≡ port
  pub most_is : tally.most ≡ most
  pub has_ended : tally.ended ≡ true
  pub all : tally.finished ≡ tally.accepted
  pub count_is : tally.finished ≡ count

-- what is printed of so many links
abbrev pub served_text : ℕ → List ℕ
served_text count = codes "served " ++ (decimal count ++ codes "\n")

abbrev pub door_text : List ℕ
door_text = codes "door failed\n"

-- a run is complete by so many links, or the door has failed a call
abbrev pub Comes : ℕ → ℕ → Tally → ℕ → Option ℕ → Type 0
Comes port most tally faults (Some count) = IsComplete port most count tally
Comes port most tally faults None = 0 < faults

-- what is printed of how a run ended
abbrev pub end_text : Option ℕ → List ℕ
end_text (Some count) = served_text count
end_text None = door_text

-- the run is complete, and how many links were handed in was printed
pub record Serves (port most : ℕ) (tally : Tally) (old new : Option Traffic) : Type 0 where
  pub count : ℕ
  pub complete : IsComplete port most count tally
  pub told : Writes (served_text count) old new

-- the run ended, and no more than a front of what is printed of that was written
pub record Breaks (port most : ℕ) (tally : Tally) (faults : ℕ) (old new : Option Traffic)
    : Type 0 where
  pub count : Option ℕ
  pub comes : Comes port most tally faults count
  pub front : WritesFront (end_text count) old new
