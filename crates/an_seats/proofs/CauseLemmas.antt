-- The end of a connection at a seat has its cause.
use Rattle.std.proofs.Common.{◌≡◌, ◌⊎◌, inl, inr, ℕ, ℤ, List, ◌++◌, Bool, Option, Some, None, sym, subst, ◌∙◌, append_assoc}
use Rattle.an_base.specs.Faults.{Rises}
use Rattle.an_http.specs.Replies.{memory_reply}
use Rattle.an_list.specs.Site.{Site}
use Rattle.an_session.specs.Session.{Ends, Line, Moves, Stops}
use Rattle.an_session.specs.Trail.{Item, texts}
use Rattle.an_session.specs.declared.ended.Ended.{Ended}
use Rattle.an_session.specs.declared.ended.Ended.TheVariants as ended
use Rattle.an_published.specs.Lists.{Seated}
use Rattle.an_world.specs.Link.{Traffic}
use Rattle.an_door.specs.Ends.{EndsWith, IsCaused}
use mathlib.Core.List.{IsPrefix}
use Rattle.an_session.proofs.LawLemmas.{ran_prefix}
use Rattle.an_seats.specs.Seats.{Sitting, known_at, store_rules}

ends-with : (read front tail : List ℕ) (old new : Option Traffic)
    → Moves read (front ++ tail) old new → EndsWith tail new
ends-with read front tail None None moves = tt
ends-with read front tail None (Some new) moves = absurd moves
ends-with read front tail (Some old) None moves = absurd moves
ends-with read front tail (Some old) (Some new) moves =
    (old.written ++ front, moves.writes ∙ sym (append_assoc old.written front tail))

told-memory : (read front tail : List ℕ) (old new : Line)
    → Moves read (front ++ tail) old.traffic new.traffic
    → (tail ≡ memory_reply) ⊎ Stops memory_reply tail old new
    → Rises old.write_faults new.write_faults ⊎ EndsWith memory_reply new.traffic
told-memory read front tail old new moves (inl is) =
    inr (subst (λ tail. EndsWith tail new.traffic) is
    (ends-with read front tail old.traffic new.traffic moves))
told-memory read front tail old new moves (inr stops) = inl stops.fault

caused : {E : Type 0} (ended : Ended) (old new : Line) (read : List ℕ) (trail lost : List (Item E))
    (tail rest : List ℕ) → Moves read (texts trail ++ tail) old.traffic new.traffic
    → Ends ended old new trail lost tail rest → IsCaused ended old new
caused ended.Closed old new read trail lost tail rest moves ends = tt
caused ended.ReadFault old new read trail lost tail rest moves (none, nothing, last, holds, rises) =
    rises
caused ended.WriteFault old new read trail lost tail rest moves (last, is, stops) = stops.fault
caused ended.Memory old new read trail lost tail rest moves (few, last, told) =
    told-memory read (texts trail) tail old new moves told

pub sitting-caused : (Unsure : Type 0) (clock : ℤ → Bool) (site : Site) (ended : Ended)
    (old new : Line) (from to : Seated) → Sitting Unsure clock site ended old new from to
    → IsCaused ended old new
sitting-caused Unsure clock site ended old new from to h =
    let s = h.session in caused ended old new s.read s.trail s.lost s.tail s.rest s.moves s.ends

-- a connection at a seat leaves it with a list that goes on from the one that it saw
pub sitting-later : (Unsure : Type 0) (clock : ℤ → Bool) (site : Site) (ended : Ended)
    (old new : Line) (from to : Seated) → Sitting Unsure clock site ended old new from to
    → IsPrefix from.seen to.seen
sitting-later Unsure clock site ended old new from to h =
    ran_prefix (store_rules Unsure clock site) (h.session.trail ++ h.session.lost) (known_at from 0)
    (known_at to h.faults) h.session.ran
