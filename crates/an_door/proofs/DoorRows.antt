-- Rows: what the definitions of doors come to.
use Rattle.std.proofs.Common.{◌≡◌, ℕ, [], ◌∷◌, true, refl}
use Rattle.an_session.specs.declared.ended.Ended.TheVariants as ended
use Rattle.an_door.specs.declared.door.Accepted.TheVariants as accepted
use Rattle.an_door.specs.Memory.{Waiting, waiting_of, memory_of, accepted_of, after_bind}
use Rattle.an_door.specs.Memory.{after_accept, after_finish, called}

-- two links, told by their numbers
abbrev two : Waiting ℕ
two = waiting_of (7 ∷ 8 ∷ [])

-- a door without links ends at once
no_links : accepted_of (after_bind 1 0 (waiting_of {L = ℕ} [])) ≡ accepted.Ended
no_links = refl

-- links come in their order
first : accepted_of (after_bind 1 0 two) ≡ accepted.Link 7
first = refl

second : accepted_of (after_accept (after_bind 1 0 two)) ≡ accepted.Link 8
second = refl

third : accepted_of (after_accept (after_accept (after_bind 1 0 two))) ≡ accepted.Ended
third = refl

-- and no more of them than the door is bound to
bound_to_one : accepted_of (after_accept (after_bind 1 1 two)) ≡ accepted.Ended
bound_to_one = refl

-- the door behind two links and the end
abbrev behind_all : Waiting ℕ
behind_all = after_accept (after_accept (after_accept (after_bind 80 9 two)))

-- what was counted, where one of them was handed in
counts : (after_finish 7 ended.Closed behind_all).tally
    ≡ record { accepted = 2; finished = 1; ended = true; port = 80; most = 9 }
counts = refl

-- the second call fails alone
second_fails : (called (called (called (memory_of {L = ℕ} (7 ∷ []) (2 ∷ []))))).calls
    ≡ record { made = 3; faults = 1; failing = 2 ∷ [] }
second_fails = refl
