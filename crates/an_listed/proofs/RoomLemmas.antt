-- Room for parts that are still to come.
use Rattle.std.proofs.Common.{◌≡◌, ℕ, ◌+◌, ◌<◌, ◌≤◌, Bool, true, false, cond, ltb, ◌||◌, List, [], ◌∷◌, ◌++◌, ap, ◌∙◌, refl, arith}
use Rattle.std.specs.Prelude.{IsTrue}
use Rattle.std.proofs.lemmas.Bool.{lt-ltb}
use Rattle.std.proofs.lemmas.List.Sums.{sum_by-append, sum_by-cons}
use Rattle.an_postings.specs.Postings.{IsSpentAt, Lists, has_room, places_in, room_in}
use Rattle.an_slots.specs.Places.{has}
use Rattle.an_slots.specs.Rows.{is_posted}
use Rattle.an_slots.specs.Slot.{Slot, same_slot}
use Rattle.an_slots.proofs.SlotLemmas.{same_slot-refl}
use Rattle.an_listed.specs.Room.{IsEnough, IsKept, times}

pub times-cons : (slot : Slot) (part : Slot × ℕ) (ps : List (Slot × ℕ))
    → times slot (part ∷ ps) ≡ cond (same_slot slot part.0) 1 0 + times slot ps
times-cons slot part ps = sum_by-cons (λ (p : Slot × ℕ). cond (same_slot slot p.0) 1 0) part ps

pub times-append : (slot : Slot) (ps qs : List (Slot × ℕ))
    → times slot (ps ++ qs) ≡ times slot ps + times slot qs
times-append slot ps qs = sum_by-append (λ (p : Slot × ℕ). cond (same_slot slot p.0) 1 0) ps qs

-- what isn't posted comes no times
pub times-none : (slot : Slot) (ps : List (Slot × ℕ)) → is_posted slot ps ≡ false
    → times slot ps ≡ 0
times-none slot [] none = refl
times-none slot (p ∷ ps) none =
    times-cons slot p ps
    ∙ one (same_slot slot p.0) (is_posted slot ps) (times slot ps) none (times-none slot ps)
  where
    one : (b c : Bool) (n : ℕ) → (b || c) ≡ false → (c ≡ false → n ≡ 0) → cond b 1 0 + n ≡ 0
    one true c n h f = cc
    one false c n h f = let e = f h in omega arith

-- a place that was put in took at most one room
pub enough_step : (part : Slot × ℕ) (ps : List (Slot × ℕ)) (old new : Lists)
    → IsSpentAt part.0 (room_in old) (room_in new) → IsEnough (part ∷ ps) old → IsEnough ps new
enough_step part ps old new spent enough slot =
    let a = spent slot in
    let b = enough slot in
    let e = times-cons slot part ps in
    step (same_slot slot part.0) (room_in old slot) (room_in new slot) (times slot ps)
    (times slot (part ∷ ps)) e a b
  where
    step : (b : Bool) (m n t w : ℕ) → w ≡ cond b 1 0 + t → m ≤ n + cond b 1 0 → w ≤ m → t ≤ n
    step true m n t w e a h = omega arith
    step false m n t w e a h = omega arith

or_right : (a b : Bool) → b ≡ true → IsTrue (a || b)
or_right true b e = refl
or_right false b e = e

-- a place more has room
pub room-for-one : (place : ℕ) (slot : Slot) (lists : Lists) → 0 < room_in lists slot
    → IsTrue (has_room place slot lists)
room-for-one place slot lists one =
    or_right (has place (places_in lists slot)) (ltb 0 (room_in lists slot))
    (lt-ltb 0 (room_in lists slot) one)

pub enough-first : (place : ℕ) (part : Slot × ℕ) (ps : List (Slot × ℕ)) (lists : Lists)
    → IsEnough (part ∷ ps) lists → IsTrue (has_room place part.0 lists)
enough-first place part ps lists enough =
    let e = times-cons part.0 part ps in
    let h = enough part.0 in
    let one =
    at_least (same_slot part.0 part.0) (times part.0 ps) (times part.0 (part ∷ ps))
    (room_in lists part.0) (same_slot-refl part.0) e h in
    room-for-one place part.0 lists one
  where
    at_least : (b : Bool) (n w m : ℕ) → b ≡ true → w ≡ cond b 1 0 + n → w ≤ m → 0 < m
    at_least true n w m s e h = omega arith
    at_least false n w m s e h = cc

pub enough-more : (ps : List (Slot × ℕ)) (old new : Lists) → IsKept old new → IsEnough ps old
    → IsEnough ps new
enough-more ps old new kept enough slot = let a = kept slot in let b = enough slot in omega arith

-- what is enough for all is enough for the first, and for what follows
pub enough-front : (ps qs : List (Slot × ℕ)) (lists : Lists) → IsEnough (ps ++ qs) lists
    → IsEnough ps lists
enough-front ps qs lists enough slot =
    let a = enough slot in let e = times-append slot ps qs in omega arith

any_append : (slot : Slot) (ps qs : List (Slot × ℕ))
    → is_posted slot (ps ++ qs) ≡ (is_posted slot ps || is_posted slot qs)
any_append slot [] qs = refl
any_append slot (p ∷ ps) qs =
    ap (λ (b : Bool). same_slot slot p.0 || b) (any_append slot ps qs)
    ∙ assoc (same_slot slot p.0) (is_posted slot ps) (is_posted slot qs)
  where
    assoc : (a b c : Bool) → (a || (b || c)) ≡ ((a || b) || c)
    assoc true b c = refl
    assoc false b c = refl

pub is_posted-append : (slot : Slot) (ps qs : List (Slot × ℕ))
    → is_posted slot (ps ++ qs) ≡ (is_posted slot ps || is_posted slot qs)
is_posted-append slot ps qs = any_append slot ps qs
