-- How many places rows need in each list.
use Rattle.std.proofs.Common.{◌≡◌, ℕ, ◌+◌, ◌^◌, ◌<◌, ◌≤◌, Bool, true, false, cond, List, [], ◌∷◌, ◌++◌, length, get_or, take, Option, Some, None, sym, ap, ◌∙◌, refl, arith}
use Rattle.std.specs.List.{flat_map}
use Rattle.std.proofs.lemmas.Grind.{flat_map-append}
use Rattle.std.proofs.lemmas.List.{take_more}
use Rattle.std.proofs.lemmas.List.Concat.{flat_map-cons}
use Rattle.an_base.specs.Totals.{capped}
use Rattle.an_postings.specs.Postings.{Lists, count_in, room_in}
use Rattle.an_slots.specs.Rows.{is_posted}
use Rattle.an_slots.specs.Slot.{Slot, same_slot, at}
use Rattle.an_slots.proofs.SlotLemmas.{same_slot-refl}
use Rattle.an_listed.specs.Room.{HasWanted, IsEnough, times, wanted_at}
use Rattle.an_listed.specs.declared.filed.Filed.{Filed}
use Rattle.an_listed.proofs.RoomLemmas.{times-append, times-cons, times-none}

append_nil : {A : Type 0} (xs : List A) → xs ++ [] ≡ xs
append_nil [] = refl
append_nil (x ∷ xs) = ap (λ (l : List _). x ∷ l) (append_nil xs)

-- the first of the parts comes at least once
pub first-times : (part : Slot × ℕ) (rest all : List (Slot × ℕ)) → all ≡ part ∷ rest
    → 1 ≤ times part.0 all
first-times part rest all next =
    let e = ap (times part.0) next ∙ times-cons part.0 part rest in
    step (same_slot part.0 part.0) (times part.0 rest) (times part.0 all) (same_slot-refl part.0) e
  where
    step : (b : Bool) (n w : ℕ) → b ≡ true → w ≡ cond b 1 0 + n → 1 ≤ w
    step true n w s e = omega arith
    step false n w s e = cc

-- a part that was counted is no longer to come
pub counted-next : (counts new : Slot → ℕ) (part : Slot × ℕ) (rest all : List (Slot × ℕ))
    → all ≡ part ∷ rest → new ≡ at part.0 (λ m. m + 1) counts → (slot : Slot)
    → new slot + times slot rest ≡ counts slot + times slot all
counted-next counts new part rest all next is slot =
    let e = ap (times slot) next ∙ times-cons slot part rest in
    let n = ap (λ (f : Slot → ℕ). f slot) is in
    step (same_slot slot part.0) (counts slot) (times slot rest) (times slot all) (new slot) e n
  where
    step : (b : Bool) (m r w n : ℕ) → w ≡ cond b 1 0 + r → n ≡ cond b (m + 1) m → n + r ≡ m + w
    step true m r w n e i = omega arith
    step false m r w n e i = omega arith

-- ---- the rows, one after the other

pub rows-next : (p : Filed → List (Slot × ℕ)) (rows : List Filed) (i : ℕ) (row : Filed)
    → i < length rows → row ≡ get_or rows i row → (slot : Slot)
    → times slot (flat_map p (take (i + 1) rows))
    ≡ times slot (flat_map p (take i rows)) + times slot (p row)
rows-next p rows i row h is slot =
    ap (λ (rs : List Filed). times slot (flat_map p rs)) (take_more rows i row h)
    ∙ ap (times slot) (flat_map-append p (take i rows) (get_or rows i row ∷ []))
    ∙ times-append slot (flat_map p (take i rows)) (flat_map p (get_or rows i row ∷ []))
    ∙ ap (λ (n : ℕ). times slot (flat_map p (take i rows)) + n)
    (ap (times slot) (flat_map-cons p (get_or rows i row) [] ∙ append_nil (p (get_or rows i row)))
    ∙ ap (λ (r : Filed). times slot (p r)) (sym is))

pub times-rows : (p : Filed → List (Slot × ℕ))
    → ((row : Filed) (slot : Slot) → times slot (p row) ≤ 1) → (rows : List Filed) (slot : Slot)
    → times slot (flat_map p rows) ≤ length rows
times-rows p once [] slot = omega arith
times-rows p once (row ∷ rows) slot =
    let e =
    ap (times slot) (flat_map-cons p row rows) ∙ times-append slot (p row) (flat_map p rows) in
    let one = once row slot in
    let rest = times-rows p once rows slot in
    omega (arith, e, one, rest)

-- ---- room for what is wanted is enough

capped-small : (n : ℕ) → n < 2 ^ 64 → capped n ≡ n
unfolding capped
capped-small n h = omega (arith, h)

enough-of : (wanted : Option Lists) (ps : List (Slot × ℕ)) (lists : Lists)
    → ((slot : Slot) → times slot ps ≤ wanted_at wanted slot) → HasWanted wanted ps lists
    → IsEnough ps lists
enough-of wanted ps lists most room slot =
    by (is_posted slot ps) refl
  where
    by : (b : Bool) → is_posted slot ps ≡ b → times slot ps ≤ room_in lists slot
    by true is = let a = most slot in let r = room slot is in omega (arith, a, r)
    by false is = let z = times-none slot ps is in omega (arith, z)

-- of fewer than two rows, in whose parts each slot is once
pub enough-one : (p : Filed → List (Slot × ℕ))
    → ((row : Filed) (slot : Slot) → times slot (p row) ≤ 1) → (rows : List Filed) (lists : Lists)
    → length rows < 2 → HasWanted None (flat_map p rows) lists → IsEnough (flat_map p rows) lists
enough-one p once rows lists few room =
    enough-of None (flat_map p rows) lists
    (λ slot. let n = times-rows p once rows slot in omega (arith, n, few)) room

-- of rows that were counted
pub enough-counted : (ps : List (Slot × ℕ)) (counts : Lists) (lists : Lists)
    → ((slot : Slot) → count_in counts slot < 2 ^ 64)
    → ((slot : Slot) → count_in counts slot ≡ times slot ps) → HasWanted (Some counts) ps lists
    → IsEnough ps lists
enough-counted ps counts lists small count room = enough-of (Some counts) ps lists (λ slot.
    let c = count slot in
    let s = capped-small (count_in counts slot) (small slot) in
    omega (arith, c, s)) room
