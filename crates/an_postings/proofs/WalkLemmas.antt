-- Two ascending lists that are walked along: what is left of each.
use Rattle.std.proofs.Common.{◌≡◌, ℕ, ◌+◌, ◌<◌, ◌≤◌, List, [], ◌∷◌, ◌++◌, length, get_or, drop, Bool, true, false, cond, ◌==◌, nat_lt, refl, sym, ap, subst, ◌∙◌, arith, append_assoc, drop-cons, add-one}
use Rattle.std.proofs.lemmas.Bool.Decides.{nat_tests}
use Rattle.std.specs.Prelude.{filter}
use Rattle.an_slots.proofs.PlacesLemmas.{Rises-weaken}
use Rattle.an_slots.specs.Places.{Rises, has}
use Rattle.an_postings.specs.Walk.{is_first, not_below}

-- what isn't below is left
has-not_below : (least place : ℕ) (others : List ℕ) → least ≤ place
    → has place (not_below least others) ≡ has place others
has-not_below least place [] order = refl
has-not_below least place (other ∷ others) order =
    by (nat_lt other least) refl (has-not_below least place others order)
  where
    by : (b : Bool) → nat_lt other least ≡ b → has place (not_below least others) ≡ has place others
        → has place (cond b (not_below least others) (other ∷ others)) ≡ has place (other ∷ others)
    by false is next = refl
    by true is next =
        let below : (place == other) ≡ false = grind (arith, nat_tests) in
        next ∙ rw below refl

-- so what rises from there on is found in what is left as in all
all_left : (least from : ℕ) (places others : List ℕ) → least ≤ from → Rises from places
    → filter (λ place. has place (not_below least others)) places
    ≡ filter (λ place. has place others) places
all_left least from [] others order rise = refl
all_left least from (place ∷ places) others order rise =
    rw (
      has-not_below least place others (omega (arith, rise.0)),
      all_left least (place + 1) places others (omega (arith, rise.0)) rise.1,
    ) refl

-- no place is among those that rise from a later one
pub none_later : (place from : ℕ) (others : List ℕ) → place < from → Rises from others
    → has place others ≡ false
none_later place from [] order rise = refl
none_later place from (other ∷ others) order rise =
    let apart : (place == other) ≡ false = grind (arith, nat_tests, rise.0) in
    rw apart (none_later place (other + 1) others (omega (arith, rise.0)) rise.1)

-- what is left rises
pub Rises-not_below : (from least : ℕ) (others : List ℕ) → Rises from others
    → Rises from (not_below least others)
Rises-not_below from least [] rise = tt
Rises-not_below from least (other ∷ others) rise =
    by (nat_lt other least) (Rises-not_below (other + 1) least others rise.1)
  where
    by : (b : Bool) → Rises (other + 1) (not_below least others)
        → Rises from (cond b (not_below least others) (other ∷ others))
    by true next =
        Rises-weaken (other + 1) from (not_below least others) (omega (arith, rise.0)) next
    by false next = rise

-- the first of the others that isn't below a place is that place, or the place isn't among them
has-first_left : (place from : ℕ) (others : List ℕ) → Rises from others
    → has place others ≡ is_first place (not_below place others)
has-first_left place from [] rise = refl
has-first_left place from (other ∷ others) rise =
    by (nat_lt other place) refl (has-first_left place (other + 1) others rise.1)
  where
    turned : (place == other) ≡ (other == place)
    turned = grind (arith, nat_tests)

    at : (b : Bool) → (place == other) ≡ b → place ≤ other
        → has place (other ∷ others) ≡ (other == place)
    at true same order = rw same (sym same ∙ turned)
    at false apart order =
        rw apart
        (none_later place (other + 1) others (grind (arith, nat_tests)) rise.1 ∙ sym apart ∙ turned)

    by : (b : Bool) → nat_lt other place ≡ b
        → has place others ≡ is_first place (not_below place others)
        → has place (other ∷ others)
        ≡ is_first place (cond b (not_below place others) (other ∷ others))
    by true is next =
        let below : (place == other) ≡ false = grind (arith, nat_tests) in
        rw below next
    by false is next = at (place == other) refl (grind (arith, nat_tests))

-- one place further along both lists
pub walked_on : (so_far places rest found : List ℕ) (at : ℕ) → at < length places
    → Rises 0 (drop at places) → Rises 0 rest
    → so_far ++ filter (λ place. has place rest) (drop at places) ≡ found
    → (is : Bool) → is ≡ is_first (get_or places at 0) (not_below (get_or places at 0) rest)
    → cond is (so_far ++ get_or places at 0 ∷ []) so_far
    ++ filter (λ place. has place (not_below (get_or places at 0) rest)) (drop (at + 1) places)
    ≡ found
walked_on so_far places rest found at within rise rest_rises gathered is same =
    let place = get_or places at 0 in
    let behind = drop (at + 1) places in
    let cons : drop at places ≡ place ∷ behind =
    drop-cons places at 0 within ∙ ap (λ n. place ∷ drop n places) (sym (add-one at)) in
    let left = all_left place (place + 1) behind rest (omega arith) (subst (Rises 0) cons rise).1 in
    let first : is ≡ has place rest = same ∙ sym (has-first_left place 0 rest rest_rises) in
    by is first ∙ ap (λ more. so_far ++ cond (has place rest) (place ∷ more) more) left
    ∙ ap (λ all. so_far ++ filter (λ place. has place rest) all) (sym cons) ∙ gathered
  where
    by : (is : Bool) → is ≡ has (get_or places at 0) rest
        → cond is (so_far ++ get_or places at 0 ∷ []) so_far
        ++ filter (λ place. has place (not_below (get_or places at 0) rest)) (drop (at + 1) places)
        ≡ so_far
        ++ cond (has (get_or places at 0) rest)
        (get_or places at 0
        ∷ filter (λ place. has place (not_below (get_or places at 0) rest)) (drop (at + 1) places))
        (filter (λ place. has place (not_below (get_or places at 0) rest)) (drop (at + 1) places))
    by true same = rw (sym same) (append_assoc so_far (get_or places at 0 ∷ []) _)
    by false same = rw (sym same) refl

-- what is left behind a place rises
pub Rises-behind : (places : List ℕ) (at : ℕ) → at < length places → Rises 0 (drop at places)
    → Rises 0 (drop (at + 1) places)
Rises-behind places at within rise =
    let cons =
    drop-cons places at 0 within
    ∙ ap (λ n. get_or places at 0 ∷ drop n places) (sym (add-one at)) in
    Rises-weaken (get_or places at 0 + 1) 0 (drop (at + 1) places) (omega arith)
    (subst (Rises 0) cons rise).1
