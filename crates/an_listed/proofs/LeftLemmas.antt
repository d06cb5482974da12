-- Where what stays isn't taken out, the lists become the same.
use Rattle.std.proofs.Common.{◌≡◌, ℕ, ◌<◌, Bool, true, false, cond, ◌&&◌, ◌||◌, not, List, [], ◌∷◌, length, get_or, map, sym, ap, ◌∙◌, refl}
use Rattle.std.proofs.Math.ListN.{set}
use Rattle.std.proofs.lemmas.List.{length-map, length-set, set-set}
use Rattle.an_slots.specs.Places.{places_from, with_place, without_place}
use Rattle.an_slots.specs.Rows.{AreListed, Row, is_posted, parts_of, posted, unposted}
use Rattle.an_slots.specs.Slot.{Slot, at, same_slot}
use Rattle.an_slots.proofs.ChangeLemmas.{AreListed-set, fold-at}
use Rattle.an_slots.proofs.PlacesFromLemmas.{put_in, set_at}
use Rattle.an_slots.proofs.PlacesLemmas.{with_place-with_place}
use Rattle.an_slots.proofs.ShownLemmas.{places_from-map}
use Rattle.an_slots.proofs.SlotLemmas.{same_slot-true}
use Rattle.an_listed.specs.Keys.{slot_at}
use Rattle.an_listed.specs.Left.{left_parts}
use Rattle.an_listed.proofs.KeyLemmas.{keys-posted}

-- ---- what is left of the old row is what the new one doesn't have

module _ (slot : Slot) (new : List (Slot × ℕ)) where
  shut : (b : Bool) → (b && false) ≡ false
  shut true = refl
  shut false = refl

  left-posted : (old : List (Slot × ℕ))
      → is_posted slot (left_parts new old) ≡ (is_posted slot old && not (is_posted slot new))
  left-posted [] = refl
  left-posted (part ∷ old) =
      by (same_slot slot part.0) refl (is_posted part.0 new) refl (left-posted old)
    where
      by : (here : Bool) → same_slot slot part.0 ≡ here → (stays : Bool)
          → is_posted part.0 new ≡ stays
          → is_posted slot (left_parts new old) ≡ (is_posted slot old && not (is_posted slot new))
          → is_posted slot (cond (not stays) (part ∷ left_parts new old) (left_parts new old))
          ≡ ((here || is_posted slot old) && not (is_posted slot new))
      by true here true is rest =
          let there : is_posted slot new ≡ true =
          ap (λ s. is_posted s new) (same_slot-true slot part.0 here) ∙ is in
          rest ∙ rw there (shut (is_posted slot old))
      by true here false is rest =
          let there : is_posted slot new ≡ false =
          ap (λ s. is_posted s new) (same_slot-true slot part.0 here) ∙ is in
          rw (here, there) refl
      by false here true is rest = rest
      by false here false is rest = rw here rest

module _ (slot : Slot) (old new : List (Slot × ℕ)) where
  -- where the new one isn't found, it is all of the old one
  pub left-all : is_posted slot new ≡ false
      → is_posted slot (left_parts new old) ≡ is_posted slot old
  left-all none = left-posted slot new old ∙ rw none (opened (is_posted slot old))
    where
      opened : (b : Bool) → (b && true) ≡ b
      opened true = refl
      opened false = refl

  -- where it is found, it is nothing
  pub left-none : is_posted slot new ≡ true → is_posted slot (left_parts new old) ≡ false
  left-none there = left-posted slot new old ∙ rw there (shut slot new (is_posted slot old))

-- a part that stays, or whose place is taken out
pub left-next : (new all rest : List (Slot × ℕ)) (part : Slot × ℕ) → all ≡ part ∷ rest
    → (place : ℕ) (lists after : Slot → List ℕ)
    → after ≡ cond (is_posted part.0 new) lists (at part.0 (without_place place) lists)
    → unposted place after (left_parts new rest) ≡ unposted place lists (left_parts new all)
left-next new all rest part next place lists after change =
    ap (λ (f : Slot → List ℕ). unposted place f (left_parts new rest)) change
    ∙ by (is_posted part.0 new)
    ∙ ap (λ ps. unposted place lists (left_parts new ps)) (sym next)
  where
    by : (b : Bool)
        → unposted place (cond b lists (at part.0 (without_place place) lists))
        (left_parts new rest)
        ≡ unposted place lists (cond (not b) (part ∷ left_parts new rest) (left_parts new rest))
    by true = refl
    by false = refl

-- a slot at which nothing is left has no term that doesn't stay
pub left-apart : (more : Bool) (slot : Slot) (new : List (Slot × ℕ)) (keys : Row) (i : ℕ)
    → i < length keys.terms
    → (more || not (is_posted slot (left_parts new (parts_of keys)))) ≡ true
    → (more || (is_posted (slot_at keys i) new || not (same_slot slot (slot_at keys i)))) ≡ true
left-apart true slot new keys i h out = refl
left-apart false slot new keys i h out = by (same_slot slot (slot_at keys i)) refl
  where
    opened : (b : Bool) → (b || true) ≡ true
    opened true = refl
    opened false = refl

    stays : (b : Bool) → not (true && not b) ≡ true → (b || false) ≡ true
    stays true e = refl
    stays false e = cc

    by : (here : Bool) → same_slot slot (slot_at keys i) ≡ here
        → (is_posted (slot_at keys i) new || not here) ≡ true
    by false here = opened (is_posted (slot_at keys i) new)
    by true here =
        let is : slot ≡ slot_at keys i = same_slot-true slot (slot_at keys i) here in
        let left = ap not (sym (left-posted slot new (parts_of keys))) ∙ out in
        let there : is_posted slot (parts_of keys) ≡ true =
        ap (λ s. is_posted s (parts_of keys)) is ∙ keys-posted keys i h in
        let stay : (is_posted slot new || false) ≡ true =
        stays (is_posted slot new)
        (ap (λ b. not (b && not (is_posted slot new))) (sym there) ∙ left) in
        ap (λ s. is_posted s new || false) (sym is) ∙ stay

-- ---- a place that is put in or out once more

module _ {A : Type 0} (test : A → Bool) (rows : List A) (i : ℕ) (h : i < length rows) where
  again : (b c : Bool)
      → put_in b i (put_in c i (places_from test 0 rows)) ≡ put_in b i (places_from test 0 rows)
  again b c =
      let bits : List Bool = map test rows in
      let e : places_from test 0 rows ≡ places_from (λ x. x) 0 bits =
      sym (places_from-map test (λ x. x) 0 rows) in
      let within : i < length bits = rw (length-map rows test) h in
      let within_set : i < length (set bits i c) = rw (length-set bits i c) within in
      ap (λ (l : List ℕ). put_in b i (put_in c i l)) e
      ∙ ap (put_in b i) (sym (set_at (λ x. x) bits i c within))
      ∙ sym (set_at (λ x. x) (set bits i c) i b within_set)
      ∙ ap (places_from (λ x. x) 0) (set-set bits i c b)
      ∙ set_at (λ x. x) bits i b within
      ∙ ap (put_in b i) (sym e)

module _ {A : Type 0} (parts_of : A → List (Slot × ℕ)) (rows : List A) (lists : Slot → List ℕ)
    (stands : AreListed parts_of lists rows) (i : ℕ) (old new : A) (h : i < length rows)
    (is : old ≡ get_or rows i old) (left : List (Slot × ℕ))
    (same : (slot : Slot) → is_posted slot (parts_of new) ≡ false
    → is_posted slot left ≡ is_posted slot (parts_of old)) where
  list_at : (slot : Slot) → lists slot ≡ places_from (λ row. is_posted slot (parts_of row)) 0 rows
  list_at slot = ap (λ (f : Slot → List ℕ). f slot) stands

  twice : (b c : Bool) (slot : Slot)
      → put_in b i (put_in c i (lists slot)) ≡ put_in b i (lists slot)
  twice b c slot = rw (list_at slot) (again (λ row. is_posted slot (parts_of row)) rows i h b c)

  out : (ps : List (Slot × ℕ)) (slot : Slot)
      → unposted i lists ps slot
      ≡ cond (is_posted slot ps) (without_place i (lists slot)) (lists slot)
  out ps slot = fold-at (without_place i) ps lists slot (twice false false slot)

  in_after : (ps : List (Slot × ℕ)) (slot : Slot)
      → posted i (unposted i lists ps) (parts_of new) slot
      ≡ cond (is_posted slot (parts_of new)) (with_place i (lists slot))
      (cond (is_posted slot ps) (without_place i (lists slot)) (lists slot))
  in_after ps slot =
      fold-at (with_place i) (parts_of new) (unposted i lists ps) slot
      (with_place-with_place i (unposted i lists ps slot))
      ∙ by (is_posted slot (parts_of new)) (is_posted slot ps) (unposted i lists ps slot)
      (out ps slot)
    where
      by : (b c : Bool) (xs : List ℕ) → xs ≡ cond c (without_place i (lists slot)) (lists slot)
          → cond b (with_place i xs) xs
          ≡ cond b (with_place i (lists slot)) (cond c (without_place i (lists slot)) (lists slot))
      by true true xs e = ap (with_place i) e ∙ twice true false slot
      by true false xs e = ap (with_place i) e
      by false c xs e = e

  -- what is left of the old row out, the new one in
  pub AreListed-left :
      AreListed parts_of (posted i (unposted i lists left) (parts_of new)) (set rows i new)
  AreListed-left =
      (λ j slot. (one slot) j) ∙ AreListed-set parts_of rows lists stands i old new h is
    where
      one : (slot : Slot)
          → posted i (unposted i lists left) (parts_of new) slot
          ≡ posted i (unposted i lists (parts_of old)) (parts_of new) slot
      one slot =
          in_after left slot ∙ by (is_posted slot (parts_of new)) refl
          ∙ sym (in_after (parts_of old) slot)
        where
          by : (b : Bool) → is_posted slot (parts_of new) ≡ b
              → cond b (with_place i (lists slot))
              (cond (is_posted slot left) (without_place i (lists slot)) (lists slot))
              ≡ cond b (with_place i (lists slot))
              (cond (is_posted slot (parts_of old)) (without_place i (lists slot)) (lists slot))
          by true none = refl
          by false none =
              ap (λ (b : Bool). cond b (without_place i (lists slot)) (lists slot)) (same slot none)
