-- The lists of slots after places were put in or taken out.
use Rattle.std.proofs.Common.{◌≡◌, ◌≢◌, ℕ, ◌+◌, ◌<◌, ◌≤◌, Bool, true, false, cond, ◌||◌, List, [], ◌∷◌, ◌++◌, length, get_or, fold, sym, ap, ◌∙◌, refl, arith, ⊎_elim}
use Rattle.std.proofs.Math.ListN.{set}
use Rattle.std.proofs.lemmas.Bool.{cases_eq, cases_lt}
use Rattle.an_slots.specs.Places.{with_place, without_place, places_from, Rises}
use Rattle.an_slots.specs.Slot.{Slot, same_slot, at}
use Rattle.an_slots.specs.Rows.{is_posted, AreListed, posted, unposted}
use Rattle.an_slots.proofs.PlacesLemmas.{if_lt, if_eq, if_gt, is_eq, is_ne, with_place-with_place}
use Rattle.an_slots.proofs.PlacesFromLemmas.{put_in, with_place-front, without_place-front, Rises-places_from, set_at, push_at, absent_at, short_at}

-- the slot of each part is changed, and once is enough
module _ {A : Type 0} (change : A → A) where
  pub fold-at : (ps : List (Slot × ℕ)) (lists : Slot → A) (other : Slot)
      → change (change (lists other)) ≡ change (lists other)
      → fold (λ ls part. at part.0 change ls) lists ps other
      ≡ cond (is_posted other ps) (change (lists other)) (lists other)
  fold-at [] lists other twice = refl
  fold-at (part ∷ ps) lists other twice =
      fold-at ps (at part.0 change lists) other (still (same_slot other part.0) (lists other) twice)
      ∙ either (same_slot other part.0) (is_posted other ps) (lists other) twice
    where
      still : (b : Bool) (x : A) → change (change x) ≡ change x
          → change (change (cond b (change x) x)) ≡ change (cond b (change x) x)
      still true x h = ap change h
      still false x h = h

      either : (b c : Bool) (x : A) → change (change x) ≡ change x
          → cond c (change (cond b (change x) x)) (cond b (change x) x) ≡ cond (b || c) (change x) x
      either true true x h = h
      either true false x h = refl
      either false c x h = refl

-- once out, out
out_twice : (b : ℕ) (p : ℕ) (xs : List ℕ) → Rises b xs
    → without_place p (without_place p xs) ≡ without_place p xs
out_twice b p [] r = refl
out_twice b p (x ∷ xs) r =
    ⊎_elim
    (λ (e : p ≡ x). ap (without_place p) (is_eq p x xs (x ∷ without_place p xs) e)
    ∙ without_place-front p (x + 1) xs (omega arith) r.1
    ∙ sym (is_eq p x xs (x ∷ without_place p xs) e))
    (λ (ne : p ≢ x). ap (without_place p) (is_ne p x xs (x ∷ without_place p xs) ne)
    ∙ is_ne p x (without_place p xs) (x ∷ without_place p (without_place p xs)) ne
    ∙ ap (λ (l : List ℕ). x ∷ l) (out_twice (x + 1) p xs r.1)
    ∙ sym (is_ne p x xs (x ∷ without_place p xs) ne))
    (cases_eq p x)

-- out and in is in
out_in : (b : ℕ) (p : ℕ) (xs : List ℕ) → Rises b xs
    → with_place p (without_place p xs) ≡ with_place p xs
out_in b p [] r = refl
out_in b p (x ∷ xs) r =
    ⊎_elim
    (λ (e : p ≡ x). ap (with_place p) (is_eq p x xs (x ∷ without_place p xs) e)
    ∙ with_place-front p xs (rw e r.1) ∙ ap (λ (y : ℕ). y ∷ xs) e
    ∙ sym (if_eq p x (p ∷ x ∷ xs) (x ∷ xs) (x ∷ with_place p xs) e))
    (λ (ne : p ≢ x). ap (with_place p) (is_ne p x xs (x ∷ without_place p xs) ne) ∙
    ⊎_elim
    (λ (lt : p < x). if_lt p x _ _ _ lt
    ∙ ap (λ (l : List ℕ). p ∷ x ∷ l) (without_place-front p (x + 1) xs (omega arith) r.1)
    ∙ sym (if_lt p x (p ∷ x ∷ xs) (x ∷ xs) (x ∷ with_place p xs) lt))
    (λ (ge : x ≤ p).
    let gt : x < p = omega arith in
    if_gt p x _ _ _ gt ∙ ap (λ (l : List ℕ). x ∷ l) (out_in (x + 1) p xs r.1)
    ∙ sym (if_gt p x (p ∷ x ∷ xs) (x ∷ xs) (x ∷ with_place p xs) gt))
    (cases_lt p x))
    (cases_eq p x)

in_or_out : (b : Bool) (i : ℕ) (before xs : List ℕ) → before ≡ without_place i xs → Rises 0 xs
    → cond b (with_place i before) before ≡ put_in b i xs
in_or_out true i before xs e r = ap (with_place i) e ∙ out_in 0 i xs r
in_or_out false i before xs e r = e

-- what stands of the rows before stands of the rows after
module _ {A : Type 0} (parts_of : A → List (Slot × ℕ)) (rows : List A) (lists : Slot → List ℕ)
    (stands : AreListed parts_of lists rows) where
  list_is : (slot : Slot) → lists slot ≡ places_from (λ row. is_posted slot (parts_of row)) 0 rows
  list_is slot = ap (λ (f : Slot → List ℕ). f slot) stands

  rises : (slot : Slot) → Rises 0 (lists slot)
  rises slot = rw (list_is slot) (Rises-places_from (λ row. is_posted slot (parts_of row)) 0 rows)

  out : (i : ℕ) (old : A) (slot : Slot) → i < length rows → old ≡ get_or rows i old
      → unposted i lists (parts_of old) slot ≡ without_place i (lists slot)
  out i old slot h is =
      fold-at (without_place i) (parts_of old) lists slot (out_twice 0 i (lists slot) (rises slot))
      ∙ whether (is_posted slot (parts_of old))
      (λ fails. rw (list_is slot)
      (sym (absent_at (λ row. is_posted slot (parts_of row)) rows i old is h fails)))
    where
      whether : (b : Bool) → (b ≡ false → lists slot ≡ without_place i (lists slot))
          → cond b (without_place i (lists slot)) (lists slot) ≡ without_place i (lists slot)
      whether true h = refl
      whether false h = h refl

  -- a row in place of another: its place is in the lists that it has a part in, and in no other
  pub AreListed-put : (i : ℕ) (new : A) (after : Slot → List ℕ) → i < length rows
      → ((slot : Slot) → after slot ≡ put_in (is_posted slot (parts_of new)) i (lists slot))
      → AreListed parts_of after (set rows i new)
  AreListed-put i new after h is = λ j slot. (
      is slot
      ∙ ap (put_in (is_posted slot (parts_of new)) i) (list_is slot)
      ∙ sym (set_at (λ row. is_posted slot (parts_of row)) rows i new h)) j

  -- the same of a row behind all
  pub AreListed-behind : (new : A) (after : Slot → List ℕ)
      → ((slot : Slot)
      → after slot ≡ put_in (is_posted slot (parts_of new)) (length rows) (lists slot))
      → AreListed parts_of after (rows ++ new ∷ [])
  AreListed-behind new after is = λ j slot. (
      is slot
      ∙ ap (put_in (is_posted slot (parts_of new)) (length rows)) (list_is slot)
      ∙ sym (push_at (λ row. is_posted slot (parts_of row)) rows new)) j

  -- the old row's parts out, the new one's in
  pub AreListed-set : (i : ℕ) (old new : A) → i < length rows → old ≡ get_or rows i old
      → AreListed parts_of (posted i (unposted i lists (parts_of old)) (parts_of new))
      (set rows i new)
  AreListed-set i old new h is = AreListed-put i new _ h (λ slot.
      fold-at (with_place i) (parts_of new) (unposted i lists (parts_of old)) slot
      (with_place-with_place i (unposted i lists (parts_of old) slot))
      ∙ in_or_out (is_posted slot (parts_of new)) i (unposted i lists (parts_of old) slot)
      (lists slot) (out i old slot h is) (rises slot))

  -- a row behind all
  pub AreListed-push : (new : A)
      → AreListed parts_of (posted (length rows) lists (parts_of new)) (rows ++ new ∷ [])
  AreListed-push new = AreListed-behind new _ (λ slot.
      fold-at (with_place (length rows)) (parts_of new) lists slot
      (with_place-with_place (length rows) (lists slot))
      ∙ in_or_not (is_posted slot (parts_of new)) (lists slot)
      (rw (list_is slot) (short_at (λ row. is_posted slot (parts_of row)) rows)))
    where
      in_or_not : (b : Bool) (xs : List ℕ) → without_place (length rows) xs ≡ xs
          → cond b (with_place (length rows) xs) xs ≡ put_in b (length rows) xs
      in_or_not true xs none = refl
      in_or_not false xs none = sym none
