-- What rows have in the slots: of each slot a number.
use Rattle.std.specs.Prelude.{◌≡◌, ℕ, ◌+◌, ◌-◌, ◌≤◌, List, [], Bool, false, ◌&&◌, bytes_eq, map}
use Rattle.std.specs.Prelude.{fold, if◌then◌else◌, Option, Some, None}
use Rattle.std.specs.List.{list_any, sum_by}
use Rattle.an_base.specs.declared.span.TermTotal.{TermTotal}
use Rattle.an_slots.specs.Places.{places_from, with_place, without_place}
use Rattle.an_slots.specs.Slot.{Slot, slot_of, same_slot, at}

-- how often each term occurs in a row, at the slots of the row's manifest and class
abbrev pub parts : List ℕ → ℕ → List TermTotal → List (Slot × ℕ)
parts manifest class terms = map (λ t. (slot_of manifest t.term class, t.total)) terms

-- a row, as far as its places and counts go: how often each of its terms occurs
pub record Row : Type 0 where
  pub manifest : List ℕ
  pub class : ℕ
  pub terms : List TermTotal

abbrev pub parts_of : Row → List (Slot × ℕ)
parts_of row = parts row.manifest row.class row.terms

-- a tombstone has nothing
abbrev pub parts_in : Option Row → List (Slot × ℕ)
parts_in None = []
parts_in (Some row) = parts_of row

-- ---- places

-- one of the parts is at the slot
abbrev pub is_posted : Slot → List (Slot × ℕ) → Bool
is_posted slot ps = list_any (λ part. same_slot slot part.0) ps

-- Lists stand for rows: that of each slot is the places, ascending, of the rows with a part there.
abbrev pub AreListed : {A : Type 0} → (A → List (Slot × ℕ)) → (Slot → List ℕ) → List A → Type 0
AreListed parts lists rows =
    lists ≡ λ slot. places_from (λ row. is_posted slot (parts row)) 0 rows

-- it is on the manifest, of a class that passes, and has the term
abbrev pub is_in : List ℕ → List ℕ → (ℕ → Bool) → Option Row → Bool
is_in manifest term passes None = false
is_in manifest term passes (Some row) =
    (bytes_eq manifest row.manifest && passes row.class)
    && list_any (λ t. bytes_eq term t.term) row.terms

-- the place in the lists of these parts too
abbrev pub posted : ℕ → (Slot → List ℕ) → List (Slot × ℕ) → (Slot → List ℕ)
posted place lists ps = fold (λ ls part. at part.0 (with_place place) ls) lists ps

-- the place no longer in the lists of these parts
abbrev pub unposted : ℕ → (Slot → List ℕ) → List (Slot × ℕ) → (Slot → List ℕ)
unposted place lists ps = fold (λ ls part. at part.0 (without_place place) ls) lists ps

-- ---- counts

-- how much a part counts for a slot
abbrev pub part_at : Slot → Slot × ℕ → ℕ
part_at slot part = if same_slot slot part.0 then part.1 else 0

abbrev pub parts_at : List (Slot × ℕ) → Slot → ℕ
parts_at ps slot = sum_by (part_at slot) ps

-- Counts stand for rows: each is the sum over the rows.
abbrev pub AreCounted : {A : Type 0} → (A → List (Slot × ℕ)) → (Slot → ℕ) → List A → Type 0
AreCounted parts counts rows = counts ≡ λ slot. sum_by (λ row. parts_at (parts row) slot) rows

-- after these parts were added, one after the other
abbrev pub added : (Slot → ℕ) → List (Slot × ℕ) → (Slot → ℕ)
added counts ps = fold (λ cs part. at part.0 (λ m. m + part.1) cs) counts ps

-- after they were taken
abbrev pub taken : (Slot → ℕ) → List (Slot × ℕ) → (Slot → ℕ)
taken counts ps = fold (λ cs part. at part.0 (λ m. m - part.1) cs) counts ps

-- all that is to be taken is there
abbrev pub IsThere : (Slot → ℕ) → List (Slot × ℕ) → Type 0
IsThere counts ps = (slot : Slot) → parts_at ps slot ≤ counts slot
