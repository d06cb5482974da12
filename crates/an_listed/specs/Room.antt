-- Memory for rows that are still to be put.
use Rattle.std.specs.Prelude.{◌≡◌, ℕ, ◌+◌, ◌≤◌, ◌^◌, Bool, ◌||◌, List, count_by, flat_map}
use Rattle.std.specs.Prelude.{length, not, true}
use Rattle.std.specs.Prelude.{Option, Some, None}
use Rattle.an_base.specs.Totals.{capped}
use Rattle.an_postings.specs.Postings.{Lists, count_in, places_in, room_in}
use Rattle.an_slots.specs.Rows.{is_posted}
use Rattle.an_slots.specs.Slot.{Slot, same_slot}
use Rattle.an_listed.specs.Keys.{parts_by}
use Rattle.an_listed.specs.Stands.{Listings}
use Rattle.an_listed.specs.declared.filed.Filed.{Filed}
use Rattle.an_listed.specs.declared.kind.Kind.{Kind}
use Rattle.an_listed.specs.declared.kind.Kind.TheVariants.{Words, Anywhere, Whole}
use Rattle.an_listed.specs.declared.register.Register.{Register}

-- how many of the parts are at the slot
abbrev pub times : Slot → List (Slot × ℕ) → ℕ
times slot ps = count_by (λ part. same_slot slot part.0) ps

-- a place more has room in the list of each of these parts, as often as it comes
abbrev pub IsEnough : List (Slot × ℕ) → Lists → Type 0
IsEnough ps lists = (slot : Slot) → times slot ps ≤ room_in lists slot

-- the lists of this kind have memory for these rows
abbrev pub HasRowSpace : Kind → List Filed → Lists → Type 0
HasRowSpace kind coming lists = IsEnough (flat_map (parts_by kind) coming) lists

-- the register has memory for these rows
pub record HasSpace (coming : List Filed) (r : Register) : Type 0 where
  pub words : HasRowSpace Words coming r.words
  pub anywhere : HasRowSpace Anywhere coming r.anywhere
  pub whole : HasRowSpace Whole coming r.whole

-- There is memory for these rows, in whatever order and at whatever places they are put.
pub record HasRoom (coming : List Filed) (l : Listings) : Type 0 where
  pub space : HasSpace coming l.register
  pub behind : length coming ≤ l.room
  pub few : length l.rows + length coming ≤ 2 ^ 32

-- ---- for private clauses

-- how many places a slot is to have room for: as many as were counted, or one
abbrev pub wanted_at : Option Lists → Slot → ℕ
wanted_at None slot = 1
wanted_at (Some counts) slot = capped (count_in counts slot)

-- each of these parts has as much room as is wanted
abbrev pub HasWanted : Option Lists → List (Slot × ℕ) → Lists → Type 0
HasWanted wanted ps lists =
    (slot : Slot) → is_posted slot ps ≡ true → wanted_at wanted slot ≤ room_in lists slot

-- no room is lost
abbrev pub IsKept : Lists → Lists → Type 0
IsKept old new = (slot : Slot) → room_in old slot ≤ room_in new slot

-- no room is lost, but perhaps that of these parts, and not even theirs where it stays
abbrev pub IsKeptBut : Bool → List (Slot × ℕ) → Lists → Lists → Type 0
IsKeptBut stays ps old new =
    (slot : Slot) → (stays || not (is_posted slot ps)) ≡ true
    → room_in old slot ≤ room_in new slot

-- The places and the counts are as they were, and no room is lost.
pub record IsSame (old new : Lists) : Type 0 where
  pub places : places_in new ≡ places_in old
  pub counts : count_in new ≡ count_in old
  pub room : IsKept old new

-- the same of each of the lists
pub record AreSame (old new : Register) : Type 0 where
  pub words : IsSame old.words new.words
  pub anywhere : IsSame old.anywhere new.anywhere
  pub whole : IsSame old.whole new.whole
