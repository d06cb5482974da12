-- What a list of places or a count is found by.
use Rattle.std.specs.Prelude.{ℕ, List, Bool, ◌&&◌, ◌==◌, bytes_eq, if◌then◌else◌}

pub record Slot : Type 0 where
  pub manifest : List ℕ
  pub term : List ℕ
  pub class : ℕ

abbrev pub slot_of : List ℕ → List ℕ → ℕ → Slot
slot_of manifest term class = record { manifest = manifest; term = term; class = class }

abbrev pub same_slot : Slot → Slot → Bool
same_slot a b =
    bytes_eq a.manifest b.manifest && (bytes_eq a.term b.term && a.class == b.class)

-- what each slot had, but changed at this one
abbrev pub at : {A : Type 0} → Slot → (A → A) → (Slot → A) → Slot → A
at slot change old other = if same_slot other slot then change (old other) else old other
