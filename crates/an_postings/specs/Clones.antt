-- For private clauses: copies of postings, which may have less memory.
use Rattle.std.specs.Prelude.{◌≡◌, ℕ, List}
use Rattle.an_slots.specs.Texts.{under}
use Rattle.an_postings.specs.declared.class_postings.ClassPostings.{ClassPostings}

-- the class, its places and how often the term occurs there are the same
pub record IsSameClass (old new : ClassPostings) : Type 0 where
  pub class : new.class ≡ old.class
  pub places : new.places.items ≡ old.places.items
  pub count : new.count ≡ old.count

-- what stands under each text is related to what stood there
abbrev pub EachUnder : {A : Type 0} → (List A → List A → Type 0)
    → List (List ℕ × List A) → List (List ℕ × List A) → Type 0
EachUnder related old new = (text : List ℕ) → related (under text old) (under text new)
