-- What follows of each trail.
use Rattle.std.specs.Prelude.{◌≡◌, ℕ, ◌+◌, List, [], ◌∷◌, ◌++◌, true}
use Rattle.an_session.specs.Trail.{Rules, Item}

-- all that was added, in order
abbrev pub all_added : {E : Type 0} → List (Item E) → List E
all_added [] = []
all_added (item ∷ trail) = item.added ++ all_added trail

-- all faults that were met
abbrev pub all_faults : {E : Type 0} → List (Item E) → ℕ
all_faults [] = 0
all_faults (item ∷ trail) = item.faults + all_faults trail

-- one list alone: each is answered at the list before with all that was added since, and nothing
-- else
abbrev pub IsOneList : {E : Type 0} → List (Item E) → List E → List E → Type 0
IsOneList [] before behind = behind ≡ before
IsOneList (item ∷ trail) before behind =
    (item.at ≡ before) × IsOneList trail (before ++ item.added) behind

-- the same rules where others may write meanwhile
abbrev pub shared : {E : Type 0} → Rules E → Rules E
shared rules = record { shared = true; answers = rules.answers }
