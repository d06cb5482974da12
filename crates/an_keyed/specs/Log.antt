-- What happened under keys, in order: many items may have one key.
use Rattle.std.specs.Prelude.{◌≡◌, ℕ, ◌<◌, List, [], ◌∷◌, ◌++◌, true, filter, take, slice_get}
use Rattle.std.specs.Prelude.{Option, Some, None}
use Rattle.an_keyed.specs.Key.{Key, same_key}

module _ {R : Type 0} (key : R → Key) where
  -- the items with this key, in their order
  abbrev pub items_with : Key → List R → List R
  items_with wanted items = filter (λ item. same_key (key item) wanted) items

  -- the place has an item with this key, and no other has it between the place and the end
  pub record IsLastAt (wanted : Key) (items : List R) (end place : ℕ) : Type 0 where
    pub item : R
    pub there : slice_get items place ≡ Some item
    pub same : same_key (key item) wanted ≡ true
    pub below : place < end
    pub last : items_with wanted (take end items) ≡ items_with wanted (take place items) ++ item
        ∷ []

  -- where the last of the items before the end stands that have this key, if any has it
  abbrev pub IsLastBefore : Key → List R → ℕ → Option ℕ → Type 0
  IsLastBefore wanted items end None = items_with wanted (take end items) ≡ []
  IsLastBefore wanted items end (Some place) = IsLastAt wanted items end place
