-- What the rows of the table of cells are, and what each write makes of them.
use Rattle.std.specs.Prelude.{◌≡◌, ◌⊎◌, ◌≤◌, ◌∷◌, [], ℕ, ℤ, pos, List, false}
use Rattle.sqlite_value.specs.declared.value.Value.TheVariants.{Int, Blob}
use Rattle.sqlite_value.specs.Order.{Row, column}
use Rattle.sqlite_trees.specs.Tree.{rowid, put_row, without_rowid}
use Rattle.sqlite_rules.specs.Lists.{Has}
use Rattle.sqlite_rules.specs.Edit.{id_in, next_rowid, is_taken}

abbrev pub row_of : ℤ → ℕ → ℕ → List ℕ → Row
row_of id tab key val = Int id ∷ Int (pos tab) ∷ Int (pos key) ∷ Blob val ∷ []

-- a rowid, a table within a byte, a key that is not negative, and bytes
pub record IsCellRow (r : Row) : Type 0 where
  pub id : ℤ
  pub tab : ℕ
  pub key : ℕ
  pub val : List ℕ
  pub is : r ≡ row_of id tab key val
  pub low : tab ≤ 255

pub record IsAt (tab key : ℕ) (r : Row) : Type 0 where
  pub tab_is : column r 1 ≡ Int (pos tab)
  pub key_is : column r 2 ≡ Int (pos key)

-- each row is one of a cell, and no two have one table and key
pub record AreCells (rows : List Row) : Type 0 where
  pub typed : (r : Row) → Has rows r → IsCellRow r
  pub once : (tab key : ℕ) (r s : Row) → Has rows r → Has rows s → IsAt tab key r → IsAt tab key s
      → r ≡ s

-- no row had the table and key, and there is one more, behind the others
pub record Adds (tab key : ℕ) (val : List ℕ) (old new : List Row) : Type 0 where
  pub none : (r : Row) → Has old r → IsAt tab key r → ⊥
  pub free : is_taken old (row_of (next_rowid old) tab key val) ≡ false
  pub is : new ≡ put_row (row_of (next_rowid old) tab key val) old

-- the row of the table and key has other bytes, under the rowid that it had
pub record Replaces (tab key : ℕ) (val : List ℕ) (old new : List Row) : Type 0 where
  pub row : Row
  pub listed : Has old row
  pub at : IsAt tab key row
  pub is : new
      ≡ put_row (row_of (id_in (rowid row)) tab key val) (without_rowid (id_in (rowid row)) old)

abbrev pub Puts : ℕ → ℕ → List ℕ → List Row → List Row → Type 0
Puts tab key val old new = Adds tab key val old new ⊎ Replaces tab key val old new

-- the row of the table and key is gone, or there was none
pub record Drops (tab key : ℕ) (old new : List Row) : Type 0 where
  pub row : Row
  pub listed : Has old row
  pub at : IsAt tab key row
  pub is : new ≡ without_rowid (id_in (rowid row)) old

pub record Leaves (tab key : ℕ) (old new : List Row) : Type 0 where
  pub none : (r : Row) → Has old r → IsAt tab key r → ⊥
  pub is : new ≡ old

abbrev pub Takes : ℕ → ℕ → List Row → List Row → Type 0
Takes tab key old new = Leaves tab key old new ⊎ Drops tab key old new
