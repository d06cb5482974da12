-- Where a cell is put among the cells of a list of rows.
use Rattle.std.proofs.Common.{◌≡◌, ℕ, ◌+◌, ◌<◌, Bool, true, false, cond, not, ◌==◌, ◌&&◌, List, [], ◌∷◌, ◌++◌, length, inl, inr, refl, sym, ap, ◌∙◌, arith}
use Rattle.std.specs.List.{list_all, list_any, position_or_len}
use Rattle.std.proofs.lemmas.Bool.{cases_Bool, and_parts, and_from, cond-true, cond-false, or_parts}
use Rattle.std.proofs.lemmas.Bool.Decides.{nat_tests}
use Rattle.an_keyed.proofs.PutLemmas.{set_or_push}
use Rattle.an_keep.specs.declared.cell.Cell.{Cell}
use Rattle.an_keep.specs.Cells.{comes_before, is_at, is_before, is_behind, put_cell}
use Rattle.an_state.specs.declared.entry.Row.{Row}
use Rattle.an_rows.specs.RowTree.{table_of}
use Rattle.an_rows.specs.Cells.{cell_of, cells_from}
use Rattle.an_rows.specs.declared.format.Format.{Format}

-- ---- the order of cells

behind-not_before : (tab key : ℕ) (cell : Cell) → is_behind tab key cell ≡ true
    → is_before tab key cell ≡ false
behind-not_before tab key cell h = grind (arith, nat_tests)

behind-not_at : (tab key : ℕ) (cell : Cell) → is_behind tab key cell ≡ true
    → is_at tab key cell ≡ false
behind-not_at tab key cell h = grind (arith, nat_tests)

before-in_table : (tab tab' key key' : ℕ) → tab ≡ tab' → key < key'
    → comes_before tab key tab' key' ≡ true
before-in_table tab tab' key key' same less = grind (arith, nat_tests)

not_before-itself : (tab tab' key : ℕ) → tab ≡ tab' → comes_before tab key tab' key ≡ false
not_before-itself tab tab' key same = grind (arith, nat_tests)

at-itself : (tab tab' key : ℕ) → tab ≡ tab' → (tab == tab' && key == key) ≡ true
at-itself tab tab' key same = grind (arith, nat_tests)

-- ---- a cell among others

module _ (cell : Cell) where
  -- it stands behind those before it
  pub put_cell-past : (front more : List Cell) → list_all (is_before cell.tab cell.key) front ≡ true
      → put_cell cell (front ++ more) ≡ front ++ put_cell cell more
  put_cell-past [] more h = refl
  put_cell-past (first ∷ front) more h =
      let parts = and_parts (is_before cell.tab cell.key first) _ h in
      cond-true _ _ _ parts.0 ∙ ap (λ l. first ∷ l) (put_cell-past front more parts.1)

  -- and before those behind it
  put_cell-first : (more : List Cell) → list_all (is_behind cell.tab cell.key) more ≡ true
      → put_cell cell more ≡ cell ∷ more
  put_cell-first [] h = refl
  put_cell-first (first ∷ more) h =
      let parts = and_parts (is_behind cell.tab cell.key first) _ h in
      cond-false _ _ _ (behind-not_before cell.tab cell.key first parts.0)
      ∙ cond-false _ _ _ (behind-not_at cell.tab cell.key first parts.0)

  pub put_cell-before : (front more : List Cell)
      → list_all (is_behind cell.tab cell.key) more ≡ true
      → put_cell cell (front ++ more) ≡ put_cell cell front ++ more
  put_cell-before [] more h = put_cell-first more h
  put_cell-before (first ∷ front) more h = elim (cases_Bool (is_before cell.tab cell.key first)) [
    | inl before ↦
        cond-true _ _ _ before ∙ ap (λ l. first ∷ l) (put_cell-before front more h)
        ∙ ap (λ l. l ++ more) (sym
        (cond-true _ (first ∷ put_cell cell front)
        (cond (is_at cell.tab cell.key first) (cell ∷ front) (cell ∷ first ∷ front)) before))
    | inr not_before ↦ elim (cases_Bool (is_at cell.tab cell.key first)) [
      | inl at ↦
          cond-false _ _ _ not_before ∙ cond-true _ _ _ at
          ∙ ap (λ l. l ++ more) (sym
          (cond-false _ (first ∷ put_cell cell front)
          (cond (is_at cell.tab cell.key first) (cell ∷ front) (cell ∷ first ∷ front)) not_before
          ∙ cond-true _ (cell ∷ front) (cell ∷ first ∷ front) at))
      | inr not_at ↦
          cond-false _ _ _ not_before ∙ cond-false _ _ _ not_at
          ∙ ap (λ l. l ++ more) (sym
          (cond-false _ (first ∷ put_cell cell front)
          (cond (is_at cell.tab cell.key first) (cell ∷ front) (cell ∷ first ∷ front)) not_before
          ∙ cond-false _ (cell ∷ front) (cell ∷ first ∷ front) not_at))
    ]
  ]

-- ---- the cells of a list

module _ {R : Type 0} (format : Format) (kind : R → Row) where
  -- what holds of each cell of a row holds of all
  pub all-cells : (p : Cell → Bool)
      → ((row : R) (key : ℕ) → p (cell_of format key (kind row)) ≡ true) → (key : ℕ) (rows : List R)
      → list_all p (cells_from format kind key rows) ≡ true
  all-cells p each key [] = refl
  all-cells p each key (row ∷ rows) = and_from _ _ (each row key) (all-cells p each (key + 1) rows)

  -- the place from which one more is counted
  zero-more : (start : ℕ) → start + 0 ≡ start
  zero-more start = omega arith

  one-more : (start place : ℕ) → start + (1 + place) ≡ (start + 1) + place
  one-more start place = omega arith

  module _ (one : (row other : R) → table_of (kind row) ≡ table_of (kind other)) (p : R → Bool)
      (row : R) where
    -- a row is put in the place of the first that passes, or behind all
    pub put_cell-among : (start : ℕ) (rows : List R)
        → put_cell (cell_of format (start + position_or_len p rows) (kind row))
        (cells_from format kind start rows) ≡ cells_from format kind start (set_or_push p row rows)
    put_cell-among start [] = ap (λ key. cell_of format key (kind row) ∷ []) (zero-more start)
    put_cell-among start (first ∷ rows) = elim (cases_Bool (p first)) [
      | inl here ↦
          let at : start + position_or_len p (first ∷ rows) ≡ start =
          ap (λ b. start + cond (not b) (1 + position_or_len p rows) 0) here ∙ zero-more start in
          ap (λ key.
          put_cell (cell_of format key (kind row)) (cells_from format kind start (first ∷ rows))) at
          ∙ cond-false _ _ _
          (not_before-itself (table_of (kind first)) (table_of (kind row)) start (one first row))
          ∙ cond-true _ _ _
          (at-itself (table_of (kind first)) (table_of (kind row)) start (one first row))
          ∙ ap (cells_from format kind start)
          (sym (cond-true _ (row ∷ rows) (first ∷ set_or_push p row rows) here))
      | inr other ↦
          let at : start + position_or_len p (first ∷ rows) ≡ start + (1 + position_or_len p rows) =
          ap (λ b. start + cond (not b) (1 + position_or_len p rows) 0) other in
          ap (λ key.
          put_cell (cell_of format key (kind row)) (cells_from format kind start (first ∷ rows))) at
          ∙ cond-true _ _ _ (before-in_table (table_of (kind first)) (table_of (kind row)) start
          (start + (1 + position_or_len p rows)) (one first row) (omega arith))
          ∙ ap (λ key. cell_of format start (kind first)
          ∷ put_cell (cell_of format key (kind row)) (cells_from format kind (start + 1) rows))
          (one-more start (position_or_len p rows))
          ∙ ap (λ l. cell_of format start (kind first) ∷ l) (put_cell-among (start + 1) rows)
          ∙ ap (cells_from format kind start)
          (sym (cond-false _ (row ∷ rows) (first ∷ set_or_push p row rows) other))
    ]

-- ---- a test that no row passes

pub none-passes : {R : Type 0} (rows : List R) → list_any (λ row. false) rows ≡ false
none-passes [] = refl
none-passes (row ∷ rows) = none-passes rows

-- and its place is behind all
pub position-new : {R : Type 0} (p : R → Bool) (rows : List R) → list_any p rows ≡ false
    → position_or_len p rows ≡ length rows
position-new p [] none = refl
position-new p (first ∷ rows) none =
    let parts = or_parts (p first) _ none in
    let more : 1 + position_or_len p rows ≡ length (first ∷ rows) =
    omega (arith, position-new p rows parts.1) in
    ap (λ b. cond (not b) (1 + position_or_len p rows) 0) parts.0 ∙ more
