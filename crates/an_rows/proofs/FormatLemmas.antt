-- Where a state has no cell yet, and what the changes are then.
use Rattle.std.proofs.Common.{◌≡◌, ◌≢◌, ℕ, suc, ◌+◌, true, false, ◌&&◌, ◌==◌, List, [], ◌∷◌, ◌++◌, length, refl, ap, ◌∙◌, arith, length-append}
use Rattle.std.proofs.lemmas.Bool.{and_parts, and_from, both_ways, eqb-true, eq-eqb}
use Rattle.an_keep.specs.declared.cell.Cell.{Cell}
use Rattle.an_keep.specs.declared.cell.Change.{Change}
use Rattle.an_state.specs.State.{State}
use Rattle.an_state.specs.declared.entry.Row.{Row}
use Rattle.an_state.specs.declared.entry.Row.TheVariants as kept
use Rattle.an_rows.specs.Cells.{cells_from, row_cells, first_cell, with_first, cells}
use Rattle.an_rows.specs.Changes.{put, with_format}
use Rattle.an_rows.specs.Lent.{has_no_row}
use Rattle.an_rows.specs.declared.format.Format.{Format}
use Rattle.an_rows.specs.declared.format.Format.TheVariants.{Second}

-- ---- how many cells a state has

length-cells_from : {R : Type 0} (format : Format) (kind : R → Row) (key : ℕ) (rows : List R)
    → length (cells_from format kind key rows) ≡ length rows
length-cells_from format kind key [] = refl
length-cells_from format kind key (row ∷ rows) =
    ap suc (length-cells_from format kind (key + 1) rows)

pub length-row_cells : (format : Format) (s : State)
    → length (row_cells format s)
    ≡ length s.readers + (length s.manifests + (length s.notes + length s.activities))
unfolding row_cells
length-row_cells format s =
    let readers = cells_from format kept.Reader 0 s.readers in
    let manifests = cells_from format kept.Manifest 0 s.manifests in
    let notes = cells_from format kept.Note 0 s.notes in
    let activities = cells_from format kept.Activity 0 s.activities in
    omega (
      arith,
      length-append readers (manifests ++ (notes ++ activities)),
      length-append manifests (notes ++ activities),
      length-append notes activities,
      length-cells_from format kept.Reader 0 s.readers,
      length-cells_from format kept.Manifest 0 s.manifests,
      length-cells_from format kept.Note 0 s.notes,
      length-cells_from format kept.Activity 0 s.activities,
    )

pub with_first-none : (format : Format) (found : List Cell) → length found ≡ 0
    → with_first format found ≡ []
with_first-none format [] none = refl
with_first-none format (cell ∷ found) none = absurd (omega arith)

none-with_first : (format : Format) (found : List Cell) → with_first format found ≡ []
    → length found ≡ 0
none-with_first format [] none = refl
none-with_first format (cell ∷ found) none = absurd (cc)

-- it has none where its four lists are empty
no_row-lengths : (format : Format) (s : State) → has_no_row s ≡ true
    → length (row_cells format s) ≡ 0
no_row-lengths format s none =
    let activities =
    and_parts ((length s.readers == 0) && (length s.manifests == 0) && (length s.notes == 0))
    (length s.activities == 0) none in
    let notes =
    and_parts ((length s.readers == 0) && (length s.manifests == 0))
    (length s.notes == 0) activities.0 in
    let both = and_parts (length s.readers == 0) (length s.manifests == 0) notes.0 in
    let r : length s.readers ≡ 0 = eqb-true _ _ both.0 in
    let m : length s.manifests ≡ 0 = eqb-true _ _ both.1 in
    let n : length s.notes ≡ 0 = eqb-true _ _ notes.1 in
    let a : length s.activities ≡ 0 = eqb-true _ _ activities.1 in
    omega (arith, length-row_cells format s)

no_row-no_cell : (s : State) → has_no_row s ≡ true → cells s ≡ []
no_row-no_cell s none = with_first-none Second (row_cells Second s) (no_row-lengths Second s none)

row-cell : (s : State) → has_no_row s ≡ false → cells s ≢ []
row-cell s some none =
    let is = none-with_first Second (row_cells Second s) none in
    let r : length s.readers ≡ 0 = omega (arith, length-row_cells Second s) in
    let m : length s.manifests ≡ 0 = omega (arith, length-row_cells Second s) in
    let n : length s.notes ≡ 0 = omega (arith, length-row_cells Second s) in
    let a : length s.activities ≡ 0 = omega (arith, length-row_cells Second s) in
    both_ways (has_no_row s) some
    (and_from _ _ (and_from _ _ (and_from _ _ (eq-eqb _ _ r) (eq-eqb _ _ m)) (eq-eqb _ _ n))
    (eq-eqb _ _ a))

-- ---- the changes, with the first cell where there is none

format-of_nothing : (found : List Cell) (changes : List Change) → length changes ≡ 0
    → with_format found changes ≡ changes
format-of_nothing [] [] none = refl
format-of_nothing [] (change ∷ changes) none = absurd (omega arith)
format-of_nothing (cell ∷ found) changes none = refl

format-among : (found : List Cell) (changes : List Change) → found ≢ []
    → with_format found changes ≡ changes
format-among [] changes some = absurd (some refl)
format-among (cell ∷ found) changes some = refl

format-before : (changes : List Change) → length changes ≢ 0
    → with_format [] changes ≡ put (first_cell Second) ∷ changes
format-before [] some = absurd (some refl)
format-before (change ∷ changes) some = refl

module _ (s : State) (changes : List Change) where
  pub format_nothing : length changes ≡ 0 → with_format (cells s) changes ≡ changes
  format_nothing none = format-of_nothing (cells s) changes none

  pub format_there : has_no_row s ≡ false → with_format (cells s) changes ≡ changes
  format_there some = format-among (cells s) changes (row-cell s some)

  pub format_first : has_no_row s ≡ true → length changes ≢ 0
      → with_format (cells s) changes ≡ put (first_cell Second) ∷ changes
  format_first none some =
      ap (λ found. with_format found changes) (no_row-no_cell s none) ∙ format-before changes some

pub ruleset formats = (format_nothing, format_there, format_first)
