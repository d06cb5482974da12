-- What an entry changes of the cells of a state makes those of the state behind it.
use Rattle.std.proofs.Common.{◌≡◌, ℕ, ◌+◌, Bool, true, false, List, [], ◌∷◌, ◌++◌, map, length, refl, sym, ap, ◌∙◌, arith, subst}
use Rattle.std.specs.Prelude.{⊤, if◌then◌else◌}
use Rattle.std.specs.List.{list_all, position_or_len}
use Rattle.std.proofs.lemmas.Bool.{and_from}
use Rattle.std.proofs.lemmas.List.{append_assoc, append-nil}
use Rattle.std.proofs.lemmas.List.Folds.{list_all-append}
use Rattle.an_keyed.specs.Key.{Key, same_key}
use Rattle.an_keyed.specs.Rows.{put_row}
use Rattle.an_keyed.proofs.PutLemmas.{put_at-position, set_or_push-new}
use Rattle.an_keep.specs.declared.cell.Cell.{Cell}
use Rattle.an_keep.specs.Cells.{is_at, is_before, is_behind, put_cell, put_changes}
use Rattle.an_state.specs.Entries.{with_row, with_rows, after}
use Rattle.an_state.specs.State.{State, reader_key, manifest_key, note_key}
use Rattle.an_state.specs.View.{activity_key}
use Rattle.an_state.specs.declared.activity.Activity.{Activity}
use Rattle.an_state.specs.declared.entry.Entry.{Entry}
use Rattle.an_state.specs.declared.entry.Entry.TheVariants.{Restored, Done}
use Rattle.an_state.specs.declared.entry.Row.{Row}
use Rattle.an_state.specs.declared.entry.Row.TheVariants as kept
use Rattle.an_rows.specs.RowTree.{table_of}
use Rattle.an_rows.specs.Cells.{cell_of, cells_from, row_cells, first_cell, with_first, cells}
use Rattle.an_rows.specs.Changes.{place_among, place_in, rows_of, row_changes, with_format, changes_of}
use Rattle.an_rows.specs.declared.format.Format.{Format}
use Rattle.an_rows.specs.declared.format.Format.TheVariants.{Second}
use Rattle.an_rows.proofs.CellLemmas.{put_cell-past, put_cell-before, put_cell-among, all-cells, none-passes, position-new}

-- ---- a row that is put

module _ {R : Type 0} (format : Format) (kind : R → Row) (key : R → Key)
    (one : (row other : R) → table_of (kind row) ≡ table_of (kind other)) (row : R)
    (rows : List R) where
  -- a row takes the place of the one with its key, or stands behind all
  put_cell-row : put_cell (cell_of format (place_among key row rows) (kind row))
      (cells_from format kind 0 rows) ≡ cells_from format kind 0 (put_row key row rows)
  put_cell-row =
      let has = λ (other : R). same_key (key other) (key row) in
      let from : place_among key row rows ≡ 0 + position_or_len has rows = omega arith in
      ap (λ place. put_cell (cell_of format place (kind row)) (cells_from format kind 0 rows)) from
      ∙ put_cell-among format kind one has row 0 rows
      ∙ ap (cells_from format kind 0) (sym (put_at-position key has row rows))

  -- a row stands behind all
  put_cell-push : put_cell (cell_of format (length rows) (kind row)) (cells_from format kind 0 rows)
      ≡ cells_from format kind 0 (rows ++ row ∷ [])
  put_cell-push =
      let never = λ (other : R). false in
      let from : length rows ≡ 0 + position_or_len never rows =
      omega (arith, position-new never rows (none-passes rows)) in
      ap (λ place. put_cell (cell_of format place (kind row)) (cells_from format kind 0 rows)) from
      ∙ put_cell-among format kind one never row 0 rows
      ∙ ap (cells_from format kind 0) (set_or_push-new never row rows (none-passes rows))

-- the cells of the tables behind one
abbrev behind_readers : Format → State → List Cell
behind_readers format s =
    cells_from format kept.Manifest 0 s.manifests
    ++ (cells_from format kept.Note 0 s.notes ++ cells_from format kept.Activity 0 s.activities)

abbrev behind_manifests : Format → State → List Cell
behind_manifests format s =
    cells_from format kept.Note 0 s.notes ++ cells_from format kept.Activity 0 s.activities

module _ (format : Format) (s : State) (key : ℕ) where
  behind-1 : list_all (is_behind 1 key) (behind_readers format s) ≡ true
  behind-1 =
      list_all-append (is_behind 1 key) (cells_from format kept.Manifest 0 s.manifests)
      (behind_manifests format s)
      ∙ and_from _ _
      (all-cells format kept.Manifest (is_behind 1 key) (λ row k. refl) 0 s.manifests)
      (list_all-append (is_behind 1 key) (cells_from format kept.Note 0 s.notes)
      (cells_from format kept.Activity 0 s.activities)
      ∙ and_from _ _ (all-cells format kept.Note (is_behind 1 key) (λ row k. refl) 0 s.notes)
      (all-cells format kept.Activity (is_behind 1 key) (λ row k. refl) 0 s.activities))

  behind-2 : list_all (is_behind 2 key) (behind_manifests format s) ≡ true
  behind-2 =
      list_all-append (is_behind 2 key) (cells_from format kept.Note 0 s.notes)
      (cells_from format kept.Activity 0 s.activities)
      ∙ and_from _ _ (all-cells format kept.Note (is_behind 2 key) (λ row k. refl) 0 s.notes)
      (all-cells format kept.Activity (is_behind 2 key) (λ row k. refl) 0 s.activities)

-- a row's cell is put among those of a state
pub put_cell-in : (format : Format) (s : State) (row : Row)
    → put_cell (cell_of format (place_in s row) row) (row_cells format s)
    ≡ row_cells format (with_row s row)
unfolding row_cells
put_cell-in format s (kept.Reader row) =
    let place = place_in s (kept.Reader row) in
    put_cell-before (cell_of format place (kept.Reader row))
    (cells_from format kept.Reader 0 s.readers) (behind_readers format s) (behind-1 format s place)
    ∙ ap (λ l. l ++ behind_readers format s)
    (put_cell-row format kept.Reader reader_key (λ row other. refl) row s.readers)
put_cell-in format s (kept.Manifest row) =
    let place = place_in s (kept.Manifest row) in
    let cell = cell_of format place (kept.Manifest row) in
    put_cell-past cell (cells_from format kept.Reader 0 s.readers) (behind_readers format s)
    (all-cells format kept.Reader (is_before 2 place) (λ row k. refl) 0 s.readers)
    ∙ ap (λ l. cells_from format kept.Reader 0 s.readers ++ l)
    (put_cell-before cell (cells_from format kept.Manifest 0 s.manifests)
    (behind_manifests format s) (behind-2 format s place)
    ∙ ap (λ l. l ++ behind_manifests format s)
    (put_cell-row format kept.Manifest manifest_key (λ row other. refl) row s.manifests))
put_cell-in format s (kept.Note row) =
    let place = place_in s (kept.Note row) in
    let cell = cell_of format place (kept.Note row) in
    put_cell-past cell (cells_from format kept.Reader 0 s.readers) (behind_readers format s)
    (all-cells format kept.Reader (is_before 3 place) (λ row k. refl) 0 s.readers)
    ∙ ap (λ l. cells_from format kept.Reader 0 s.readers ++ l)
    (put_cell-past cell (cells_from format kept.Manifest 0 s.manifests) (behind_manifests format s)
    (all-cells format kept.Manifest (is_before 3 place) (λ row k. refl) 0 s.manifests)
    ∙ ap (λ l. cells_from format kept.Manifest 0 s.manifests ++ l)
    (put_cell-before cell (cells_from format kept.Note 0 s.notes)
    (cells_from format kept.Activity 0 s.activities)
    (all-cells format kept.Activity (is_behind 3 place) (λ row k. refl) 0 s.activities)
    ∙ ap (λ l. l ++ cells_from format kept.Activity 0 s.activities)
    (put_cell-row format kept.Note note_key (λ row other. refl) row s.notes)))
put_cell-in format s (kept.Activity row) =
    let place = place_in s (kept.Activity row) in
    let cell = cell_of format place (kept.Activity row) in
    put_cell-past cell (cells_from format kept.Reader 0 s.readers) (behind_readers format s)
    (all-cells format kept.Reader (is_before 4 place) (λ row k. refl) 0 s.readers)
    ∙ ap (λ l. cells_from format kept.Reader 0 s.readers ++ l)
    (put_cell-past cell (cells_from format kept.Manifest 0 s.manifests) (behind_manifests format s)
    (all-cells format kept.Manifest (is_before 4 place) (λ row k. refl) 0 s.manifests)
    ∙ ap (λ l. cells_from format kept.Manifest 0 s.manifests ++ l)
    (put_cell-past cell (cells_from format kept.Note 0 s.notes)
    (cells_from format kept.Activity 0 s.activities)
    (all-cells format kept.Note (is_before 4 place) (λ row k. refl) 0 s.notes)
    ∙ ap (λ l. cells_from format kept.Note 0 s.notes ++ l)
    (put_cell-push format kept.Activity activity_key (λ row other. refl) row s.activities)))

-- ---- the first cell

abbrev IsFilled : List Cell → Type 0
IsFilled [] = ⊥
IsFilled (cell ∷ others) = ⊤

filled-if : (b : Bool) (these those : List Cell) → IsFilled these → IsFilled those
    → IsFilled (if b then these else those)
filled-if true these those h k = h
filled-if false these those h k = k

filled-put_cell : (cell : Cell) (others : List Cell) → IsFilled (put_cell cell others)
filled-put_cell cell [] = tt
filled-put_cell cell (first ∷ others) =
    filled-if (is_before cell.tab cell.key first) _ _ tt
    (filled-if (is_at cell.tab cell.key first) _ _ tt tt)

filled-rows : (s : State) (rows : List Row) → IsFilled (row_cells Second s)
    → IsFilled (row_cells Second (with_rows rows s))
filled-rows s [] h = h
filled-rows s (row ∷ rows) h =
    filled-rows (with_row s row) rows
    (subst IsFilled (put_cell-in Second s row)
    (filled-put_cell (cell_of Second (place_in s row) row) (row_cells Second s)))

with_first-filled : (others : List Cell) → IsFilled others
    → with_first Second others ≡ first_cell Second ∷ others
with_first-filled [] h = absurd h
with_first-filled (cell ∷ others) h = refl

first-before : (row : Row) (place : ℕ) → is_before (table_of row) place (first_cell Second) ≡ true
unfolding first_cell
first-before (kept.Reader row) place = refl
first-before (kept.Manifest row) place = refl
first-before (kept.Note row) place = refl
first-before (kept.Activity row) place = refl

-- rows that are put behind the first cell
put_changes-rows : (s : State) (rows : List Row)
    → put_changes (row_changes s rows) (first_cell Second ∷ row_cells Second s)
    ≡ first_cell Second ∷ row_cells Second (with_rows rows s)
put_changes-rows s [] = refl
put_changes-rows s (row ∷ rows) =
    let cell = cell_of Second (place_in s row) row in
    ap (put_changes (row_changes (with_row s row) rows))
    (put_cell-past cell (first_cell Second ∷ []) (row_cells Second s)
    (and_from _ _ (first-before row (place_in s row)) refl)
    ∙ ap (λ l. first_cell Second ∷ l) (put_cell-in Second s row))
    ∙ put_changes-rows (with_row s row) rows

-- ---- all changes

module _ (s : State) where
  changed : (rows : List Row) (found : List Cell) → row_cells Second s ≡ found
      → put_changes (with_format (with_first Second found) (row_changes s rows))
      (with_first Second found) ≡ cells (with_rows rows s)
  changed rows (cell ∷ others) is =
      ap (λ l. put_changes (row_changes s rows) (first_cell Second ∷ l)) (sym is)
      ∙ put_changes-rows s rows
      ∙ sym (with_first-filled (row_cells Second (with_rows rows s))
      (filled-rows s rows (subst IsFilled (sym is) tt)))
  changed [] [] is = sym (ap (with_first Second) is)
  changed (row ∷ rows) [] is =
      ap (λ l. put_changes (row_changes s (row ∷ rows)) (first_cell Second ∷ l)) (sym is)
      ∙ put_changes-rows s (row ∷ rows)
      ∙ sym (with_first-filled (row_cells Second (with_rows rows (with_row s row)))
      (filled-rows (with_row s row) rows
      (subst IsFilled (put_cell-in Second s row)
      (filled-put_cell (cell_of Second (place_in s row) row) (row_cells Second s)))))

-- the rows of an entry are put, activities included
with_rows-append : (rows more : List Row) (s : State)
    → with_rows (rows ++ more) s ≡ with_rows more (with_rows rows s)
with_rows-append [] more s = refl
with_rows-append (row ∷ rows) more s = with_rows-append rows more (with_row s row)

with_rows-activities : (activities : List Activity) (s : State)
    → with_rows (map kept.Activity activities) s
    ≡ record s { activities = s.activities ++ activities }
with_rows-activities [] s = ap (λ l. record s { activities = l }) (sym (append-nil s.activities))
with_rows-activities (activity ∷ activities) s =
    with_rows-activities activities (record s { activities = s.activities ++ activity ∷ [] })
    ∙ ap (λ l. record s { activities = l }) (append_assoc s.activities (activity ∷ []) activities)

pub after-rows : (s : State) (entry : Entry) → with_rows (rows_of entry) s ≡ after s entry
after-rows s (Restored row) = refl
after-rows s (Done command moment by rows activities) =
    with_rows-append rows (map kept.Activity activities) s
    ∙ with_rows-activities activities (with_rows rows s)

-- the cells change from those of the state to those of the state behind the entry
pub changes-lead : (s : State) (entry : Entry)
    → put_changes (changes_of s entry) (cells s) ≡ cells (after s entry)
unfolding changes_of
changes-lead s entry =
    changed s (rows_of entry) (row_cells Second s) refl ∙ ap cells (after-rows s entry)

pub ruleset changed_cells = (changes-lead)
