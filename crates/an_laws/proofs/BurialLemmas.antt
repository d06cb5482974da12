-- What the deletion of a manifest makes of its annotations.
use Rattle.std.proofs.Common.{◌≡◌, ℕ, Bool, true, false, cond, not, ◌&&◌, ◌||◌, List, [], ◌∷◌, ◌++◌, map, Option, Some, None, option_map, option_and_then, inl, inr, refl, sym, ap, ap₂, ◌∙◌}
use Rattle.std.specs.Prelude.{filter, find}
use Rattle.std.specs.Option.{option_or}
use Rattle.std.specs.List.{list_any}
use Rattle.std.proofs.lemmas.Bool.{cases_Bool, and_parts, or_parts, cond-false}
use Rattle.an_base.specs.Outcome.{only_if}
use Rattle.an_keyed.specs.Key.{Key, same_key}
use Rattle.an_keyed.specs.Rows.{row_of, put_row}
use Rattle.an_keyed.proofs.PutLemmas.{row_of-find, row_of-put_row}
use Rattle.an_machine.specs.Accepted.{buried, notes_on}
use Rattle.an_state.specs.Entries.{with_row, with_rows}
use Rattle.an_state.specs.State.{State, NoteState, note_key, note_row, keys_are_distinct, is_distinct}
use Rattle.an_state.specs.View.{is_on}
use Rattle.an_state.specs.declared.entry.Row.{Row}
use Rattle.an_state.specs.declared.entry.Row.TheVariants as kept
use Rattle.an_state.proofs.DistinctLemmas.{distinct-filter, notes-distinct}
use Rattle.an_state.proofs.ViewLemmas.{one_shown}
use Rattle.an_laws.proofs.RowLemmas.{none-behind}

-- ---- rows that are put one after another

module _ {R : Type 0} (key : R → Key) where
  abbrev pub put_all : List R → List R → List R
  put_all [] rows = rows
  put_all (row ∷ more) rows = put_all more (put_row key row rows)

module _ {R : Type 0} (key : R → Key) (wanted : Key) where
  abbrev has : R → Bool
  has row = same_key (key row) wanted

  none_found : (rows : List R) → list_any has rows ≡ false → find has rows ≡ None
  none_found [] none = refl
  none_found (row ∷ rows) none =
      let parts = or_parts (has row) (list_any has rows) none in
      cond-false _ _ _ parts.0 ∙ none_found rows parts.1

  -- among rows of distinct keys the one that is wanted is found, and else what was there before
  pub row_of-put_all : (more rows : List R) → keys_are_distinct key more ≡ true
      → row_of key wanted (put_all key more rows)
      ≡ option_or (find has more) (row_of key wanted rows)
  row_of-put_all [] rows distinct = refl
  row_of-put_all (row ∷ more) rows distinct =
      let parts =
      and_parts (not (list_any (λ other. same_key (key other) (key row)) more))
      (keys_are_distinct key more) distinct in
      let later =
      row_of-put_all more (put_row key row rows) parts.1
      ∙ ap (option_or (find has more)) (row_of-put_row key row wanted rows) in
      elim (cases_Bool (has row)) [
        | inl is ↦
            let missing = none_found more (none-behind key row wanted more is distinct) in
            later ∙ rw (is, missing) refl
        | inr isnt ↦ later ∙ rw isnt refl
      ]

-- ---- the rows that are buried

-- a tombstone has its row's key
any-buried : (k : Key) (rows : List NoteState)
    → list_any (λ other. same_key (note_key other) k) (map buried rows)
    ≡ list_any (λ other. same_key (note_key other) k) rows
any-buried k [] = refl
any-buried k (row ∷ rows) = ap (λ b. same_key (note_key row) k || b) (any-buried k rows)

distinct-buried : (rows : List NoteState)
    → keys_are_distinct note_key (map buried rows) ≡ keys_are_distinct note_key rows
distinct-buried [] = refl
distinct-buried (row ∷ rows) =
    ap₂ (λ some rest. not some && rest) (any-buried (note_key row) rows) (distinct-buried rows)

find-buried : (k : Key) (rows : List NoteState)
    → find (λ r. same_key (note_key r) k) (map buried rows)
    ≡ option_map buried (find (λ r. same_key (note_key r) k) rows)
find-buried k [] = refl
find-buried k (row ∷ rows) = elim (cases_Bool (same_key (note_key row) k)) [
  | inl is ↦ rw is refl
  | inr isnt ↦ rw isnt (find-buried k rows)
]

-- a note as it stands behind the deletion of a manifest
abbrev pub as_left : List ℕ → NoteState → NoteState
as_left manifest row = cond (is_on manifest row) (buried row) row

left-found : (manifest : List ℕ) (found : Option NoteState)
    → option_or (option_map buried (option_and_then (only_if (is_on manifest)) found)) found
    ≡ option_map (as_left manifest) found
left-found manifest None = refl
left-found manifest (Some row) = elim (cases_Bool (is_on manifest row)) [
  | inl is ↦ rw is refl
  | inr isnt ↦ rw isnt refl
]

pub row_of-left : (manifest : List ℕ) (k : Key) (rows : List NoteState)
    → keys_are_distinct note_key rows ≡ true
    → row_of note_key k (put_all note_key (map buried (filter (is_on manifest) rows)) rows)
    ≡ option_map (as_left manifest) (row_of note_key k rows)
row_of-left manifest k rows distinct =
    row_of-put_all note_key k (map buried (filter (is_on manifest) rows)) rows
    (distinct-buried (filter (is_on manifest) rows)
    ∙ distinct-filter note_key (is_on manifest) rows distinct)
    ∙ ap (λ found. option_or found (row_of note_key k rows))
    (find-buried k (filter (is_on manifest) rows)
    ∙ ap (option_map buried) (one_shown note_key (is_on manifest) k rows distinct))
    ∙ ap (λ found. option_or (option_map buried (option_and_then (only_if (is_on manifest)) found))
    (row_of note_key k rows))
    (sym (row_of-find note_key k rows))
    ∙ left-found manifest (row_of note_key k rows)

-- ---- the state

-- the notes are put first, and then the rest
pub with_rows-notes : (notes : List NoteState) (rest : List Row) (s : State)
    → with_rows (map (λ row. kept.Note (buried row)) notes ++ rest) s
    ≡ with_rows rest (record s { notes = put_all note_key (map buried notes) s.notes })
with_rows-notes [] rest s = refl
with_rows-notes (note ∷ notes) rest s =
    with_rows-notes notes rest (with_row s (kept.Note (buried note)))

abbrev pub left_state : State → List ℕ → State
left_state s manifest =
    record s { notes = put_all note_key (map buried (notes_on s manifest)) s.notes }

-- each annotation stands as it is left
pub note_row-left : (s : State) (manifest owner name : List ℕ) → is_distinct s ≡ true
    → note_row (left_state s manifest) owner name
    ≡ option_map (as_left manifest) (note_row s owner name)
note_row-left s manifest owner name distinct =
    row_of-left manifest (record { owner = Some owner; name = name }) s.notes
    (notes-distinct s distinct)
