-- Of the rows of an entry at most the first is new, so each gets the place that it has in the state
-- before the entry.
use Rattle.std.proofs.Common.{◌≡◌, ℕ, ◌+◌, Bool, true, false, cond, not, ◌||◌, List, [], ◌∷◌, ◌++◌, map, length, inl, inr, refl, sym, ap, ap₂, subst, ◌∙◌, length-append}
use Rattle.std.specs.List.{list_all, list_any, position_or_len}
use Rattle.std.proofs.lemmas.Bool.{cases_Bool, and_parts, cond_both}
use Rattle.an_keyed.specs.Key.{Key, same_key}
use Rattle.an_keyed.specs.Rows.{put_row}
use Rattle.an_keyed.proofs.KeyLemmas.{same_key-true}
use Rattle.an_keyed.proofs.PutLemmas.{put_at-position, set_or_push}
use Rattle.an_keep.specs.declared.cell.Change.{Change}
use Rattle.an_state.specs.Entries.{with_row, with_rows}
use Rattle.an_state.specs.State.{State, reader_key, manifest_key, note_key}
use Rattle.an_state.specs.declared.activity.Activity.{Activity}
use Rattle.an_state.specs.declared.entry.Row.{Row}
use Rattle.an_state.specs.declared.entry.Row.TheVariants as kept
use Rattle.an_rows.specs.Cells.{cell_of, cells_from}
use Rattle.an_rows.specs.Changes.{put, place_in, stands_in, all_but_first_stand, row_changes}
use Rattle.an_rows.specs.Lent.{change_in}
use Rattle.an_rows.specs.declared.format.Format.TheVariants.{Second}

-- ---- a key among rows, behind a row that is put

module _ {R : Type 0} (key : R → Key) (wanted : Key) where
  abbrev has : R → Bool
  has row = same_key (key row) wanted

  -- the rows have the key still, and in the same place
  abbrev KeepKey : List R → List R → Type 0
  KeepKey rows others =
      (list_any has others ≡ true) × (position_or_len has others ≡ position_or_len has rows)

  -- rows whose first rows both have the key, or both don't
  keep-first : (first : R) (rows others : List R) → has first ≡ true
      → KeepKey (first ∷ rows) (first ∷ others)
  keep-first first rows others is = (
    ap (λ b. b || list_any has others) is,
    ap (λ b. cond (not b) (1 + position_or_len has others) 0) is
        ∙ sym (ap (λ b. cond (not b) (1 + position_or_len has rows) 0) is),
  )

  keep-later : (first : R) (rows others : List R) → has first ≡ false → KeepKey rows others
      → KeepKey (first ∷ rows) (first ∷ others)
  keep-later first rows others isnt keep = (
    ap (λ b. b || list_any has others) isnt ∙ keep.0,
    ap (λ b. cond (not b) (1 + position_or_len has others) 0) isnt ∙ ap (λ n. 1 + n) keep.1
        ∙ sym (ap (λ b. cond (not b) (1 + position_or_len has rows) 0) isnt),
  )

  keep-set_or_push : (row : R) (rows : List R) → list_any has rows ≡ true
      → KeepKey rows (set_or_push (λ other. same_key (key other) (key row)) row rows)
  keep-set_or_push row [] any = absurd (cc)
  keep-set_or_push row (first ∷ rows) any =
      let others = set_or_push (λ other. same_key (key other) (key row)) row rows in
      cond_both (same_key (key first) (key row)) (row ∷ rows) (first ∷ others)
      (KeepKey (first ∷ rows))
      (λ same.
      let as_first : has row ≡ has first =
      ap (λ k. same_key k wanted) (sym (same_key-true (key first) (key row) same)) in (
        ap (λ b. b || list_any has rows) as_first ∙ any,
        ap (λ b. cond (not b) (1 + position_or_len has rows) 0) as_first,
      ))
      (λ differ. elim (cases_Bool (has first)) [
        | inl is ↦ keep-first first rows others is
        | inr isnt ↦
            keep-later first rows others isnt
            (keep-set_or_push row rows (sym (ap (λ b. b || list_any has rows) isnt) ∙ any))
      ])

  keep-put_row : (row : R) (rows : List R) → list_any has rows ≡ true
      → KeepKey rows (put_row key row rows)
  keep-put_row row rows any =
      subst (KeepKey rows)
      (sym (put_at-position key (λ other. same_key (key other) (key row)) row rows))
      (keep-set_or_push row rows any)

-- ---- a row that stands in a state, behind a row that is put

-- each row that stands in the first state stands in the second, and in the same place
abbrev Keep : State → State → Type 0
Keep s t =
    (row : Row) → stands_in s row ≡ true
    → (stands_in t row ≡ true) × (place_in t row ≡ place_in s row)

keep-with_row : (s : State) (new row : Row) → stands_in s row ≡ true
    → (stands_in (with_row s new) row ≡ true) × (place_in (with_row s new) row ≡ place_in s row)
keep-with_row s (kept.Reader new) (kept.Reader row) stands =
    keep-put_row reader_key (reader_key row) new s.readers stands
keep-with_row s (kept.Reader new) (kept.Manifest row) stands = (stands, refl)
keep-with_row s (kept.Reader new) (kept.Note row) stands = (stands, refl)
keep-with_row s (kept.Reader new) (kept.Activity row) stands = absurd (cc)
keep-with_row s (kept.Manifest new) (kept.Reader row) stands = (stands, refl)
keep-with_row s (kept.Manifest new) (kept.Manifest row) stands =
    keep-put_row manifest_key (manifest_key row) new s.manifests stands
keep-with_row s (kept.Manifest new) (kept.Note row) stands = (stands, refl)
keep-with_row s (kept.Manifest new) (kept.Activity row) stands = absurd (cc)
keep-with_row s (kept.Note new) (kept.Reader row) stands = (stands, refl)
keep-with_row s (kept.Note new) (kept.Manifest row) stands = (stands, refl)
keep-with_row s (kept.Note new) (kept.Note row) stands =
    keep-put_row note_key (note_key row) new s.notes stands
keep-with_row s (kept.Note new) (kept.Activity row) stands = absurd (cc)
keep-with_row s (kept.Activity new) (kept.Reader row) stands = (stands, refl)
keep-with_row s (kept.Activity new) (kept.Manifest row) stands = (stands, refl)
keep-with_row s (kept.Activity new) (kept.Note row) stands = (stands, refl)
keep-with_row s (kept.Activity new) (kept.Activity row) stands = absurd (cc)

-- ---- the changes of rows

module _ (s : State) where
  -- rows that stand are put in the places that they have
  changes-standing : (t : State) (rows more : List Row) → Keep s t
      → list_all (stands_in s) rows ≡ true
      → row_changes t (rows ++ more) ≡ map (change_in s) rows ++ row_changes (with_rows rows t) more
  changes-standing t [] more keep stand = refl
  changes-standing t (row ∷ rows) more keep stand =
      let parts = and_parts (stands_in s row) (list_all (stands_in s) rows) stand in
      let on : Keep s (with_row t row) = λ other stands.
      let here = keep other stands in
      let there = keep-with_row t row other here.0 in
      (there.0, there.1 ∙ here.1) in
      ap₂ (λ place changes. put (cell_of Second place row) ∷ changes) (keep row parts.0).1
      (changes-standing (with_row t row) rows more on parts.1)

  changes-settled : (rows more : List Row) → all_but_first_stand s rows ≡ true
      → row_changes s (rows ++ more) ≡ map (change_in s) rows ++ row_changes (with_rows rows s) more
  changes-settled [] more settled = refl
  changes-settled (row ∷ rows) more settled =
      ap (λ changes. change_in s row ∷ changes)
      (changes-standing (with_row s row) rows more (keep-with_row s row) settled)

  -- and none of them is an activity
  activities-standing : (t : State) (rows : List Row) → list_all (stands_in s) rows ≡ true
      → (with_rows rows t).activities ≡ t.activities
  activities-standing t [] stand = refl
  activities-standing t (kept.Reader row ∷ rows) stand =
      activities-standing (with_row t (kept.Reader row)) rows
      (and_parts (stands_in s (kept.Reader row)) _ stand).1
  activities-standing t (kept.Manifest row ∷ rows) stand =
      activities-standing (with_row t (kept.Manifest row)) rows
      (and_parts (stands_in s (kept.Manifest row)) _ stand).1
  activities-standing t (kept.Note row ∷ rows) stand =
      activities-standing (with_row t (kept.Note row)) rows
      (and_parts (stands_in s (kept.Note row)) _ stand).1
  activities-standing t (kept.Activity row ∷ rows) stand = absurd (cc)

  pub activities-settled : (row : Row) (rows : List Row) → all_but_first_stand s (row ∷ rows) ≡ true
      → (with_rows (row ∷ rows) s).activities ≡ (with_row s row).activities
  activities-settled row rows settled = activities-standing (with_row s row) rows settled

-- activities are put one behind the other
changes-activities : (s : State) (activities : List Activity)
    → row_changes s (map kept.Activity activities)
    ≡ map put (cells_from Second kept.Activity (length s.activities) activities)
changes-activities s [] = refl
changes-activities s (activity ∷ activities) =
    ap (λ changes. put (cell_of Second (length s.activities) (kept.Activity activity)) ∷ changes)
    (changes-activities (with_row s (kept.Activity activity)) activities
    ∙ ap (λ key. map put (cells_from Second kept.Activity key activities))
    (length-append s.activities (activity ∷ [])))

changes-of_rows : (s : State) (rows : List Row) (activities : List Activity)
    → all_but_first_stand s rows ≡ true
    → row_changes s (rows ++ map kept.Activity activities)
    ≡ map (change_in s) rows
    ++ map put (cells_from Second kept.Activity (length (with_rows rows s).activities) activities)
changes-of_rows s rows activities settled =
    changes-settled s rows (map kept.Activity activities) settled
    ∙ ap (λ changes. map (change_in s) rows ++ changes)
    (changes-activities (with_rows rows s) activities)

pub written_changes : (s : State) (rows : List Row) (activities : List Activity) (start : ℕ)
    (front changes : List Change)
    → all_but_first_stand s rows ≡ true → start ≡ length (with_rows rows s).activities
    → front ≡ map (change_in s) rows
    → changes ≡ front ++ map put (cells_from Second kept.Activity start activities)
    → changes ≡ row_changes s (rows ++ map kept.Activity activities)
written_changes s rows activities start front changes settled counted in_front is =
    is ∙ ap (λ l. l ++ map put (cells_from Second kept.Activity start activities)) in_front
    ∙ ap (λ n. map (change_in s) rows ++ map put (cells_from Second kept.Activity n activities))
    counted
    ∙ sym (changes-of_rows s rows activities settled)

pub ruleset write_changes = (written_changes)
