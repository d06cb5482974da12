-- The migration makes of the cells of a state in the first format those in the second.
use Rattle.std.proofs.Common.{◌≡◌, ℕ, ◌+◌, Bool, true, false, List, [], ◌∷◌, ◌++◌, map, length, refl, sym, ap, ap₂, subst, ◌∙◌, arith}
use Rattle.std.specs.Prelude.{if◌then◌else◌, is_some, Some, None, Option, unwrap_or}
use Rattle.std.proofs.lemmas.List.{map-append}
use Rattle.std.proofs.lemmas.List.Elements.{filter_map-append}
use Rattle.serde_json.specs.Data.{object}
use Rattle.serde_json.specs.Written.{compact_text}
use Rattle.an_keep.specs.Cells.{Ascend, put_changes}
use Rattle.an_keep.specs.declared.cell.Cell.{Cell}
use Rattle.an_keep.specs.declared.cell.Change.{Change}
use Rattle.an_state.specs.State.{State, ReaderState, ManifestState, NoteState, LiveNote}
use Rattle.an_state.specs.declared.activity.Activity.{Activity}
use Rattle.an_state.specs.declared.entry.Row.{Row}
use Rattle.an_state.specs.declared.entry.Row.TheVariants as kept
use Rattle.an_rows.specs.Cells.{cell_of, cells, cells_from, cells_in, first_cell, row_cells, with_first}
use Rattle.an_rows.specs.Changes.{put}
use Rattle.an_rows.specs.Format.{format_text}
use Rattle.an_rows.specs.Migration.{migration, rewritten_note, rewritten_notes}
use Rattle.an_rows.specs.RowTree.{note_members, row_text, table_of}
use Rattle.an_rows.specs.declared.format.Format.TheVariants.{First, Second}
use Rattle.an_rows.proofs.FormatLemmas.{length-row_cells, with_first-none}
use Rattle.an_rows.proofs.TurnLemmas.{Turn, old_cell, new_cell, turn_changes, turns-lead}

-- ---- the rows of a list

module _ {R : Type 0} (kind : R → Row) (is_other : R → Bool)
    (same : (row : R) → is_other row ≡ false
    → row_text First (kind row) ≡ row_text Second (kind row)) where
  abbrev pub turn_of : ℕ → R → Turn
  turn_of key row = record {
    tab = table_of (kind row);
    key = key;
    was = row_text First (kind row);
    now = if is_other row then Some (row_text Second (kind row)) else None;
  }

  abbrev pub turns_from : ℕ → List R → List Turn
  turns_from key [] = []
  turns_from key (row ∷ rows) = turn_of key row ∷ turns_from (key + 1) rows

  pub olds : (key : ℕ) (rows : List R)
      → map old_cell (turns_from key rows) ≡ cells_from First kind key rows
  olds key [] = refl
  olds key (row ∷ rows) =
      ap (λ (found : List Cell). cell_of First key (kind row) ∷ found) (olds (key + 1) rows)

  new-text : (row : R) (b : Bool) → is_other row ≡ b
      → unwrap_or (if b then Some (row_text Second (kind row)) else None)
      (row_text First (kind row)) ≡ row_text Second (kind row)
  new-text row true is = refl
  new-text row false is = same row is

  pub news : (key : ℕ) (rows : List R)
      → map new_cell (turns_from key rows) ≡ cells_from Second kind key rows
  news key [] = refl
  news key (row ∷ rows) =
      ap₂ (λ (val : List ℕ) (found : List Cell).
      record { tab = table_of (kind row); key = key; val = val } ∷ found)
      (new-text row (is_other row) refl) (news (key + 1) rows)

-- ---- readers and manifests, which both formats write alike

same-reader : (row : ReaderState) → false ≡ false
    → row_text First (kept.Reader row) ≡ row_text Second (kept.Reader row)
unfolding row_text
same-reader row is = refl

same-manifest : (row : ManifestState) → false ≡ false
    → row_text First (kept.Manifest row) ≡ row_text Second (kept.Manifest row)
unfolding row_text
same-manifest row is = refl

abbrev reader_turns : List ReaderState → List Turn
reader_turns rows = turns_from kept.Reader (λ row. false) same-reader 0 rows

abbrev manifest_turns : List ManifestState → List Turn
manifest_turns rows = turns_from kept.Manifest (λ row. false) same-manifest 0 rows

none-readers : (key : ℕ) (rows : List ReaderState)
    → turn_changes (turns_from kept.Reader (λ row. false) same-reader key rows) ≡ []
none-readers key [] = refl
none-readers key (row ∷ rows) = none-readers (key + 1) rows

none-manifests : (key : ℕ) (rows : List ManifestState)
    → turn_changes (turns_from kept.Manifest (λ row. false) same-manifest key rows) ≡ []
none-manifests key [] = refl
none-manifests key (row ∷ rows) = none-manifests (key + 1) rows

-- ---- annotations, of which tombstones are written alike

dead-alike : (row : NoteState) (live : Option LiveNote) → row.live ≡ live → is_some live ≡ false
    → note_members First row ≡ note_members Second row
dead-alike row None is dead = rw is refl
dead-alike row (Some its) is dead = absurd (cc)

same-note : (row : NoteState) → is_some row.live ≡ false
    → row_text First (kept.Note row) ≡ row_text Second (kept.Note row)
unfolding row_text
same-note row dead =
    ap (λ members. compact_text (object members)) (dead-alike row row.live refl dead)

abbrev note_turns : ℕ → List NoteState → List Turn
note_turns key rows = turns_from kept.Note (λ row. is_some row.live) same-note key rows

note-changes : (key : ℕ) (rows : List NoteState)
    → turn_changes (note_turns key rows) ≡ rewritten_notes key rows
note-changes key [] = refl
note-changes key (row ∷ rows) = by (is_some row.live) (note-changes (key + 1) rows)
  where
    by : (b : Bool) → turn_changes (note_turns (key + 1) rows) ≡ rewritten_notes (key + 1) rows
        → turn_changes (record {
          tab = 3;
          key = key;
          was = row_text First (kept.Note row);
          now = if b then Some (row_text Second (kept.Note row)) else None;
        } ∷ note_turns (key + 1) rows)
        ≡ (if b then put (cell_of Second key (kept.Note row)) ∷ [] else [])
        ++ rewritten_notes (key + 1) rows
    by true rest = ap (λ (l : List Change). put (cell_of Second key (kept.Note row)) ∷ l) rest
    by false rest = rest

-- ---- activities, each of which says an audience

same-activity : (row : Activity) → true ≡ false
    → row_text First (kept.Activity row) ≡ row_text Second (kept.Activity row)
same-activity row is = absurd (cc)

abbrev activity_turns : ℕ → List Activity → List Turn
activity_turns key rows = turns_from kept.Activity (λ row. true) same-activity key rows

activity-changes : (key : ℕ) (rows : List Activity)
    → turn_changes (activity_turns key rows) ≡ map put (cells_from Second kept.Activity key rows)
activity-changes key [] = refl
activity-changes key (row ∷ rows) =
    ap (λ (l : List Change). put (cell_of Second key (kept.Activity row)) ∷ l)
    (activity-changes (key + 1) rows)

-- ---- all

abbrev first_turn : Turn
first_turn = record { tab = 0; key = 0; was = format_text First; now = Some (format_text Second) }

module _ (s : State) where
  abbrev row_turns : List Turn
  row_turns =
      reader_turns s.readers
      ++ (manifest_turns s.manifests ++ (note_turns 0 s.notes ++ activity_turns 0 s.activities))

  over-rows : {B : Type 0} (f : Turn → B)
      → map f row_turns
      ≡ map f (reader_turns s.readers)
      ++ (map f (manifest_turns s.manifests)
      ++ (map f (note_turns 0 s.notes) ++ map f (activity_turns 0 s.activities)))
  over-rows f =
      map-append f (reader_turns s.readers) _
      ∙ ap (λ l. map f (reader_turns s.readers) ++ l) (map-append f (manifest_turns s.manifests) _
      ∙ ap (λ l. map f (manifest_turns s.manifests) ++ l)
      (map-append f (note_turns 0 s.notes) (activity_turns 0 s.activities)))

  old-rows : map old_cell row_turns ≡ row_cells First s
  unfolding row_cells
  old-rows =
      over-rows old_cell
      ∙ ap₂ (λ (a b : List Cell). a ++ b) (olds kept.Reader (λ row. false) same-reader 0 s.readers)
      (ap₂ (λ (a b : List Cell). a ++ b)
      (olds kept.Manifest (λ row. false) same-manifest 0 s.manifests)
      (ap₂ (λ (a b : List Cell). a ++ b)
      (olds kept.Note (λ row. is_some row.live) same-note 0 s.notes)
      (olds kept.Activity (λ row. true) same-activity 0 s.activities)))

  new-rows : map new_cell row_turns ≡ row_cells Second s
  unfolding row_cells
  new-rows =
      over-rows new_cell
      ∙ ap₂ (λ (a b : List Cell). a ++ b) (news kept.Reader (λ row. false) same-reader 0 s.readers)
      (ap₂ (λ (a b : List Cell). a ++ b)
      (news kept.Manifest (λ row. false) same-manifest 0 s.manifests)
      (ap₂ (λ (a b : List Cell). a ++ b)
      (news kept.Note (λ row. is_some row.live) same-note 0 s.notes)
      (news kept.Activity (λ row. true) same-activity 0 s.activities)))

  row-changes : turn_changes row_turns
      ≡ rewritten_notes 0 s.notes ++ map put (cells_from Second kept.Activity 0 s.activities)
  row-changes =
      filter_map-append _ (reader_turns s.readers) _
      ∙ ap (λ l. l
      ++ turn_changes
      (manifest_turns s.manifests ++ (note_turns 0 s.notes ++ activity_turns 0 s.activities)))
      (none-readers 0 s.readers)
      ∙ filter_map-append _ (manifest_turns s.manifests) _
      ∙ ap (λ l. l ++ turn_changes (note_turns 0 s.notes ++ activity_turns 0 s.activities))
      (none-manifests 0 s.manifests)
      ∙ filter_map-append _ (note_turns 0 s.notes) _
      ∙ ap₂ (λ (a b : List Change). a ++ b) (note-changes 0 s.notes)
      (activity-changes 0 s.activities)

  all-changes : turn_changes (first_turn ∷ row_turns) ≡ migration s
  unfolding migration first_cell
  all-changes = ap (λ (l : List Change). put (first_cell Second) ∷ l) row-changes

  all-old : map old_cell (first_turn ∷ row_turns) ≡ first_cell First ∷ row_cells First s
  unfolding first_cell
  all-old = ap (λ (l : List Cell). first_cell First ∷ l) old-rows

  all-new : map new_cell (first_turn ∷ row_turns) ≡ first_cell Second ∷ row_cells Second s
  unfolding first_cell
  all-new = ap (λ (l : List Cell). first_cell Second ∷ l) new-rows

  behind-first : Ascend (first_cell First ∷ row_cells First s)
      → put_changes (migration s) (first_cell First ∷ row_cells First s)
      ≡ first_cell Second ∷ row_cells Second s
  behind-first ascend =
      ap₂ put_changes (sym all-changes) (sym all-old)
      ∙ turns-lead (first_turn ∷ row_turns) (subst Ascend (sym all-old) ascend)
      ∙ all-new

-- both formats have as many cells
filled-too : (s : State) (found : List Cell) → row_cells Second s ≡ found
    → ¬ (cells_in First s ≡ []) → with_first Second found ≡ first_cell Second ∷ found
filled-too s (cell ∷ others) is some = refl
filled-too s [] is some =
    let none : length (row_cells First s) ≡ 0 =
    omega (arith, length-row_cells First s, length-row_cells Second s, ap length is) in
    absurd (some (with_first-none First (row_cells First s) none))

pub migration-leads : (s : State) → ¬ (cells_in First s ≡ []) → Ascend (cells_in First s)
    → put_changes (migration s) (cells_in First s) ≡ cells s
migration-leads s some ascend = by (row_cells First s) refl
  where
    by : (found : List Cell) → row_cells First s ≡ found
        → put_changes (migration s) (with_first First found) ≡ cells s
    by [] is = absurd (some (ap (with_first First) is))
    by (cell ∷ others) is =
        let its : Ascend (first_cell First ∷ row_cells First s) =
        subst (λ l. Ascend (first_cell First ∷ l)) (sym is)
        (subst (λ l. Ascend (with_first First l)) is ascend) in
        ap (λ l. put_changes (migration s) (first_cell First ∷ l)) (sym is)
        ∙ behind-first s its
        ∙ sym (filled-too s (row_cells Second s) refl some)

pub ruleset migrated_cells = (migration-leads)
