-- The cells of a valid and sound state stand for that state.
use Rattle.std.proofs.Common.{◌≡◌, ℕ, zero, suc, ◌+◌, ◌-◌, ℤ, int_lt, Bool, true, false, not, ◌&&◌, bytes_eq, List, [], ◌∷◌, ◌++◌, length, slice_get, Option, Some, None, Ok, Err, option_map, filter_map, refl, sym, ap, subst, ◌∙◌, arith, length-append, append_assoc, append-nil}
use Rattle.std.specs.Prelude.{⊤, unwrap_or}
use Rattle.std.specs.List.{list_all, list_any, cons_option}
use Rattle.std.specs.Result.{result_ok}
use Rattle.std.proofs.lemmas.Bool.{and_from, and_parts, or_parts, or_from, not-true, not_from_false, cond-true, eq-eqb, both_ways, false_from_ne_true}
use Rattle.std.proofs.lemmas.Option.{same_Some}
use Rattle.std.proofs.lemmas.Slice.Eq.{bytes_eq-Decides}
use Rattle.std.proofs.lemmas.Int.{ints}
use Rattle.an_base.specs.Outcome.{or_refuse, passes}
use Rattle.an_keyed.specs.Key.{Key}
use Rattle.an_keyed.specs.Rows.{keys_are_distinct}
use Rattle.an_keyed.proofs.PutLemmas.{distinct-before, put_row-new}
use Rattle.an_keep.specs.declared.cell.Cell.{Cell}
use Rattle.an_policy.specs.declared.reader.Reader.{Reader}
use Rattle.an_state.specs.View.{last_moment}
use Rattle.an_state.specs.Entries.{with_row}
use Rattle.an_state.specs.Sound.{is_sound, agrees, tokens_are_distinct, stands_on_live, moments_never_fall}
use Rattle.an_state.specs.State.{State, ReaderState, ManifestState, NoteState, empty, reader_key, manifest_key, note_key, live_readers, is_distinct, manifests_are_distinct}
use Rattle.an_state.specs.declared.activity.Activity.{Activity}
use Rattle.an_state.specs.declared.entry.Row.{Row}
use Rattle.an_state.specs.declared.entry.Row.TheVariants as kept
use Rattle.an_rows.specs.Valid.{if_any, is_valid, is_valid_row, is_valid_reader_row, is_valid_manifest_row, is_valid_note_row, is_valid_activity, row_can, state_can}
use Rattle.an_rows.specs.Cells.{place_of, cell_of, cells_from, row_cells, first_cell, with_first, cells, cells_in, rows_before, has_key, has_its_token, may_follow, if_next, row_behind, restored, format_of, state_of}
use Rattle.an_rows.specs.declared.format.Format.{Format}
use Rattle.an_rows.specs.declared.format.Format.TheVariants.{First, Second}
use Rattle.an_rows.proofs.ReadActivityLemmas.{row-reads-back}

-- ---- a row behind a state

-- a valid row that may follow is restored from its cell
row-behind : (format : Format) (s : State) (key : ℕ) (row : Row) → is_valid_row row ≡ true
    → row_can format row ≡ true → key ≡ rows_before s row → may_follow s row ≡ true
    → row_behind format s (cell_of format key row) ≡ Ok row
unfolding row_behind
row-behind format s key row valid can place follows =
    let cell = cell_of format key row in
    ap (λ found. or_refuse (place_of cell) (result_ok found) (if_next s cell))
    (row-reads-back format row valid can)
    ∙ cond-true _ _ _ (and_from _ _ (eq-eqb key (rows_before s row) place) follows)

restored-row : (format : Format) (s : State) (cell : Cell) (row : Row) (more : List Cell)
    → row_behind format s cell ≡ Ok row
    → restored format s (cell ∷ more) ≡ restored format (with_row s row) more
restored-row format s cell row more is =
    ap
    (λ found. elim found [ Err place ↦ Err place | Ok row ↦ restored format (with_row s row) more ])
    is

-- ---- the rows of a list

module _ {R : Type 0} (format : Format) (kind : R → Row) (with : List R → State)
    (counts : (front : List R) (row : R) → rows_before (with front) (kind row) ≡ length front)
    (puts : (front : List R) (row : R) → may_follow (with front) (kind row) ≡ true
    → with_row (with front) (kind row) ≡ with (front ++ row ∷ [])) where
  -- each row is valid, the format can say it, and it may follow those before it
  abbrev pub Follow : List R → List R → Type 0
  Follow front [] = ⊤
  Follow front (row ∷ rows) =
      (is_valid_row (kind row) ≡ true) × (row_can format (kind row) ≡ true)
      × (may_follow (with front) (kind row) ≡ true) × Follow (front ++ row ∷ []) rows

  restored-list : (front rows : List R) (more : List Cell) → Follow front rows
      → restored format (with front) (cells_from format kind (length front) rows ++ more)
      ≡ restored format (with (front ++ rows)) more
  restored-list front [] more follow =
      ap (λ l. restored format (with l) more) (sym (append-nil front))
  restored-list front (row ∷ rows) more follow =
      let longer : length (front ++ row ∷ []) ≡ length front + 1 = length-append front (row ∷ []) in
      restored-row format (with front) (cell_of format (length front) (kind row)) (kind row)
      (cells_from format kind (length front + 1) rows ++ more)
      (row-behind format (with front) (length front) (kind row) follow.0 follow.1
      (sym (counts front row)) follow.2)
      ∙ ap (λ s. restored format s (cells_from format kind (length front + 1) rows ++ more))
      (puts front row follow.2)
      ∙ ap (λ n. restored format (with (front ++ row ∷ [])) (cells_from format kind n rows ++ more))
      (sym longer)
      ∙ restored-list (front ++ row ∷ []) rows more follow.3
      ∙ ap (λ l. restored format (with l) more) (append_assoc front (row ∷ []) rows)

-- the front of a list, and one row more
shift : {R : Type 0} (P : List R → Type 0) (front : List R) (row : R) (rows : List R)
    → P (front ++ row ∷ rows) → P ((front ++ row ∷ []) ++ rows)
shift P front row rows h = subst P (sym (append_assoc front (row ∷ []) rows)) h

-- ---- readers

abbrev pub lives : List ReaderState → List Reader
lives rows = filter_map (λ row. row.live) rows

abbrev pub has : List ℕ → Reader → Bool
has token reader = bytes_eq reader.token token

passes-never : {A : Type 0} (value : Option A) → passes (λ x. false) value ≡ false
passes-never None = refl
passes-never (Some x) = refl

pub other-token : (a b : List ℕ) → bytes_eq a b ≡ false → bytes_eq b a ≡ false
other-token a b differ =
    false_from_ne_true _
    (λ same. both_ways _ differ ((bytes_eq-Decides a b).1 (sym ((bytes_eq-Decides b a).0 same))))

module _ (row : ReaderState) (rows : List ReaderState) (reader : Reader)
    (live : row.live ≡ Some reader) where
  -- a token that no later reader has is not the row's
  none-later : (token : List ℕ) (front : List ReaderState)
      → list_any (has token) (lives (front ++ row ∷ rows)) ≡ false
      → bytes_eq reader.token token ≡ false
  none-later token [] none =
      (or_parts _ _
      (sym (ap (λ l. list_any (has token) (cons_option l (lives rows))) live) ∙ none)).0
  none-later token (first ∷ front) none = none-later token front (behind first.live none)
    where
      behind : (its : Option Reader)
          → list_any (has token) (cons_option its (lives (front ++ row ∷ rows))) ≡ false
          → list_any (has token) (lives (front ++ row ∷ rows)) ≡ false
      behind None h = h
      behind (Some r) h = (or_parts _ _ h).1

  none-has : (front : List ReaderState) → tokens_are_distinct (lives (front ++ row ∷ rows)) ≡ true
      → list_any (has reader.token) (lives front) ≡ false
  none-has [] distinct = refl
  none-has (first ∷ front) distinct = behind (none-has front) first.live distinct
    where
      behind : (tokens_are_distinct (lives (front ++ row ∷ rows)) ≡ true
          → list_any (has reader.token) (lives front) ≡ false)
          → (its : Option Reader)
          → tokens_are_distinct (cons_option its (lives (front ++ row ∷ rows))) ≡ true
          → list_any (has reader.token) (cons_option its (lives front)) ≡ false
      behind before None h = before h
      behind before (Some r) h =
          let parts = and_parts (not (list_any (has r.token) (lives (front ++ row ∷ rows)))) _ h in
          or_from _ _
          (other-token reader.token r.token (none-later r.token front (not-true _ parts.0)))
          (before parts.1)

abbrev with_readers : List ReaderState → State
with_readers front = record { readers = front; manifests = []; notes = []; activities = [] }

token-new : (front : List ReaderState) (row : ReaderState) (rows : List ReaderState)
    (live : Option Reader) → row.live ≡ live
    → tokens_are_distinct (lives (front ++ row ∷ rows)) ≡ true
    → has_its_token (with_readers front) row ≡ false
token-new front row rows None is distinct =
    ap (passes (λ reader. list_any (has reader.token) (lives front))) is
token-new front row rows (Some reader) is distinct =
    ap (passes (λ reader. list_any (has reader.token) (lives front))) is
    ∙ none-has row rows reader is front distinct

puts-reader : (front : List ReaderState) (row : ReaderState)
    → may_follow (with_readers front) (kept.Reader row) ≡ true
    → with_row (with_readers front) (kept.Reader row) ≡ with_readers (front ++ row ∷ [])
puts-reader front row follows =
    ap with_readers (put_row-new reader_key row front
    (not-true _ (and_parts (not (has_key reader_key row front)) _ follows).0))

follow-readers : (format : Format) (front rows : List ReaderState)
    → keys_are_distinct reader_key (front ++ rows) ≡ true
    → tokens_are_distinct (lives (front ++ rows)) ≡ true
    → list_all is_valid_reader_row rows ≡ true
    → Follow format kept.Reader with_readers (λ front row. refl) puts-reader front rows
follow-readers format front [] keys tokens valid = tt
follow-readers format front (row ∷ rows) keys tokens valid =
    let parts = and_parts (is_valid_reader_row row) _ valid in (
      parts.0,
      refl,
      and_from _ _ (not_from_false _ (distinct-before reader_key front row rows keys))
          (not_from_false _ (token-new front row rows row.live refl tokens)),
      follow-readers format (front ++ row ∷ []) rows
          (shift (λ l. keys_are_distinct reader_key l ≡ true) front row rows keys)
          (shift (λ l. tokens_are_distinct (lives l) ≡ true) front row rows tokens) parts.1,
    )

-- ---- the other lists, behind those before them

module _ (format : Format) (s : State) where
  abbrev with_manifests : List ManifestState → State
  with_manifests front =
      record { readers = s.readers; manifests = front; notes = []; activities = [] }

  abbrev with_notes : List NoteState → State
  with_notes front =
      record { readers = s.readers; manifests = s.manifests; notes = front; activities = [] }

  abbrev with_activities : List Activity → State
  with_activities front =
      record { readers = s.readers; manifests = s.manifests; notes = s.notes; activities = front }

  puts-manifest : (front : List ManifestState) (row : ManifestState)
      → may_follow (with_manifests front) (kept.Manifest row) ≡ true
      → with_row (with_manifests front) (kept.Manifest row) ≡ with_manifests (front ++ row ∷ [])
  puts-manifest front row follows =
      ap with_manifests (put_row-new manifest_key row front (not-true _ follows))

  puts-note : (front : List NoteState) (row : NoteState)
      → may_follow (with_notes front) (kept.Note row) ≡ true
      → with_row (with_notes front) (kept.Note row) ≡ with_notes (front ++ row ∷ [])
  puts-note front row follows =
      ap with_notes (put_row-new note_key row front
      (not-true _ (and_parts (not (has_key note_key row front)) _ follows).0))

  puts-activity : (front : List Activity) (row : Activity)
      → may_follow (with_activities front) (kept.Activity row) ≡ true
      → with_row (with_activities front) (kept.Activity row) ≡ with_activities (front ++ row ∷ [])
  puts-activity front row follows = refl

  follow-manifests : (front rows : List ManifestState)
      → keys_are_distinct manifest_key (front ++ rows) ≡ true
      → list_all is_valid_manifest_row rows ≡ true
      → Follow format kept.Manifest with_manifests (λ front row. refl) puts-manifest front rows
  follow-manifests front [] keys valid = tt
  follow-manifests front (row ∷ rows) keys valid =
      let parts = and_parts (is_valid_manifest_row row) _ valid in (
        parts.0,
        refl,
        not_from_false _ (distinct-before manifest_key front row rows keys),
        follow-manifests (front ++ row ∷ []) rows
            (shift (λ l. keys_are_distinct manifest_key l ≡ true) front row rows keys) parts.1,
      )

  follow-notes : (front rows : List NoteState) → keys_are_distinct note_key (front ++ rows) ≡ true
      → list_all (stands_on_live s) rows ≡ true → list_all is_valid_note_row rows ≡ true
      → list_all (λ row. row_can format (kept.Note row)) rows ≡ true
      → Follow format kept.Note with_notes (λ front row. refl) puts-note front rows
  follow-notes front [] keys stand valid can = tt
  follow-notes front (row ∷ rows) keys stand valid can =
      let said = and_parts (row_can format (kept.Note row)) _ can in
      let parts = and_parts (is_valid_note_row row) _ valid in
      let stands = and_parts (stands_on_live s row) _ stand in (
        parts.0,
        said.0,
        and_from _ _ (not_from_false _ (distinct-before note_key front row rows keys)) stands.0,
        follow-notes (front ++ row ∷ []) rows
            (shift (λ l. keys_are_distinct note_key l ≡ true) front row rows keys) stands.1
            parts.1 said.1,
      )

-- ---- activities

not_below-self : (a : ℤ) → not (int_lt a a) ≡ true
not_below-self a = grind (arith, ints)

module _ (a : Activity) (rows : List Activity) where
  pub all-reach : (p : Activity → Bool) (front : List Activity)
      → list_all p (front ++ a ∷ rows) ≡ true → p a ≡ true
  all-reach p [] all = (and_parts (p a) _ all).0
  all-reach p (first ∷ front) all = all-reach p front (and_parts (p first) _ all).1

  -- no activity before it is later
  each-before : (front : List Activity) (place : ℕ) (x : Activity) → slice_get front place ≡ Some x
      → moments_never_fall (front ++ a ∷ rows) ≡ true → not (int_lt a.at x.at) ≡ true
  each-before [] place x is rise = absurd (cc)
  each-before (first ∷ front) zero x is rise =
      ap (λ its. not (int_lt a.at its.at)) (sym (same_Some first x is))
      ∙ all-reach (λ later. not (int_lt later.at first.at)) front
      (and_parts (list_all (λ later. not (int_lt later.at first.at)) (front ++ a ∷ rows)) _ rise).0
  each-before (first ∷ front) (suc place) x is rise =
      each-before front place x is
      (and_parts (list_all (λ later. not (int_lt later.at first.at)) (front ++ a ∷ rows)) _ rise).1

  moment-follows : (front : List Activity) → moments_never_fall (front ++ a ∷ rows) ≡ true
      → not (int_lt a.at (last_moment a.at front)) ≡ true
  moment-follows front rise = by_last (slice_get front (length front - 1)) refl
    where
      by_last : (found : Option Activity) → slice_get front (length front - 1) ≡ found
          → not (int_lt a.at (unwrap_or (option_map (λ last. last.at) found) a.at)) ≡ true
      by_last None is = not_below-self a.at
      by_last (Some x) is = each-before front (length front - 1) x is rise

follow-activities : (format : Format) (s : State) (front rows : List Activity)
    → moments_never_fall (front ++ rows) ≡ true → list_all is_valid_activity rows ≡ true
    → list_all (λ row. row_can format (kept.Activity row)) rows ≡ true
    → Follow format kept.Activity (with_activities format s) (λ front row. refl)
    (puts-activity format s) front rows
follow-activities format s front [] rise valid can = tt
follow-activities format s front (row ∷ rows) rise valid can =
    let said = and_parts (row_can format (kept.Activity row)) _ can in
    let parts = and_parts (is_valid_activity row) _ valid in (
      parts.0,
      said.0,
      moment-follows row rows front rise,
      follow-activities format s (front ++ row ∷ []) rows
          (shift (λ l. moments_never_fall l ≡ true) front row rows rise) parts.1 said.1,
    )

-- ---- all

pub record Parts (s : State) : Type 0 where
  pub readers : keys_are_distinct reader_key s.readers ≡ true
  pub manifests : keys_are_distinct manifest_key s.manifests ≡ true
  pub notes : keys_are_distinct note_key s.notes ≡ true
  pub agree : list_all agrees s.readers ≡ true
  pub tokens : tokens_are_distinct (lives s.readers) ≡ true
  pub stand : list_all (stands_on_live s) s.notes ≡ true
  pub rise : moments_never_fall s.activities ≡ true

pub sound-parts : (s : State) → is_sound s ≡ true → Parts s
unfolding is_sound is_distinct
sound-parts s sound =
    let rise =
    and_parts (keys_are_distinct reader_key s.readers && is_distinct s && list_all agrees s.readers
    && tokens_are_distinct (live_readers s) && list_all (stands_on_live s) s.notes) _ sound in
    let stand =
    and_parts (keys_are_distinct reader_key s.readers && is_distinct s && list_all agrees s.readers
    && tokens_are_distinct (live_readers s)) _ rise.0 in
    let tokens =
    and_parts (keys_are_distinct reader_key s.readers && is_distinct s && list_all agrees s.readers)
    _ stand.0 in
    let agree = and_parts (keys_are_distinct reader_key s.readers && is_distinct s) _ tokens.0 in
    let keys = and_parts (keys_are_distinct reader_key s.readers) _ agree.0 in
    let both = and_parts (manifests_are_distinct s) _ keys.1 in
    record {
      readers = keys.0;
      manifests = both.0;
      notes = both.1;
      agree = agree.1;
      tokens = tokens.1;
      stand = stand.1;
      rise = rise.1;
    }

-- the first cell of a format names it
pub format-first : (format : Format) → format_of (first_cell format) ≡ Some format
unfolding format_of first_cell
format-first First = refl
format-first Second = refl

module _ (format : Format) (s : State) (valid : is_valid s ≡ true) (sound : is_sound s ≡ true)
    (can : state_can format s ≡ true) where
  restored-all : restored format empty (row_cells format s) ≡ Ok s
  unfolding row_cells is_valid
  restored-all =
      let parts = sound-parts s sound in
      let activities =
      and_parts (list_all is_valid_reader_row s.readers
      && list_all is_valid_manifest_row s.manifests && list_all is_valid_note_row s.notes) _
      valid in
      let notes =
      and_parts
      (list_all is_valid_reader_row s.readers && list_all is_valid_manifest_row s.manifests) _
      activities.0 in
      let both = and_parts (list_all is_valid_reader_row s.readers) _ notes.0 in
      let said = and_parts (list_all (λ row. row_can format (kept.Note row)) s.notes) _ can in
      let last = cells_from format kept.Activity 0 s.activities in
      restored-list format kept.Reader with_readers (λ front row. refl) puts-reader [] s.readers
      (cells_from format kept.Manifest 0 s.manifests
      ++ (cells_from format kept.Note 0 s.notes ++ last))
      (follow-readers format [] s.readers parts.readers parts.tokens both.0)
      ∙ restored-list format kept.Manifest (with_manifests format s) (λ front row. refl)
      (puts-manifest format s) [] s.manifests (cells_from format kept.Note 0 s.notes ++ last)
      (follow-manifests format s [] s.manifests parts.manifests both.1)
      ∙ restored-list format kept.Note (with_notes format s)
      (λ front row. refl) (puts-note format s) [] s.notes last
      (follow-notes format s [] s.notes parts.notes parts.stand notes.1 said.0)
      ∙ ap (restored format (with_activities format s [])) (sym (append-nil last))
      ∙ restored-list format kept.Activity (with_activities format s)
      (λ front row. refl) (puts-activity format s) [] s.activities []
      (follow-activities format s [] s.activities parts.rise activities.1 said.1)

  by_cells : (found : List Cell) → row_cells format s ≡ found
      → state_of (with_first format found) ≡ Ok s
  unfolding state_of
  by_cells [] is = sym (ap (restored format empty) is) ∙ restored-all
  by_cells (cell ∷ others) is =
      ap (λ found. elim found
      [ None ↦ Err (place_of (first_cell format)) | Some its ↦ restored its empty (cell ∷ others) ])
      (format-first format)
      ∙ sym (ap (restored format empty) is) ∙ restored-all

  -- the cells of the state stand for the state
  pub cells-read-back : state_of (cells_in format s) ≡ Ok s
  cells-read-back = by_cells (row_cells format s) refl

-- the second format can say each state
all-said : {A : Type 0} (rows : List A) (p : A → Bool) → ((row : A) → p row ≡ true)
    → list_all p rows ≡ true
all-said [] p each = refl
all-said (row ∷ rows) p each = and_from _ _ (each row) (all-said rows p each)

any-said : {A : Type 0} (value : Option A) → if_any (λ x. true) value ≡ true
any-said None = refl
any-said (Some x) = refl

note-said : (row : NoteState) → row_can Second (kept.Note row) ≡ true
note-said row = any-said row.live

activity-said : (row : Activity) → row_can Second (kept.Activity row) ≡ true
activity-said row = and_from _ _ (any-said row.before) (any-said row.after)

pub second-said : (s : State) → state_can Second s ≡ true
second-said s =
    and_from _ _ (all-said s.notes (λ row. row_can Second (kept.Note row)) note-said)
    (all-said s.activities (λ row. row_can Second (kept.Activity row)) activity-said)

pub cells-today : (s : State) → is_valid s ≡ true → is_sound s ≡ true → state_of (cells s) ≡ Ok s
cells-today s valid sound = cells-read-back Second s valid sound (second-said s)

pub ruleset states_cells = (cells-today, cells-read-back)
