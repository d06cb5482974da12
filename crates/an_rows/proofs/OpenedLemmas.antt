-- The state that cells stand for is valid and sound, and has these cells.
use Rattle.std.proofs.Common.{◌≡◌, ℕ, suc, ◌-◌, ℤ, int_lt, Bool, true, false, not, ◌==◌, ◌&&◌, bytes_eq, codes, List, [], ◌∷◌, ◌++◌, length, slice_get, Option, Some, None, Result, Ok, Err, is_some, option_map, option_and_then, position, inl, inr, refl, sym, ap, subst, ◌∙◌, arith, length-append, append_assoc, append-nil}
use Rattle.std.specs.Prelude.{unwrap_or}
use Rattle.std.specs.List.{list_all, list_any, cons_option}
use Rattle.std.specs.Result.{result_ok}
use Rattle.std.proofs.lemmas.Bool.{cases_Bool, and_from, and_parts, or_from, or_parts, not-true, not_from_false, cond-true, cond-false, eqb-true}
use Rattle.std.proofs.lemmas.Int.{ints}
use Rattle.std.proofs.lemmas.List.Folds.{list_all-append, position_or_len_push}
use Rattle.std.proofs.lemmas.List.Elements.{filter_map-append}
use Rattle.std.proofs.lemmas.Option.{same_Some, slice_get_within}
use Rattle.std.proofs.lemmas.Slice.Eq.{bytes_eq-Decides}
use Rattle.an_base.specs.Outcome.{passes}
use Rattle.an_keyed.specs.Key.{Key, same_key}
use Rattle.an_keyed.specs.Rows.{put_row, row_of, place_of as place_of_key}
use Rattle.an_keyed.proofs.HashesLemmas.{slice_get-push-within}
use Rattle.an_keyed.proofs.PutLemmas.{distinct-put_row, put_row-new}
use Rattle.an_keep.specs.declared.cell.Cell.{Cell}
use Rattle.an_keep.specs.Cells.{is_before, is_behind, is_ascending, Ascend, put_cell}
use Rattle.an_policy.specs.declared.reader.Reader.{Reader}
use Rattle.an_state.specs.View.{last_moment}
use Rattle.an_state.specs.Entries.{with_row}
use Rattle.an_state.specs.Sound.{is_sound, agrees, tokens_are_distinct, is_live_manifest, stands_on_live, moments_never_fall}
use Rattle.an_state.specs.State.{State, ReaderState, ManifestState, NoteState, LiveNote, empty, reader_key, manifest_key, note_key, is_distinct}
use Rattle.an_state.specs.declared.activity.Activity.{Activity}
use Rattle.an_state.specs.declared.entry.Row.{Row}
use Rattle.an_state.specs.declared.entry.Row.TheVariants as kept
use Rattle.an_rows.specs.Format.{format_named, format_text}
use Rattle.an_rows.specs.RowRead.{row_of_text}
use Rattle.an_rows.specs.Valid.{is_valid, is_valid_row, is_valid_reader_row, is_valid_manifest_row, is_valid_note_row, is_valid_activity}
use Rattle.an_base.specs.Name.{is_name}
use Rattle.an_state.specs.Commands.{is_number}
use Rattle.an_rows.specs.Cells.{Place, place_of, cell_of, row_cells, first_cell, with_first, cells_in, rows_before, has_key, may_follow, if_next, row_behind, restored, format_of, format_in, state_of}
use Rattle.an_rows.specs.declared.format.Format.{Format}
use Rattle.an_rows.specs.declared.format.Format.TheVariants.{First, Second}
use Rattle.an_rows.specs.Changes.{place_in}
use Rattle.an_rows.proofs.CellLemmas.{put_cell-past, position-new}
use Rattle.an_rows.proofs.ChangeLemmas.{put_cell-in}
use Rattle.an_rows.proofs.RestoreLemmas.{Parts, lives, has, other-token, all-reach}
use Rattle.an_rows.proofs.ValidLemmas.{refused, same_Ok}
use Rattle.an_rows.proofs.ValidRowLemmas.{ok-found}
use Rattle.an_rows.proofs.ValidTreeLemmas.{row-parts, if-ok}

-- ---- valid

all-push : {R : Type 0} (p : R → Bool) (rows : List R) (row : R) → list_all p rows ≡ true
    → p row ≡ true → list_all p (rows ++ row ∷ []) ≡ true
all-push p rows row all one =
    list_all-append p rows (row ∷ []) ∙ and_from _ _ all (and_from _ _ one refl)

module _ {R : Type 0} (key : R → Key) (p : R → Bool) (row : R) (rows : List R) where
  all-put : has_key key row rows ≡ false → list_all p rows ≡ true → p row ≡ true
      → list_all p (put_row key row rows) ≡ true
  all-put new all one = ap (list_all p) (put_row-new key row rows new) ∙ all-push p rows row all one

new-reader : (s : State) (row : ReaderState) → may_follow s (kept.Reader row) ≡ true
    → has_key reader_key row s.readers ≡ false
new-reader s row h = not-true _ (and_parts (not (has_key reader_key row s.readers)) _ h).0

new-manifest : (s : State) (row : ManifestState) → may_follow s (kept.Manifest row) ≡ true
    → has_key manifest_key row s.manifests ≡ false
new-manifest s row h = not-true _ h

new-note : (s : State) (row : NoteState) → may_follow s (kept.Note row) ≡ true
    → has_key note_key row s.notes ≡ false
new-note s row h = not-true _ (and_parts (not (has_key note_key row s.notes)) _ h).0

pub record AllValid (s : State) : Type 0 where
  pub readers : list_all is_valid_reader_row s.readers ≡ true
  pub manifests : list_all is_valid_manifest_row s.manifests ≡ true
  pub notes : list_all is_valid_note_row s.notes ≡ true
  pub activities : list_all is_valid_activity s.activities ≡ true

pub valid-parts : (s : State) → is_valid s ≡ true → AllValid s
unfolding is_valid
valid-parts s valid =
    let activities =
    and_parts (list_all is_valid_reader_row s.readers && list_all is_valid_manifest_row s.manifests
    && list_all is_valid_note_row s.notes) _ valid in
    let notes =
    and_parts (list_all is_valid_reader_row s.readers && list_all is_valid_manifest_row s.manifests)
    _ activities.0 in
    let both = and_parts (list_all is_valid_reader_row s.readers) _ notes.0 in
    record { readers = both.0; manifests = both.1; notes = notes.1; activities = activities.1 }

pub valid-from : (s : State) → AllValid s → is_valid s ≡ true
unfolding is_valid
valid-from s all =
    and_from _ _ (and_from _ _ (and_from _ _ all.readers all.manifests) all.notes) all.activities

valid-with : (s : State) (row : Row) → AllValid s → may_follow s row ≡ true
    → is_valid_row row ≡ true → AllValid (with_row s row)
valid-with s (kept.Reader row) all follows valid =
    record {
      readers =
          all-put reader_key is_valid_reader_row row s.readers
          (new-reader s row follows) all.readers valid;
      manifests = all.manifests;
      notes = all.notes;
      activities = all.activities;
    }
valid-with s (kept.Manifest row) all follows valid =
    record {
      readers = all.readers;
      manifests =
          all-put manifest_key is_valid_manifest_row row s.manifests
          (new-manifest s row follows) all.manifests valid;
      notes = all.notes;
      activities = all.activities;
    }
valid-with s (kept.Note row) all follows valid =
    record {
      readers = all.readers;
      manifests = all.manifests;
      notes =
          all-put note_key is_valid_note_row row s.notes (new-note s row follows) all.notes valid;
      activities = all.activities;
    }
valid-with s (kept.Activity row) all follows valid =
    record {
      readers = all.readers;
      manifests = all.manifests;
      notes = all.notes;
      activities = all-push is_valid_activity s.activities row all.activities valid;
    }

-- ---- sound

sound-from : (s : State) → Parts s → is_sound s ≡ true
unfolding is_sound is_distinct
sound-from s parts =
    and_from _ _ (and_from _ _
    (and_from _ _ (and_from _ _
    (and_from _ _ parts.readers (and_from _ _ parts.manifests parts.notes)) parts.agree)
    parts.tokens) parts.stand) parts.rise

-- a token that nobody has, behind all
none-append : {A : Type 0} (p : A → Bool) (xs ys : List A) → list_any p xs ≡ false
    → list_any p ys ≡ false → list_any p (xs ++ ys) ≡ false
none-append p [] ys h k = k
none-append p (x ∷ xs) ys h k =
    let parts = or_parts (p x) _ h in or_from _ _ parts.0 (none-append p xs ys parts.1 k)

tokens-push : (readers : List Reader) (reader : Reader) → tokens_are_distinct readers ≡ true
    → list_any (has reader.token) readers ≡ false
    → tokens_are_distinct (readers ++ reader ∷ []) ≡ true
tokens-push [] reader distinct none = refl
tokens-push (first ∷ readers) reader distinct none =
    let parts = and_parts (not (list_any (has first.token) readers)) _ distinct in
    let apart = or_parts (bytes_eq first.token reader.token) _ none in
    and_from _ _ (not_from_false _
    (none-append (has first.token) readers (reader ∷ []) (not-true _ parts.0)
    (or_from _ _ (other-token first.token reader.token apart.0) refl)))
    (tokens-push readers reader parts.1 apart.1)

tokens-with : (rows : List ReaderState) (row : ReaderState) (live : Option Reader) → row.live ≡ live
    → tokens_are_distinct (lives rows) ≡ true
    → passes (λ reader. list_any (has reader.token) (lives rows)) row.live ≡ false
    → tokens_are_distinct (lives (rows ++ row ∷ [])) ≡ true
tokens-with rows row None is distinct new =
    ap tokens_are_distinct (filter_map-append (λ r. r.live) rows (row ∷ [])
    ∙ ap (λ l. lives rows ++ cons_option l []) is ∙ append-nil (lives rows))
    ∙ distinct
tokens-with rows row (Some reader) is distinct new =
    ap tokens_are_distinct
    (filter_map-append (λ r. r.live) rows (row ∷ []) ∙ ap (λ l. lives rows ++ cons_option l []) is)
    ∙ tokens-push (lives rows) reader distinct
    (sym (ap (passes (λ its. list_any (has its.token) (lives rows))) is) ∙ new)

-- a manifest that was live is live still, where another stands behind all
position-within : {A : Type 0} (p : A → Bool) (xs : List A) (y : A) (i : ℕ) → position p xs ≡ Some i
    → position p (xs ++ y ∷ []) ≡ Some i
position-within p xs y i here = rw (position_or_len_push p xs y, length-append) (grind arith)

module _ (rows : List ManifestState) (row : ManifestState) (wanted : Key) where
  live-within : (place : Option ℕ) → place_of_key manifest_key wanted rows ≡ place
      → passes (λ r. is_some r.live) (option_and_then (slice_get rows) place) ≡ true
      → passes (λ r. is_some r.live) (row_of manifest_key wanted (rows ++ row ∷ [])) ≡ true
  live-within None is live = absurd (cc)
  live-within (Some i) is live =
      ap
      (λ place. passes (λ r. is_some r.live) (option_and_then (slice_get (rows ++ row ∷ [])) place))
      (position-within (λ r. same_key (manifest_key r) wanted) rows row i is)
      ∙ by_row (slice_get rows i) refl live
    where
      by_row : (found : Option ManifestState) → slice_get rows i ≡ found
          → passes (λ r. is_some r.live) found ≡ true
          → passes (λ r. is_some r.live) (slice_get (rows ++ row ∷ []) i) ≡ true
      by_row None at h = absurd (cc)
      by_row (Some x) at h =
          ap (passes (λ r. is_some r.live))
          (slice_get-push-within rows row i (slice_get_within rows i x at) ∙ at)
          ∙ h

all-weaker : {R : Type 0} (p q : R → Bool) → ((row : R) → p row ≡ true → q row ≡ true)
    → (rows : List R) → list_all p rows ≡ true → list_all q rows ≡ true
all-weaker p q weaker [] all = refl
all-weaker p q weaker (row ∷ rows) all =
    let parts = and_parts _ _ all in
    and_from _ _ (weaker row parts.0) (all-weaker p q weaker rows parts.1)

-- ---- activities

not_below-trans : (a b c : ℤ) → not (int_lt b a) ≡ true → not (int_lt c b) ≡ true
    → not (int_lt c a) ≡ true
not_below-trans a b c first second = grind (arith, ints)

last-behind : (moment : ℤ) (first second : Activity) (more : List Activity)
    → last_moment moment (first ∷ second ∷ more) ≡ last_moment moment (second ∷ more)
last-behind moment first second more =
    let one : length (first ∷ second ∷ more) - 1 ≡ suc (length more) = omega arith in
    let other : length (second ∷ more) - 1 ≡ length more = omega arith in
    ap (λ place.
    unwrap_or (option_map (λ last. last.at) (slice_get (first ∷ second ∷ more) place)) moment) one
    ∙ ap
    (λ place. unwrap_or (option_map (λ last. last.at) (slice_get (second ∷ more) place)) moment)
    (sym other)

rise-push : (activities : List Activity) (a : Activity) → moments_never_fall activities ≡ true
    → not (int_lt a.at (last_moment a.at activities)) ≡ true
    → moments_never_fall (activities ++ a ∷ []) ≡ true
rise-push [] a rise last = refl
rise-push (first ∷ []) a rise last = and_from _ _ (and_from _ _ last refl) refl
rise-push (first ∷ second ∷ more) a rise last =
    let parts =
    and_parts (list_all (λ later. not (int_lt later.at first.at)) (second ∷ more)) _ rise in
    let rest =
    rise-push (second ∷ more) a parts.1
    (sym (ap (λ m. not (int_lt a.at m)) (last-behind a.at first second more)) ∙ last) in
    let near =
    (and_parts (list_all (λ later. not (int_lt later.at second.at)) (more ++ a ∷ [])) _ rest).0 in
    let above = all-reach a [] (λ later. not (int_lt later.at second.at)) more near in
    let next = (and_parts (not (int_lt second.at first.at)) _ parts.0).0 in
    and_from _ _ (all-push (λ later. not (int_lt later.at first.at)) (second ∷ more) a parts.0
    (not_below-trans first.at second.at a.at next above)) rest

reader-agrees : (row : ReaderState) → is_valid_reader_row row ≡ true → agrees row ≡ true
unfolding is_valid_reader_row
reader-agrees row valid =
    (and_parts (is_name row.name && is_number row.version) _
    (and_parts (is_name row.name && is_number row.version && agrees row) _ valid).0).1

-- what stands on a live manifest stands on it still, where another is new
by_live : (s : State) (row : ManifestState) → has_key manifest_key row s.manifests ≡ false
    → (note : NoteState) (live : Option LiveNote) → note.live ≡ live
    → stands_on_live s note ≡ true → stands_on_live (with_row s (kept.Manifest row)) note ≡ true
by_live s row new note None is stands =
    ap (λ live. elim live
    [ None ↦ true | Some its ↦ is_live_manifest (with_row s (kept.Manifest row)) its.manifest ]) is
by_live s row new note (Some its) is stands =
    let wanted : Key = record { owner = None; name = its.manifest } in
    let lives_on : is_live_manifest s its.manifest ≡ true =
    sym (ap (λ live. elim live [ None ↦ true | Some l ↦ is_live_manifest s l.manifest ]) is)
    ∙ stands in
    ap (λ live. elim live
    [ None ↦ true | Some l ↦ is_live_manifest (with_row s (kept.Manifest row)) l.manifest ]) is
    ∙ ap (λ rows. passes (λ r. is_some r.live) (row_of manifest_key wanted rows))
    (put_row-new manifest_key row s.manifests new)
    ∙ live-within s.manifests row wanted
    (place_of_key manifest_key wanted s.manifests) refl lives_on

manifest-stays : (s : State) (row : ManifestState) → has_key manifest_key row s.manifests ≡ false
    → (note : NoteState)
    → stands_on_live s note ≡ true → stands_on_live (with_row s (kept.Manifest row)) note ≡ true
manifest-stays s row new note stands = by_live s row new note note.live refl stands

-- a row that may follow leads from a sound state to a sound one
sound-with : (s : State) (row : Row) → Parts s → may_follow s row ≡ true → is_valid_row row ≡ true
    → Parts (with_row s row)
sound-with s (kept.Reader row) parts follows valid =
    let new = new-reader s row follows in
    let token = not-true _ (and_parts (not (has_key reader_key row s.readers)) _ follows).1 in
    record {
      readers = distinct-put_row reader_key row s.readers parts.readers;
      manifests = parts.manifests;
      notes = parts.notes;
      agree = all-put reader_key agrees row s.readers new parts.agree (reader-agrees row valid);
      tokens =
          ap (λ l. tokens_are_distinct (lives l)) (put_row-new reader_key row s.readers new)
          ∙ tokens-with s.readers row row.live refl parts.tokens token;
      stand = parts.stand;
      rise = parts.rise;
    }
sound-with s (kept.Manifest row) parts follows valid =
    let new = new-manifest s row follows in
    let stay : (note : NoteState) → stands_on_live s note ≡ true
    → stands_on_live (with_row s (kept.Manifest row)) note ≡ true = manifest-stays s row new in
    record {
      readers = parts.readers;
      manifests = distinct-put_row manifest_key row s.manifests parts.manifests;
      notes = parts.notes;
      agree = parts.agree;
      tokens = parts.tokens;
      stand =
          all-weaker (stands_on_live s) (stands_on_live (with_row s (kept.Manifest row))) stay
          s.notes parts.stand;
      rise = parts.rise;
    }
sound-with s (kept.Note row) parts follows valid =
    let new = new-note s row follows in
    record {
      readers = parts.readers;
      manifests = parts.manifests;
      notes = distinct-put_row note_key row s.notes parts.notes;
      agree = parts.agree;
      tokens = parts.tokens;
      stand =
          all-put note_key (stands_on_live s) row s.notes new parts.stand
          (and_parts (not (has_key note_key row s.notes)) _ follows).1;
      rise = parts.rise;
    }
sound-with s (kept.Activity row) parts follows valid = record {
  readers = parts.readers;
  manifests = parts.manifests;
  notes = parts.notes;
  agree = parts.agree;
  tokens = parts.tokens;
  stand = parts.stand;
  rise = rise-push s.activities row parts.rise follows;
}

-- ---- a cell that is read

record Opened (format : Format) (s : State) (cell : Cell) (row : Row) : Type 0 where
  same : cell ≡ cell_of format (rows_before s row) row
  valid : is_valid_row row ≡ true
  follows : may_follow s row ≡ true

opened : (format : Format) (s : State) (cell : Cell) (row : Row) → row_behind format s cell ≡ Ok row
    → Opened format s cell row
unfolding row_behind
opened format s cell row is =
    let found =
    refused (place_of cell) (result_ok (row_of_text format cell.tab cell.val))
    (if_next s cell) row is in
    let both =
    if-ok ((cell.key == rows_before s found.0) && may_follow s found.0) found.0 row
    (place_of cell) found.2 in
    let read =
    row-parts format cell.tab cell.val row
    (ok-found (row_of_text format cell.tab cell.val) row
    (found.1 ∙ ap (λ (r : Row). Some r) both.0)) in
    let next =
    and_parts (cell.key == rows_before s row) _
    (subst (λ r. ((cell.key == rows_before s r) && may_follow s r) ≡ true) both.0 both.1) in
    record {
      same =
          λ i. record {
            tab = sym read.0.table i;
            key = eqb-true cell.key (rows_before s row) next.0 i;
            val = sym read.1 i;
          };
      valid = read.0.valid;
      follows = next.1;
    }

-- the place of a row of a new key
place-new : (s : State) (row : Row) → may_follow s row ≡ true → place_in s row ≡ rows_before s row
place-new s (kept.Reader row) follows =
    position-new (λ other. same_key (reader_key other) (reader_key row)) s.readers
    (new-reader s row follows)
place-new s (kept.Manifest row) follows =
    position-new (λ other. same_key (manifest_key other) (manifest_key row)) s.manifests
    (new-manifest s row follows)
place-new s (kept.Note row) follows =
    position-new (λ other. same_key (note_key other) (note_key row)) s.notes
    (new-note s row follows)
place-new s (kept.Activity row) follows = refl

all-before : (cell : Cell) (front more : List Cell) → Ascend (front ++ cell ∷ more)
    → list_all (is_before cell.tab cell.key) front ≡ true
all-before cell [] more ascend = refl
all-before cell (first ∷ front) more ascend =
    let parts =
    and_parts (list_all (is_behind first.tab first.key) (front ++ cell ∷ more)) _ ascend in
    and_from _ _ (reach front parts.0) (all-before cell front more parts.1)
  where
    reach : (front : List Cell)
        → list_all (is_behind first.tab first.key) (front ++ cell ∷ more) ≡ true
        → is_behind first.tab first.key cell ≡ true
    reach [] all = (and_parts (is_behind first.tab first.key cell) _ all).0
    reach (other ∷ front) all =
        reach front (and_parts (is_behind first.tab first.key other) _ all).1

-- the row's cell stands behind the others
cells-push : (format : Format) (s : State) (cell : Cell) (row : Row) (more : List Cell)
    → Opened format s cell row → Ascend (row_cells format s ++ cell ∷ more)
    → row_cells format (with_row s row) ≡ row_cells format s ++ cell ∷ []
cells-push format s cell row more its ascend =
    let its_cell : cell_of format (place_in s row) row ≡ cell =
    ap (λ place. cell_of format place row) (place-new s row its.follows) ∙ sym its.same in
    sym (put_cell-in format s row)
    ∙ ap (λ c. put_cell c (row_cells format s)) its_cell
    ∙ ap (put_cell cell) (sym (append-nil (row_cells format s)))
    ∙ put_cell-past cell (row_cells format s) [] (all-before cell (row_cells format s) more ascend)

-- ---- all

record Leads (format : Format) (s t : State) (others : List Cell) : Type 0 where
  valid : AllValid t
  sound : Parts t
  same : Ascend (row_cells format s ++ others) → row_cells format t ≡ row_cells format s ++ others

leads : (format : Format) (s t : State) (others : List Cell) → AllValid s → Parts s
    → restored format s others ≡ Ok t → Leads format s t others
leads format s t [] valid sound is =
    let same : s ≡ t = same_Ok {E = Place} s t is in
    record {
      valid = subst AllValid same valid;
      sound = subst Parts same sound;
      same = λ ascend. ap (row_cells format) (sym same) ∙ sym (append-nil (row_cells format s));
    }
leads format s t (cell ∷ others) valid sound is =
    by_row (λ row. leads format (with_row s row) t others) (row_behind format s cell) refl is
  where
    by_row : ((row : Row) → AllValid (with_row s row) → Parts (with_row s row)
        → restored format (with_row s row) others ≡ Ok t → Leads format (with_row s row) t others)
        → (found : Result Row Place) → row_behind format s cell ≡ found
        → ◌≡◌ {A = Result State Place}
        (elim found [ Err place ↦ Err place | Ok row ↦ restored format (with_row s row) others ])
        (Ok t)
        → Leads format s t (cell ∷ others)
    by_row behind (Err place) at h = absurd (cc)
    by_row behind (Ok row) at h =
        let its = opened format s cell row at in
        let rest =
        behind row (valid-with s row valid its.follows its.valid)
        (sound-with s row sound its.follows its.valid) h in
        record {
          valid = rest.valid;
          sound = rest.sound;
          same = λ ascend.
              let push = cells-push format s cell row others its ascend in
              let joined : row_cells format (with_row s row) ++ others
              ≡ row_cells format s ++ cell ∷ others =
              ap (λ l. l ++ others) push ∙ append_assoc (row_cells format s) (cell ∷ []) others in
              rest.same (subst Ascend (sym joined) ascend) ∙ joined;
        }

empty-valid : AllValid empty
empty-valid = record { readers = refl; manifests = refl; notes = refl; activities = refl }

empty-parts : Parts empty
empty-parts = record {
  readers = refl;
  manifests = refl;
  notes = refl;
  agree = refl;
  tokens = refl;
  stand = refl;
  rise = refl;
}

empty-cells : (format : Format) → row_cells format empty ≡ []
unfolding row_cells
empty-cells format = refl

-- the first cell is the one of the format that it names
named-text : (text : List ℕ) (format : Format) → format_named text ≡ Some format
    → text ≡ format_text format
named-text text format is = elim (cases_Bool (bytes_eq text (format_text First))) [
  | inl one ↦
      let its : First ≡ format = same_Some First format (sym (cond-true _ _ _ one) ∙ is) in
      (bytes_eq-Decides text (format_text First)).0 one ∙ ap format_text its
  | inr not_one ↦
      let rest = sym (cond-false _ _ _ not_one) ∙ is in
      elim (cases_Bool (bytes_eq text (format_text Second))) [
        | inl two ↦
            let its : Second ≡ format =
            same_Some Second format (sym (cond-true _ _ _ two) ∙ rest) in
            (bytes_eq-Decides text (format_text Second)).0 two ∙ ap format_text its
        | inr not_two ↦
            let none : ◌≡◌ {A = Option Format} None (Some format) =
            sym (cond-false _ _ _ not_two) ∙ rest in
            absurd (cc)
      ]
]

pub named-cell : (cell : Cell) (format : Format) → format_of cell ≡ Some format
    → cell ≡ first_cell format
unfolding format_of first_cell
named-cell cell format is = elim (cases_Bool (cell.tab == 0 && cell.key == 0)) [
  | inl first ↦
      let both = and_parts (cell.tab == 0) _ first in
      let text = named-text cell.val format (sym (cond-true _ _ _ first) ∙ is) in
      λ i. record {
        tab = eqb-true cell.tab 0 both.0 i;
        key = eqb-true cell.key 0 both.1 i;
        val = text i;
      }
  | inr isnt ↦
      let none : ◌≡◌ {A = Option Format} None (Some format) = sym (cond-false _ _ _ isnt) ∙ is in
      absurd (cc)
]

-- the state of cells is valid and sound, and has these cells where they ascend
record Stands (s : State) (found : List Cell) : Type 0 where
  valid : is_valid s ≡ true
  sound : is_sound s ≡ true
  same : Ascend found → cells_in (format_in found) s ≡ found

stands-empty : (s : State) → empty ≡ s → Stands s []
stands-empty s same =
    subst (λ t. Stands t []) same (record {
      valid = valid-from empty empty-valid;
      sound = sound-from empty empty-parts;
      same = λ ascend. ap (with_first Second) (empty-cells Second);
    })

stands-behind : (s : State) (format : Format) (first cell : Cell) (more : List Cell)
    → format_of first ≡ Some format → restored format empty (cell ∷ more) ≡ Ok s
    → Stands s (first ∷ cell ∷ more)
stands-behind s format first cell more names is =
    let lead = leads format empty s (cell ∷ more) empty-valid empty-parts is in
    record {
      valid = valid-from s lead.valid;
      sound = sound-from s lead.sound;
      same = λ ascend.
          let rest =
          (and_parts (list_all (is_behind first.tab first.key) (cell ∷ more))
          (is_ascending (cell ∷ more)) ascend).1 in
          let none : row_cells format empty ++ cell ∷ more ≡ cell ∷ more =
          ap (λ l. l ++ cell ∷ more) (empty-cells format) in
          ap (λ found. cells_in (unwrap_or found Second) s) names
          ∙ ap (with_first format) (lead.same (subst Ascend (sym none) rest) ∙ none)
          ∙ ap (λ c. c ∷ cell ∷ more) (sym (named-cell first format names));
    }

stands : (found : List Cell) (s : State) → state_of found ≡ Ok s → Stands s found
unfolding state_of
stands [] s is = stands-empty s (same_Ok {E = Place} empty s is)
stands (first ∷ []) s is = absurd (cc)
stands (first ∷ cell ∷ more) s is = by_format (format_of first) refl is
  where
    by_format : (named : Option Format) → format_of first ≡ named
        → ◌≡◌ {A = Result State Place}
        (elim named
        [ None ↦ Err (place_of first) | Some format ↦ restored format empty (cell ∷ more) ])
        (Ok s)
        → Stands s (first ∷ cell ∷ more)
    by_format None names h = absurd (cc)
    by_format (Some format) names h = stands-behind s format first cell more names h

pub opened-valid : (found : List Cell) (s : State) → state_of found ≡ Ok s → is_valid s ≡ true
opened-valid found s is = (stands found s is).valid

pub opened-sound : (found : List Cell) (s : State) → state_of found ≡ Ok s → is_sound s ≡ true
opened-sound found s is = (stands found s is).sound

pub opened-cells : (found : List Cell) (s : State) → state_of found ≡ Ok s → Ascend found
    → cells_in (format_in found) s ≡ found
opened-cells found s is ascend = (stands found s is).same ascend

pub ruleset opened_states = (opened-valid, opened-sound, opened-cells)
