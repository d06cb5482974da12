-- The row of a cell: what is found among the rows, and what the cell is read as.
use Rattle.std.proofs.Common.{◌≡◌, ℕ, ◌+◌, ◌<◌, ◌≤◌, ◌^◌, List, [], ◌∷◌, length, slice_get, Bool, true, false, cond, eqb, not, ◌&&◌, bytes_eq, Option, Some, None, Result, Ok, Err, option_map, option_and_then, refl, sym, ap, subst, ◌∙◌, arith, length-append, inl, inr}
use Rattle.std.specs.Prelude.{find}
use Rattle.std.specs.List.{list_any, position, position_or_len}
use Rattle.std.specs.Result.{result_ok}
use Rattle.std.proofs.lemmas.Bool.{cases_Bool, lt-ltb, le-ltb, cond-true, cond-false, ltb-false}
use Rattle.std.proofs.lemmas.Bool.Decides.{nat_tests}
use Rattle.std.proofs.lemmas.Option.{slice_get-get_or}
use Rattle.an_base.specs.Outcome.{or_refuse}
use Rattle.an_keep.specs.declared.cell.Cell.{Cell}
use Rattle.an_keyed.specs.Key.{Key, same_key}
use Rattle.an_keyed.specs.Rows.{place_of, row_of}
use Rattle.an_keyed.proofs.PutLemmas.{length-put_at}
use Rattle.an_policy.specs.Audience.{Identity, signed}
use Rattle.an_policy.specs.declared.reader.Reader.{Reader}
use Rattle.an_state.specs.Entries.{with_row}
use Rattle.an_state.specs.State.{State, ReaderState, ManifestState, NoteState, reader_key, manifest_key, note_key, reader_row, manifest_row, note_row, reader_with_token, live_readers}
use Rattle.an_state.specs.declared.entry.Row.{Row}
use Rattle.an_state.specs.declared.entry.Row.TheVariants as kept
use Rattle.an_rows.specs.Cells as its
use Rattle.an_rows.specs.Cells.{Place, has_key, rows_before, may_follow, if_next, row_behind}
use Rattle.an_rows.specs.RowRead.{row_of_text, row_of_cell, is_table, is_place}
use Rattle.an_rows.specs.RowTree.{table_of}
use Rattle.an_rows.specs.declared.format.Format.{Format}
use Rattle.an_rows.specs.declared.refusal.RowError.{RowError}
use Rattle.an_rows.specs.declared.refusal.RowError.TheVariants as read
use Rattle.an_rows.proofs.CellLemmas.{position-new}
use Rattle.an_rows.proofs.ValidTreeLemmas.{read-table}
use Rattle.an_shelf.specs.Restoring.{IsDamage, Reads, read_error, state_behind, row_count}
use Rattle.an_shelf.specs.declared.error.OpenError.{OpenError}
use Rattle.an_shelf.specs.declared.error.OpenError.TheVariants as opening

-- ---- rows by their keys

module _ {R : Type 0} (p : R → Bool) where
  position-within : (rows : List R) → list_any p rows ≡ true → position_or_len p rows < length rows
  position-within [] any = absurd (cc)
  position-within (first ∷ rows) any = elim (cases_Bool (p first)) [
    | inl is ↦ rw is (omega arith)
    | inr isnt ↦
        let rest : list_any p rows ≡ true = rw isnt at any in
        let less = position-within rows rest in rw isnt (omega arith)
  ]

  found-there : (rows : List R) → list_any p rows ≡ true
      → option_and_then (slice_get rows) (position p rows) ≡ None → ⊥
  found-there [] any none = absurd (cc)
  found-there (first ∷ rows) any none =
      let all : List R = first ∷ rows in
      let within = position-within all any in
      let at : position p all ≡ Some (position_or_len p all) =
      cond-true _ _ _ (lt-ltb _ _ within) in
      let there = slice_get-get_or all (position_or_len p all) first within in
      let seen = ap (option_and_then (slice_get all)) at in
      absurd (cc)

  found-nowhere : (rows : List R) → list_any p rows ≡ false
      → option_and_then (slice_get rows) (position p rows) ≡ None
  found-nowhere rows none =
      let end = position-new p rows none in
      ap (option_and_then (slice_get rows))
      (cond-false _ _ _ (le-ltb (position_or_len p rows) (length rows) (omega arith)))

  is_there : (x : R) (rows : List R) → Some x ≡ option_and_then (slice_get rows) (position p rows)
      → list_any p rows ≡ true
  is_there x rows is = elim (cases_Bool (list_any p rows)) [
    | inl any ↦ any
    | inr none ↦ let nowhere = found-nowhere rows none in absurd (cc)
  ]

  is_nowhere : (rows : List R) → None ≡ option_and_then (slice_get rows) (position p rows)
      → list_any p rows ≡ false
  is_nowhere rows is = elim (cases_Bool (list_any p rows)) [
    | inl any ↦ absurd (found-there rows any (sym is))
    | inr none ↦ none
  ]

  find-some : (xs : List R) (x : R) → Some x ≡ find p xs → list_any p xs ≡ true
  find-some [] x is = absurd (cc)
  find-some (first ∷ xs) x is = elim (cases_Bool (p first)) [
    | inl here ↦ rw here refl
    | inr isnt ↦ rw isnt (find-some xs x (rw isnt at is))
  ]

  find-none : (xs : List R) → None ≡ find p xs → list_any p xs ≡ false
  find-none [] is = refl
  find-none (first ∷ xs) is = elim (cases_Bool (p first)) [
    | inl here ↦ let none : ◌≡◌ {A = Option R} None (Some first) = rw here at is in absurd (cc)
    | inr isnt ↦ rw isnt (find-none xs (rw isnt at is))
  ]

module _ {R : Type 0} (key : R → Key) (wanted own : Key) (rows : List R) (same : wanted ≡ own) where
  keyed : (answer : Bool) → list_any (λ other. same_key (key other) wanted) rows ≡ answer
      → answer ≡ list_any (λ other. same_key (key other) own) rows
  keyed answer is = sym (ap (λ k. list_any (λ other. same_key (key other) k) rows) (sym same) ∙ is)

  keyed-there : (x : R) → Some x ≡ row_of key wanted rows
      → true ≡ list_any (λ other. same_key (key other) own) rows
  keyed-there x is = keyed true (is_there (λ other. same_key (key other) wanted) x rows is)

  keyed-nowhere : None ≡ row_of key wanted rows
      → false ≡ list_any (λ other. same_key (key other) own) rows
  keyed-nowhere is = keyed false (is_nowhere (λ other. same_key (key other) wanted) rows is)

-- the key of a row, of the names that it lends
of_name : List ℕ → Key
of_name name = record { owner = None; name = name }

of_owner : List ℕ → List ℕ → Key
of_owner owner name = record { owner = Some owner; name = name }

pub reader-there : (s : State) (row x : ReaderState) (name : List ℕ) → name ≡ row.name
    → Some x ≡ reader_row s name → true ≡ has_key reader_key row s.readers
unfolding of_name
reader-there s row x name same is =
    keyed-there reader_key (of_name name) (reader_key row) s.readers (ap of_name same) x is

pub reader-nowhere : (s : State) (row : ReaderState) (name : List ℕ) → name ≡ row.name
    → None ≡ reader_row s name → false ≡ has_key reader_key row s.readers
unfolding of_name
reader-nowhere s row name same is =
    keyed-nowhere reader_key (of_name name) (reader_key row) s.readers (ap of_name same) is

pub manifest-there : (s : State) (row x : ManifestState) (name : List ℕ) → name ≡ row.name
    → Some x ≡ manifest_row s name → true ≡ has_key manifest_key row s.manifests
unfolding of_name
manifest-there s row x name same is =
    keyed-there manifest_key (of_name name) (manifest_key row) s.manifests (ap of_name same) x is

pub manifest-nowhere : (s : State) (row : ManifestState) (name : List ℕ) → name ≡ row.name
    → None ≡ manifest_row s name → false ≡ has_key manifest_key row s.manifests
unfolding of_name
manifest-nowhere s row name same is =
    keyed-nowhere manifest_key (of_name name) (manifest_key row) s.manifests (ap of_name same) is

pub note-there : (s : State) (row x : NoteState) (owner name : List ℕ) → owner ≡ row.owner
    → name ≡ row.name → Some x ≡ note_row s owner name → true ≡ has_key note_key row s.notes
unfolding of_owner
note-there s row x owner name own same is =
    keyed-there note_key (of_owner owner name) (note_key row) s.notes
    (ap (λ o. of_owner o name) own ∙ ap (of_owner row.owner) same) x is

pub note-nowhere : (s : State) (row : NoteState) (owner name : List ℕ) → owner ≡ row.owner
    → name ≡ row.name → None ≡ note_row s owner name → false ≡ has_key note_key row s.notes
unfolding of_owner
note-nowhere s row owner name own same is =
    keyed-nowhere note_key (of_owner owner name) (note_key row) s.notes
    (ap (λ o. of_owner o name) own ∙ ap (of_owner row.owner) same) is

-- ---- tokens

abbrev taken : State → List ℕ → Bool
taken s token = list_any (λ other. bytes_eq other.token token) (live_readers s)

-- the token is that of the caller, who is a live reader, or nobody
pub is_taken : (s : State) (token sought : List ℕ) (who : Identity) → sought ≡ token
    → Some who ≡ option_map signed (reader_with_token s sought) → true ≡ taken s token
is_taken s token sought who same is =
    sym (ap (taken s) (sym same) ∙ by_reader (reader_with_token s sought) refl is)
  where
    by_reader : (found : Option Reader) → reader_with_token s sought ≡ found
        → Some who ≡ option_map signed found → taken s sought ≡ true
    by_reader None at h = absurd (cc)
    by_reader (Some reader) at h =
        find-some (λ other. bytes_eq other.token sought) (live_readers s) reader (sym at)

pub is_free : (s : State) (token sought : List ℕ) → sought ≡ token
    → None ≡ option_map signed (reader_with_token s sought) → false ≡ taken s token
is_free s token sought same is =
    sym (ap (taken s) (sym same) ∙ by_reader (reader_with_token s sought) refl is)
  where
    by_reader : (found : Option Reader) → reader_with_token s sought ≡ found
        → None ≡ option_map signed found → taken s sought ≡ false
    by_reader None at h = find-none (λ other. bytes_eq other.token sought) (live_readers s) (sym at)
    by_reader (Some reader) at h = absurd (cc)

-- ---- how many rows there are

first-more : (x y a b c : ℕ) → y ≤ x + 1 → y + a + b + c ≤ x + a + b + c + 1
first-more x y a b c h = omega arith

second-more : (x y a b c : ℕ) → y ≤ x + 1 → a + y + b + c ≤ a + x + b + c + 1
second-more x y a b c h = omega arith

third-more : (x y a b c : ℕ) → y ≤ x + 1 → a + b + y + c ≤ a + b + x + c + 1
third-more x y a b c h = omega arith

last-more : (x y a b c : ℕ) → y ≤ x + 1 → a + b + c + y ≤ a + b + c + x + 1
last-more x y a b c h = omega arith

pub one-more : (s : State) (row : Row) → row_count (with_row s row) ≤ row_count s + 1
one-more s (kept.Reader row) =
    first-more (length s.readers) _ (length s.manifests) (length s.notes) (length s.activities)
    (length-put_at reader_key (place_of reader_key (reader_key row) s.readers) row s.readers)
one-more s (kept.Manifest row) =
    second-more (length s.manifests) _ (length s.readers) (length s.notes) (length s.activities)
    (length-put_at manifest_key (place_of manifest_key (manifest_key row) s.manifests) row
    s.manifests)
one-more s (kept.Note row) =
    third-more (length s.notes) _ (length s.readers) (length s.manifests) (length s.activities)
    (length-put_at note_key (place_of note_key (note_key row) s.notes) row s.notes)
one-more s (kept.Activity row) =
    last-more (length s.activities) _ (length s.readers) (length s.manifests) (length s.notes)
    (let e = length-append s.activities (row ∷ []) in omega arith)

few-before : (s : State) (row : Row) → rows_before s row ≤ row_count s
few-before s (kept.Reader row) = omega arith
few-before s (kept.Manifest row) = omega arith
few-before s (kept.Note row) = omega arith
few-before s (kept.Activity row) = omega arith

-- ---- the row of a cell

text-read : (t p : Bool) (text : Result Row RowError) (row : Row)
    → cond (not t) (Err read.Table) (cond (not p) (Err read.Key) text) ≡ Ok row → text ≡ Ok row
text-read false p text row is = absurd (cc)
text-read true false text row is = absurd (cc)
text-read true true text row is = is

-- what reads as a row in a table whose text it is has no place as its key, where it isn't read
key-refused : (t p : Bool) (text : Result Row RowError) (row : Row) (e : RowError)
    → cond (not t) (Err read.Table) (cond (not p) (Err read.Key) text) ≡ Err e → text ≡ Ok row
    → t ≡ true → p ≡ false
key-refused false p text row e is read_as table = absurd (cc)
key-refused true false text row e is read_as table = refl
key-refused true true text row e is read_as table = absurd (cc)

row-text : (format : Format) (s : State) (cell : Cell) (row : Row)
    → row_of_cell format cell.tab cell.key cell.val ≡ Ok row
    → row_behind format s cell ≡ if_next s cell row
unfolding row_behind row_of_cell
row-text format s cell row is =
    ap (λ found. or_refuse (its.place_of cell) (result_ok found) (if_next s cell))
    (text-read (is_table cell.tab) (is_place cell.key)
    (row_of_text format cell.tab cell.val) row is)

-- a row that is read is the one behind, where it is the next
pub row-read : (format : Format) (s : State) (cell : Cell) (row : Row) (bytes : List ℕ)
    (result : Result Row OpenError) → bytes ≡ cell.val
    → row_of_cell format cell.tab cell.key bytes ≡ Ok row
    → Reads result (if_next s cell row) → Reads result (row_behind format s cell)
row-read format s cell row bytes result same is next =
    subst (Reads result)
    (sym (row-text format s cell row (ap (row_of_cell format cell.tab cell.key) (sym same) ∙ is)))
    next

table-is : (row : Row) → is_table (table_of row) ≡ true
table-is (kept.Reader row) = refl
table-is (kept.Manifest row) = refl
table-is (kept.Note row) = refl
table-is (kept.Activity row) = refl

not_next : (key before : ℕ) (follows : Bool) → before < key → (eqb key before && follows) ≡ false
not_next key before follows less = grind (arith, nat_tests)

far : (key : ℕ) → is_place key ≡ false → 2 ^ 62 ≤ key
far key is = ltb-false key (2 ^ 62) is

row-refused : (format : Format) (s : State) (cell : Cell) (e : RowError) → row_count s < 2 ^ 62
    → row_of_cell format cell.tab cell.key cell.val ≡ Err e
    → row_behind format s cell ≡ Err (its.place_of cell)
unfolding row_behind row_of_cell
row-refused format s cell e few is = by_text (row_of_text format cell.tab cell.val) refl
  where
    by_text : (text : Result Row RowError) → row_of_text format cell.tab cell.val ≡ text
        → or_refuse (its.place_of cell) (result_ok (row_of_text format cell.tab cell.val))
        (if_next s cell) ≡ Err (its.place_of cell)
    by_text (Err refused) at =
        ap (λ found. or_refuse (its.place_of cell) (result_ok found) (if_next s cell)) at
    by_text (Ok row) at =
        let table : is_table cell.tab ≡ true =
        ap is_table (sym (read-table format cell.tab cell.val row at)) ∙ table-is row in
        let high =
        far cell.key (key-refused (is_table cell.tab) (is_place cell.key)
        (row_of_text format cell.tab cell.val) row e is at table) in
        let before = few-before s row in
        ap (λ found. or_refuse (its.place_of cell) (result_ok found) (if_next s cell)) at
        ∙ cond-false _ _ _ (not_next cell.key (rows_before s row) (may_follow s row) (omega arith))

unread : (format : Format) (s : State) (cell : Cell) (e : RowError) → row_count s < 2 ^ 62
    → row_of_cell format cell.tab cell.key cell.val ≡ Err e
    → IsDamage (row_behind format s cell) (read_error cell e)
unread format s cell read.Table few is = row-refused format s cell read.Table few is
unread format s cell read.Key few is = row-refused format s cell read.Key few is
unread format s cell read.Bytes few is = row-refused format s cell read.Bytes few is
unread format s cell read.Memory few is = tt

error-read : (format : Format) (s : State) (cell : Cell) (e : RowError) → row_count s < 2 ^ 62
    → (¬ (e ≡ read.Memory) → row_of_cell format cell.tab cell.key cell.val ≡ Err e)
    → IsDamage (row_behind format s cell) (read_error cell e)
error-read format s cell read.Table few is = unread format s cell read.Table few (is (λ m. cc))
error-read format s cell read.Key few is = unread format s cell read.Key few (is (λ m. cc))
error-read format s cell read.Bytes few is = unread format s cell read.Bytes few (is (λ m. cc))
error-read format s cell read.Memory few is = tt

pub row-unread : (format : Format) (s : State) (cell : Cell) (e : RowError) (bytes : List ℕ)
    (error : OpenError) → bytes ≡ cell.val → row_count s < 2 ^ 62
    → (¬ (e ≡ read.Memory) → row_of_cell format cell.tab cell.key bytes ≡ Err e)
    → error ≡ read_error cell e → IsDamage (row_behind format s cell) error
row-unread format s cell e bytes error same few is so =
    subst (IsDamage (row_behind format s cell)) (sym so)
    (error-read format s cell e few
    (λ other. ap (row_of_cell format cell.tab cell.key) (sym same) ∙ is other))

-- ---- the state behind it

state-read : (format : Format) (s : State) (cell : Cell) (row : Row)
    → row_behind format s cell ≡ Ok row → state_behind format s cell ≡ Ok (with_row s row)
state-read format s cell row is =
    ap (λ found. elim found [ Err place ↦ Err place | Ok r ↦ Ok (with_row s r) ]) is

pub state-restored : (format : Format) (s t : State) (cell : Cell) (row : Row)
    → row_behind format s cell ≡ Ok row → t ≡ with_row s row → state_behind format s cell ≡ Ok t
state-restored format s t cell row is so = state-read format s cell row is ∙ ap (λ u. Ok u) (sym so)

state-damaged : (format : Format) (s : State) (cell : Cell) (place : Place)
    → row_behind format s cell ≡ Err place → state_behind format s cell ≡ Err place
state-damaged format s cell place is =
    ap (λ found. elim found [ Err p ↦ Err p | Ok row ↦ Ok (with_row s row) ]) is

pub damage-told : (format : Format) (s : State) (cell : Cell) (error : OpenError)
    → IsDamage (row_behind format s cell) error → IsDamage (state_behind format s cell) error
damage-told format s cell (opening.Damaged tab key) is =
    state-damaged format s cell (record { tab = tab; key = key }) is
damage-told format s cell opening.Keeper is = is
damage-told format s cell opening.Memory is = is
