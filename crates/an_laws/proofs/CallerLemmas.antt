-- Who a caller is goes by its row among the readers alone.
use Rattle.std.proofs.Common.{◌≡◌, ℤ, Bool, true, false, cond, not, bytes_eq, List, [], ◌∷◌, ◌++◌, Option, Some, None, option_map, option_and_then, filter_map, IsTrue, inl, inr, refl, sym, ap, ◌∙◌}
use Rattle.std.specs.Prelude.{find}
use Rattle.std.specs.List.{list_all, cons_option}
use Rattle.std.proofs.lemmas.Bool.{cases_Bool, and_parts, not-true, cond-true, cond-false}
use Rattle.an_base.specs.Outcome.{passes}
use Rattle.an_keyed.specs.Key.{same_key}
use Rattle.an_keyed.specs.Rows.{row_of, put_row}
use Rattle.an_keyed.proofs.PutLemmas.{put_at-position, row_of-find, row_of-put_row, set_or_push}
use Rattle.an_policy.specs.Audience.{Identity, signed}
use Rattle.an_policy.specs.declared.reader.Reader.{Reader}
use Rattle.an_policy.specs.declared.who.Caller.{Caller}
use Rattle.an_policy.specs.declared.who.Caller.TheVariants.{Anonymous, Operator, Token, Named}
use Rattle.an_machine.specs.Accepted.{effect_of, moment_of_write, reader_tombstone}
use Rattle.an_state.specs.Entries.{after, with_row, with_rows}
use Rattle.an_machine.specs.Legal.{Write, Accepts}
use Rattle.an_state.specs.State.{State, ReaderState, reader_key, reader_row, who_of}
use Rattle.an_machine.specs.declared.asked.Asked.{Asked}
use Rattle.an_machine.specs.declared.asked.Asked.TheVariants.{Deletion}
use Rattle.an_machine.specs.declared.asked.Asked.TheVariants as put
use Rattle.an_state.specs.declared.command.Object.TheVariants as object
use Rattle.an_state.specs.declared.entry.Row.TheVariants as kept
use Rattle.an_laws.specs.Isolation.{is_row_of, is_anothers_row, leaves_caller}
use Rattle.an_laws.proofs.DropLemmas.{with_rows-dropped}
use Rattle.an_laws.proofs.LeadLemmas.{key_at}
use Rattle.an_laws.proofs.StepLemmas.{accepted-is}

-- ---- the reader with a token

module _ (p : Reader → Bool) where
  abbrev lives : List ReaderState → List Reader
  lives rows = filter_map (λ row. row.live) rows

  abbrev has_such : ReaderState → Bool
  has_such row = passes p row.live

  find-past : (live : Option Reader) (more : List Reader) → passes p live ≡ false
      → find p (cons_option live more) ≡ find p more
  find-past None more other = refl
  find-past (Some reader) more other = cond-false _ _ _ other

  find-behind : (live : Option Reader) (some more : List Reader) → find p some ≡ find p more
      → find p (cons_option live some) ≡ find p (cons_option live more)
  find-behind None some more same = same
  find-behind (Some reader) some more same = ap (λ found. cond (p reader) (Some reader) found) same

  -- a row that has no such reader, in place of one that has none
  find-set_or_push : (has : ReaderState → Bool) (row : ReaderState) (rows : List ReaderState)
      → has_such row ≡ false → passes has_such (find has rows) ≡ false
      → find p (lives (set_or_push has row rows)) ≡ find p (lives rows)
  find-set_or_push has row [] new old = find-past row.live [] new
  find-set_or_push has row (first ∷ rows) new old = elim (cases_Bool (has first)) [
    | inl is ↦
        let other : has_such first ≡ false =
        ap (passes has_such) (sym (cond-true (has first) (Some first) (find has rows) is)) ∙ old in
        ap (λ l. find p (lives l))
        (cond-true (has first) (row ∷ rows) (first ∷ set_or_push has row rows) is)
        ∙ find-past row.live (lives rows) new
        ∙ sym (find-past first.live (lives rows) other)
    | inr isnt ↦
        let later =
        find-set_or_push has row rows new
        (ap (passes has_such) (sym (cond-false (has first) (Some first) (find has rows) isnt))
        ∙ old) in
        ap (λ l. find p (lives l))
        (cond-false (has first) (row ∷ rows) (first ∷ set_or_push has row rows) isnt)
        ∙ find-behind first.live (lives (set_or_push has row rows)) (lives rows) later
  ]

  find-put_row : (row : ReaderState) (rows : List ReaderState) → has_such row ≡ false
      → passes has_such (row_of reader_key (reader_key row) rows) ≡ false
      → find p (lives (put_row reader_key row rows)) ≡ find p (lives rows)
  find-put_row row rows new old =
      let has = λ (other : ReaderState). same_key (reader_key other) (reader_key row) in
      ap (λ l. find p (lives l)) (put_at-position reader_key has row rows)
      ∙ find-set_or_push has row rows new
      (ap (passes has_such) (sym (row_of-find reader_key (reader_key row) rows)) ∙ old)

-- ---- who the caller is

-- it goes by the readers
who-readers : (s t : State) (caller : Caller) → t.readers ≡ s.readers
    → who_of t caller ≡ who_of s caller
who-readers s t Anonymous same = refl
who-readers s t Operator same = refl
who-readers s t (Token token) same =
    ap (λ readers. option_map signed
    (find (λ reader. bytes_eq reader.token token) (filter_map (λ row. row.live) readers))) same
who-readers s t (Named name) same =
    ap (λ readers. option_map signed
    (option_and_then (λ row. row.live) (row_of reader_key (key_at None name) readers))) same

-- where a row of another is put it is the same
who-put : (s : State) (row : ReaderState) (caller : Caller)
    → is_anothers_row s caller (kept.Reader row) ≡ true
    → who_of (with_row s (kept.Reader row)) caller ≡ who_of s caller
who-put s row Anonymous anothers = refl
who-put s row Operator anothers = refl
who-put s row (Token token) anothers =
    let parts =
    and_parts (not (is_row_of (Token token) row))
    (not (passes (is_row_of (Token token)) (reader_row s row.name))) anothers in
    ap (option_map signed) (find-put_row (λ reader. bytes_eq reader.token token) row s.readers
    (not-true _ parts.0) (not-true _ parts.1))
who-put s row (Named name) anothers =
    let parts =
    and_parts (not (is_row_of (Named name) row))
    (not (passes (is_row_of (Named name)) (reader_row s row.name))) anothers in
    ap (λ found. option_map signed (option_and_then (λ its. its.live) found))
    (row_of-put_row reader_key row (key_at None name) s.readers
    ∙ cond-false (same_key (reader_key row) (key_at None name)) (Some row) (reader_row s name)
    (not-true (is_row_of (Named name) row) parts.0))

module _ (s : State) (who : Identity) (at : ℤ) (caller : Caller) where
  abbrev rows_of : Asked → State
  rows_of asked = with_rows (effect_of s who at asked).rows s

  who-rows : (asked : Asked)
      → list_all (is_anothers_row s caller) (effect_of s who at asked).rows ≡ true
      → who_of (rows_of asked) caller ≡ who_of s caller
  who-rows (put.Reader r) left =
      who-put s (record { name = r.name; version = r.version; live = Some r }) caller
      (and_parts _ _ left).0
  who-rows (put.Manifest m) left = who-readers s (rows_of (put.Manifest m)) caller refl
  who-rows (put.Note n) left = who-readers s (rows_of (put.Note n)) caller refl
  who-rows (Deletion (object.Reader name) version) left =
      who-put s (reader_tombstone name version) caller (and_parts _ _ left).0
  who-rows (Deletion (object.Manifest name) version) left =
      who-readers s (rows_of (Deletion (object.Manifest name) version)) caller
      (ap (λ t. t.readers) (with_rows-dropped s who at name version))
  who-rows (Deletion (object.Note owner name) version) left =
      who-readers s (rows_of (Deletion (object.Note owner name) version)) caller refl

-- behind an accepted write that changes no row of the caller's it is the same
pub caller-after : (s : State) (write : Write) (caller : Caller) → Accepts s write
    → IsTrue (leaves_caller s caller write.entry)
    → who_of (after s write.entry) caller ≡ who_of s caller
caller-after s write caller accepts left =
    let is = accepted-is s write accepts in
    let at = moment_of_write s write.moment in
    let t = with_rows (effect_of s is.who at is.asked).rows s in
    let mine : list_all (is_anothers_row s caller) (effect_of s is.who at is.asked).rows ≡ true =
    ap (λ entry. leaves_caller s caller entry) (sym is.same) ∙ left in
    ap (λ entry. who_of (after s entry) caller) is.same
    ∙ who-readers t
    (record t { activities = t.activities ++ (effect_of s is.who at is.asked).activities }) caller
    refl
    ∙ who-rows s is.who at caller is.asked mine
