-- The tokens of live readers stay distinct.
use Rattle.std.proofs.Common.{◌≡◌, ℕ, Bool, true, false, ◌&&◌, ◌||◌, not, bytes_eq, List, [], ◌∷◌, Option, Some, None, filter_map, refl, sym, ap, ◌∙◌}
use Rattle.std.specs.List.{list_all, list_any, cons_option}
use Rattle.std.proofs.lemmas.Bool.{and_parts, and_from, or_parts, or_from, not-true, not_from_false, cond_both, both_ways, false_from_ne_true}
use Rattle.std.proofs.lemmas.Slice.Eq.{bytes_eq-Decides}
use Rattle.an_base.specs.Outcome.{passes}
use Rattle.an_keyed.specs.Key.{same_key}
use Rattle.an_keyed.specs.Rows.{put_row}
use Rattle.an_keyed.proofs.PutLemmas.{put_at-position, set_or_push}
use Rattle.an_policy.specs.declared.reader.Reader.{Reader}
use Rattle.an_machine.specs.Refusals.{is_taken_from}
use Rattle.an_state.specs.Rows.{reader_agrees}
use Rattle.an_state.specs.State.{ReaderState, reader_key, keys_are_distinct}
use Rattle.an_state.specs.Sound.{agrees, tokens_are_distinct}
use Rattle.an_laws.proofs.RowLemmas.{none-behind}

-- ---- tests of what there may be

passes-never : {A : Type 0} (value : Option A) → passes (λ x. false) value ≡ false
passes-never None = refl
passes-never (Some x) = refl

-- where each that fails one test fails another
fails-weaker : {A : Type 0} (p q : A → Bool) → ((x : A) → p x ≡ false → q x ≡ false)
    → (value : Option A) → passes p value ≡ false → passes q value ≡ false
fails-weaker p q weaker None fails = refl
fails-weaker p q weaker (Some x) fails = weaker x fails

-- one of a list with a value before it, where there is one
any-cons : {A : Type 0} (p : A → Bool) (value : Option A) (more : List A)
    → list_any p (cons_option value more) ≡ (passes p value || list_any p more)
any-cons p None more = refl
any-cons p (Some x) more = refl

any-parts : {A : Type 0} (p : A → Bool) (value : Option A) (more : List A)
    → list_any p (cons_option value more) ≡ false
    → (passes p value ≡ false) × (list_any p more ≡ false)
any-parts p value more none = or_parts _ _ (sym (any-cons p value more) ∙ none)

any-from : {A : Type 0} (p : A → Bool) (value : Option A) (more : List A) → passes p value ≡ false
    → list_any p more ≡ false → list_any p (cons_option value more) ≡ false
any-from p value more here none = any-cons p value more ∙ or_from _ _ here none

-- ---- readers

abbrev has : List ℕ → Reader → Bool
has token reader = bytes_eq reader.token token

abbrev lives : List ReaderState → List Reader
lives rows = filter_map (λ row. row.live) rows

-- tokens of a reader, where there is one, and of those behind it
distinct-cons : (live : Option Reader) (readers : List Reader)
    → tokens_are_distinct (cons_option live readers)
    ≡ (not (passes (λ reader. list_any (has reader.token) readers) live)
    && tokens_are_distinct readers)
distinct-cons None readers = refl
distinct-cons (Some reader) readers = refl

other-token : (a b : List ℕ) → bytes_eq a b ≡ false → bytes_eq b a ≡ false
other-token a b differ =
    false_from_ne_true _
    (λ same. both_ways _ differ ((bytes_eq-Decides a b).1 (sym ((bytes_eq-Decides b a).0 same))))

-- a live reader of another name, that no token is taken from, has another token
live-apart : (name token row_name : List ℕ) (version : ℕ) → bytes_eq row_name name ≡ false
    → (live : Option Reader) → reader_agrees row_name version live ≡ true
    → passes (is_taken_from name token) live ≡ false → passes (has token) live ≡ false
live-apart name token row_name version other None agree untaken = refl
live-apart name token row_name version other (Some reader) agree untaken =
    let named : reader.name ≡ row_name =
    (bytes_eq-Decides reader.name row_name).0 (and_parts _ _ agree).0 in
    let differs : bytes_eq reader.name name ≡ false = ap (λ n. bytes_eq n name) named ∙ other in
    false_from_ne_true _ (λ is. both_ways _ untaken (and_from _ _ is (not_from_false _ differs)))

-- where no row has the name, a token that isn't taken from another is nobody's
none-has : (name token : List ℕ) (rows : List ReaderState) → list_all agrees rows ≡ true
    → list_any (λ other. same_key (reader_key other) (record { owner = None; name = name })) rows
    ≡ false
    → list_any (is_taken_from name token) (lives rows) ≡ false
    → list_any (has token) (lives rows) ≡ false
none-has name token [] agree none untaken = refl
none-has name token (row ∷ rows) agree none untaken =
    let agreed = and_parts (agrees row) (list_all agrees rows) agree in
    let others = or_parts (bytes_eq row.name name) _ none in
    let left = any-parts (is_taken_from name token) row.live (lives rows) untaken in
    any-from (has token) row.live (lives rows)
    (live-apart name token row.name row.version others.0 row.live agreed.0 left.0)
    (none-has name token rows agreed.1 others.1 left.1)

-- ---- a row that is put

-- what no live reader passes, and the new one does not, none passes after
none-set_or_push : (p : Reader → Bool) (test : ReaderState → Bool) (row : ReaderState)
    (rows : List ReaderState) → passes p row.live ≡ false
    → list_any p (lives rows) ≡ false → list_any p (lives (set_or_push test row rows)) ≡ false
none-set_or_push p test row [] new none = any-from p row.live [] new refl
none-set_or_push p test row (first ∷ rows) new none =
    let parts = any-parts p first.live (lives rows) none in
    cond_both (test first) (row ∷ rows) (first ∷ set_or_push test row rows)
    (λ l. list_any p (lives l) ≡ false)
    (λ h. any-from p row.live (lives rows) new parts.1)
    (λ h. any-from p first.live (lives (set_or_push test row rows)) parts.0
    (none-set_or_push p test row rows new parts.1))

-- no live reader among these has, under another name, the token of the row's reader
abbrev IsUntaken : ReaderState → List Reader → Type 0
IsUntaken row readers =
    passes (λ reader. list_any (is_taken_from row.name reader.token) readers) row.live ≡ false

module _ (row : ReaderState) where
  abbrev is_its : ReaderState → Bool
  is_its other = same_key (reader_key other) (reader_key row)

  -- in the place of the row with its name its token is new among those behind
  token-placed : (rows : List ReaderState) (first : ReaderState) → is_its first ≡ true
      → keys_are_distinct reader_key (first ∷ rows) ≡ true → list_all agrees rows ≡ true
      → IsUntaken row (lives (first ∷ rows))
      → passes (λ reader. list_any (has reader.token) (lives rows)) row.live ≡ false
  token-placed rows first same distinct agree untaken =
      let none = none-behind reader_key first (reader_key row) rows same distinct in
      fails-weaker (λ reader. list_any (is_taken_from row.name reader.token) (lives (first ∷ rows)))
      (λ reader. list_any (has reader.token) (lives rows))
      (λ reader h. none-has row.name reader.token rows agree none
      (any-parts (is_taken_from row.name reader.token) first.live (lives rows) h).1)
      row.live untaken

  -- behind a reader of another name its token is not that reader's
  token-behind : (rows : List ReaderState) (name : List ℕ) (version : ℕ)
      → bytes_eq name row.name ≡ false → (live : Option Reader)
      → reader_agrees name version live ≡ true
      → IsUntaken row (cons_option live (lives rows))
      → passes (λ reader. list_any (has reader.token) (lives rows)) live ≡ false
      → passes (λ reader. list_any (has reader.token) (lives (set_or_push is_its row rows))) live
      ≡ false
  token-behind rows name version other None agree untaken new = refl
  token-behind rows name version other (Some reader) agree untaken new =
      let apart =
      fails-weaker (λ its. list_any (is_taken_from row.name its.token) (reader ∷ lives rows))
      (has reader.token)
      (λ its h. other-token reader.token its.token
      (live-apart row.name its.token name version other (Some reader) agree (or_parts _ _ h).0))
      row.live untaken in
      none-set_or_push (has reader.token) is_its row rows apart new

  -- a row is set or pushed whose token no live reader of another name has
  tokens-set_or_push : (rows : List ReaderState) → keys_are_distinct reader_key rows ≡ true
      → list_all agrees rows ≡ true → tokens_are_distinct (lives rows) ≡ true
      → IsUntaken row (lives rows)
      → tokens_are_distinct (lives (set_or_push is_its row rows)) ≡ true
  tokens-set_or_push [] keys agree tokens untaken =
      distinct-cons row.live [] ∙ and_from _ _ (not_from_false _ (passes-never row.live)) refl
  tokens-set_or_push (first ∷ rows) keys agree tokens untaken =
      let agreed = and_parts (agrees first) (list_all agrees rows) agree in
      let parts = and_parts _ _ (sym (distinct-cons first.live (lives rows)) ∙ tokens) in
      let left =
      fails-weaker (λ reader. list_any (is_taken_from row.name reader.token) (lives (first ∷ rows)))
      (λ reader. list_any (is_taken_from row.name reader.token) (lives rows))
      (λ reader h. (any-parts (is_taken_from row.name reader.token) first.live (lives rows) h).1)
      row.live untaken in
      cond_both (is_its first) (row ∷ rows) (first ∷ set_or_push is_its row rows)
      (λ l. tokens_are_distinct (lives l) ≡ true)
      (λ same. distinct-cons row.live (lives rows)
      ∙ and_from _ _
      (not_from_false _ (token-placed rows first same keys agreed.1 untaken)) parts.1)
      (λ differ. distinct-cons first.live (lives (set_or_push is_its row rows))
      ∙ and_from _ _ (not_from_false _
      (token-behind rows first.name first.version differ first.live agreed.0 untaken
      (not-true _ parts.0)))
      (tokens-set_or_push rows (and_parts _ _ keys).1 agreed.1 parts.1 left))

-- a row is put whose token no live reader of another name has
pub tokens-put_row : (row : ReaderState) (rows : List ReaderState)
    → keys_are_distinct reader_key rows ≡ true → list_all agrees rows ≡ true
    → tokens_are_distinct (filter_map (λ r. r.live) rows) ≡ true
    → passes
    (λ reader. list_any (is_taken_from row.name reader.token) (filter_map (λ r. r.live) rows))
    row.live ≡ false
    → tokens_are_distinct (filter_map (λ r. r.live) (put_row reader_key row rows)) ≡ true
tokens-put_row row rows keys agree tokens untaken =
    ap (λ l. tokens_are_distinct (lives l)) (put_at-position reader_key (is_its row) row rows)
    ∙ tokens-set_or_push row rows keys agree tokens untaken
