-- Annotations at places, and how what was written of them grows.
use Rattle.std.proofs.Common.{◌≡◌, ℕ, suc, ◌+◌, ◌<◌, List, [], ◌∷◌, ◌++◌, length, get_or, take, drop, Bool, true, cond, Option, Some, None, ◌==◌, refl, sym, ap, ◌∙◌, arith, length-append, append-nil, append_assoc}
use Rattle.std.proofs.lemmas.Bool.Decides.{nat_tests}
use Rattle.std.specs.List.{filter_map, cons_option}
use Rattle.std.specs.Prelude.{filter, slice_get}
use Rattle.std.proofs.lemmas.List.{drop-map, take-map, take_more}
use Rattle.std.proofs.lemmas.List.Elements.{filter_map-append}
use Rattle.serde_json.specs.Data.{Data}
use Rattle.serde_json.specs.View.{items_of}
use Rattle.an_base.specs.TextSet.{ascending, has_text}
use Rattle.an_base.proofs.AscendLemmas.{has_text-ascending}
use Rattle.an_base.specs.Write.{item_text, item_commas}
use Rattle.an_base.proofs.WriteLemmas.{item_commas-append}
use Rattle.an_state.specs.State.{NoteState, LiveNote}
use Rattle.an_model.specs.Bodies.{note_occurrences}
use Rattle.an_model.specs.declared.occurrence.NoteOccurrence.{NoteOccurrence}
use Rattle.an_iri.specs.Iris.{note_iri}
use Rattle.an_list.specs.Listed.{HasListed, StandAt, listed_note, marks_of, row_marks}
use Rattle.an_list.specs.Marks.{highlights_of}
use Rattle.an_list.specs.Page.{page_of, start_of}
use Rattle.an_list.specs.declared.items.PageItems.{PageItems}

-- tests that agree pass the same
pub filter_same : {A : Type 0} (p q : A → Bool) → ((row : A) → p row ≡ q row) → (rows : List A)
    → filter p rows ≡ filter q rows
filter_same p q same [] = refl
filter_same p q same (row ∷ rows) =
    ap (λ pass. cond pass (row ∷ filter p rows) (filter p rows)) (same row)
    ∙ ap (λ others. cond (q row) (row ∷ others) others) (filter_same p q same rows)

-- ---- one annotation, as an item

pub listed_item : (base : List ℕ) (row : NoteState) (tree : Data) → Some tree ≡ listed_note base row
    → item_commas (items_of (filter_map (listed_note base) (row ∷ []))) ≡ item_text tree
listed_item base row tree is = rw (sym is) (append-nil (item_text tree))

pub deleted_item : (base : List ℕ) (row : NoteState) → None ≡ listed_note base row
    → item_commas (items_of (filter_map (listed_note base) (row ∷ []))) ≡ []
deleted_item base row is = rw (sym is) refl

-- ---- rows at places

-- rows that stand at places are those that are found there, and as many
pub stand-found : (notes : List NoteState) (places : List ℕ) (rows : List NoteState)
    → StandAt notes places rows → filter_map (slice_get notes) places ≡ rows
stand-found notes [] [] stand = refl
stand-found notes [] (row ∷ rows) stand = absurd (cc)
stand-found notes (place ∷ places) [] stand = absurd (cc)
stand-found notes (place ∷ places) (row ∷ rows) stand =
    let here : slice_get notes place ≡ Some row = (cc) in
    let rest : StandAt notes places rows = (cc) in
    rw (here) (ap (λ more. row ∷ more) (stand-found notes places rows rest))

pub stand-count : (notes : List NoteState) (places : List ℕ) (rows : List NoteState)
    → StandAt notes places rows → length places ≡ length rows
stand-count notes [] [] stand = refl
stand-count notes [] (row ∷ rows) stand = absurd (cc)
stand-count notes (place ∷ places) [] stand = absurd (cc)
stand-count notes (place ∷ places) (row ∷ rows) stand =
    let rest : StandAt notes places rows = (cc) in
    ap suc (stand-count notes places rows rest)

-- the same of a page
pub stand-page : (notes : List NoteState) (page size : ℕ) (places : List ℕ) (rows : List NoteState)
    → StandAt notes places rows → StandAt notes (page_of page size places) (page_of page size rows)
stand-page notes page size places rows stand =
    first size (drop (start_of page size) places) (drop (start_of page size) rows)
    (later (start_of page size) places rows stand)
  where
    first : (n : ℕ) (ps : List ℕ) (rs : List NoteState) → StandAt notes ps rs
        → StandAt notes (take n ps) (take n rs)
    first n ps rs stand =
        sym (take-map (slice_get notes) n ps) ∙ ap (take n) stand ∙ take-map Some n rs

    later : (n : ℕ) (ps : List ℕ) (rs : List NoteState) → StandAt notes ps rs
        → StandAt notes (drop n ps) (drop n rs)
    later n ps rs stand =
        sym (drop-map (slice_get notes) n ps) ∙ ap (drop n) stand ∙ drop-map Some n rs

-- ---- one place more

module _ (notes : List NoteState) (places : List ℕ) (i : ℕ) (within : i < length places) where
  pub place_with_row : (row : NoteState) → Some row ≡ slice_get notes (get_or places i 0)
      → filter_map (slice_get notes) (take (i + 1) places)
      ≡ filter_map (slice_get notes) (take i places) ++ row ∷ []
  place_with_row row is =
      ap (filter_map (slice_get notes)) (take_more places i 0 within)
      ∙ filter_map-append (slice_get notes) (take i places) (get_or places i 0 ∷ [])
      ∙ ap (λ found. filter_map (slice_get notes) (take i places) ++ cons_option found []) (sym is)

  pub place_without : None ≡ slice_get notes (get_or places i 0)
      → filter_map (slice_get notes) (take (i + 1) places)
      ≡ filter_map (slice_get notes) (take i places)
  place_without is =
      ap (filter_map (slice_get notes)) (take_more places i 0 within)
      ∙ filter_map-append (slice_get notes) (take i places) (get_or places i 0 ∷ [])
      ∙ ap (λ found. filter_map (slice_get notes) (take i places) ++ cons_option found []) (sym is)
      ∙ append-nil _

-- ---- marks

marks_of-append : (base : List ℕ) (terms : List (List ℕ)) (page : List ℕ) (number : ℕ)
    (rows : List NoteState) (row : NoteState)
    → marks_of base terms page number (rows ++ row ∷ [])
    ≡ marks_of base terms page number rows
    ++ row_marks base terms page (number + length (marks_of base terms page number rows)) row
marks_of-append base terms page number [] row =
    append-nil _ ∙ ap (λ n. row_marks base terms page n row) (omega arith)
marks_of-append base terms page number (first ∷ rows) row =
    let own = row_marks base terms page number first in
    let next = number + length own in
    ap (λ more. own ++ more) (marks_of-append base terms page next rows row)
    ∙ sym (append_assoc own (marks_of base terms page next rows) _)
    ∙ ap (λ n. (own ++ marks_of base terms page next rows) ++ row_marks base terms page n row)
    (let joined = length-append own (marks_of base terms page next rows) in omega arith)

-- no term marks nothing
none_marked : (words : List NoteOccurrence) → filter (λ word. has_text word.term []) words ≡ []
none_marked [] = refl
none_marked (word ∷ words) = none_marked words

pub no_marks : (base : List ℕ) (page : List ℕ) (number : ℕ) (row : NoteState)
    → row_marks base [] page number row ≡ []
unfolding highlights_of
no_marks base page number row = by row.live
  where
    by : (live : Option LiveNote) → ◌≡◌ {A = List Data} (elim live [
      | None ↦ []
      | Some live ↦ highlights_of live.tree (note_iri base row.owner row.name) [] page number
    ]) []
    by None = refl
    by (Some live) = rw (none_marked (note_occurrences live.tree)) refl

-- ---- what was written

module _ (base : List ℕ) (terms : List (List ℕ)) (page : List ℕ) (rows : List NoteState)
    (row : NoteState) (old new : PageItems) (has : HasListed base terms page rows old) where
  pub HasListed-more : new.items.items
      ≡ old.items.items ++ item_commas (items_of (filter_map (listed_note base) (row ∷ [])))
      → new.marks.text.items
      ≡ old.marks.text.items
      ++ item_commas (items_of (row_marks base terms page (old.marks.count + 1) row))
      → new.marks.count
      ≡ old.marks.count + length (row_marks base terms page (old.marks.count + 1) row)
      → HasListed base terms page (rows ++ row ∷ []) new
  HasListed-more items text count =
      let listed = filter_map (listed_note base) in
      let before = marks_of base terms page 1 rows in
      let number : old.marks.count + 1 ≡ 1 + length before = omega (arith, has.count) in
      let more = row_marks base terms page (1 + length before) row in
      let all = marks_of-append base terms page 1 rows row in
      record {
        items = items
            ∙ ap (λ first. first ++ item_commas (items_of (listed (row ∷ [])))) has.items
            ∙ sym (item_commas-append (listed rows) (listed (row ∷ [])))
            ∙ ap (λ trees. item_commas (items_of trees))
            (sym (filter_map-append (listed_note base) rows (row ∷ [])));
        marks = text
            ∙ ap (λ first.
            first ++ item_commas (items_of (row_marks base terms page (old.marks.count + 1) row)))
            has.marks
            ∙ ap (λ n. item_commas (items_of before)
            ++ item_commas (items_of (row_marks base terms page n row))) number
            ∙ sym (item_commas-append before more)
            ∙ ap (λ trees. item_commas (items_of trees)) (sym all);
        count = count
            ∙ ap (λ n. n + length (row_marks base terms page (old.marks.count + 1) row)) has.count
            ∙ ap (λ n. length before + length (row_marks base terms page n row)) number
            ∙ sym (length-append before more)
            ∙ ap (λ (trees : List Data). length trees) (sym all);
      }

-- ---- terms in order

-- what has a term of these in order has one of them
pub same_marked : (terms : List (List ℕ)) (words : List NoteOccurrence)
    → filter (λ word. has_text word.term (ascending terms)) words
    ≡ filter (λ word. has_text word.term terms) words
same_marked terms words =
    filter_same (λ (word : NoteOccurrence). has_text word.term (ascending terms))
    (λ word. has_text word.term terms) (λ word. has_text-ascending word.term terms) words

row_marks-ascending : (base : List ℕ) (terms : List (List ℕ)) (page : List ℕ) (number : ℕ)
    (row : NoteState)
    → row_marks base (ascending terms) page number row ≡ row_marks base terms page number row
unfolding highlights_of
row_marks-ascending base terms page number row = by row.live
  where
    by : (live : Option LiveNote) → ◌≡◌ {A = List Data} (elim live [
      | None ↦ []
      | Some live ↦
          highlights_of live.tree (note_iri base row.owner row.name) (ascending terms) page number
    ]) (elim live [
      | None ↦ []
      | Some live ↦ highlights_of live.tree (note_iri base row.owner row.name) terms page number
    ])
    by None = refl
    by (Some live) = rw (same_marked terms (note_occurrences live.tree)) refl

marks_of-ascending : (base : List ℕ) (terms : List (List ℕ)) (page : List ℕ) (number : ℕ)
    (rows : List NoteState)
    → marks_of base (ascending terms) page number rows ≡ marks_of base terms page number rows
marks_of-ascending base terms page number [] = refl
marks_of-ascending base terms page number (row ∷ rows) =
    ap (λ first. first ++ marks_of base (ascending terms) page (number + length first) rows)
    (row_marks-ascending base terms page number row)
    ∙ ap (λ more. row_marks base terms page number row ++ more)
    (marks_of-ascending base terms page
    (number + length (row_marks base terms page number row)) rows)

-- what was written for the terms in order was written for the terms
pub HasListed-sought : (base : List ℕ) (terms sought : List (List ℕ)) (page : List ℕ)
    (rows : List NoteState) (listed : PageItems) → sought ≡ ascending terms
    → HasListed base sought page rows listed → HasListed base terms page rows listed
HasListed-sought base terms sought page rows listed is has =
    let same =
    ap (λ sought. marks_of base sought page 1 rows) is
    ∙ marks_of-ascending base terms page 1 rows in
    record {
      items = has.items;
      marks = has.marks ∙ ap (λ trees. item_commas (items_of trees)) same;
      count = has.count ∙ ap (λ (trees : List Data). length trees) same;
    }

-- ---- nothing to mark

pub empty_of : {A : Type 0} (xs : List A) → length xs ≡ 0 → xs ≡ []
empty_of [] is = refl
empty_of (x ∷ xs) is = absurd (omega (arith, is))

pub none_of : {A : Type 0} (xs : List A) → true ≡ (length xs == 0) → xs ≡ []
none_of xs is = let count : length xs ≡ 0 = grind (arith, nat_tests) in empty_of xs count

module _ (base : List ℕ) (terms : List (List ℕ)) (page : List ℕ) (number : ℕ)
    (row : NoteState) where
  unmarked : terms ≡ [] → row_marks base terms page number row ≡ []
  unmarked none =
      ap (λ terms. row_marks base terms page number row) none ∙ no_marks base page number row

  pub unmarked-text : (text : List ℕ) → terms ≡ []
      → text ≡ text ++ item_commas (items_of (row_marks base terms page number row))
  unmarked-text text none =
      sym (append-nil text)
      ∙ ap (λ marks. text ++ item_commas (items_of marks)) (sym (unmarked none))

  pub unmarked-count : (count : ℕ) → terms ≡ []
      → count ≡ count + length (row_marks base terms page number row)
  unmarked-count count none =
      let nothing = ap (λ (marks : List Data). length marks) (unmarked none) in
      omega (arith, nothing)
