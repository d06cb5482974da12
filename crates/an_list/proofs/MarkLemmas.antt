-- The marks that are written so far, and those of the texts that are left.
use Rattle.std.proofs.Common.{◌≡◌, ℕ, zero, suc, ◌+◌, ◌-◌, ◌<◌, ◌≤◌, true, false, List, [], ◌∷◌, ◌++◌, cond, length, get_or, map, filter, take, drop, refl, sym, ap, ap₂, ◌∙◌, append_assoc, append-nil, length-append, arith, subst}
use Rattle.std.proofs.Math.Seq.{take-nil}
use Rattle.std.proofs.lemmas.List.{drop_more, drop_all, length-map, length-take, take-map}
use Rattle.std.proofs.lemmas.List.Elements.{All-filter, All-take, filter-append}
use Rattle.std.specs.List.{All}
use Rattle.std.specs.Prelude.{slice_index_or}
use Rattle.std.specs.Str.{IsUtf8}
use Rattle.serde_json.specs.Data.{Data}
use Rattle.serde_json.specs.View.{items_of}
use Rattle.an_base.specs.TextSet.{has_text}
use Rattle.an_base.specs.Write.{item_text, item_commas}
use Rattle.an_base.proofs.WriteLemmas.{item_commas-append}
use Rattle.an_iri.specs.Iris.{mark_iri}
use Rattle.an_selectors.specs.Places.{LiesIn, quote_of_span}
use Rattle.an_terms.specs.declared.occurrence.Occurrence.{Occurrence}
use Rattle.an_terms.specs.Terms.{IsWordOf, occurrences_of}
use Rattle.an_terms.proofs.SpanLemmas.{All-IsWordOf}
use Rattle.an_model.specs.Bodies.{texts_of, occurrence_in, occurrences_from, note_occurrences}
use Rattle.an_model.specs.declared.occurrence.NoteOccurrence.{NoteOccurrence}
use Rattle.an_list.specs.Marks.{mark_of, mark_tree, marks_from, highlights_of, text_marks}

-- the marks as they are written
abbrev written : List Data → List ℕ
written marks = item_commas (items_of marks)

-- ---- the words of one text

-- the words of a text whose term is sought
abbrev sought_in : List (List ℕ) → List ℕ → List Occurrence
sought_in terms text = filter (λ o. has_text o.term terms) (occurrences_of text)

pub All-placed : (text : List ℕ) (terms : List (List ℕ)) (most : ℕ) (words : List Occurrence)
    → IsUtf8 text → words ≡ take most (sought_in terms text)
    → All (IsWordOf text) words
All-placed text terms most words u are =
    subst (All (IsWordOf text)) (sym are)
    (All-take (IsWordOf text) most _
    (All-filter (λ o. has_text o.term terms) (IsWordOf text) _ (All-IsWordOf text u)))

pub LiesIn-word : (text : List ℕ) (words : List Occurrence) (i : ℕ) (word : Occurrence)
    → All (IsWordOf text) words → i < length words → word ≡ get_or words i word
    → LiesIn text word.span
LiesIn-word text words i word all within at =
    let is : IsWordOf text word = subst (IsWordOf text) (sym at) (all i word within) in
    (omega (arith, is.some), is.within)

-- the mark of the next word is written
pub next_mark : (text source page : List ℕ) (number : ℕ) (words : List Occurrence) (i : ℕ)
    (word : Occurrence) (out new all : List ℕ) → i < length words → word ≡ get_or words i word
    → new ≡ out ++ item_text (mark_tree (text ∷ []) source page (number + 1) (occurrence_in 0 word))
    → out ++ written (text_marks text source page (number + 1) (drop i words)) ≡ all
    → new ++ written (text_marks text source page (number + 1 + 1) (drop (i + 1) words)) ≡ all
next_mark text source page number words i word out new all within at new_is so_far =
    let rest = written (text_marks text source page (number + 1 + 1) (drop (i + 1) words)) in
    let one = item_text (mark_tree (text ∷ []) source page (number + 1) (occurrence_in 0 word)) in
    let first : drop i words ≡ word ∷ drop (i + 1) words =
    drop_more words i word within ∙ ap (λ w. w ∷ drop (i + 1) words) (sym at) in
    ap (λ front. front ++ rest) new_is ∙ append_assoc out one rest
    ∙ ap (λ left. out ++ written (text_marks text source page (number + 1) left)) (sym first)
    ∙ so_far

-- no word is left
pub all_marked : (text source page : List ℕ) (number : ℕ) (words : List Occurrence) (i : ℕ)
    (out all : List ℕ) → length words ≤ i
    → out ++ written (text_marks text source page (number + 1) (drop i words)) ≡ all → out ≡ all
all_marked text source page number words i out all end so_far =
    sym (append-nil out)
    ∙ ap (λ left. out ++ written (text_marks text source page (number + 1) left))
    (sym (drop_all i words end))
    ∙ so_far

-- ---- the words of all texts

take_join : {A : Type 0} (n : ℕ) (xs ys : List A)
    → take n (xs ++ ys) ≡ take n xs ++ take (n - length (take n xs)) ys
take_join {A} n [] ys =
    let all : n ≡ n - 0 = omega arith in
    ap (λ m. take m ys) all
    ∙ ap (λ (front : List A). front ++ take (n - length front) ys) (sym (take-nil {A = A} n))
take_join zero (x ∷ xs) ys = refl
take_join (suc n) (x ∷ xs) ys =
    let same : n - length (take n xs) ≡ suc n - suc (length (take n xs)) = omega arith in
    ap (λ rest. x ∷ rest) (take_join n xs ys ∙ ap (λ m. take n xs ++ take m ys) same)

get_or_within : {A : Type 0} (xs : List A) (i : ℕ) (d e : A) → i < length xs
    → get_or xs i d ≡ get_or xs i e
get_or_within [] i d e within = absurd (omega arith)
get_or_within (x ∷ xs) zero d e within = refl
get_or_within (x ∷ xs) (suc i) d e within = get_or_within xs i d e (omega arith)

pub few_taken : {A : Type 0} (words all : List A) (most : ℕ) → words ≡ take most all
    → length words ≤ most
few_taken words all most are = omega (arith, ap length are, length-take most all)

sought_words : (terms : List (List ℕ)) (i : ℕ) (words : List Occurrence)
    → filter (λ (word : NoteOccurrence). has_text word.term terms) (map (occurrence_in i) words)
    ≡ map (occurrence_in i) (filter (λ (o : Occurrence). has_text o.term terms) words)
sought_words terms i [] = refl
sought_words terms i (word ∷ words) =
    let one = occurrence_in i word in
    elim (has_text word.term terms)
    as (λ b. cond b
    (one ∷ filter (λ (w : NoteOccurrence). has_text w.term terms) (map (occurrence_in i) words))
    (filter (λ (w : NoteOccurrence). has_text w.term terms) (map (occurrence_in i) words))
    ≡ map (occurrence_in i) (cond b
    (word ∷ filter (λ (o : Occurrence). has_text o.term terms) words)
    (filter (λ (o : Occurrence). has_text o.term terms) words))) [
      | true ↦ ap (λ rest. one ∷ rest) (sought_words terms i words)
      | false ↦ sought_words terms i words
    ]

module _ (texts : List (List ℕ)) (source page : List ℕ) where
  marks_from-append : (number : ℕ) (first more : List NoteOccurrence)
      → marks_from texts source page number (first ++ more)
      ≡ marks_from texts source page number first
      ++ marks_from texts source page (number + length first) more
  marks_from-append number [] more = ap (λ n. marks_from texts source page n more) (omega arith)
  marks_from-append number (word ∷ words) more =
      let next : number + 1 + length words ≡ number + suc (length words) = omega arith in
      ap (λ rest. mark_tree texts source page number word ∷ rest)
      (marks_from-append (number + 1) words more
      ∙ ap
      (λ n. marks_from texts source page (number + 1) words ++ marks_from texts source page n more)
      next)

  length-marks_from : (number : ℕ) (words : List NoteOccurrence)
      → length (marks_from texts source page number words) ≡ length words
  length-marks_from number [] = refl
  length-marks_from number (word ∷ words) = ap suc (length-marks_from (number + 1) words)

  -- the marks of words of one of the texts are those of it alone
  marks_alone : (text : List ℕ) (i : ℕ) → slice_index_or texts i [] ≡ text
      → (number : ℕ) (words : List Occurrence)
      → marks_from texts source page number (map (occurrence_in i) words)
      ≡ text_marks text source page number words
  marks_alone text i at number [] = refl
  marks_alone text i at number (word ∷ words) =
      ap₂ (λ t rest. mark_of (mark_iri page number) source (quote_of_span t word.span 16) ∷ rest) at
      (marks_alone text i at (number + 1) words)

module _ (texts : List (List ℕ)) (source : List ℕ) (terms : List (List ℕ)) (page before : List ℕ)
    (start : ℕ) where
  -- the marks of the texts from a place on, behind so many
  abbrev marks_left : ℕ → ℕ → List (List ℕ) → List Data
  marks_left count i left =
      marks_from texts source page (count + 1)
      (take (start + 10 - count)
      (filter (λ word. has_text word.term terms) (occurrences_from i left)))

  -- what was written before and the marks so far, with those of the texts from this place on, are
  -- all
  pub record HasMarked (out : List ℕ) (count i : ℕ) (left : List (List ℕ)) : Type 0 where
    pub few : count ≤ start + 10
    pub all : out ++ written (marks_left count i left)
        ≡ before ++ written (marks_left start 0 texts)
    pub as_many : count + length (marks_left count i left)
        ≡ start + length (marks_left start 0 texts)

  pub HasMarked-start : (left : List (List ℕ)) → left ≡ texts → HasMarked before start 0 left
  HasMarked-start left is = record {
    few = omega arith;
    all = ap (λ left. before ++ written (marks_left start 0 left)) is;
    as_many = ap (λ left. start + length (marks_left start 0 left)) is;
  }

  -- those of the next text stand before those of the others
  parted : (count i : ℕ) (text : List ℕ) (left : List (List ℕ)) (words : List Occurrence)
      → slice_index_or texts i [] ≡ text
      → words ≡ take (start + 10 - count) (sought_in terms text)
      → marks_left count i (text ∷ left)
      ≡ text_marks text source page (count + 1) words
      ++ marks_left (count + length words) (i + 1) left
  parted count i text left words at are =
      let room = start + 10 - count in
      let sought : List NoteOccurrence → List NoteOccurrence =
      filter (λ word. has_text word.term terms) in
      let own = sought (map (occurrence_in i) (occurrences_of text)) in
      let more = sought (occurrences_from (i + 1) left) in
      let taken : take room own ≡ map (occurrence_in i) words =
      ap (take room) (sought_words terms i (occurrences_of text))
      ∙ take-map (occurrence_in i) room (sought_in terms text)
      ∙ ap (map (occurrence_in i)) (sym are) in
      let size = length-map words (occurrence_in i) in
      let left_over : room - length (map (occurrence_in i) words)
      ≡ start + 10 - (count + length words) = omega (arith, size) in
      let next : count + 1 + length (map (occurrence_in i) words) ≡ count + length words + 1 =
      omega (arith, size) in
      let rest = take (start + 10 - (count + length words)) more in
      ap (λ ws. marks_from texts source page (count + 1) (take room ws))
      (filter-append (λ word. has_text word.term terms)
      (map (occurrence_in i) (occurrences_of text)) (occurrences_from (i + 1) left))
      ∙ ap (marks_from texts source page (count + 1))
      (take_join room own more ∙ ap (λ ws. ws ++ take (room - length ws) more) taken
      ∙ ap (λ n. map (occurrence_in i) words ++ take n more) left_over)
      ∙ marks_from-append texts source page (count + 1) (map (occurrence_in i) words) rest
      ∙ ap₂ (λ marks n. marks ++ marks_from texts source page n rest)
      (marks_alone texts source page text i at (count + 1) words) next

  -- the text at an index is the next
  pub HasMarked-at : (out : List ℕ) (count i : ℕ) (items : List (List ℕ)) (one text : List ℕ)
      → items ≡ texts → i < length items → one ≡ get_or items i one → text ≡ one
      → HasMarked out count i (drop i items)
      → HasMarked out count i (text ∷ drop (i + 1) items) × (slice_index_or texts i [] ≡ text)
  HasMarked-at out count i items one text are within at is h =
      let first : drop i items ≡ text ∷ drop (i + 1) items =
      drop_more items i one within ∙ ap (λ t. t ∷ drop (i + 1) items) (sym at ∙ sym is) in (
        subst (HasMarked out count i) first h,
        ap (λ ts. slice_index_or ts i []) (sym are) ∙ get_or_within items i [] one within ∙ sym at
            ∙ sym is,
      )

  pub HasMarked-text : (out new : List ℕ) (count i : ℕ) (text : List ℕ) (left : List (List ℕ))
      (words : List Occurrence) → HasMarked out count i (text ∷ left)
      → slice_index_or texts i [] ≡ text → words ≡ take (start + 10 - count) (sought_in terms text)
      → new ≡ out ++ written (text_marks text source page (count + 1) words)
      → HasMarked new (count + length words) (i + 1) left
  HasMarked-text out new count i text left words h at are new_is =
      let own = text_marks text source page (count + 1) words in
      let rest = marks_left (count + length words) (i + 1) left in
      let parts = parted count i text left words at are in
      let number =
      length-marks_from (text ∷ []) source page (count + 1) (map (occurrence_in 0) words)
      ∙ length-map words (occurrence_in 0) in
      let size = few_taken words (sought_in terms text) (start + 10 - count) are in
      record {
        few = omega (arith, size, h.few);
        all =
            ap (λ front. front ++ written rest) new_is
            ∙ append_assoc out (written own) (written rest)
            ∙ ap (λ marks. out ++ marks) (sym (item_commas-append own rest))
            ∙ ap (λ marks. out ++ written marks) (sym parts) ∙ h.all;
        as_many = omega (
          arith,
          h.as_many,
          ap (λ (marks : List Data). length marks) parts,
          length-append own rest,
          number,
        );
      }

  pub HasMarked-end : (out : List ℕ) (count i : ℕ) (left : List (List ℕ))
      → HasMarked out count i left → left ≡ [] → (tree : Data) → texts ≡ texts_of tree
      → (out ≡ before ++ written (highlights_of tree source terms page (start + 1)))
      × (count ≡ start + length (highlights_of tree source terms page (start + 1)))
  unfolding highlights_of note_occurrences
  HasMarked-end out count i left h none tree are =
      let room : start + 10 - start ≡ 10 = omega arith in
      let nothing : marks_left count i left ≡ [] =
      ap (marks_left count i) none
      ∙ ap (marks_from texts source page (count + 1)) (take-nil (start + 10 - count)) in
      let all : marks_left start 0 texts ≡ highlights_of tree source terms page (start + 1) =
      ap (λ n. marks_from texts source page (start + 1)
      (take n (filter (λ word. has_text word.term terms) (occurrences_from 0 texts)))) room
      ∙ ap (λ ts. marks_from ts source page (start + 1)
      (take 10 (filter (λ word. has_text word.term terms) (occurrences_from 0 ts)))) are in (
        sym (append-nil out) ∙ ap (λ marks. out ++ written marks) (sym nothing) ∙ h.all
            ∙ ap (λ marks. before ++ written marks) all,
        omega (
          arith,
          h.as_many,
          ap (λ (marks : List Data). length marks) nothing,
          ap (λ (marks : List Data). length marks) all,
        ),
      )
