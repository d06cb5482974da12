-- What the walk to the words that are sought keeps.
use Rattle.std.proofs.Common.{◌≡◌, ℕ, ◌+◌, ◌≤◌, Bool, true, false, List, [], ◌∷◌, ◌++◌, cond, length, map, filter, take, refl, sym, ap, ap₂, ◌∙◌, append_assoc, append-nil, length-append, take_all, ◌<◌, ◌&&◌, arith}
use Rattle.std.proofs.Math.Seq.{take-append_seam}
use Rattle.std.proofs.lemmas.Bool.{and_parts, cond-true}
use Rattle.std.proofs.lemmas.List.Elements.{filter-append}
use Rattle.std.specs.List.{concat}
use Rattle.std.specs.Str.{chars, IsUtf8}
use Rattle.unicode_segmentation.specs.Segments.{has_alphanumeric}
use Rattle.unicode_segmentation.specs.Word.{is_word_break, word_bounds}
use Rattle.unicode_segmentation.proofs.SegmentsLemmas.{concat-segments}
use Rattle.an_base.specs.TextSet.{has_text}
use Rattle.an_terms.specs.declared.occurrence.Occurrence.{Occurrence}
use Rattle.an_terms.specs.Terms.{term_of, placed, occurrence_of, occurrences_of}
use Rattle.an_terms.proofs.TermsLemmas.{occurrences_from}

-- the occurrences that are sought among pieces of which the first begins at a code point
abbrev pub sought_among : List (List ℕ) → ℕ → List (List ℕ) → List Occurrence
sought_among terms start pieces =
    filter (λ o. has_text o.term terms) (occurrences_from start pieces)

at_most_one : (terms : List (List ℕ)) (start : ℕ) (piece : List ℕ)
    → length (sought_among terms start (piece ∷ [])) ≤ 1
unfolding placed
at_most_one terms start piece =
    let sought : Occurrence → Bool = λ o. has_text o.term terms in
    elim (has_alphanumeric piece)
    as (λ b. length (filter sought (map occurrence_of (cond b ((start, piece) ∷ []) []))) ≤ 1) [
      | true ↦
          elim (sought (occurrence_of (start, piece)))
          as (λ b. length (cond b (occurrence_of (start, piece) ∷ []) []) ≤ 1)
          [ true ↦ omega arith | false ↦ omega arith ]
      | false ↦ omega arith
    ]

-- a word that is sought stands alone, and another piece adds nothing
pub sought_among-word : (terms : List (List ℕ)) (start : ℕ) (piece : List ℕ)
    → (has_text (term_of piece) terms && has_alphanumeric piece) ≡ true
    → sought_among terms start (piece ∷ []) ≡ occurrence_of (start, piece) ∷ []
unfolding placed
sought_among-word terms start piece h =
    let parts = and_parts (has_text (term_of piece) terms) (has_alphanumeric piece) h in
    ap (λ ps. filter (λ o. has_text o.term terms) (map occurrence_of ps)) (cond-true _ _ _ parts.1)
    ∙ cond-true _ _ _ parts.0

pub sought_among-other : (terms : List (List ℕ)) (start : ℕ) (piece : List ℕ)
    → (has_text (term_of piece) terms && has_alphanumeric piece) ≡ false
    → sought_among terms start (piece ∷ []) ≡ []
unfolding placed
sought_among-other terms start piece h =
    let sought = has_text (term_of piece) terms in
    let one : List Occurrence = occurrence_of (start, piece) ∷ [] in
    let adds : Bool → List Occurrence =
    λ b.
    filter (λ o. has_text o.term terms) (map occurrence_of (cond b ((start, piece) ∷ []) [])) in
    elim (has_alphanumeric piece) as (λ b. (sought && b) ≡ false → adds b ≡ []) [
      | true ↦ elim sought as (λ s. (s && true) ≡ false → cond s one [] ≡ [])
          [ true ↦ λ e. cc | false ↦ λ e. refl ]
      | false ↦ λ e. refl
    ] h

-- The walk has come to the code point `start`, before `pieces`: what it found stands before those
-- that are still to come.
pub record HasSought (text : List ℕ) (terms : List (List ℕ)) (found : List Occurrence) (start : ℕ)
    (pieces : List (List ℕ)) : Type 0 where
  pub so_far : found ++ sought_among terms start pieces
      ≡ filter (λ o. has_text o.term terms) (occurrences_of text)
  pub fits : start + length (concat pieces) ≤ length text

pub HasSought-start : (text : List ℕ) (terms : List (List ℕ)) (found : List Occurrence)
    (pieces : List (List ℕ)) → IsUtf8 text
    → found ≡ [] → pieces ≡ word_bounds text → HasSought text terms found 0 pieces
unfolding occurrences_of
HasSought-start text terms found pieces u none pieces_are =
    let whole = ap length (ap concat pieces_are ∙ concat-segments is_word_break text u) in
    record {
      so_far =
          ap (λ os. os ++ sought_among terms 0 pieces) none ∙ ap (sought_among terms 0) pieces_are;
      fits = omega arith;
    }

sought_among-cons : (terms : List (List ℕ)) (start : ℕ) (piece : List ℕ) (pieces : List (List ℕ))
    → sought_among terms start (piece ∷ pieces)
    ≡ sought_among terms start (piece ∷ [])
    ++ sought_among terms (start + length (chars piece)) pieces
unfolding placed
sought_among-cons terms start piece pieces =
    let sought : Occurrence → Bool = λ o. has_text o.term terms in
    elim (has_alphanumeric piece)
    as (λ b. filter sought (map occurrence_of
    (cond b ((start, piece)
    ∷ filter (λ p. has_alphanumeric p.1) (placed (start + length (chars piece)) pieces))
    (filter (λ p. has_alphanumeric p.1) (placed (start + length (chars piece)) pieces))))
    ≡ filter sought (map occurrence_of (cond b ((start, piece) ∷ []) []))
    ++ sought_among terms (start + length (chars piece)) pieces) [
      | true ↦
          filter-append sought (occurrence_of (start, piece) ∷ [])
          (occurrences_from (start + length (chars piece)) pieces)
      | false ↦ refl
    ]

pub HasSought-piece : (text : List ℕ) (terms : List (List ℕ)) (found new : List Occurrence)
    (start n : ℕ) (piece : List ℕ) (pieces old : List (List ℕ))
    → HasSought text terms found start old → old ≡ piece ∷ pieces → n ≡ length (chars piece)
    → n ≤ length piece
    → new ≡ found ++ sought_among terms start (piece ∷ [])
    → HasSought text terms new (start + n) pieces
HasSought-piece text terms found new start n piece pieces old h old_is count bound new_is =
    record {
      so_far = ap₂ (λ os m. os ++ sought_among terms (start + m) pieces) new_is count
          ∙ append_assoc found (sought_among terms start (piece ∷ [])) _
          ∙ ap (λ os. found ++ os) (sym (sought_among-cons terms start piece pieces))
          ∙ ap (λ ps. found ++ sought_among terms start ps) (sym old_is) ∙ h.so_far;
      fits =
          let size = ap (λ ps. length (concat ps)) old_is in
          omega (arith, h.fits, length-append piece (concat pieces));
    }

-- what is found when as many as are wanted are there
pub HasSought-enough : (text : List ℕ) (terms : List (List ℕ)) (found : List Occurrence)
    (start most : ℕ) (pieces : List (List ℕ))
    → HasSought text terms found start pieces → length found ≡ most
    → found ≡ take most (filter (λ o. has_text o.term terms) (occurrences_of text))
HasSought-enough text terms found start most pieces h size =
    sym (take-append_seam found (sought_among terms start pieces)) ∙ ap₂ take size h.so_far

pub HasSought-end : (text : List ℕ) (terms : List (List ℕ)) (found : List Occurrence)
    (start most : ℕ) (pieces : List (List ℕ))
    → HasSought text terms found start pieces → pieces ≡ [] → length found ≤ most
    → found ≡ take most (filter (λ o. has_text o.term terms) (occurrences_of text))
unfolding placed
HasSought-end text terms found start most pieces h none few =
    let all : found ≡ filter (λ o. has_text o.term terms) (occurrences_of text) =
    sym (append-nil found) ∙ sym (ap (λ ps. found ++ sought_among terms start ps) none)
    ∙ h.so_far in
    sym (take_all most found few) ∙ ap (take most) all

pub few_more : (terms : List (List ℕ)) (start most : ℕ) (piece : List ℕ)
    (found new : List Occurrence) → length found < most
    → new ≡ found ++ sought_among terms start (piece ∷ []) → length new ≤ most
unfolding placed
few_more terms start most piece found new room new_is =
    omega (
      arith,
      ap length new_is,
      length-append found (sought_among terms start (piece ∷ [])),
      at_most_one terms start piece,
    )
