-- What the walk over the pieces of a text keeps, and the three steps of a term.
use Rattle.std.proofs.Common.{◌≡◌, ℕ, ◌+◌, ◌≤◌, true, false, List, [], ◌∷◌, ◌++◌, length, map, filter, sym, ap, ap₂, ◌∙◌, append_assoc, append-nil, length-append, arith}
use Rattle.std.proofs.lemmas.Bool.{cond-true, cond-false}
use Rattle.std.proofs.lemmas.Str.{chars_from_encodes, chars-IsAscii, encodes-IsAscii}
use Rattle.std.proofs.lemmas.Str.Ascii.{All-from_ascii, IsAscii-map, lowercase_ascii}
use Rattle.std.specs.Char.{to_ascii_lowercase}
use Rattle.std.specs.List.{concat}
use Rattle.std.specs.Prelude.{encode_utf8_all}
use Rattle.std.specs.Str.{chars, IsUtf8, IsAscii, str_to_ascii_lowercase}
use Rattle.caseless.specs.Caseless.{default_case_fold}
use Rattle.caseless.proofs.CaselessLemmas.{default_case_fold-ascii}
use Rattle.unicode_normalization.specs.Forms.{Nfc, Nfd, nfc, nfd}
use Rattle.unicode_normalization.proofs.FormsLemmas.{normalize-ascii}
use Rattle.unicode_segmentation.specs.Segments.{has_alphanumeric}
use Rattle.unicode_segmentation.specs.Word.{is_word_break, word_bounds}
use Rattle.unicode_segmentation.proofs.SegmentsLemmas.{concat-segments}
use Rattle.an_terms.specs.declared.occurrence.Occurrence.{Occurrence}
use Rattle.an_terms.specs.Terms.{term_of, placed, occurrence_of, occurrences_of}

-- the three steps of a term, each over the text of the one before
pub term_of_steps : (word decomposed folded term : List ℕ) → IsUtf8 decomposed → IsUtf8 folded
    → decomposed ≡ encode_utf8_all (nfd (chars word))
    → folded ≡ encode_utf8_all (default_case_fold (chars decomposed))
    → term ≡ encode_utf8_all (nfc (chars folded)) → term ≡ term_of word
unfolding term_of
term_of_steps word decomposed folded term du fu d f t =
    let ds = chars_from_encodes _ _ du (sym d) in
    let fs = chars_from_encodes _ _ fu (sym f) in
    t ∙ ap (λ cs. encode_utf8_all (nfc cs)) (sym fs)
    ∙ ap (λ cs. encode_utf8_all (nfc (default_case_fold cs))) (sym ds)

-- the term of an ASCII word is the word in lower case
pub term_of-ascii : (word : List ℕ) → IsAscii word → term_of word ≡ str_to_ascii_lowercase word
unfolding term_of
term_of-ascii word ascii =
    let all = All-from_ascii word ascii in
    let lowered = IsAscii-map to_ascii_lowercase word lowercase_ascii ascii in
    ap (λ cs. encode_utf8_all (nfc (default_case_fold (nfd cs)))) (chars-IsAscii word ascii)
    ∙ ap (λ cs. encode_utf8_all (nfc (default_case_fold cs))) (normalize-ascii Nfd word all)
    ∙ ap (λ cs. encode_utf8_all (nfc cs)) (default_case_fold-ascii word all)
    ∙ ap encode_utf8_all (normalize-ascii Nfc _ (All-from_ascii _ lowered))
    ∙ encodes-IsAscii _ lowered

-- the occurrences among pieces of which the first begins at a code point
abbrev pub occurrences_from : ℕ → List (List ℕ) → List Occurrence
occurrences_from start pieces =
    map occurrence_of (filter (λ p. has_alphanumeric p.1) (placed start pieces))

-- The walk has come to the code point `start`, before `pieces`: what it found stands before the
-- occurrences that are still to come, and what is left fits the text.
pub record HasCome (text : List ℕ) (found : List Occurrence) (start : ℕ)
    (pieces : List (List ℕ)) : Type 0 where
  pub so_far : found ++ occurrences_from start pieces ≡ occurrences_of text
  pub fits : start + length (concat pieces) ≤ length text

pub HasCome-start : (text : List ℕ) (found : List Occurrence) (pieces : List (List ℕ)) → IsUtf8 text
    → found ≡ [] → pieces ≡ word_bounds text → HasCome text found 0 pieces
unfolding occurrences_of
HasCome-start text found pieces u none pieces_are =
    let whole = ap length (ap concat pieces_are ∙ concat-segments is_word_break text u) in
    record {
      so_far = ap (λ os. os ++ occurrences_from 0 pieces) none ∙ ap (occurrences_from 0) pieces_are;
      fits = omega arith;
    }

pub HasCome-end : (text : List ℕ) (found : List Occurrence) (start : ℕ) (pieces : List (List ℕ))
    → HasCome text found start pieces → pieces ≡ [] → found ≡ occurrences_of text
unfolding placed
HasCome-end text found start pieces h e =
    sym (append-nil found) ∙ sym (ap (λ ps. found ++ occurrences_from start ps) e) ∙ h.so_far

module _ (text : List ℕ) (found : List Occurrence) (start n : ℕ) (piece : List ℕ)
    (pieces old : List (List ℕ)) where
  -- the piece is a word
  pub HasCome-word : HasCome text found start old → old ≡ piece ∷ pieces
      → has_alphanumeric piece ≡ true → n ≡ length (chars piece) → n ≤ length piece
      → (term : List ℕ) → term ≡ term_of piece
      → HasCome text
      (found ++ record { term = term; span = record { start = start; end = start + n } } ∷ [])
      (start + n) pieces
  unfolding placed
  HasCome-word h old_is passes count bound term term_is =
      let first : occurrences_from start (piece ∷ pieces)
      ≡ occurrence_of (start, piece) ∷ occurrences_from (start + length (chars piece)) pieces =
      ap (map occurrence_of) (cond-true _ _ _ passes) in
      record {
        so_far = append_assoc found _ (occurrences_from (start + n) pieces)
            ∙ ap₂ (λ t m. found
            ++ record { term = t; span = record { start = start; end = start + m } }
            ∷ occurrences_from (start + m) pieces) term_is count
            ∙ ap (λ t. found ++ t) (sym first)
            ∙ ap (λ ps. found ++ occurrences_from start ps) (sym old_is) ∙ h.so_far;
        fits =
            let size = ap (λ ps. length (concat ps)) old_is in
            omega (arith, h.fits, length-append piece (concat pieces));
      }

  -- the piece is no word
  pub HasCome-other : HasCome text found start old → old ≡ piece ∷ pieces
      → has_alphanumeric piece ≡ false → n ≡ length (chars piece) → n ≤ length piece
      → HasCome text found (start + n) pieces
  unfolding placed
  HasCome-other h old_is fails count bound =
      let first : occurrences_from start (piece ∷ pieces)
      ≡ occurrences_from (start + length (chars piece)) pieces =
      ap (map occurrence_of) (cond-false _ _ _ fails) in
      record {
        so_far =
            ap (λ m. found ++ occurrences_from (start + m) pieces) count
            ∙ ap (λ t. found ++ t) (sym first)
            ∙ ap (λ ps. found ++ occurrences_from start ps) (sym old_is) ∙ h.so_far;
        fits =
            let size = ap (λ ps. length (concat ps)) old_is in
            omega (arith, h.fits, length-append piece (concat pieces));
      }
