-- The words of a text, each with the term that it is found by.
use Rattle.std.specs.Prelude.{◌≡◌, ℕ, ◌+◌, ◌<◌, ◌≤◌, List, [], ◌∷◌, length, slice_range, map}
use Rattle.std.specs.Prelude.{filter, encode_utf8_all}
use Rattle.std.specs.Str.{chars}
use Rattle.caseless.specs.Caseless.{default_case_fold}
use Rattle.unicode_normalization.specs.Forms.{nfc, nfd}
use Rattle.unicode_segmentation.specs.Segments.{has_alphanumeric}
use Rattle.unicode_segmentation.specs.Word.{word_bounds}
use Rattle.an_terms.specs.declared.occurrence.Occurrence.{Occurrence}

-- the term of a word: decomposed, case folded in full, and composed again
unfoldable pub term_of : List ℕ → List ℕ
term_of word = encode_utf8_all (nfc (default_case_fold (nfd (chars word))))

-- the pieces of a text, each with the code point at which it begins
unfoldable pub placed : ℕ → List (List ℕ) → List (ℕ × List ℕ)
placed start [] = []
placed start (piece ∷ pieces) = (start, piece) ∷ placed (start + length (chars piece)) pieces

-- a piece as an occurrence, from the code point at which it begins to the one behind it
abbrev pub occurrence_of : ℕ × List ℕ → Occurrence
occurrence_of (start, piece) =
    record {
      term = term_of piece;
      span = record {
        start = start;
        end = start + length
            (chars piece);
      };
    }

-- the words of a text in order: its pieces between word boundaries that have an alphanumeric
-- character
unfoldable pub occurrences_of : List ℕ → List Occurrence
occurrences_of text =
    map occurrence_of (filter (λ p. has_alphanumeric p.1) (placed 0 (word_bounds text)))

-- the terms of a text, each as often as it occurs
unfoldable pub terms_of : List ℕ → List (List ℕ)
terms_of text = map (λ o. o.term) (occurrences_of text)

-- The occurrence is a word of the text: its span has a code point and lies in the text, and its
-- term is that
-- of what stands there.
pub record IsWordOf (text : List ℕ) (o : Occurrence) : Type 0 where
  pub some : o.span.start < o.span.end
  pub within : o.span.end ≤ length (chars text)
  pub term : o.term ≡ term_of (encode_utf8_all (slice_range (chars text) o.span.start o.span.end))

-- the one ends where the other begins, or earlier
abbrev pub StandsBefore : Occurrence → Occurrence → Type 0
StandsBefore earlier later = earlier.span.end ≤ later.span.start
