-- The annotations that mark the words by which a search found an annotation (match annotations of
-- the IIIF Content Search API 2.0).
use Rattle.std.specs.Prelude.{ℕ, ◌+◌, List, [], ◌∷◌, filter, map, take, codes}
use Rattle.std.specs.Prelude.{slice_index_or}
use Rattle.serde_json.specs.Data.{Data, string, array, object, item, no_items, member, no_members}
use Rattle.an_base.specs.TextSet.{has_text}
use Rattle.an_iri.specs.Iris.{mark_iri}
use Rattle.an_selectors.specs.Places.{quote_of_span}
use Rattle.an_selectors.specs.declared.quote.Quote.{Quote}
use Rattle.an_terms.specs.declared.occurrence.Occurrence.{Occurrence}
use Rattle.an_model.specs.Bodies.{texts_of, note_occurrences, occurrence_in}
use Rattle.an_model.specs.declared.occurrence.NoteOccurrence.{NoteOccurrence}

-- ---- which words are marked

-- the first ten words whose term is one of those that are sought
abbrev pub marked : List (List ℕ) → List NoteOccurrence → List NoteOccurrence
marked terms words = take 10 (filter (λ word. has_text word.term terms) words)

-- ---- the mark of one

-- the word as it is written, with up to 16 code points of its text before and behind it
abbrev pub quoted : List (List ℕ) → NoteOccurrence → Quote
quoted texts word = quote_of_span (slice_index_or texts word.text []) word.span 16

-- a Text Quote Selector (Web Annotation Data Model, section 4.2.4)
abbrev pub quote_tree : Quote → Data
quote_tree quote =
    object (member (codes "exact") (string quote.exact)
    (member (codes "prefix") (string quote.prefix)
    (member (codes "suffix") (string quote.suffix)
    (member (codes "type") (string (codes "TextQuoteSelector")) no_members))))

-- the part of a source that is quoted: a Specific Resource (section 4)
abbrev pub target_tree : List ℕ → Quote → Data
target_tree source quote =
    object (member (codes "selector") (array (item (quote_tree quote) no_items))
    (member (codes "source") (string source)
    (member (codes "type") (string (codes "SpecificResource")) no_members)))

-- the annotation with this IRI that marks what is quoted of a source
abbrev pub mark_of : List ℕ → List ℕ → Quote → Data
mark_of iri source quote =
    object (member (codes "id") (string iri)
    (member (codes "motivation") (string (codes "highlighting"))
    (member (codes "target") (target_tree source quote)
    (member (codes "type") (string (codes "Annotation")) no_members))))

-- the annotation that marks a word of these texts
abbrev pub mark_tree : List (List ℕ) → List ℕ → List ℕ → ℕ → NoteOccurrence → Data
mark_tree texts source page number word =
    mark_of (mark_iri page number) source (quoted texts word)

-- ---- the marks of an annotation

-- the marks of words, numbered on from this number
abbrev pub marks_from
    : List (List ℕ) → List ℕ → List ℕ → ℕ → List NoteOccurrence → List Data
marks_from texts source page number [] = []
marks_from texts source page number (word ∷ words) =
    mark_tree texts source page number word ∷ marks_from texts source page (number + 1) words

-- the marks of an annotation with the IRI `source` for these terms, numbered on from this number
unfoldable pub highlights_of : Data → List ℕ → List (List ℕ) → List ℕ → ℕ → List Data
highlights_of tree source terms page number =
    marks_from (texts_of tree) source page number (marked terms (note_occurrences tree))

-- ---- for private clauses

-- the marks of words of one text, numbered on from this number
abbrev pub text_marks : List ℕ → List ℕ → List ℕ → ℕ → List Occurrence → List Data
text_marks text source page number words =
    marks_from (text ∷ []) source page number (map (occurrence_in 0) words)
