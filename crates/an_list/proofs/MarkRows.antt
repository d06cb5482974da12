-- The marks of a note whose text says `heron` eleven times, as they are written.
use Rattle.std.proofs.Common.{◌≡◌, ℕ, List, [], ◌∷◌, ◌++◌, map, Some, option_map, refl}
use Rattle.std.specs.Prelude.{codes, slice_get}
use Rattle.std.specs.Fmt.{digits}
use Rattle.caseless.proofs.Computing.{caseless}
use Rattle.json.specs.Print.{escape_byte}
use Rattle.serde_json.specs.Data.{Data, string, object, member, no_members}
use Rattle.serde_json.specs.Written.{compact_text}
use Rattle.unicode_normalization.proofs.Computing.{unicode_normalization}
use Rattle.unicode_segmentation.proofs.Computing.{unicode_segmentation}
use Rattle.an_base.specs.Member.{text_in}
use Rattle.an_terms.specs.Terms.{term_of, placed, occurrences_of}
use Rattle.an_model.specs.Bodies.{texts_of, note_occurrences}
use Rattle.an_list.specs.Marks.{highlights_of}

herons : Data
herons =
    object (member (codes "bodyValue")
    (string (codes "heron heron heron heron heron heron heron heron heron heron heron")) no_members)

marks_of : List ℕ → List Data
marks_of term =
    highlights_of herons (codes "http://a.example/n") (term ∷ []) (codes "http://a.example/p") 5

row-numbers : map (text_in (codes "id")) (marks_of (codes "heron")) ≡
    Some (codes "http://a.example/p#match-5") ∷
    Some (codes "http://a.example/p#match-6") ∷
    Some (codes "http://a.example/p#match-7") ∷
    Some (codes "http://a.example/p#match-8") ∷
    Some (codes "http://a.example/p#match-9") ∷
    Some (codes "http://a.example/p#match-10") ∷
    Some (codes "http://a.example/p#match-11") ∷
    Some (codes "http://a.example/p#match-12") ∷
    Some (codes "http://a.example/p#match-13") ∷
    Some (codes "http://a.example/p#match-14") ∷
    []
unfolding herons marks_of highlights_of note_occurrences texts_of occurrences_of placed term_of
    caseless unicode_normalization unicode_segmentation digits
row-numbers = refl

row-first : option_map compact_text (slice_get (marks_of (codes "heron")) 0) ≡ Some (
    codes "{\"id\":\"http://a.example/p#match-5\",\"motivation\":\"highlighting\"," ++ (
    codes "\"target\":{\"selector\":[{\"exact\":\"heron\",\"prefix\":\"\"," ++ (
    codes "\"suffix\":\" heron heron her\",\"type\":\"TextQuoteSelector\"}]," ++ (
    codes
    "\"source\":\"http://a.example/n\",\"type\":\"SpecificResource\"},\"type\":\"Annotation\"}"))))
unfolding herons marks_of highlights_of note_occurrences texts_of occurrences_of placed term_of
    caseless unicode_normalization unicode_segmentation escape_byte digits
row-first = refl

row-tenth : option_map compact_text (slice_get (marks_of (codes "heron")) 9) ≡ Some (
    codes "{\"id\":\"http://a.example/p#match-14\",\"motivation\":\"highlighting\"," ++ (
    codes "\"target\":{\"selector\":[{\"exact\":\"heron\",\"prefix\":\"ron heron heron \"," ++ (
    codes "\"suffix\":\" heron\",\"type\":\"TextQuoteSelector\"}]," ++ (
    codes
    "\"source\":\"http://a.example/n\",\"type\":\"SpecificResource\"},\"type\":\"Annotation\"}"))))
unfolding herons marks_of highlights_of note_occurrences texts_of occurrences_of placed term_of
    caseless unicode_normalization unicode_segmentation escape_byte digits
row-tenth = refl

row-swan : marks_of (codes "swan") ≡ []
unfolding herons marks_of highlights_of note_occurrences texts_of occurrences_of placed term_of
    caseless unicode_normalization unicode_segmentation
row-swan = refl
