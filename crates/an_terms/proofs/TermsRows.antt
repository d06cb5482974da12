-- Texts whose words and terms are computed.
use Rattle.std.proofs.Common.{◌≡◌, ℕ, List, [], ◌∷◌, ◌++◌, refl}
use Rattle.std.specs.Prelude.{codes, encode_utf8_all}
use Rattle.caseless.proofs.Computing.{caseless}
use Rattle.unicode_normalization.proofs.Computing.{unicode_normalization}
use Rattle.unicode_segmentation.proofs.Computing.{unicode_segmentation}
use Rattle.an_terms.specs.declared.occurrence.Occurrence.{Occurrence}
use Rattle.an_terms.specs.Terms.{term_of, placed, occurrences_of}

abbrev at : ℕ → ℕ → List ℕ → Occurrence
at start end term = record { term = term; span = record { start = start; end = end } }

two_herons : occurrences_of (codes "Two herons")
    ≡ at 0 3 (codes "two") ∷ at 4 10 (codes "herons") ∷ []
unfolding term_of placed occurrences_of caseless unicode_normalization unicode_segmentation
two_herons = refl

nothing : occurrences_of [] ≡ []
unfolding term_of placed occurrences_of caseless unicode_normalization unicode_segmentation
nothing = refl

signs_alone : occurrences_of (codes "!!") ≡ []
unfolding term_of placed occurrences_of caseless unicode_normalization unicode_segmentation
signs_alone = refl

capital_strasse : term_of (codes "STRASSE") ≡ codes "strasse"
unfolding term_of caseless unicode_normalization unicode_segmentation
capital_strasse = refl

sharp_s : term_of (codes "Stra" ++ encode_utf8_all (0xDF ∷ []) ++ codes "e") ≡ codes "strasse"
unfolding term_of caseless unicode_normalization unicode_segmentation
sharp_s = refl

grey_heron : occurrences_of (codes "a grey heron")
    ≡ at 0 1 (codes "a") ∷ at 2 6 (codes "grey") ∷ at 7 12 (codes "heron") ∷ []
unfolding term_of placed occurrences_of caseless unicode_normalization unicode_segmentation
grey_heron = refl

composed : term_of (encode_utf8_all (0x68 ∷ 0xE9 ∷ 0x72 ∷ 0x6F ∷ 0x6E ∷ []))
    ≡ encode_utf8_all (0x68 ∷ 0xE9 ∷ 0x72 ∷ 0x6F ∷ 0x6E ∷ [])
unfolding term_of caseless unicode_normalization unicode_segmentation
composed = refl

-- the mark counts as a code point of its own in what stands behind it
decomposed :
    occurrences_of (encode_utf8_all (0x48 ∷ 0x45 ∷ 0x301 ∷ 0x52 ∷ 0x4F ∷ 0x4E ∷ 0x20 ∷ 0x41 ∷ []))
    ≡ at 0 6 (encode_utf8_all (0x68 ∷ 0xE9 ∷ 0x72 ∷ 0x6F ∷ 0x6E ∷ [])) ∷ at 7 8 (codes "a") ∷ []
unfolding term_of placed occurrences_of caseless unicode_normalization unicode_segmentation
decomposed = refl
