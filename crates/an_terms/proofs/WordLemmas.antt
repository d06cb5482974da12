-- Whether a text has an alphanumeric character, by its words.
use Rattle.std.proofs.Common.{◌≡◌, ℕ, ◌<◌, true, false, ◌||◌, List, [], ◌∷◌, Bor, Option, Some, None, cond, map, filter, refl, sym, ap, ap₂, ◌∙◌}
use Rattle.std.proofs.lemmas.List.Elements.{All-head, All-tail}
use Rattle.std.proofs.lemmas.List.Folds.{list_any-append}
use Rattle.std.proofs.lemmas.Str.{chars-encodes, scalars-chars, chars-IsAscii}
use Rattle.std.proofs.lemmas.Str.Ascii.{All-from_ascii}
use Rattle.std.specs.Char.{is_ascii_alphanumeric}
use Rattle.std.specs.List.{All, concat, list_any}
use Rattle.std.specs.Option.{MatchOption, is_some}
use Rattle.std.specs.Prelude.{encode_utf8_all}
use Rattle.std.specs.Str.{chars, IsUtf8, IsAscii}
use Rattle.unicode_segmentation.specs.Segments.{cut, segments, has_alphanumeric, is_alphanumeric}
use Rattle.unicode_segmentation.specs.Word.{is_word_break, word_bounds, words}
use Rattle.unicode_segmentation.proofs.AsciiLemmas.{is_alphanumeric_ascii}
use Rattle.an_terms.proofs.SpanLemmas.{ArePieces, ArePieces-cut, concat-cut}

-- a call of `next` took the first of the words that were left
abbrev pub Takes : Option (Bor (List ℕ)) → List (List ℕ) → List (List ℕ) → Type 0
Takes word old new = MatchOption word ((old ≡ []) × (new ≡ [])) (λ w. old ≡ w.now ∷ new)

any_in_pieces : (qs : List (List ℕ)) → ArePieces qs
    → list_any is_alphanumeric (concat qs) ≡ list_any has_alphanumeric (map encode_utf8_all qs)
unfolding has_alphanumeric
any_in_pieces [] h = refl
any_in_pieces (q ∷ qs) h =
    list_any-append is_alphanumeric q (concat qs)
    ∙ ap₂ (λ a b. a || b) (ap (list_any is_alphanumeric) (sym (chars-encodes q h.1)))
    (any_in_pieces qs h.2)

any-words : (text : List ℕ) → IsUtf8 text
    → has_alphanumeric text ≡ list_any has_alphanumeric (word_bounds text)
unfolding has_alphanumeric segments
any-words text u =
    let cs = chars text in
    ap (list_any is_alphanumeric) (sym (concat-cut is_word_break [] cs []))
    ∙ any_in_pieces (cut is_word_break [] cs [])
    (ArePieces-cut is_word_break [] cs [] (scalars-chars text u))

any-none : (ps : List (List ℕ)) → filter has_alphanumeric ps ≡ []
    → list_any has_alphanumeric ps ≡ false
any-none [] e = refl
any-none (p ∷ ps) e =
    elim (has_alphanumeric p)
    as (λ b. cond b (p ∷ filter has_alphanumeric ps) (filter has_alphanumeric ps) ≡ []
    → (b || list_any has_alphanumeric ps) ≡ false) [
      | true ↦ λ e. cc
      | false ↦ λ e. any-none ps e
    ] e

any-some : (ps rest : List (List ℕ)) (w : List ℕ) → filter has_alphanumeric ps ≡ w ∷ rest
    → list_any has_alphanumeric ps ≡ true
any-some [] rest w e = cc
any-some (p ∷ ps) rest w e =
    elim (has_alphanumeric p)
    as (λ b. cond b (p ∷ filter has_alphanumeric ps) (filter has_alphanumeric ps) ≡ w ∷ rest
    → (b || list_any has_alphanumeric ps) ≡ true) [
      | true ↦ λ e. refl
      | false ↦ λ e. any-some ps rest w e
    ] e

pub has_alphanumeric-words :
    (text : List ℕ) (word : Option (Bor (List ℕ))) (all others : List (List ℕ)) → IsUtf8 text
    → Takes word all others → all ≡ words text
    → is_some word ≡ has_alphanumeric text
has_alphanumeric-words text None all others u taken all_is =
    sym (any-words text u ∙ any-none (word_bounds text) (sym all_is ∙ taken.0))
has_alphanumeric-words text (Some w) all others u taken all_is =
    sym (any-words text u ∙ any-some (word_bounds text) others w.now (sym all_is ∙ taken))

pub has_alphanumeric-ascii : (text : List ℕ) → IsAscii text
    → list_any is_ascii_alphanumeric text ≡ has_alphanumeric text
unfolding has_alphanumeric
has_alphanumeric-ascii text ascii =
    same text (All-from_ascii text ascii)
    ∙ ap (list_any is_alphanumeric) (sym (chars-IsAscii text ascii))
  where
    same : (bs : List ℕ) → All (λ b. b < 128) bs
        → list_any is_ascii_alphanumeric bs ≡ list_any is_alphanumeric bs
    same [] h = refl
    same (b ∷ bs) h =
        ap₂ (λ x y. x || y) (is_alphanumeric_ascii b (All-head (λ b. b < 128) b bs h))
        (same bs (All-tail (λ b. b < 128) b bs h))
