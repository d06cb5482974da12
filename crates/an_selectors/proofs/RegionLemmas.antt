-- A text cut at its commas.
use Rattle.std.proofs.Common.{◌≡◌, ℕ, ◌<◌, eqb, List, [], ◌∷◌, Bor, length, Option, Some, None, MatchOption, refl, sym, ap, ◌∙◌, subst, lit<, arith}
use Rattle.std.proofs.lemmas.List.Splits.{slice_split_first, slice_split_none, length-slice_split}
use Rattle.std.proofs.lemmas.List.Sums.{fails_before_first}
use Rattle.std.proofs.lemmas.Str.Pattern.{split_once_first, IsSplitOnceResult}
use Rattle.std.specs.List.{position_or_len, before_first, after_first}
use Rattle.an_selectors.specs.Region.{parts_of, region_of_parts, region_of_numbers}

-- the parts between commas, by what `split_once` gives
pub slice_split-split_once : (text : List ℕ) (r : Option (Bor (List ℕ) × Bor (List ℕ)))
    → IsSplitOnceResult 44 text r
    → MatchOption r (parts_of text ≡ text ∷ [])
    (λ parts. parts_of text ≡ parts.0.now ∷ parts_of parts.1.now)
slice_split-split_once text r h = by_first text r (split_once_first 44 text r h (lit< tt))
  where
    by_first : (text : List ℕ) (r : Option (Bor (List ℕ) × Bor (List ℕ)))
        → MatchOption r (position_or_len (λ b. eqb b 44) text ≡ length text)
        (λ x. (position_or_len (λ b. eqb b 44) text < length text)
        × (x.0.now ≡ before_first (λ b. eqb b 44) text)
        × (x.1.now ≡ after_first (λ b. eqb b 44) text))
        → MatchOption r (parts_of text ≡ text ∷ [])
        (λ parts. parts_of text ≡ parts.0.now ∷ parts_of parts.1.now)
    by_first text None none =
        slice_split_none (λ b. eqb b 44) text
        (λ k d within.
        fails_before_first (λ b. eqb b 44) text k d (subst (λ n. k < n) (sym none) within))
    by_first text (Some x) (some, front, rest) =
        slice_split_first (λ b. eqb b 44) text 0 some
        ∙ ap (λ t. t ∷ parts_of (after_first (λ b. eqb b 44) text)) (sym front)
        ∙ ap (λ t. x.0.now ∷ parts_of t) (sym rest)

-- a text with four commas is no region
pub five_parts : (text x a y b w h p q : List ℕ) → parts_of text ≡ x ∷ parts_of a
    → parts_of a ≡ y ∷ parts_of b → parts_of b ≡ w ∷ parts_of h
    → parts_of h ≡ p ∷ parts_of q → None ≡ region_of_numbers text
five_parts text x a y b w h p q first second third fourth =
    by_length (parts_of q)
    (subst (λ n. 0 < n) (sym (length-slice_split (λ b. eqb b 44) q)) (omega arith))
    ∙ ap region_of_parts
    (sym (first ∙ ap (λ t. x ∷ t) (second ∙ ap (λ t. y ∷ t) (third ∙ ap (λ t. w ∷ t) fourth))))
  where
    by_length : (parts : List (List ℕ)) → 0 < length parts
        → None ≡ region_of_parts (x ∷ y ∷ w ∷ p ∷ parts)
    by_length [] some = absurd (omega arith)
    by_length (part ∷ parts) some = refl
