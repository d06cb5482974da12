-- Inputs and their lines; 97 and 98 are "a" and "b", 10 is LF and 13 is CR.
use Rattle.std.proofs.Common.{◌≡◌, [], ◌∷◌, refl}
use Rattle.an_lines.specs.Split.{lines_of}

row-two : lines_of (97 ∷ 13 ∷ 10 ∷ 98 ∷ 10 ∷ []) ≡ (97 ∷ []) ∷ (98 ∷ []) ∷ []
row-two = refl

row-last_return : lines_of (97 ∷ 13 ∷ []) ≡ (97 ∷ 13 ∷ []) ∷ []
row-last_return = refl

row-two_returns : lines_of (97 ∷ 13 ∷ 13 ∷ 10 ∷ []) ≡ (97 ∷ 13 ∷ []) ∷ []
row-two_returns = refl

row-empty_lines : lines_of (10 ∷ 10 ∷ 97 ∷ []) ≡ [] ∷ [] ∷ (97 ∷ []) ∷ []
row-empty_lines = refl

row-none : lines_of [] ≡ []
row-none = refl

row-one : lines_of (97 ∷ 10 ∷ []) ≡ (97 ∷ []) ∷ []
row-one = refl
