-- The lines of an input by its first line feed.
use Rattle.std.proofs.Common.{◌≡◌, ℕ, suc, ◌+◌, ◌<◌, ◌==◌, Bool, true, false, List, [], ◌∷◌, ◌++◌, length, take, drop, Some, None, refl, sym, ap, subst, ◌∙◌, arith, get_or, add-one, get_or-take, length-take-le, take-append-drop, All}
use Rattle.std.proofs.Math.Seq.{drop-cons, drop-length}
use Rattle.std.proofs.lemmas.Bool.{eqb-true, cond-false}
use Rattle.std.proofs.lemmas.List.Elements.{All-from_get_or}
use Rattle.std.proofs.lemmas.List.Splits.{slice_split_none, slice_split_at, length-slice_split}
use Rattle.std.specs.List.{slice_split}
use Rattle.std.specs.Str.Lines.{lines_of_parts, strip_carriage_return}
use Rattle.memchr.specs.Find.{is_byte, IsFirstByte}
use Rattle.an_lines.specs.Split.{lines_of}

-- a test that isn't true
not_true : (b : Bool) → ¬ (b ≡ true) → b ≡ false
not_true true not = absurd (not refl)
not_true false not = refl

-- a first part, and at least one more
lines_of_parts-cons : (part : List ℕ) (parts : List (List ℕ)) → 0 < length parts
    → lines_of_parts (part ∷ parts) ≡ strip_carriage_return part ∷ lines_of_parts parts
lines_of_parts-cons part [] some = absurd (omega arith)
lines_of_parts-cons part (next ∷ parts) some = refl

-- a line that ends in a line feed, and what follows it
lines_of-feed : (line rest : List ℕ) → All (λ b. (b == 10) ≡ false) line
    → lines_of (line ++ 10 ∷ rest) ≡ strip_carriage_return line ∷ lines_of rest
lines_of-feed line rest none =
    let parts = length-slice_split (λ b. b == 10) rest in
    ap lines_of_parts (slice_split_at (λ b. b == 10) line 10 rest none refl)
    ∙ lines_of_parts-cons line (slice_split (λ b. b == 10) rest) (omega arith)

-- an input is what stands before one of its bytes, that byte, and what follows it
parts_at : (xs : List ℕ) (k : ℕ) → k < length xs → get_or xs k 0 ≡ 10
    → take k xs ++ 10 ∷ drop (k + 1) xs ≡ xs
parts_at xs k low is =
    let behind : drop k xs ≡ 10 ∷ drop (k + 1) xs =
    rw add-one (drop-cons xs k 0 low ∙ ap (λ b. b ∷ drop (suc k) xs) is) in
    ap (λ ys. take k xs ++ ys) (sym behind) ∙ take-append-drop k xs

-- the first line feed ends the first line, as the code cuts it
pub lines_of-some : (xs line : List ℕ) (k : ℕ) → line ≡ strip_carriage_return (take k xs)
    → IsFirstByte (is_byte 10) xs (Some k)
    → lines_of xs ≡ line ∷ lines_of (drop (k + 1) xs)
lines_of-some xs line k is h =
    let short : length (take k xs) ≡ k = length-take-le k xs (omega (arith, h.0.high)) in
    let none : All (λ b. (b == 10) ≡ false) (take k xs) =
    All-from_get_or (λ b. (b == 10) ≡ false) (take k xs) 0 (λ j low.
    subst (λ b. (b == 10) ≡ false) (sym (get_or-take k xs j 0 (omega arith)))
    (not_true _ (h.0.before j (omega arith) (omega arith)))) in
    rw is
    (ap lines_of (sym (parts_at xs k h.0.high (eqb-true _ _ h.1)))
    ∙ lines_of-feed (take k xs) (drop (k + 1) xs) none)

-- with no line feed, all is one line
pub lines_of-none : (xs : List ℕ) → false ≡ (length xs == 0) → IsFirstByte (is_byte 10) xs None
    → lines_of xs ≡ xs ∷ lines_of (drop (length xs) xs)
lines_of-none xs some h =
    let none : All (λ b. (b == 10) ≡ false) xs =
    All-from_get_or (λ b. (b == 10) ≡ false) xs 0 (λ j low. not_true _ (h j (omega arith) low)) in
    ap lines_of_parts (slice_split_none (λ b. b == 10) xs none)
    ∙ cond-false (length xs == 0) [] (xs ∷ []) (sym some)
    ∙ ap (λ left. xs ∷ lines_of left) (sym (drop-length xs))
