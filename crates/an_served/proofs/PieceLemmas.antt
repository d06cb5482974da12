-- What stands between two cuts of a text.
use Rattle.std.proofs.Common.{◌≡◌, ℕ, zero, suc, ◌+◌, ◌-◌, ◌≤◌, List, [], ◌∷◌, ◌++◌, length, take, drop, slice_range, refl, sym, ap, ap₂, ◌∙◌, length-append, arith}
use Rattle.std.proofs.lemmas.List.{take-append-le, drop-append-le, length-drop}
use Rattle.std.proofs.Math.Seq.{take-append_seam, drop-append_seam}
use Rattle.an_base.specs.Write.{behind}
use Rattle.an_served.specs.ManifestParts.{led, piece}

-- what stands between the lengths of two parts
pub range_seam : (a b c : List ℕ) (from to : ℕ) → from ≡ length a → to ≡ from + length b
    → slice_range (a ++ (b ++ c)) from to ≡ b
range_seam a b c from to first second =
    ap₂ (λ n xs. take n xs) (omega arith)
    (ap (λ n. drop n (a ++ (b ++ c))) first ∙ drop-append_seam a (b ++ c))
    ∙ take-append_seam b c

-- signs behind the last cut don't count
range_front : (xs ys : List ℕ) (from to : ℕ) → to ≤ length xs → from ≤ to
    → slice_range (xs ++ ys) from to ≡ slice_range xs from to
range_front xs ys from to within order =
    ap (take (to - from)) (drop-append-le from xs ys (omega arith))
    ∙ take-append-le (to - from) (drop from xs) ys (omega (arith, length-drop from xs))

-- the first sign doesn't count
led_range : (sign other : ℕ) (xs : List ℕ) (from to : ℕ)
    → led (slice_range (sign ∷ xs) from to) ≡ led (slice_range (other ∷ xs) from to)
led_range sign other xs zero zero = refl
led_range sign other xs zero (suc to) =
    ap (λ n. led (take n (sign ∷ xs))) {x = suc to - 0} {y = suc to} (omega arith)
    ∙ sym (ap (λ n. led (take n (other ∷ xs))) {x = suc to - 0} {y = suc to} (omega arith))
led_range sign other xs (suc from) to = refl

nothing : (n : ℕ) → n ≤ 0 → n ≡ 0
nothing n h = omega arith

-- a bracket in place of the first comma doesn't count, nor does what is behind
pub piece_behind : (left : ℕ) (parts rest : List ℕ) (from to : ℕ) → to ≤ length parts → from ≤ to
    → piece (behind left parts ++ rest) from to ≡ led (slice_range parts from to)
unfolding piece
piece_behind left [] rest from to within order =
    rw (nothing to within, nothing from (omega arith)) refl
piece_behind left (comma ∷ parts) rest from to within order =
    ap led (range_front (left ∷ parts) rest from to within order)
    ∙ led_range left comma parts from to

-- the same, where the parts are told
pub piece_seam : (left : ℕ) (parts a b c rest : List ℕ) (from to : ℕ) → parts ≡ a ++ (b ++ c)
    → from ≡ length a → to ≡ from + length b
    → piece (behind left parts ++ rest) from to ≡ led b
piece_seam left parts a b c rest from to parted first second =
    let size = ap length parted ∙ length-append a (b ++ c) in
    piece_behind left parts rest from to (omega (arith, size, length-append b c)) (omega arith)
    ∙ ap (λ xs. led (slice_range xs from to)) parted
    ∙ ap led (range_seam a b c from to first second)
