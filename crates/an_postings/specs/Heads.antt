-- For private clauses: the first bytes of a text as one number.
use Rattle.std.specs.Prelude.{ℕ, zero, suc, ◌+◌, ◌*◌, ◌^◌, List, [], ◌∷◌}
use Rattle.std.specs.Cmp.Lexicographic.{slice_cmp}
use Rattle.std.specs.Ordering.{nat_cmp, ordering_then}
use Rattle.std.specs.declared.cmp.Ordering.{Ordering}

-- so many bytes from the first on, as the digits of a number; behind the last one come zeros
abbrev pub head_from : ℕ → List ℕ → ℕ
head_from zero bytes = 0
head_from (suc n) [] = 0
head_from (suc n) (byte ∷ bytes) = byte * 256 ^ n + head_from n bytes

-- the first eight
abbrev pub head_of : List ℕ → ℕ
head_of text = head_from 8 text

-- a number and a text beside another text: first the numbers are compared
abbrev pub head_cmp : ℕ → List ℕ → List ℕ → Ordering
head_cmp head text other =
    ordering_then (nat_cmp head (head_of other)) (slice_cmp nat_cmp text other)
