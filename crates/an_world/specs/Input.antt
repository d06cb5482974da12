-- The input of a link in memory, which is given piece by piece.
use Rattle.std.specs.Prelude.{ℕ, ◌-◌, min, nat_lt, if◌then◌else◌, List, [], ◌∷◌, ◌++◌, length, take}
use Rattle.std.specs.Prelude.{drop, filter}

-- the bytes that were given, those that are left, and the lengths of the pieces to come; behind
-- these pieces comes the rest
pub record Pieces : Type 0 where
  pub read : List ℕ
  pub left : List ℕ
  pub cut : List ℕ

-- an input before its first read; a piece of 0 bytes is no piece
abbrev pub pieces_of : List ℕ → List ℕ → Pieces
pieces_of input cut = record { read = []; left = input; cut = filter (nat_lt 0) cut }

-- how many bytes the next piece has, where so many are left
abbrev pub piece_of : List ℕ → ℕ → ℕ
piece_of [] left = left
piece_of (first ∷ cut) left = min first left

-- how many bytes a read with room for `size` is given: what is longer than the room goes on in the
-- next read
abbrev pub count_for : ℕ → Pieces → ℕ
count_for size input = min (piece_of input.cut (length input.left)) size

-- the pieces to come behind so many bytes of the first
abbrev pub cut_behind : ℕ → List ℕ → List ℕ
cut_behind count [] = []
cut_behind count (first ∷ cut) = if nat_lt count first then (first - count) ∷ cut else cut

-- the input behind the next so many bytes
abbrev pub pieces_behind : ℕ → Pieces → Pieces
pieces_behind count input =
    record {
      read = input.read ++ take count input.left;
      left = drop count
          input.left;
      cut = cut_behind count input.cut;
    }
