-- The code points of a text.
use Rattle.std.proofs.Common.{ℕ, ◌≤◌, List, length, ap, arith}
use Rattle.std.proofs.lemmas.Str.{encodes-chars, length-le-encodes}
use Rattle.std.specs.Str.{chars, IsUtf8}

-- a text has no more code points than bytes
pub length-chars : (text : List ℕ) → IsUtf8 text → length (chars text) ≤ length text
length-chars text u =
    omega (arith, length-le-encodes (chars text), ap length (encodes-chars text u))
