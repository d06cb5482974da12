-- How the front of the bytes that are held is taken away.
use Rattle.std.proofs.Common.{◌≡◌, ℕ, ◌-◌, ◌≤◌, List, ◌++◌, length, take, drop, sym, ◌∙◌, arith}
use Rattle.std.proofs.lemmas.List.{length-drop, take-append-le}
use Rattle.std.proofs.Math.Seq.{take-length}

-- the front goes to the end, and is cut off there
pub rotated : (bytes : List ℕ) (count : ℕ) → count ≤ length bytes
    → take (length bytes - count) (drop count bytes ++ take count bytes) ≡ drop count bytes
rotated bytes count within =
    let long : length (drop count bytes) ≡ length bytes - count = length-drop count bytes in
    take-append-le (length bytes - count) (drop count bytes) (take count bytes) (omega arith)
    ∙ rw (sym long) (take-length (drop count bytes))
