-- How much of a link is read as an input.
use Rattle.std.specs.Prelude.{ℕ, ◌≤◌, List, length, Option}
use Rattle.an_world.specs.Link.{Traffic, IsAtEnd}

-- how many bytes an input may have
abbrev pub input_limit : ℕ
input_limit = 268435456

-- the input was read to its end, unless it is too large
abbrev pub IsReadWhole : List ℕ → Option Traffic → Type 0
IsReadWhole input traffic = length input ≤ input_limit → IsAtEnd traffic
