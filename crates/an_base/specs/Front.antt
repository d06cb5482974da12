-- What a text goes on with.
use Rattle.std.specs.Prelude.{ℕ, List, length, drop, nat_eq, if◌then◌else◌, Option, Some, None}
use Rattle.std.specs.List.{starts_with}

-- after this front, where it begins with it
abbrev pub after_front : List ℕ → List ℕ → Option (List ℕ)
after_front front text =
    if starts_with nat_eq text front then Some (drop (length front) text) else None
