-- Bytes that are written as pairs of digits.
use Rattle.std.specs.Prelude.{ℕ, ◌+◌, nat_lt, if◌then◌else◌}

-- the sign of a digit: `0` to `9`, then `a` to `f`
abbrev pub hex_sign : ℕ → ℕ
hex_sign digit = if nat_lt digit 10 then digit + 48 else digit + 87
