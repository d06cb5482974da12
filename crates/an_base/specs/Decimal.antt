-- Whole numbers in decimal, as words and queries give them.
use Rattle.std.specs.Prelude.{ℕ, List, length, slice_index, Bool, not, ◌&&◌, ◌||◌, ◌==◌, nat_lt}
use Rattle.std.specs.Prelude.{nat_le, if◌then◌else◌, Option, None}
use Rattle.std.specs.Char.{is_ascii_digit}
use Rattle.std.specs.List.{list_all}
use Rattle.std.specs.Str.Parse.{digits_value}
use Rattle.an_base.specs.Outcome.{only_if}

-- digits, of which the first is 0 only where it stands alone
abbrev pub is_decimal : List ℕ → Bool
is_decimal text =
    nat_lt 0 (length text) && list_all is_ascii_digit text && (not (slice_index text 0 == 48) ||
    (length text == 1))

-- the number that a text writes in decimal, where it is no greater than this
abbrev pub decimal_of : ℕ → List ℕ → Option ℕ
decimal_of greatest text =
    if is_decimal text then only_if (λ n. nat_le n greatest) (digits_value 10 text) else None
