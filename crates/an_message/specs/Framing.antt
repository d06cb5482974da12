-- How a message is cut: where its head ends, the fields of its head, and how long its body is
-- (RFC 9112, sections 2, 5 and 6).
use Rattle.std.specs.Prelude.{ℕ, ◌+◌, List, [], ◌∷◌, length, take, map, codes, Bool, ◌&&◌}
use Rattle.std.specs.Prelude.{if◌then◌else◌, bytes_eq, nat_lt, nat_le, Option, Some, None, option_map}
use Rattle.std.specs.Char.{to_ascii_lowercase, is_ascii_digit}
use Rattle.std.specs.List.{list_all}
use Rattle.std.specs.Str.Parse.{digits_value}

-- whether the bytes begin with CR LF CR LF
abbrev pub begins_with_end : List ℕ → Bool
begins_with_end bytes = bytes_eq (take 4 bytes) (codes "\r\n\r\n")

-- how many bytes there are up to the end of the first CR LF CR LF
abbrev pub head_length : List ℕ → Option ℕ
head_length [] = None
head_length (b ∷ bytes) =
    if begins_with_end (b ∷ bytes) then Some 4 else option_map (λ n. 1 + n) (head_length bytes)

-- the same letters, in any case of ASCII
abbrev pub is_same_name : List ℕ → List ℕ → Bool
is_same_name one other = bytes_eq (map to_ascii_lowercase one) (map to_ascii_lowercase other)

-- the values of the fields of this name, in their order
abbrev pub values_of : List ℕ → List (List ℕ × List ℕ) → List (List ℕ)
values_of name [] = []
values_of name (field ∷ fields) =
    if is_same_name field.0 name then field.1 ∷ values_of name fields else values_of name fields

-- 1 to 10 digits
abbrev pub is_length : List ℕ → Bool
is_length value =
    nat_lt 0 (length value) && nat_le (length value) 10 && list_all is_ascii_digit value

-- the length that a value of Content-Length writes
abbrev pub length_of : List ℕ → Option ℕ
length_of value = if is_length value then Some (digits_value 10 value) else None
