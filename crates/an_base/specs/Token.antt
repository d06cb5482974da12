-- Tokens, by which readers sign.
use Rattle.std.specs.Prelude.{ℕ, List, length, Bool, ◌&&◌, ◌||◌, ◌==◌, nat_le}
use Rattle.std.specs.List.{list_all}

-- a letter or a digit of ASCII, `-` or `_`
abbrev pub is_token_sign : ℕ → Bool
is_token_sign b =
    (nat_le 97 b && nat_le b 122) || (nat_le 65 b && nat_le b 90) || (nat_le 48 b && nat_le b 57)
    || b == 45 || b == 95

-- 8 to 64 such signs
abbrev pub is_token : List ℕ → Bool
is_token text = nat_le 8 (length text) && nat_le (length text) 64 && list_all is_token_sign text
