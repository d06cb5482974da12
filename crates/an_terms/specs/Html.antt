-- The plain text of an HTML text.
use Rattle.std.specs.Prelude.{ℕ, List, [], ◌∷◌, Bool, true, false, ◌&&◌, ◌==◌, if◌then◌else◌}
use Rattle.std.specs.Prelude.{encode_utf8_all}
use Rattle.std.specs.List.{list_any}
use Rattle.std.specs.Str.{chars}

-- What is left of code points, of which the first stands inside a tag or outside: a `<` (60) with a
-- later `>` (62)
-- opens a tag, which leaves one space (32), and the next `>` closes it.
abbrev pub plain : Bool → List ℕ → List ℕ
plain inside [] = []
plain false (c ∷ rest) =
    if c == 60 && list_any (λ d. d == 62) rest then 32 ∷ plain true rest else c ∷ plain false rest
plain true (c ∷ rest) = if c == 62 then plain false rest else plain true rest

-- the plain text of an HTML text
unfoldable pub plain_of_html : List ℕ → List ℕ
plain_of_html text = encode_utf8_all (plain false (chars text))
