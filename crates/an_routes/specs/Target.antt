-- A target, split into the segments of its path and its query (RFC 3986, sections 3.3 and 3.4).
use Rattle.std.specs.Prelude.{ℕ, List, [], map, length, ◌==◌, nat_lt, if◌then◌else◌, Option, Some}
use Rattle.std.specs.Prelude.{None, option_and_then}
use Rattle.std.specs.List.{slice_split, position_or_len, before_first, after_first}
use Rattle.an_query.specs.Pairs.{all_there, escaped_text}

-- what stands before the first such sign, and what behind it; nothing where there is no such sign
abbrev pub cut_at : ℕ → List ℕ → Option (List ℕ × List ℕ)
cut_at sign text =
    if nat_lt (position_or_len (λ b. b == sign) text) (length text)
    then Some (before_first (λ b. b == sign) text, after_first (λ b. b == sign) text) else None

-- the path behind its first `/`, and the query behind the first `?`, which may be empty
abbrev pub parts_of : List ℕ → Option (List ℕ × List ℕ) → List ℕ × List ℕ
parts_of behind None = (behind, [])
parts_of behind (Some parts) = parts

-- both parts of a target; there are none where it doesn't begin with `/`
abbrev pub target_parts : List ℕ → Option (List ℕ × List ℕ)
target_parts target =
    option_and_then (λ p. if length p.0 == 0 then Some (parts_of p.1 (cut_at 63 p.1)) else None)
    (cut_at 47 target)

-- the segments of a path, between its `/`, each with its escapes decoded; there are none where one
-- of them isn't UTF-8 then
abbrev pub segments_of : List ℕ → Option (List (List ℕ))
segments_of path = all_there (map escaped_text (slice_split (λ b. b == 47) path))
