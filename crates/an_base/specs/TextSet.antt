-- Texts of which each counts once, and texts in the order of their bytes.
use Rattle.std.specs.Prelude.{ℕ, List, [], ◌∷◌, ◌++◌, Bool, ◌&&◌, ◌==◌, bytes_eq, fold, true}
use Rattle.std.specs.Prelude.{◌≡◌, get_or, suc, zero, if◌then◌else◌, length, nat_le, slice_range}
use Rattle.std.specs.BTreeSet.{insert_key}
use Rattle.std.specs.Cmp.Lexicographic.{slice_cmp}
use Rattle.std.specs.List.{list_all, list_any}
use Rattle.std.specs.List.Sorted.{IsStrictlySortedBy}
use Rattle.std.specs.Ordering.{is_lt, nat_cmp}
use Rattle.std.specs.Str.{is_utf8}

-- the text is one of these
abbrev pub has_text : List ℕ → List (List ℕ) → Bool
has_text text texts = list_any (λ other. bytes_eq other text) texts

-- the texts, and this one where it isn't among them
abbrev pub with_text : List (List ℕ) → List ℕ → List (List ℕ)
with_text texts text = if has_text text texts then texts else texts ++ text ∷ []

-- the texts, each where it stands first
abbrev pub distinct : List (List ℕ) → List (List ℕ)
distinct texts = fold with_text [] texts

-- the texts, each once, ascending by their bytes
abbrev pub ascending : List (List ℕ) → List (List ℕ)
ascending texts = fold (insert_key (slice_cmp nat_cmp)) [] texts

-- each text stands before those behind it, by its bytes
abbrev pub Ascend : List (List ℕ) → Type 0
Ascend texts = IsStrictlySortedBy (slice_cmp nat_cmp) texts

-- another text stands before this one, by its bytes
abbrev pub is_below : List ℕ → List ℕ → Bool
is_below text other = is_lt (slice_cmp nat_cmp other text)

-- ---- for private clauses: texts one behind the other, and where each ends

-- the texts that end at these places, of which the first begins here
abbrev pub pieces : ℕ → List ℕ → List ℕ → List (List ℕ)
pieces start [] bytes = []
pieces start (end ∷ ends) bytes = slice_range bytes start end ∷ pieces end ends bytes

-- the places ascend from this one to the end of the bytes
abbrev pub are_ends : ℕ → List ℕ → ℕ → Bool
are_ends start [] total = start == total
are_ends start (end ∷ ends) total = nat_le start end && are_ends end ends total

-- where the text at a place begins: where the one before it ends
abbrev pub start_of : List ℕ → ℕ → ℕ
start_of places zero = 0
start_of places (suc before) = get_or places before 0

-- the pieces ascend, and each is UTF-8
pub record ArePacked (places bytes : List ℕ) : Type 0 where
  pub ends : are_ends 0 places (length bytes) ≡ true
  pub order : Ascend (pieces 0 places bytes)
  pub utf8 : list_all is_utf8 (pieces 0 places bytes) ≡ true
