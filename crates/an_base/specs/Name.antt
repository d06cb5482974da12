-- Names of readers, manifests, annotations and groups.
use Rattle.std.specs.Prelude.{ℕ, List, [], ◌∷◌, length, position, Bool, not, ◌==◌, ◌&&◌, ◌||◌}
use Rattle.std.specs.Prelude.{nat_lt, nat_le, option_map, is_none, Result, bytes_eq, if◌then◌else◌}
use Rattle.std.specs.Prelude.{Option, Some}
use Rattle.an_base.specs.declared.name.NameError.{NameError}
use Rattle.an_base.specs.declared.name.NameError.TheVariants.{Empty, Long, Sign}
use Rattle.an_base.specs.Outcome.{when, first_of, only_if, unless}

-- a sign of a name: a to z, 0 to 9, `-` or `_`
abbrev pub is_name_sign : ℕ → Bool
is_name_sign b = (nat_le 97 b && nat_le b 122) || (nat_le 48 b && nat_le b 57) || b == 45 || b == 95

-- `-` alone, which stands for nobody's name
abbrev pub is_dash : List ℕ → Bool
is_dash text = bytes_eq text (45 ∷ [])

-- where the first byte stands that no name has there
abbrev pub bad_sign : List ℕ → Option ℕ
bad_sign text = if is_dash text then Some 0 else position (λ b. not (is_name_sign b)) text

-- why a text is no name, in the order of the refusals
abbrev pub name_refusals : List ℕ → List (Option NameError)
name_refusals text =
    when (length text == 0) Empty ∷ when (nat_lt 64 (length text)) Long ∷ option_map Sign
    (bad_sign text) ∷ []

-- 1 to 64 signs, other than `-` alone
abbrev pub is_name : List ℕ → Bool
is_name text = is_none (first_of (name_refusals text))

-- the name that a text is, or the first refusal
abbrev pub name_of : List ℕ → Result (List ℕ) NameError
name_of text = unless (first_of (name_refusals text)) text

-- the name that a text is, where it is one
abbrev pub name_in : List ℕ → Option (List ℕ)
name_in text = only_if is_name text
