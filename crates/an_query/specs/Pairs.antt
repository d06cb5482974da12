-- A query as a form writes it: the names and values between its `&` (URL Standard, section 5.1).
use Rattle.std.specs.Prelude.{ℕ, List, [], ◌∷◌, map, Option, Some, None, option_map}
use Rattle.std.specs.Prelude.{option_and_then}
use Rattle.std.specs.Str.{is_utf8}
use Rattle.percent_encoding.specs.Percent.{percent_decode}
use Rattle.form_urlencoded.specs.Form.{plus_to_space, raw_pairs}
use Rattle.an_base.specs.Outcome.{only_if}
use Rattle.an_query.specs.declared.pairs.Pair.{Pair}

-- all of them, where none is missing
abbrev pub all_there : {A : Type 0} → List (Option A) → Option (List A)
all_there [] = Some []
all_there (None ∷ others) = None
all_there (Some one ∷ others) = option_map (λ xs. one ∷ xs) (all_there others)

-- what bytes stand for by their escapes; there is none where that isn't UTF-8
abbrev pub escaped_text : List ℕ → Option (List ℕ)
escaped_text raw = only_if is_utf8 (percent_decode raw)

-- the same of a form's name or value, where a `+` stands for a space
abbrev pub form_text : List ℕ → Option (List ℕ)
form_text raw = escaped_text (map plus_to_space raw)

abbrev pub decoded_pair : List ℕ × List ℕ → Option Pair
decoded_pair raw =
    option_and_then (λ name. option_map (λ value. record { name = name; value = value })
    (form_text raw.1)) (form_text raw.0)

-- the pairs of a query; there are none where a name or a value isn't UTF-8
abbrev pub pairs_of : List ℕ → Option (List Pair)
pairs_of query = all_there (map decoded_pair (raw_pairs query))
