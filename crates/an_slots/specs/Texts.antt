-- What stands under texts.
use Rattle.std.specs.Prelude.{ℕ, List, [], ◌∷◌, map, String, string_bytes, bytes_eq}
use Rattle.std.specs.Prelude.{if◌then◌else◌}

-- what stands under a text, or nothing
abbrev pub under : {A : Type 0} → List ℕ → List (List ℕ × List A) → List A
under text [] = []
under text (e ∷ entries) = if bytes_eq text e.0 then e.1 else under text entries

-- for private clauses: the entries of a map, each with the bytes of its key
abbrev pub texts : {Y A : Type 0} → List (String Y × A) → List (List ℕ × A)
texts entries = map (λ e. (string_bytes e.0, e.1)) entries
