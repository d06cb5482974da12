-- The annotation whose IRI a text is.
use Rattle.std.specs.Prelude.{ℕ, List, codes, ◌==◌, Option, option_and_then, option_map}
use Rattle.std.specs.List.{before_first, after_first}
use Rattle.an_base.specs.Front.{after_front}
use Rattle.an_base.specs.Name.{name_in}

-- two names
abbrev pub both_names : List ℕ → List ℕ → Option (List ℕ × List ℕ)
both_names owner name =
    option_and_then (λ owner. option_map (λ name. (owner, name)) (name_in name)) (name_in owner)

-- the names before and after the first `/`
abbrev pub names_between : List ℕ → Option (List ℕ × List ℕ)
names_between text =
    both_names (before_first (λ b. b == 47) text) (after_first (λ b. b == 47) text)

-- the owner and the name of the annotation whose IRI the text is: BASE/annotations/OWNER/NAME
abbrev pub names_in : List ℕ → List ℕ → Option (List ℕ × List ℕ)
names_in base iri =
    option_and_then (λ path. option_and_then names_between
    (after_front (codes "/annotations/") path)) (after_front base iri)
