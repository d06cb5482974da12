-- An annotation (Web Annotation Data Model, section 3): what is kept of a tree that is sent, or why
-- it is none.
use Rattle.std.specs.Prelude.{ℕ, List, [], ◌∷◌, Bool, ◌&&◌, not, length, nat_lt, codes, is_none}
use Rattle.std.specs.Prelude.{is_some, Option, option_map, option_and_then, Result}
use Rattle.std.specs.Char.{is_whitespace}
use Rattle.std.specs.List.{list_all, list_any, filter_map}
use Rattle.std.specs.Str.{chars}
use Rattle.serde_json.specs.Data.{Data}
use Rattle.serde_json.specs.Find.{get, as_str}
use Rattle.an_base.specs.Items.{items_list, first_bad, trees_in}
use Rattle.an_base.specs.Member.{has_type}
use Rattle.an_base.specs.Object.{without_member}
use Rattle.an_base.specs.Outcome.{when, first_of, unless, only_if}
use Rattle.an_model.specs.Targets.{bad_target, bad_selector}
use Rattle.an_model.specs.Bodies.{bad_body}
use Rattle.an_model.specs.declared.refusal.NoteError.{NoteError}
use Rattle.an_model.specs.declared.refusal.NoteError.TheVariants.{WrongType, Target, Selector, Body}
use Rattle.an_model.specs.declared.refusal.NoteError.TheVariants.{Motivation}

-- ---- why it is written (Motivation and Purpose, section 3.3.5)

-- a token: a text that isn't empty and has no white space
abbrev pub is_token : List ℕ → Bool
is_token text = nat_lt 0 (length text) && not (list_any is_whitespace (chars text))

abbrev pub motivation_of : Data → Option (List ℕ)
motivation_of tree = option_and_then (only_if is_token) (as_str tree)

abbrev pub is_motivation : Data → Bool
is_motivation tree = is_some (motivation_of tree)

-- the place of the first motivation that is none
unfoldable pub bad_motivation : Data → Option ℕ
bad_motivation tree = first_bad is_motivation (trees_in (codes "motivation") tree)

unfoldable pub motivations_of : Data → List (List ℕ)
motivations_of tree = filter_map motivation_of (items_list (trees_in (codes "motivation") tree))

-- ---- the whole

-- why a tree is no annotation, in the order of the refusals
abbrev pub note_refusals : Data → List (Option NoteError)
note_refusals tree =
    when (not (has_type (codes "Annotation") tree)) WrongType
    ∷ option_map Target (bad_target tree)
    ∷ option_map Selector (bad_selector tree)
    ∷ option_map Body (bad_body tree)
    ∷ option_map Motivation (bad_motivation tree)
    ∷ []

unfoldable pub note_refusal : Data → Option NoteError
note_refusal tree = first_of (note_refusals tree)

-- the tree without the members that the server writes itself (Lifecycle Information, section 3.3.1)
unfoldable pub kept : Data → Data
kept tree =
    without_member (codes "modified")
    (without_member (codes "created")
    (without_member (codes "creator")
    (without_member (codes "id")
    (without_member (codes "@context") tree))))

-- the members that the server writes itself
abbrev pub served_names : List (List ℕ)
served_names =
    codes "@context" ∷ codes "created" ∷ codes "creator" ∷ codes "id" ∷ codes "modified" ∷ []

-- the tree has none of them
unfoldable pub is_bare : Data → Bool
is_bare tree = list_all (λ name. is_none (get name tree)) served_names

-- what is kept of the tree, or the first refusal
unfoldable pub note_of : Data → Result Data NoteError
note_of tree = unless (note_refusal tree) (kept tree)
