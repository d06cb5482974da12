-- The members of a JSON object.
use Rattle.std.specs.Prelude.{ℕ, List, Bool, false, ◌||◌, bytes_eq, codes, Option, option_map}
use Rattle.std.specs.Prelude.{option_and_then, unwrap_or}
use Rattle.serde_json.specs.Data.{Data, Items, no_items, item}
use Rattle.serde_json.specs.Find.{get, as_str, as_object}
use Rattle.serde_json.specs.Events.{members_len}
use Rattle.an_base.specs.Outcome.{passes}
use Rattle.an_base.specs.Tree.{one_or_many}

-- the text that a member is
abbrev pub text_in : List ℕ → Data → Option (List ℕ)
text_in name tree = option_and_then as_str (get name tree)

-- how many members there are; what is no object has none
abbrev pub member_count : Data → ℕ
member_count tree = unwrap_or (option_map members_len (as_object tree)) 0

-- one of the items is this text
abbrev pub has_item : List ℕ → Items → Bool
has_item text no_items = false
has_item text (item tree items) =
    passes (λ found. bytes_eq found text) (as_str tree) || has_item text items

-- the member `type` is this name, or an array that has it
abbrev pub has_type : List ℕ → Data → Bool
has_type name tree = passes (λ types. has_item name (one_or_many types)) (get (codes "type") tree)
