-- The items of a JSON array, as a list.
use Rattle.std.specs.Prelude.{ℕ, List, [], ◌∷◌, Bool, not, position, Option, Some, None}
use Rattle.serde_json.specs.Data.{Data, Items, no_items, item}
use Rattle.serde_json.specs.Find.{get}
use Rattle.an_base.specs.Tree.{one_or_many}

abbrev pub items_list : Items → List Data
items_list no_items = []
items_list (item tree items) = tree ∷ items_list items

-- where the first item stands that fails the test
abbrev pub first_bad : (Data → Bool) → Items → Option ℕ
first_bad test items = position (λ tree. not (test tree)) (items_list items)

abbrev pub many_if : Option Data → Items
many_if None = no_items
many_if (Some tree) = one_or_many tree

-- what a member holds that may be absent, one value or an array of values
abbrev pub trees_in : List ℕ → Data → Items
trees_in name tree = many_if (get name tree)
