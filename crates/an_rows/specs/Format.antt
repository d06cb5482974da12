-- The two formats of a store, which differ in how inner groups are written: the first has the text
-- of one group, the second an array of the texts of one to eight.
use Rattle.std.specs.Prelude.{ℕ, List, [], ◌∷◌, ◌++◌, Bool, true, false, codes, bytes_eq, Option}
use Rattle.std.specs.Prelude.{Some, None, option_map, option_and_then, if◌then◌else◌}
use Rattle.serde_json.specs.Data.{Data, null, boolean, number, string, array, object, Items}
use Rattle.serde_json.specs.Data.{no_items, item}
use Rattle.serde_json.specs.Find.{as_str, get}
use Rattle.an_policy.specs.Inner.{inner_of, inner_text, inner_texts}
use Rattle.an_policy.specs.declared.inner.Inner.{Inner}
use Rattle.an_rows.specs.declared.format.Format.{Format}
use Rattle.an_rows.specs.declared.format.Format.TheVariants.{First, Second}

-- the text of the cell that names the format
abbrev pub format_text : Format → List ℕ
format_text First = codes "{\"format\":1}"
format_text Second = codes "{\"format\":2}"

-- the format that such a text names
abbrev pub format_named : List ℕ → Option Format
format_named text =
    if bytes_eq text (format_text First) then Some First
    else (if bytes_eq text (format_text Second) then Some Second else None)

-- the member of an annotation's row that says its inner groups
abbrev pub inner_name : Format → List ℕ
inner_name First = codes "group"
inner_name Second = codes "groups"

abbrev pub text_items : List (List ℕ) → Items
text_items [] = no_items
text_items (text ∷ texts) = item (string text) (text_items texts)

-- inner groups as they are written; of the first format this reads back for one group alone
abbrev pub inner_tree : Format → Inner → Data
inner_tree First inner = string (inner_text inner)
inner_tree Second inner = array (text_items (inner_texts inner))

-- the texts that items are, if each is one
abbrev pub texts_of : Items → Option (List (List ℕ))
texts_of no_items = Some []
texts_of (item tree items) =
    option_and_then (λ text. option_map (λ texts. text ∷ texts) (texts_of items)) (as_str tree)

-- the texts of the groups, as the format writes them
abbrev pub group_texts : Format → Data → Option (List (List ℕ))
group_texts First tree = option_map (λ text. text ∷ []) (as_str tree)
group_texts Second null = None
group_texts Second (boolean b) = None
group_texts Second (number n) = None
group_texts Second (string s) = None
group_texts Second (array items) = texts_of items
group_texts Second (object _) = None

-- the inner groups that a member says
abbrev pub inner_in : Format → List ℕ → Data → Option Inner
inner_in format member tree =
    option_and_then (λ value. option_and_then inner_of (group_texts format value)) (get member tree)

abbrev pub is_one_text : List (List ℕ) → Bool
is_one_text [] = false
is_one_text (text ∷ []) = true
is_one_text (text ∷ other ∷ texts) = false

-- the format can say these inner groups
abbrev pub can_say : Format → Inner → Bool
can_say First inner = is_one_text (inner_texts inner)
can_say Second inner = true

-- ---- for private clauses: texts that are read one after the other

-- the texts before, and those that the items are, if each is one
abbrev pub texts_from : List (List ℕ) → Items → Option (List (List ℕ))
texts_from before no_items = Some before
texts_from before (item tree items) =
    option_and_then (λ text. texts_from (before ++ text ∷ []) items) (as_str tree)
