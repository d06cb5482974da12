-- JSON trees: what is a tree, and which tree bytes are. The text of a tree is its `compact_text`.
use Rattle.std.specs.Prelude.{ℕ, ◌^◌, pos, negsuc, List, [], ◌∷◌, Bool, true, false, ◌&&◌, nat_lt}
use Rattle.std.specs.Prelude.{nat_le, bytes_eq, if◌then◌else◌, Option, Some, None, Result, Err}
use Rattle.std.specs.List.{list_all}
use Rattle.std.specs.Ordering.{nat_cmp, is_lt}
use Rattle.std.specs.Cmp.Lexicographic.{slice_cmp}
use Rattle.std.specs.Str.{is_utf8}
use Rattle.serde_json.specs.Data.{Num, unsigned, negative, float, Data, null, boolean, number}
use Rattle.serde_json.specs.Data.{string, array, object, Items, no_items, item, Members, no_members}
use Rattle.serde_json.specs.Data.{member, depth}
use Rattle.serde_json.specs.Read.{read}
use Rattle.serde_json.specs.Written.{has_float, compact_text}
use Rattle.an_base.specs.Outcome.{when, first_of, unless}
use Rattle.an_base.specs.declared.tree.TreeError.{TreeError}
use Rattle.an_base.specs.declared.tree.TreeError.TheVariants.{Json, NotWhole, Deep}

-- how many arrays and objects may stand inside each other
abbrev pub max_tree_depth : ℕ
max_tree_depth = 100

-- a whole number from -2^63 to 2^64 - 1; `negsuc n` is -1 - n
abbrev pub is_whole_number : Num → Bool
is_whole_number (unsigned n) = nat_lt n (2 ^ 64)
is_whole_number (negative (pos n)) = false
is_whole_number (negative (negsuc n)) = nat_lt n (2 ^ 63)
is_whole_number (float x) = false

-- each of the texts is below all that follow it, by their bytes
abbrev pub ascend : List (List ℕ) → Bool
ascend [] = true
ascend (text ∷ texts) =
    list_all (λ later. is_lt (slice_cmp nat_cmp text later)) texts && ascend texts

abbrev pub names : Members → List (List ℕ)
names no_members = []
names (member name value members) = name ∷ names members

-- numbers are whole, texts and names are UTF-8, and an object's names ascend, so that each stands
-- there once
abbrev mutual
  pub is_whole : Data → Bool
  is_whole null = true
  is_whole (boolean b) = true
  is_whole (number n) = is_whole_number n
  is_whole (string text) = is_utf8 text
  is_whole (array items) = items_are_whole items
  is_whole (object members) = ascend (names members) && members_are_whole members

  pub items_are_whole : Items → Bool
  items_are_whole no_items = true
  items_are_whole (item value items) = is_whole value && items_are_whole items

  pub members_are_whole : Members → Bool
  members_are_whole no_members = true
  members_are_whole (member name value members) =
      is_utf8 name && is_whole value && members_are_whole members

-- a whole JSON value in which at most 100 arrays and objects stand inside each other
unfoldable pub is_tree : Data → Bool
is_tree value = is_whole value && nat_le (depth value) max_tree_depth

-- the JSON value that bytes are; of two members with one name the later stands in it
abbrev pub json_of : List ℕ → Option Data
json_of bytes = if is_utf8 bytes then read bytes else None

-- why a JSON value is no tree, in the order of the refusals
abbrev pub tree_refusals : Data → List (Option TreeError)
tree_refusals value =
    when (has_float value) NotWhole ∷ when (nat_lt max_tree_depth (depth value)) Deep ∷ []

abbrev pub tree_if_json : Option Data → Result Data TreeError
tree_if_json None = Err Json
tree_if_json (Some value) = unless (first_of (tree_refusals value)) value

-- the tree that bytes are, or the first refusal
unfoldable pub tree_of : List ℕ → Result Data TreeError
tree_of bytes = tree_if_json (json_of bytes)

-- two trees have the same text
abbrev pub same_text : Data → Data → Bool
same_text tree other = bytes_eq (compact_text tree) (compact_text other)

-- an array's items, or the value alone
abbrev pub one_or_many : Data → Items
one_or_many null = item null no_items
one_or_many (boolean b) = item (boolean b) no_items
one_or_many (number n) = item (number n) no_items
one_or_many (string text) = item (string text) no_items
one_or_many (array items) = items
one_or_many (object members) = item (object members) no_items
