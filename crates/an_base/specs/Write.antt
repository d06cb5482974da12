-- The texts of objects and arrays, made of their parts: each part stands behind a comma, and in the
-- end a bracket takes the place of the first comma.
use Rattle.std.specs.Prelude.{ℕ, List, [], ◌∷◌, ◌++◌}
use Rattle.json.specs.Print.{quoted}
use Rattle.serde_json.specs.Data.{Data, Items, no_items, item, Members, no_members, member}
use Rattle.serde_json.specs.Written.{compact_text}

-- a name behind a comma, with its colon
unfoldable pub name_text : List ℕ → List ℕ
name_text name = 44 ∷ (quoted name ++ 58 ∷ [])

-- a member behind a comma
unfoldable pub member_text : List ℕ → Data → List ℕ
member_text name value = name_text name ++ compact_text value

-- members, each behind a comma
abbrev pub commas : Members → List ℕ
commas no_members = []
commas (member name value members) = member_text name value ++ commas members

-- an item behind a comma
unfoldable pub item_text : Data → List ℕ
item_text value = 44 ∷ compact_text value

-- items, each behind a comma
abbrev pub item_commas : Items → List ℕ
item_commas no_items = []
item_commas (item value items) = item_text value ++ item_commas items

-- parts behind this bracket, which takes the place of the first comma
abbrev pub behind : ℕ → List ℕ → List ℕ
behind left [] = left ∷ []
behind left (comma ∷ parts) = left ∷ parts

-- parts in brackets
abbrev pub in_brackets : ℕ → ℕ → List ℕ → List ℕ
in_brackets left right parts = behind left parts ++ right ∷ []
