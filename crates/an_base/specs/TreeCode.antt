-- How the logic stores a JSON value, which holds itself: as a list of marks, each before the marks
-- of its parts.
use Rattle.std.specs.Prelude.{◌≡◌, ℕ, ℤ, pos, Bool, true, false, cond, ◌==◌, Float, List, [], ◌∷◌}
use Rattle.std.specs.Prelude.{refl}
use Rattle.std.specs.Float.{nan}
use Rattle.std.specs.Coded.{Coded, code_by, coded×, coded_ℕ, coded_ℤ, coded_list}
use base.Stored.{coded_float}
use mathlib.Core.Path.{ap, ◌∙◌}
use Rattle.serde_json.specs.Data.{Num, unsigned, negative, float, Data, null, boolean, number}
use Rattle.serde_json.specs.Data.{string, array, object, Items, no_items, item, Members, no_members}
use Rattle.serde_json.specs.Data.{member}

pub data Mark : Type 0 where
  null_mark : Mark
  boolean_mark : Bool → Mark
  number_mark : Num → Mark
  string_mark : List ℕ → Mark
  array_mark : Mark
  no_items_mark : Mark
  item_mark : Mark
  object_mark : Mark
  no_members_mark : Mark
  member_mark : List ℕ → Mark

abbrev Parts : Type 0
Parts = ℕ × (List ℕ × (ℕ × (ℤ × Float)))

abbrev to_parts : Mark → Parts
to_parts null_mark = (0, ([], (0, (pos 0, nan))))
to_parts (boolean_mark false) = (1, ([], (0, (pos 0, nan))))
to_parts (boolean_mark true) = (2, ([], (0, (pos 0, nan))))
to_parts (number_mark (unsigned n)) = (3, ([], (n, (pos 0, nan))))
to_parts (number_mark (negative z)) = (4, ([], (0, (z, nan))))
to_parts (number_mark (float x)) = (5, ([], (0, (pos 0, x))))
to_parts (string_mark text) = (6, (text, (0, (pos 0, nan))))
to_parts array_mark = (7, ([], (0, (pos 0, nan))))
to_parts no_items_mark = (8, ([], (0, (pos 0, nan))))
to_parts item_mark = (9, ([], (0, (pos 0, nan))))
to_parts object_mark = (10, ([], (0, (pos 0, nan))))
to_parts no_members_mark = (11, ([], (0, (pos 0, nan))))
to_parts (member_mark name) = (12, (name, (0, (pos 0, nan))))

abbrev from_parts : Parts → Mark
from_parts p =
    cond (p.0 == 0) null_mark (cond (p.0 == 1) (boolean_mark false) (cond (p.0 == 2)
    (boolean_mark true)
    (cond (p.0 == 3) (number_mark (unsigned p.1.1.0)) (cond (p.0 == 4) (number_mark
    (negative p.1.1.1.0)) (cond (p.0 == 5) (number_mark (float p.1.1.1.1))
    (cond (p.0 == 6) (string_mark p.1.0) (cond (p.0 == 7) array_mark (cond (p.0 == 8) no_items_mark
    (cond (p.0 == 9) item_mark
    (cond (p.0 == 10) object_mark (cond (p.0 == 11) no_members_mark (member_mark p.1.0))))))))))))

pub from_parts-to_parts : (m : Mark) → from_parts (to_parts m) ≡ m
from_parts-to_parts null_mark = refl
from_parts-to_parts (boolean_mark false) = refl
from_parts-to_parts (boolean_mark true) = refl
from_parts-to_parts (number_mark (unsigned n)) = refl
from_parts-to_parts (number_mark (negative z)) = refl
from_parts-to_parts (number_mark (float x)) = refl
from_parts-to_parts (string_mark text) = refl
from_parts-to_parts array_mark = refl
from_parts-to_parts no_items_mark = refl
from_parts-to_parts item_mark = refl
from_parts-to_parts object_mark = refl
from_parts-to_parts no_members_mark = refl
from_parts-to_parts (member_mark name) = refl

abbrev mark_code : Coded Mark
mark_code =
    code_by Parts (coded× coded_ℕ (coded× (coded_list coded_ℕ) (coded× coded_ℕ
    (coded× coded_ℤ coded_float)))) to_parts from_parts from_parts-to_parts

-- ---- the marks of a value, before the marks of what follows it

abbrev mutual
  pub marks : Data → List Mark → List Mark
  marks null rest = null_mark ∷ rest
  marks (boolean b) rest = boolean_mark b ∷ rest
  marks (number n) rest = number_mark n ∷ rest
  marks (string text) rest = string_mark text ∷ rest
  marks (array items) rest = array_mark ∷ items_marks items rest
  marks (object members) rest = object_mark ∷ members_marks members rest

  pub items_marks : Items → List Mark → List Mark
  items_marks no_items rest = no_items_mark ∷ rest
  items_marks (item value items) rest = item_mark ∷ marks value (items_marks items rest)

  pub members_marks : Members → List Mark → List Mark
  members_marks no_members rest = no_members_mark ∷ rest
  members_marks (member name value members) rest =
      member_mark name ∷ marks value (members_marks members rest)

-- ---- and back, from the last mark to the first, over the values that the later marks gave

pub data Part : Type 0 where
  value_part : Data → Part
  items_part : Items → Part
  members_part : Members → Part

abbrev pub as_value : Part → Data
as_value (value_part value) = value
as_value (items_part _) = null
as_value (members_part _) = null

abbrev pub as_items : Part → Items
as_items (value_part _) = no_items
as_items (items_part items) = items
as_items (members_part _) = no_items

abbrev pub as_members : Part → Members
as_members (value_part _) = no_members
as_members (items_part _) = no_members
as_members (members_part members) = members

abbrev pub first : List Part → Part
first [] = value_part null
first (part ∷ parts) = part

abbrev pub rest_of : List Part → List Part
rest_of [] = []
rest_of (part ∷ parts) = parts

abbrev pub add_mark : Mark → List Part → List Part
add_mark null_mark parts = value_part null ∷ parts
add_mark (boolean_mark b) parts = value_part (boolean b) ∷ parts
add_mark (number_mark n) parts = value_part (number n) ∷ parts
add_mark (string_mark text) parts = value_part (string text) ∷ parts
add_mark array_mark parts = value_part (array (as_items (first parts))) ∷ rest_of parts
add_mark no_items_mark parts = items_part no_items ∷ parts
add_mark item_mark parts =
    items_part (item (as_value (first parts)) (as_items (first (rest_of parts)))) ∷ rest_of
    (rest_of parts)
add_mark object_mark parts = value_part (object (as_members (first parts))) ∷ rest_of parts
add_mark no_members_mark parts = members_part no_members ∷ parts
add_mark (member_mark name) parts =
    members_part (member name (as_value (first parts)) (as_members (first (rest_of parts))))
    ∷ rest_of (rest_of parts)

abbrev pub parts_of : List Mark → List Part
parts_of [] = []
parts_of (mark ∷ marks) = add_mark mark (parts_of marks)

mutual
  pub parts_of-marks : (value : Data) (rest : List Mark)
      → parts_of (marks value rest) ≡ value_part value ∷ parts_of rest
  parts_of-marks null rest = refl
  parts_of-marks (boolean b) rest = refl
  parts_of-marks (number n) rest = refl
  parts_of-marks (string text) rest = refl
  parts_of-marks (array items) rest = ap (add_mark array_mark) (parts_of-items_marks items rest)
  parts_of-marks (object members) rest =
      ap (add_mark object_mark) (parts_of-members_marks members rest)

  pub parts_of-items_marks : (items : Items) (rest : List Mark)
      → parts_of (items_marks items rest) ≡ items_part items ∷ parts_of rest
  parts_of-items_marks no_items rest = refl
  parts_of-items_marks (item value items) rest =
      ap (add_mark item_mark) (parts_of-marks value (items_marks items rest) ∙ ap
      (λ parts. value_part value ∷ parts) (parts_of-items_marks items rest))

  pub parts_of-members_marks : (members : Members) (rest : List Mark)
      → parts_of (members_marks members rest) ≡ members_part members ∷ parts_of rest
  parts_of-members_marks no_members rest = refl
  parts_of-members_marks (member name value members) rest =
      ap (add_mark (member_mark name)) (parts_of-marks value (members_marks members rest) ∙ ap
      (λ parts. value_part value ∷ parts) (parts_of-members_marks members rest))

abbrev pub tree_from : List Mark → Data
tree_from marks = as_value (first (parts_of marks))

pub tree_from-marks : (value : Data) → tree_from (marks value []) ≡ value
tree_from-marks value = ap (λ parts. as_value (first parts)) (parts_of-marks value [])

-- the code of JSON values, for a model whose value holds one
abbrev pub tree_code : Coded Data
tree_code =
    code_by (List Mark) (coded_list mark_code) (λ value. marks value []) tree_from tree_from-marks
