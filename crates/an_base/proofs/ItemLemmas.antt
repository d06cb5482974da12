-- The items of an array, beside the values that stand for them.
use Rattle.std.proofs.Common.{◌≡◌, suc, ◌+◌, Bool, not, nat_lt, if◌then◌else◌, List, [], ◌∷◌, length, map, Some, None, refl, ap, ap₂}
use Rattle.std.specs.List.{position, prefix_len}
use Rattle.serde_json.specs.Data.{Data}
use Rattle.serde_json.specs.View.{view, items_view}
use Rattle.serde_json.specs.declared.value.Value.{Value}
use Rattle.an_base.specs.Items.{items_list, first_bad}

pub items_list-items_view : (values : List Value) → items_list (items_view values) ≡ map view values
items_list-items_view [] = refl
items_list-items_view (value ∷ values) =
    ap (λ rest. view value ∷ rest) (items_list-items_view values)

pub ruleset listing = (items_list-items_view)

-- ---- the first item that fails a test

prefix_len-items : (p : Data → Bool) (values : List Value)
    → prefix_len p (items_list (items_view values)) ≡ prefix_len (λ v. p (view v)) values
prefix_len-items p [] = refl
prefix_len-items p (value ∷ values) =
    ap (λ n. if p (view value) then 1 + n else 0) (prefix_len-items p values)

length-items : (values : List Value) → length (items_list (items_view values)) ≡ length values
length-items [] = refl
length-items (value ∷ values) = ap suc (length-items values)

-- the place among the values is the place among the items
pub first_bad-items_view : (test : Data → Bool) (values : List Value)
    → first_bad test (items_view values) ≡ position (λ v. not (test (view v))) values
first_bad-items_view test values =
    ap₂ (λ n size. if nat_lt n size then Some n else None)
    (prefix_len-items (λ tree. not (not (test tree))) values) (length-items values)
