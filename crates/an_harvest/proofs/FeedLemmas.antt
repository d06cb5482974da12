-- What an activity leaves is there where it is an activity.
use Rattle.std.proofs.Common.{◌≡◌, Option, Some, None, refl, sym, ap, ◌∙◌}
use Rattle.std.specs.Prelude.{option_map, is_some}

-- a view of what there may be is there where it is
pub is_some-map : {A B : Type 0} (f : A → B) (o : Option A) → is_some (option_map f o) ≡ is_some o
is_some-map f None = refl
is_some-map f (Some x) = refl

pub same_some : {A B C : Type 0} (f : A → C) (g : B → C) (o : Option A) (p : Option B)
    → option_map f o ≡ option_map g p → is_some o ≡ is_some p
same_some f g o p same = sym (is_some-map f o) ∙ ap is_some same ∙ is_some-map g p

pub ruleset leaves = (same_some)
