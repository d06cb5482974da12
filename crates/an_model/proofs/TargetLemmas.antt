-- What the tests of targets and selectors say.
use Rattle.std.proofs.Common.{◌≡◌, ◌==◌, List, [], ◌∷◌, length, Bool, true, false, not, Option, Some, None, Result, Ok, Err, is_none, is_some, refl, true≢false, arith}
use Rattle.std.proofs.lemmas.Bool.Decides.{nat_tests}
use Rattle.std.specs.Result.{result_ok, result_err}
use Rattle.serde_json.specs.View.{items_view}
use Rattle.serde_json.specs.declared.value.Value.{Value}
use Rattle.an_model.specs.Targets.{is_empty}

-- there is no refusal exactly where there is a value
pub is_none-result_err : {A E : Type 0} (r : Result A E)
    → is_none (result_err r) ≡ is_some (result_ok r)
is_none-result_err (Ok x) = refl
is_none-result_err (Err e) = refl

-- what `is_none` says, the other way round
pub is_none-from_not : {A : Type 0} (o : Option A) (answer : Bool) → is_some o ≡ not answer
    → answer ≡ is_none o
is_none-from_not None true h = refl
is_none-from_not None false h = h
is_none-from_not (Some x) true h = absurd (true≢false h)
is_none-from_not (Some x) false h = refl

pub is_empty-items_view : (values : List Value)
    → is_empty (items_view values) ≡ (length values == 0)
is_empty-items_view [] = refl
is_empty-items_view (value ∷ values) = grind (arith, nat_tests)
