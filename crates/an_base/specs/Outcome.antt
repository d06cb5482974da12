-- How a definition says which of several refusals comes, and how a contract ties a call to a
-- definition.
use Rattle.std.specs.Prelude.{◌≡◌, Bool, false, List, [], ◌∷◌, if◌then◌else◌, Option, Some, None}
use Rattle.std.specs.Prelude.{Result, Ok, Err, MatchResult}

-- the refusal, where its cause holds
abbrev pub when : {E : Type 0} → Bool → E → Option E
when cause refusal = if cause then Some refusal else None

-- the first refusal of a list: the order of the list is the order of the refusals
abbrev pub first_of : {E : Type 0} → List (Option E) → Option E
first_of [] = None
first_of (None ∷ refusals) = first_of refusals
first_of (Some refusal ∷ refusals) = Some refusal

-- the value, unless there is a refusal
abbrev pub unless : {A E : Type 0} → Option E → A → Result A E
unless None value = Ok value
unless (Some refusal) value = Err refusal

-- the value, where it passes the test
abbrev pub only_if : {A : Type 0} → (A → Bool) → A → Option A
only_if test value = if test value then Some value else None

-- there is a value, and it passes the test
abbrev pub passes : {A : Type 0} → (A → Bool) → Option A → Bool
passes test None = false
passes test (Some value) = test value

-- what comes of the value, or this refusal where there is none
abbrev pub or_refuse : {A B E : Type 0} → E → Option A → (A → Result B E) → Result B E
or_refuse refusal None next = Err refusal
or_refuse refusal (Some value) next = next value

-- The call gives what the definition means. Want of memory alone may stand in place of any answer.
abbrev pub Gives : {A B E : Type 0} → (A → B) → E → Result A E → Result B E → Type 0
Gives view memory result meant =
    MatchResult result (λ x. meant ≡ Ok (view x)) (λ e. ¬ (e ≡ memory) → meant ≡ Err e)
