-- What all of a list have.
use Rattle.std.proofs.Common.{◌≡◌, Bool, true, List, [], ◌∷◌, ◌++◌, All, arith}
use Rattle.std.specs.List.{list_all}
use Rattle.std.proofs.lemmas.Bool.{and_parts}
use Rattle.std.proofs.lemmas.List.Elements.{All-cons, All-head, All-tail}

pub All-nil : {A : Type 0} (P : A → Type 0) → All P []
All-nil P k d h = absurd (omega arith)

-- what all have and pass gives
pub All-weaker : {A : Type 0} (p : A → Bool) (P Q : A → Type 0) (xs : List A)
    → ((x : A) → p x ≡ true → P x → Q x) → list_all p xs ≡ true → All P xs → All Q xs
All-weaker p P Q [] gives passes all = All-nil Q
All-weaker p P Q (x ∷ xs) gives passes all =
    let parts = and_parts (p x) _ passes in
    All-cons Q x xs (gives x parts.0 (All-head P x xs all))
    (All-weaker p P Q xs gives parts.1 (All-tail P x xs all))

-- the same with no test
pub All-gives : {A : Type 0} (P Q : A → Type 0) (xs : List A) → ((x : A) → P x → Q x) → All P xs
    → All Q xs
All-gives P Q [] gives all = All-nil Q
All-gives P Q (x ∷ xs) gives all =
    All-cons Q x xs (gives x (All-head P x xs all)) (All-gives P Q xs gives (All-tail P x xs all))

-- what all of two lists have
pub All-front : {A : Type 0} (P : A → Type 0) (xs ys : List A) → All P (xs ++ ys) → All P xs
All-front P [] ys all = All-nil P
All-front P (x ∷ xs) ys all =
    All-cons P x xs (All-head P x (xs ++ ys) all) (All-front P xs ys (All-tail P x (xs ++ ys) all))

pub All-back : {A : Type 0} (P : A → Type 0) (xs ys : List A) → All P (xs ++ ys) → All P ys
All-back P [] ys all = all
All-back P (x ∷ xs) ys all = All-back P xs ys (All-tail P x (xs ++ ys) all)
