-- What holds of each sign of a name.
use Rattle.std.proofs.Common.{◌≡◌, ℕ, Bool, true, false, not, if◌then◌else◌, List, [], ◌∷◌, length, Option, Some, None, option_map, refl, sym, ap, ◌∙◌, nat_lt, ◌==◌, arith}
use Rattle.std.specs.Prelude.{is_none, position}
use Rattle.std.specs.List.{AllByRecursion}
use Rattle.std.proofs.lemmas.Grind.{common_steps}
use Rattle.an_base.specs.Name.{bad_sign, is_dash, is_name, is_name_sign}
use Rattle.an_base.specs.Outcome.{first_of, when}
use Rattle.an_base.specs.declared.name.NameError.TheVariants.{Empty, Long, Sign}

abbrev bad : ℕ → Bool
bad b = not (is_name_sign b)

none-after : (b : ℕ) (text : List ℕ) → is_name_sign b ≡ true → position bad (b ∷ text) ≡ None
    → position bad text ≡ None
none-after b text is h = let fails : bad b ≡ false = ap not is in grind (arith, common_steps)

none-first : (b : ℕ) (text : List ℕ) → is_name_sign b ≡ false → position bad (b ∷ text) ≡ None → ⊥
none-first b text is h =
    let passes_ : bad b ≡ true = ap not is in
    let first : position bad (b ∷ text) ≡ Some 0 = rw passes_ (grind (arith, common_steps)) in
    let none : ◌≡◌ {A = Option ℕ} None (Some 0) = sym h ∙ first in cc

no_sign : (empty long : Bool) (at : Option ℕ)
    → is_none (first_of (when empty Empty ∷ when long Long ∷ option_map Sign at ∷ [])) ≡ true
    → at ≡ None
no_sign true long at h = absurd (cc)
no_sign false true at h = absurd (cc)
no_sign false false None h = refl
no_sign false false (Some at) h = absurd (cc)

no_bad : (dash : Bool) (at : Option ℕ) → (if dash then Some 0 else at) ≡ None → at ≡ None
no_bad true at h = absurd (cc)
no_bad false at h = h

module _ (Holds : ℕ → Type 0) (of_sign : (b : ℕ) → is_name_sign b ≡ true → Holds b) where
  of_signs : (text : List ℕ) → position bad text ≡ None → AllByRecursion Holds text
  of_signs [] h = tt
  of_signs (b ∷ text) h = by (is_name_sign b) refl (λ later. of_signs text later)
    where
      by : (sign : Bool) → is_name_sign b ≡ sign
          → (position bad text ≡ None → AllByRecursion Holds text) → AllByRecursion Holds (b ∷ text)
      by true is rest = (of_sign b is, rest (none-after b text is h))
      by false is rest = absurd (none-first b text is h)

  pub name-signs : (name : List ℕ) → is_name name ≡ true → AllByRecursion Holds name
  name-signs name h =
      of_signs name (no_bad (is_dash name) (position bad name)
      (no_sign (length name == 0) (nat_lt 64 (length name)) (bad_sign name) h))
