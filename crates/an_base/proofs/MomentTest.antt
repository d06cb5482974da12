-- The test of a moment tells moments.
use Rattle.std.proofs.Common.{◌≡◌, ℤ, pos, negsuc, ◌≤ℤ◌, int_le, Bool, true, false, IsTrue, ◌↔◌, T, refl, sym, subst}
use Rattle.std.proofs.lemmas.Bool.{and_from, and_parts}
use lib.Signed.{le_z_yes}
use Rattle.an_base.specs.Moment.{IsMoment, is_moment}

passed : (b : Bool) → T b → b ≡ true
passed true t = refl
passed false t = absurd t

in_order : (a b : ℤ) → int_le a b ≡ true → a ≤ℤ b
in_order a b e = le_z_yes (subst T (sym e) tt)

pub told : (m : ℤ) → IsTrue (is_moment m) ↔ IsMoment m
unfolding is_moment
told m =
    let first : ℤ = negsuc 62_167_219_199 in
    let last : ℤ = pos 253_402_300_799 in (
      λ is.
          let parts = and_parts (int_le first m) _ is in
          (in_order first m parts.0, in_order m last parts.1),
      λ is. and_from _ _ (passed (int_le first m) is.0.le) (passed (int_le m last) is.1.le),
    )
