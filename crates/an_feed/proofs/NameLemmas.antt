-- The signs of a name are ASCII, and none is a slash.
use Rattle.std.proofs.Common.{◌≡◌, ℕ, ◌<◌, true, List, [], ◌∷◌, sym, ap, ◌∙◌, arith, IsAscii}
use Rattle.std.specs.Prelude.{◌≢◌}
use Rattle.std.specs.List.{AllByRecursion}
use Rattle.std.proofs.lemmas.Bool.{false≢true}
use Rattle.std.proofs.lemmas.Bool.Decides.{nat_tests}
use Rattle.std.proofs.lemmas.Str.Ascii.{IsAscii-nil, IsAscii-cons}
use Rattle.an_base.specs.Name.{is_name, is_name_sign}
use Rattle.an_base.proofs.NameLemmas.{name-signs}

abbrev pub NoSlash : List ℕ → Type 0
NoSlash text = AllByRecursion (λ b. b ≢ 47) text

sign-apart : (b : ℕ) → is_name_sign b ≡ true → b ≢ 47
sign-apart b h e = absurd (false≢true (ap is_name_sign (sym e) ∙ h))

pub name-apart : (text : List ℕ) → is_name text ≡ true → NoSlash text
name-apart = name-signs (λ b. b ≢ 47) sign-apart

sign-ascii : (b : ℕ) → is_name_sign b ≡ true → b < 128
sign-ascii b h = grind (arith, nat_tests)

pub name-ascii : (text : List ℕ) → is_name text ≡ true → IsAscii text
name-ascii text h = all-ascii text (name-signs (λ b. b < 128) sign-ascii text h)
  where
    all-ascii : (text : List ℕ) → AllByRecursion (λ b. b < 128) text → IsAscii text
    all-ascii [] h = IsAscii-nil
    all-ascii (b ∷ text) h = IsAscii-cons b text h.0 (all-ascii text h.1)
