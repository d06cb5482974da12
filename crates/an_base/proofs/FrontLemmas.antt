-- A text cut at its front.
use Rattle.std.proofs.Common.{◌≡◌, ℕ, Bool, true, false, if◌then◌else◌, ◌&&◌, List, [], ◌∷◌, ◌++◌, length, drop, eq-eqb, Bor, Option, Some, None, MatchOption, refl, sym, ap, ◌∙◌, subst, arith}
use Rattle.std.proofs.lemmas.Bool.{cond-true, cond-false}
use Rattle.std.proofs.lemmas.Bool.Decides.{nat_tests}
use Rattle.std.proofs.lemmas.Str.Pattern.{starts_text}
use Rattle.std.proofs.Math.Seq.{drop-append_seam}
use Rattle.std.specs.List.{starts_with}
use Rattle.std.specs.Prelude.{nat_eq, option_map}
use Rattle.std.specs.Str.{IsCharBoundary}
use Rattle.std.specs.Str.Pattern.{FindsTextPrefix, StripsPrefix}
use Rattle.an_base.specs.Front.{after_front}

-- what `strip_prefix` leaves
pub front-stripped : (front text : List ℕ) (r : Option (Bor (List ℕ)))
    → MatchOption r (FindsTextPrefix front text None)
    (λ x. StripsPrefix (FindsTextPrefix front) text x.now)
    → option_map (λ s. s.now) r ≡ after_front front text
front-stripped front text None h = sym (cond-false _ _ _ (sym (starts_text false front text h)))
front-stripped front text (Some x) (n, found, rest, size) =
    let starts =
    starts_text true front text (n, found, subst (IsCharBoundary text) (sym found.0) found.2) in
    ap Some (rest ∙ ap (λ k. drop k text) found.0) ∙ sym (cond-true _ _ _ (sym starts))

-- after a front that stands there
starts-there : (front rest : List ℕ) → starts_with nat_eq (front ++ rest) front ≡ true
starts-there [] rest = refl
starts-there (b ∷ front) rest = rw (eq-eqb b b refl) (starts-there front rest)

pub front-there : (front rest : List ℕ) → after_front front (front ++ rest) ≡ Some rest
front-there front rest =
    ap (λ (b : Bool). if b then Some (drop (length front) (front ++ rest)) else None)
    (starts-there front rest)
    ∙ ap Some (drop-append_seam front rest)

-- what stands after a front is all but the front
pub front-cut : (front text rest : List ℕ) → after_front front text ≡ Some rest
    → text ≡ front ++ rest
front-cut [] text rest is = cc is
front-cut (b ∷ front) [] rest is = absurd (cc is)
front-cut (b ∷ front) (c ∷ text) rest is = by (nat_eq b c) refl is (front-cut front text rest)
  where
    by : (same : Bool) → nat_eq b c ≡ same
        → (if same && starts_with nat_eq text front then Some (drop (length front) text) else None)
        ≡ Some rest
        → (after_front front text ≡ Some rest → text ≡ front ++ rest)
        → c ∷ text ≡ b ∷ (front ++ rest)
    by true same is cut =
        let equal : c ≡ b = grind (arith, nat_tests, same) in
        ap (λ c. c ∷ text) equal ∙ ap (λ t. b ∷ t) (cut is)
    by false same is cut = absurd (cc is)
