-- Which items of a list stand on a page, when the list grows.
use Rattle.std.proofs.Common.{◌≡◌, ℕ, ◌+◌, ◌<◌, ◌≤◌, List, [], ◌∷◌, ◌++◌, length, take, drop, Bool, true, false, ◌&&◌, refl, sym, ap, ◌∙◌, arith, append-nil, length-append}
use Rattle.std.proofs.lemmas.Bool.Decides.{nat_tests}
use Rattle.std.proofs.lemmas.List.{drop-append-le, drop_all, length-drop, take-append-le, take_all}
use Rattle.std.specs.Prelude.{nat_lt}

module _ {A : Type 0} (start size : ℕ) where
  abbrev pub window : List A → List A
  window xs = take size (drop start xs)

  -- one more, which stands on the page
  pub window-shown : (xs : List A) (x : A) → start ≤ length xs → length xs < start + size
      → window (xs ++ x ∷ []) ≡ window xs ++ x ∷ []
  window-shown xs x from to =
      let rest = length-drop start xs in
      let more = length-append (drop start xs) (x ∷ []) in
      let few : length (drop start xs) ≤ size = omega (arith, rest, from, to) in
      let fits : length (drop start xs ++ x ∷ []) ≤ size = omega (arith, rest, more, from, to) in
      ap (take size) (drop-append-le start xs (x ∷ []) from)
      ∙ take_all size (drop start xs ++ x ∷ []) fits
      ∙ ap (λ front. front ++ x ∷ []) (sym (take_all size (drop start xs) few))

  empty : (ys : List A) → length ys ≤ 0 → ys ≡ []
  empty [] none = refl
  empty (y ∷ ys) none = absurd (omega (arith, none))

  -- more, of which none does
  pub window-passed : (xs ys : List A)
      → (nat_lt 0 (length ys) && nat_lt start (length xs + length ys)
      && nat_lt (length xs) (start + size)) ≡ false
      → window (xs ++ ys) ≡ window xs
  window-passed xs ys off =
      by (nat_lt 0 (length ys)) (nat_lt start (length xs + length ys))
      (nat_lt (length xs) (start + size)) refl refl refl off
    where
      by : (some late early : Bool) → nat_lt 0 (length ys) ≡ some
          → nat_lt start (length xs + length ys) ≡ late → nat_lt (length xs) (start + size) ≡ early
          → (some && late && early) ≡ false → window (xs ++ ys) ≡ window xs
      by false late early none b c off =
          let nothing : length ys ≤ 0 = grind (arith, nat_tests, none) in
          ap (λ more. window (xs ++ more)) (empty ys nothing) ∙ ap window (append-nil xs)
      by true false early a before c off =
          let past : length xs + length ys ≤ start = grind (arith, nat_tests, before) in
          let all : length (xs ++ ys) ≤ start = omega (arith, length-append xs ys, past) in
          let first : length xs ≤ start = omega (arith, past) in
          ap (take size) (drop_all start (xs ++ ys) all ∙ sym (drop_all start xs first))
      by true true false a b after off =
          let full : start + size ≤ length xs = grind (arith, nat_tests, after) in
          let from : start ≤ length xs = omega (arith, full) in
          let enough : size ≤ length (drop start xs) = omega (arith, length-drop start xs, full) in
          ap (take size) (drop-append-le start xs ys from)
          ∙ take-append-le size (drop start xs) ys enough
      by true true true a b c off = absurd (cc off)
