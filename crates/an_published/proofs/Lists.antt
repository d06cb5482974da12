-- Beginnings of one list, and items that stand in a list.
use Rattle.std.proofs.Common.{◌≡◌, ◌≤◌, List, [], ◌∷◌, ◌++◌, length, refl, ap, sym, ◌∙◌, subst, inl, inr, ⊎_elim, arith, append_assoc}
use mathlib.Core.List.{IsPrefix}
use Rattle.an_published.specs.Lists.{Stands, last_of}

module _ {A : Type 0} where
  pub prefix_nil : (xs : List A) → IsPrefix [] xs
  prefix_nil xs = (xs, refl)

  pub prefix_self : (xs : List A) → IsPrefix xs xs
  prefix_self [] = ([], refl)
  prefix_self (x ∷ xs) = ((prefix_self xs).0, ap (λ ys. x ∷ ys) (prefix_self xs).1)

  pub prefix_more : (xs ys : List A) → IsPrefix xs (xs ++ ys)
  prefix_more xs ys = (ys, refl)

  pub prefix_trans : (xs ys zs : List A) → IsPrefix xs ys → IsPrefix ys zs → IsPrefix xs zs
  prefix_trans xs ys zs p q =
      (p.0 ++ q.0, sym (append_assoc xs p.0 q.0) ∙ (ap (λ w. w ++ q.0) p.1 ∙ q.1))

  pub prefix_shorter : (xs ys zs : List A) → IsPrefix xs zs → IsPrefix ys zs → length xs ≤ length ys
      → IsPrefix xs ys
  prefix_shorter [] ys zs p q le = (ys, refl)
  prefix_shorter (x ∷ xs) [] zs p q le = absurd (omega arith)
  prefix_shorter (x ∷ xs) (y ∷ ys) [] p q le = absurd (cc (p.1))
  prefix_shorter (x ∷ xs) (y ∷ ys) (z ∷ zs) p q le =
      let heads : x ≡ y = cc (p.1, q.1) in
      let rest = prefix_shorter xs ys zs (p.0, cc (p.1)) (q.0, cc (q.1)) (omega arith) in
      (rest.0, cc (heads, rest.1))

  pub prefix_whole : (xs ys : List A) → IsPrefix xs ys → length ys ≤ length xs → xs ≡ ys
  prefix_whole [] [] p le = refl
  prefix_whole [] (y ∷ ys) p le = absurd (omega arith)
  prefix_whole (x ∷ xs) [] p le = absurd (cc (p.1))
  prefix_whole (x ∷ xs) (y ∷ ys) p le =
      let rest = prefix_whole xs ys (p.0, cc (p.1)) (omega arith) in cc (p.1, rest)

  pub stands_more : (xs ys zs : List A) → Stands xs ys → Stands xs (ys ++ zs)
  stands_more [] ys zs s = tt
  stands_more (x ∷ xs) [] zs s = absurd s
  stands_more (x ∷ xs) (y ∷ ys) zs s =
      ⊎_elim (λ (t : (x ≡ y) × Stands xs ys). inl (t.0, stands_more xs ys zs t.1))
      (λ (t : Stands (x ∷ xs) ys). inr (stands_more (x ∷ xs) ys zs t)) s

  pub stands_here : (xs : List A) (y : A) → Stands (y ∷ []) (xs ++ y ∷ [])
  stands_here [] y = inl (refl, tt)
  stands_here (x ∷ xs) y = inr (stands_here xs y)

  pub stands_last : (xs ys : List A) (e : A) → Stands xs ys → Stands (xs ++ e ∷ []) (ys ++ e ∷ [])
  stands_last [] ys e s = stands_here ys e
  stands_last (x ∷ xs) [] e s = absurd s
  stands_last (x ∷ xs) (y ∷ ys) e s =
      ⊎_elim (λ (t : (x ≡ y) × Stands xs ys). inl (t.0, stands_last xs ys e t.1))
      (λ (t : Stands (x ∷ xs) ys). inr (stands_last (x ∷ xs) ys e t)) s

  pub stands_longer : (xs ys zs : List A) → Stands xs ys → IsPrefix ys zs → Stands xs zs
  stands_longer xs ys zs s p = subst (λ (l : List A). Stands xs l) p.1 (stands_more xs ys p.0 s)

  pub last_of-push : (xs : List A) (x : A) → last_of (xs ++ x ∷ []) ≡ x ∷ []
  last_of-push [] x = refl
  last_of-push (y ∷ []) x = refl
  last_of-push (y ∷ z ∷ xs) x = last_of-push (z ∷ xs) x

  pub prefix_alike : (xs ys zs : List A) → IsPrefix xs zs → IsPrefix ys zs → length xs ≡ length ys
      → xs ≡ ys
  prefix_alike xs ys zs p q e =
      prefix_whole xs ys (prefix_shorter xs ys zs p q (omega (arith, e))) (omega (arith, e))
