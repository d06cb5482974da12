-- The nearest of places is the one that a walk over them keeps.
use Rattle.std.proofs.Common.{◌≡◌, ℕ, ◌<◌, ◌≤◌, List, [], ◌∷◌, ◌++◌, Bool, true, false, cond, ◌&&◌, Some, refl, sym, ap, ◌∙◌, arith, append_assoc, append-nil}
use Rattle.std.proofs.lemmas.Bool.Decides.{nat_tests}
use Rattle.std.specs.Prelude.{find, fold, nat_le, nat_lt, ⊤}
use Rattle.std.specs.List.{list_all}
use Rattle.an_anchor.specs.Resolve.{distance, is_nearest, nearer, nearest}
use Rattle.an_anchor.specs.declared.anchored.AnchorPlace.{AnchorPlace}

-- each begins at least so far away, or further
abbrev AtLeast : ℕ → ℕ → List AnchorPlace → Type 0
AtLeast start n [] = ⊤
AtLeast start n (x ∷ xs) = (n ≤ distance start x) × AtLeast start n xs

abbrev Beyond : ℕ → ℕ → List AnchorPlace → Type 0
Beyond start n [] = ⊤
Beyond start n (x ∷ xs) = (n < distance start x) × Beyond start n xs

fails-at : (p : AnchorPlace → Bool) (xs : List AnchorPlace) (y : AnchorPlace)
    (ys : List AnchorPlace) → p y ≡ false → list_all p (xs ++ y ∷ ys) ≡ false
fails-at p [] y ys h = rw h refl
fails-at p (x ∷ xs) y ys h = ap (λ b. p x && b) (fails-at p xs y ys h) ∙ none (p x)
  where
    none : (b : Bool) → (b && false) ≡ false
    none true = refl
    none false = refl

module _ (start : ℕ) where
  all-least : (n : ℕ) (xs : List AnchorPlace) → AtLeast start n xs
      → list_all (λ o. nat_le n (distance start o)) xs ≡ true
  all-least n [] h = refl
  all-least n (x ∷ xs) h =
      let here : nat_le n (distance start x) ≡ true = grind (arith, nat_tests, h.0) in
      rw here (all-least n xs h.1)

  weaker : (n m : ℕ) (xs : List AnchorPlace) → m ≤ n → Beyond start n xs → AtLeast start m xs
  weaker n m [] le h = tt
  weaker n m (x ∷ xs) le h = (omega (arith, h.0, le), weaker n m xs le h.1)

  closer : (n m : ℕ) (xs : List AnchorPlace) → m < n → AtLeast start n xs → Beyond start m xs
  closer n m [] lt h = tt
  closer n m (x ∷ xs) lt h = (omega (arith, h.0, lt), closer n m xs lt h.1)

  nearer-beyond : (n m : ℕ) (xs : List AnchorPlace) → m ≤ n → Beyond start n xs → Beyond start m xs
  nearer-beyond n m [] le h = tt
  nearer-beyond n m (x ∷ xs) le h = (omega (arith, h.0, le), nearer-beyond n m xs le h.1)

  beyond-append : (n : ℕ) (xs ys : List AnchorPlace) → Beyond start n xs → Beyond start n ys
      → Beyond start n (xs ++ ys)
  beyond-append n [] ys h k = k
  beyond-append n (x ∷ xs) ys h k = (h.0, beyond-append n xs ys h.1 k)

  least-append : (n : ℕ) (xs ys : List AnchorPlace) → AtLeast start n xs → AtLeast start n ys
      → AtLeast start n (xs ++ ys)
  least-append n [] ys h k = k
  least-append n (x ∷ xs) ys h k = (h.0, least-append n xs ys h.1 k)

  -- past those that begin further away than a place that is there
  skipped : (all : List AnchorPlace) (n : ℕ) (xs ys : List AnchorPlace) → Beyond start n xs
      → ((x : AnchorPlace) → n < distance start x → is_nearest start all x ≡ false)
      → find (is_nearest start all) (xs ++ ys) ≡ find (is_nearest start all) ys
  skipped all n [] ys h fails = refl
  skipped all n (x ∷ xs) ys h fails =
      ap (λ b. cond b (Some x) (find (is_nearest start all) (xs ++ ys))) (fails x h.0)
      ∙ skipped all n xs ys h.1 fails

  best : (before : List AnchorPlace) (one : AnchorPlace) (after : List AnchorPlace)
      → Beyond start (distance start one) before → AtLeast start (distance start one) after
      → nearest start (before ++ one ∷ after) ≡ Some one
  best before one after further least =
      let n = distance start one in
      let all = before ++ one ∷ after in
      let itself : n ≤ n = omega arith in
      let passes : is_nearest start all one ≡ true =
      all-least n all
      (least-append n before (one ∷ after) (weaker n n before itself further) (itself, least)) in
      skipped all n before (one ∷ after) further (λ x over.
      fails-at (λ o. nat_le (distance start x) (distance start o)) before one after
      (grind (arith, nat_tests, over)))
      ∙ ap (λ b. cond b (Some one) (find (is_nearest start all) after)) passes

  walked : (before : List AnchorPlace) (one : AnchorPlace) (after others : List AnchorPlace)
      → Beyond start (distance start one) before → AtLeast start (distance start one) after
      → nearest start (before ++ one ∷ (after ++ others)) ≡ Some (fold (nearer start) one others)
  walked before one after [] further least =
      ap (λ l. nearest start (before ++ one ∷ l)) (append-nil after)
      ∙ best before one after further least
  walked before one after (other ∷ others) further least =
      by (λ front kept back over under. walked front kept back others over under)
      (nat_lt (distance start other) (distance start one)) refl
    where
      moved : before ++ one ∷ (after ++ other ∷ others)
          ≡ before ++ one ∷ ((after ++ other ∷ []) ++ others)
      moved = ap (λ l. before ++ one ∷ l) (sym (append_assoc after (other ∷ []) others))

      taken : before ++ one ∷ (after ++ other ∷ others) ≡ (before ++ one ∷ after) ++ other ∷ others
      taken = sym (append_assoc before (one ∷ after) (other ∷ others))

      by : ((front : List AnchorPlace) (kept : AnchorPlace) (back : List AnchorPlace)
          → Beyond start (distance start kept) front → AtLeast start (distance start kept) back
          → nearest start (front ++ kept ∷ (back ++ others))
          ≡ Some (fold (nearer start) kept others))
          → (b : Bool) → nat_lt (distance start other) (distance start one) ≡ b
          → nearest start (before ++ one ∷ (after ++ other ∷ others))
          ≡ Some (fold (nearer start) (cond b other one) others)
      by next true is =
          let lt : distance start other < distance start one = grind (arith, nat_tests, is) in
          let le : distance start other ≤ distance start one = omega (arith, lt) in
          let further' =
          beyond-append (distance start other) before (one ∷ after)
          (nearer-beyond (distance start one) (distance start other) before le further)
          (lt, closer (distance start one) (distance start other) after lt least) in
          ap (nearest start) taken ∙ next (before ++ one ∷ after) other [] further' tt
      by next false is =
          let le : distance start one ≤ distance start other = grind (arith, nat_tests, is) in
          ap (nearest start) moved
          ∙ next before one (after ++ other ∷ []) further
          (least-append (distance start one) after (other ∷ []) least (le, tt))

  -- the walk from the first place on keeps it
  pub nearest-walked : (first : AnchorPlace) (others : List AnchorPlace)
      → nearest start (first ∷ others) ≡ Some (fold (nearer start) first others)
  nearest-walked first others = walked [] first [] others tt tt

pub ruleset walks = (nearest-walked)
