-- The order of cells, and where a cell stands among cells in ascending order.
use Rattle.std.proofs.Common.{◌≡◌, ℕ, zero, suc, ◌+◌, ◌<◌, ◌≤◌, Bool, true, false, cond, not, List, [], ◌∷◌, length, get_or, refl, sym, ap, ◌∙◌, arith, add-one, ⊎_elim, Option, Some, None, slice_get}
use Rattle.std.specs.List.{prefix_len, list_all, filter, insert, remove, slice_set}
use Rattle.std.specs.List.Sorted.{IsPartitionedBy, IsPartitionPoint}
use Rattle.std.proofs.lemmas.Bool.{and_parts, and_from, cases_lt}
use Rattle.std.proofs.lemmas.Bool.Decides.{nat_tests}
use Rattle.std.proofs.lemmas.List.Sums.{prefix_len-le-length, prefix_len_passes, prefix_len_stops}
use Rattle.an_base.specs.Outcome.{passes}
use Rattle.an_keep.specs.declared.cell.Cell.{Cell}
use Rattle.an_keep.specs.declared.cell.Change.{Change}
use Rattle.an_keep.specs.Cells.{comes_before, is_at, is_before, is_behind, Ascend, put_cell, take_cell, put_change, put_changes, next_after}

-- ---- the order of two tables and keys

pub before-trans : (a b c d e f : ℕ) → comes_before a b c d ≡ true → comes_before c d e f ≡ true
    → comes_before a b e f ≡ true
before-trans a b c d e f h k = grind (arith, nat_tests)

pub before-not_behind : (a b c d : ℕ) → comes_before a b c d ≡ true → comes_before c d a b ≡ false
before-not_behind a b c d h = grind (arith, nat_tests)

at-not_behind : (tab key : ℕ) (cell : Cell) → is_at tab key cell ≡ true
    → is_behind tab key cell ≡ false
at-not_behind tab key cell h = grind (arith, nat_tests)

pub before-not_at : (tab key : ℕ) (cell : Cell) → is_before tab key cell ≡ true
    → is_at tab key cell ≡ false
before-not_at tab key cell h = grind (arith, nat_tests)

pub behind-not_at : (tab key : ℕ) (cell : Cell) → is_behind tab key cell ≡ true
    → is_at tab key cell ≡ false
behind-not_at tab key cell h = grind (arith, nat_tests)

else-behind : (tab key : ℕ) (cell : Cell) → is_before tab key cell ≡ false
    → is_at tab key cell ≡ false → is_behind tab key cell ≡ true
else-behind tab key cell h k = grind (arith, nat_tests)

-- what comes behind a cell at a place comes behind the place
at-behind : (tab key : ℕ) (cell other : Cell) → is_at tab key cell ≡ true
    → is_behind cell.tab cell.key other ≡ true → is_behind tab key other ≡ true
at-behind tab key cell other h k = grind (arith, nat_tests)

-- ---- the part of cells that comes before a place

-- what all have, each has
all_at : {X : Type 0} (p : X → Bool) (xs : List X) (j : ℕ) (d : X) → list_all p xs ≡ true
    → j < length xs → p (get_or xs j d) ≡ true
all_at p [] j d h k = absurd (omega arith)
all_at p (x ∷ xs) zero d h k = (and_parts (p x) _ h).0
all_at p (x ∷ xs) (suc j) d h k = all_at p xs j d (and_parts (p x) _ h).1 (omega arith)

-- the cells that come before a place stand before the others
pub parted : (tab key : ℕ) (cells : List Cell) → Ascend cells
    → IsPartitionedBy (is_before tab key) cells
parted tab key [] h i j d le lt is = absurd (omega arith)
parted tab key (first ∷ cells) h zero zero d le lt is = is
parted tab key (first ∷ cells) h (suc i) zero d le lt is = absurd (omega arith)
parted tab key (first ∷ cells) h zero (suc j) d le lt is =
    let behind =
    all_at (is_behind first.tab first.key) cells j d
    (and_parts (list_all (is_behind first.tab first.key) cells) _ h).0 (omega arith) in
    before-trans first.tab first.key (get_or cells j d).tab (get_or cells j d).key tab key behind is
parted tab key (first ∷ cells) h (suc i) (suc j) d le lt is =
    parted tab key cells (and_parts (list_all (is_behind first.tab first.key) cells) _ h).1 i j d
    (omega arith) (omega arith) is

-- where a test splits a list in two, the first part is as long as the front that passes it
pub prefix-is_place : {X : Type 0} (p : X → Bool) (xs : List X) (i : ℕ) → i ≤ length xs
    → IsPartitionPoint (λ x. p x ≡ true) (λ x. p x ≡ false) xs i → i ≡ prefix_len p xs
prefix-is_place p [] i within parts = omega arith
prefix-is_place p (x ∷ xs) i within parts =
    let front = prefix_len p (x ∷ xs) in
    ⊎_elim
    (λ (short : i < front).
    let yes = prefix_len_passes p (x ∷ xs) i x short in
    let no = parts.1 i x (omega arith) (omega (arith, prefix_len-le-length p (x ∷ xs))) in
    cc (yes, no))
    (λ (long : front ≤ i).
    ⊎_elim
    (λ (more : front < i).
    let no = prefix_len_stops p (x ∷ xs) x (omega arith) in
    let yes = parts.0 front x (omega arith) more in
    cc (yes, no))
    (λ (is : i ≤ front). omega arith)
    (cases_lt front i))
    (cases_lt i front)

-- ---- what stands at a place

-- what has one thing has another, so where all have the one, all have the other
pub all-mono : {X : Type 0} (p q : X → Bool) (xs : List X) → ((x : X) → p x ≡ true → q x ≡ true)
    → list_all p xs ≡ true → list_all q xs ≡ true
all-mono p q [] is h = refl
all-mono p q (x ∷ xs) is h =
    let parts = and_parts (p x) (list_all p xs) h in
    and_from (q x) (list_all q xs) (is x parts.0) (all-mono p q xs is parts.1)

pub all-filter : {X : Type 0} (p q : X → Bool) (xs : List X) → list_all p xs ≡ true
    → list_all p (filter q xs) ≡ true
all-filter p q [] h = refl
all-filter p q (x ∷ xs) h = by (q x) refl (all-filter p q xs (and_parts (p x) (list_all p xs) h).1)
  where
    by : (b : Bool) → q x ≡ b → list_all p (filter q xs) ≡ true
        → list_all p (filter q (x ∷ xs)) ≡ true
    by true e rest = rw e (and_from (p x) _ (and_parts (p x) (list_all p xs) h).0 rest)
    by false e rest = rw e rest

-- a filter keeps all that pass
pub filter-all : {X : Type 0} (p : X → Bool) (xs : List X) → list_all p xs ≡ true → filter p xs ≡ xs
filter-all p [] h = refl
filter-all p (x ∷ xs) h =
    let parts = and_parts (p x) (list_all p xs) h in
    rw parts.0 (ap (λ ys. x ∷ ys) (filter-all p xs parts.1))

pub prefix-more : {X : Type 0} (p : X → Bool) (x : X) (xs : List X) → p x ≡ true
    → prefix_len p (x ∷ xs) ≡ suc (prefix_len p xs)
prefix-more p x xs h = rw h (omega arith)

pub prefix-none : {X : Type 0} (p : X → Bool) (x : X) (xs : List X) → p x ≡ false
    → prefix_len p (x ∷ xs) ≡ 0
prefix-none p x xs h = rw h refl

cons-cond : {X : Type 0} (x : X) (b : Bool) (ys zs : List X)
    → (x ∷ cond b ys zs) ≡ cond b (x ∷ ys) (x ∷ zs)
cons-cond x true ys zs = refl
cons-cond x false ys zs = refl

module _ (tab key : ℕ) where
  -- how many cells come before the place
  abbrev pub place : List Cell → ℕ
  place cells = prefix_len (is_before tab key) cells

  -- whether the cell behind them is at the place
  abbrev pub is_there : List Cell → Bool
  is_there cells = passes (is_at tab key) (slice_get cells (place cells))

  -- what comes behind a cell that doesn't come before the place comes behind the place
  pub all_behind : (first : Cell) (cells : List Cell) → is_before tab key first ≡ false
      → Ascend (first ∷ cells) → list_all (is_behind tab key) cells ≡ true
  all_behind first cells e h =
      all-mono (is_behind first.tab first.key) (is_behind tab key) cells
      (λ other k. by other k (is_at tab key first) refl)
      (and_parts (list_all (is_behind first.tab first.key) cells) _ h).0
    where
      by : (other : Cell) → is_behind first.tab first.key other ≡ true → (b : Bool)
          → is_at tab key first ≡ b → is_behind tab key other ≡ true
      by other k true at = at-behind tab key first other at k
      by other k false off =
          before-trans tab key first.tab first.key other.tab other.key
          (else-behind tab key first e off) k

  first_behind : (cells : List Cell) → list_all (is_behind tab key) cells ≡ true
      → next_after tab key cells ≡ slice_get cells 0
  first_behind [] h = refl
  first_behind (first ∷ cells) h = rw (and_parts (is_behind tab key first) _ h).0 refl

  -- the first cell behind a place is the one at that number of cells, or the next where one is at
  -- the place
  pub next-place : (cells : List Cell) → Ascend cells
      → next_after tab key cells
      ≡ cond (is_there cells) (slice_get cells (suc (place cells))) (slice_get cells (place cells))
  next-place [] h = refl
  next-place (first ∷ cells) h =
      by (is_before tab key first) refl
      (next-place cells (and_parts (list_all (is_behind first.tab first.key) cells) _ h).1)
    where
      here : (b : Bool) → is_before tab key first ≡ false → is_at tab key first ≡ b
          → next_after tab key (first ∷ cells)
          ≡ cond (is_at tab key first) (slice_get cells 0) (Some first)
      here true e at =
          rw (at-not_behind tab key first at, at) (first_behind cells (all_behind first cells e h))
      here false e off = rw (else-behind tab key first e off, off) refl

      by : (b : Bool) → is_before tab key first ≡ b
          → next_after tab key cells
          ≡ cond (is_there cells) (slice_get cells (suc (place cells)))
          (slice_get cells (place cells))
          → next_after tab key (first ∷ cells)
          ≡ cond (is_there (first ∷ cells))
          (slice_get (first ∷ cells) (suc (place (first ∷ cells))))
          (slice_get (first ∷ cells) (place (first ∷ cells)))
      by true e rest =
          rw (
            prefix-more (is_before tab key) first cells e,
            before-not_behind first.tab first.key tab key e,
          ) rest
      by false e rest =
          rw (prefix-none (is_before tab key) first cells e) (here (is_at tab key first) e refl)

  -- none of what comes behind a place is at it
  pub none_at : (cells : List Cell) → list_all (is_behind tab key) cells ≡ true
      → take_cell tab key cells ≡ cells
  none_at cells h =
      filter-all (λ cell. not (is_at tab key cell)) cells
      (all-mono (is_behind tab key) (λ cell. not (is_at tab key cell)) cells
      (λ cell k. ap not (behind-not_at tab key cell k)) h)

  -- the cell that is taken away is the one at that number of cells, where it is at the place
  pub take-place : (cells : List Cell) → Ascend cells
      → take_cell tab key cells ≡ cond (is_there cells) (remove cells (place cells)) cells
  take-place [] h = refl
  take-place (first ∷ cells) h =
      by (is_before tab key first) refl
      (take-place cells (and_parts (list_all (is_behind first.tab first.key) cells) _ h).1)
    where
      here : (b : Bool) → is_before tab key first ≡ false → is_at tab key first ≡ b
          → take_cell tab key (first ∷ cells)
          ≡ cond (is_at tab key first) (remove (first ∷ cells) 0) (first ∷ cells)
      here true e at = rw at (none_at cells (all_behind first cells e h))
      here false e off = rw off (ap (λ ys. first ∷ ys) (none_at cells (all_behind first cells e h)))

      by : (b : Bool) → is_before tab key first ≡ b
          → take_cell tab key cells ≡ cond (is_there cells) (remove cells (place cells)) cells
          → take_cell tab key (first ∷ cells)
          ≡ cond (is_there (first ∷ cells)) (remove (first ∷ cells) (place (first ∷ cells)))
          (first ∷ cells)
      by true e rest =
          rw (prefix-more (is_before tab key) first cells e, before-not_at tab key first e)
          (ap (λ ys. first ∷ ys) rest
          ∙ cons-cond first (is_there cells) (remove cells (place cells)) cells)
      by false e rest =
          rw (prefix-none (is_before tab key) first cells e) (here (is_at tab key first) e refl)

  -- what is left ascends
  pub take-ascends : (cells : List Cell) → Ascend cells → Ascend (take_cell tab key cells)
  take-ascends [] h = refl
  take-ascends (first ∷ cells) h =
      by (is_at tab key first) refl
      (take-ascends cells (and_parts (list_all (is_behind first.tab first.key) cells) _ h).1)
    where
      by : (b : Bool) → is_at tab key first ≡ b → Ascend (take_cell tab key cells)
          → Ascend (take_cell tab key (first ∷ cells))
      by true at rest = rw at rest
      by false off rest =
          rw off
          (and_from (list_all (is_behind first.tab first.key) (take_cell tab key cells)) _
          (all-filter (is_behind first.tab first.key) (λ cell. not (is_at tab key cell)) cells
          (and_parts (list_all (is_behind first.tab first.key) cells) _ h).0)
          rest)

-- ---- a cell that is put

-- it stands behind the cells that come before its place, and over the one that is at it
pub put-place : (cell : Cell) (cells : List Cell)
    → put_cell cell cells
    ≡ cond (is_there cell.tab cell.key cells) (slice_set cells (place cell.tab cell.key cells) cell)
    (insert cells (place cell.tab cell.key cells) cell)
put-place cell [] = refl
put-place cell (first ∷ cells) = by (is_before cell.tab cell.key first) refl (put-place cell cells)
  where
    by : (b : Bool) → is_before cell.tab cell.key first ≡ b
        → put_cell cell cells
        ≡ cond (is_there cell.tab cell.key cells)
        (slice_set cells (place cell.tab cell.key cells) cell)
        (insert cells (place cell.tab cell.key cells) cell)
        → put_cell cell (first ∷ cells)
        ≡ cond (is_there cell.tab cell.key (first ∷ cells))
        (slice_set (first ∷ cells) (place cell.tab cell.key (first ∷ cells)) cell)
        (insert (first ∷ cells) (place cell.tab cell.key (first ∷ cells)) cell)
    by true e rest =
        rw (prefix-more (is_before cell.tab cell.key) first cells e, e)
        (ap (λ ys. first ∷ ys) rest
        ∙ cons-cond first (is_there cell.tab cell.key cells)
        (slice_set cells (place cell.tab cell.key cells) cell)
        (insert cells (place cell.tab cell.key cells) cell))
    by false e rest = rw (prefix-none (is_before cell.tab cell.key) first cells e, e) refl

-- what all cells have and the one that is put, all have then
pub put-all : (p : Cell → Bool) (cell : Cell) (cells : List Cell) → p cell ≡ true
    → list_all p cells ≡ true → list_all p (put_cell cell cells) ≡ true
put-all p cell [] k h = and_from (p cell) true k refl
put-all p cell (first ∷ cells) k h =
    by (is_before cell.tab cell.key first) (is_at cell.tab cell.key first) refl refl
    (put-all p cell cells k (and_parts (p first) (list_all p cells) h).1)
  where
    parts : (p first ≡ true) × (list_all p cells ≡ true)
    parts = and_parts (p first) (list_all p cells) h

    by : (b a : Bool) → is_before cell.tab cell.key first ≡ b → is_at cell.tab cell.key first ≡ a
        → list_all p (put_cell cell cells) ≡ true
        → list_all p (put_cell cell (first ∷ cells)) ≡ true
    by true a e at rest = rw e (and_from (p first) _ parts.0 rest)
    by false true e at rest = rw (e, at) (and_from (p cell) _ k parts.1)
    by false false e off rest = rw (e, off) (and_from (p cell) _ k h)

-- the cells ascend with it
pub put-ascends : (cell : Cell) (cells : List Cell) → Ascend cells → Ascend (put_cell cell cells)
put-ascends cell [] h = refl
put-ascends cell (first ∷ cells) h =
    by (is_before cell.tab cell.key first) (is_at cell.tab cell.key first) refl refl
    (put-ascends cell cells (and_parts (list_all (is_behind first.tab first.key) cells) _ h).1)
  where
    parts : (list_all (is_behind first.tab first.key) cells ≡ true) × Ascend cells
    parts = and_parts (list_all (is_behind first.tab first.key) cells) _ h

    by : (b a : Bool) → is_before cell.tab cell.key first ≡ b → is_at cell.tab cell.key first ≡ a
        → Ascend (put_cell cell cells) → Ascend (put_cell cell (first ∷ cells))
    by true a e at rest =
        rw e
        (and_from (list_all (is_behind first.tab first.key) (put_cell cell cells)) _
        (put-all (is_behind first.tab first.key) cell cells e parts.0) rest)
    by false true e at rest =
        rw (e, at) (and_from (list_all (is_behind cell.tab cell.key) cells) _
        (all_behind cell.tab cell.key first cells e h) parts.1)
    by false false e off rest =
        rw (e, off)
        (and_from (list_all (is_behind cell.tab cell.key) (first ∷ cells)) _
        (and_from (is_behind cell.tab cell.key first) _ (else-behind cell.tab cell.key first e off)
        (all_behind cell.tab cell.key first cells e h))
        h)

-- ---- the same as the code finds it

pub next_there : (tab key n : ℕ) (cells : List Cell) → Ascend cells → n ≡ place tab key cells
    → passes (is_at tab key) (slice_get cells n) ≡ true
    → slice_get cells (n + 1) ≡ next_after tab key cells
next_there tab key n cells h is there =
    let there : is_there tab key cells ≡ true = rw is at there in
    rw (is, add-one) (sym (rw there at (next-place tab key cells h)))

pub next_else : (tab key n : ℕ) (cells : List Cell) → Ascend cells → n ≡ place tab key cells
    → passes (is_at tab key) (slice_get cells n) ≡ false
    → slice_get cells n ≡ next_after tab key cells
next_else tab key n cells h is there =
    let there : is_there tab key cells ≡ false = rw is at there in
    rw is (sym (rw there at (next-place tab key cells h)))

pub take_there : (tab key n : ℕ) (cells : List Cell) → Ascend cells → n ≡ place tab key cells
    → passes (is_at tab key) (slice_get cells n) ≡ true
    → remove cells n ≡ take_cell tab key cells
take_there tab key n cells h is there =
    let there : is_there tab key cells ≡ true = rw is at there in
    rw is (sym (rw there at (take-place tab key cells h)))

pub take_else : (tab key n : ℕ) (cells : List Cell) → Ascend cells → n ≡ place tab key cells
    → passes (is_at tab key) (slice_get cells n) ≡ false
    → take_cell tab key cells ≡ cells
take_else tab key n cells h is there =
    let there : is_there tab key cells ≡ false = rw is at there in
    rw there at (take-place tab key cells h)

pub put_found : (cell : Cell) (n : ℕ) (cells : List Cell) (there : Bool)
    → n ≡ place cell.tab cell.key cells
    → there ≡ passes (is_at cell.tab cell.key) (slice_get cells n)
    → cond there (slice_set cells n cell) (insert cells n cell) ≡ put_cell cell cells
put_found cell n cells there is found = rw (found, is) (sym (put-place cell cells))

-- ---- changes

-- cells ascend behind changes of them
pub put_change-ascends : (change : Change) (cells : List Cell) → Ascend cells
    → Ascend (put_change change cells)
put_change-ascends change cells h = by change.val refl
  where
    by : (val : Option (List ℕ)) → change.val ≡ val → Ascend (put_change change cells)
    by None e = rw e (take-ascends change.tab change.key cells h)
    by (Some val) e =
        rw e (put-ascends (record { tab = change.tab; key = change.key; val = val }) cells h)

pub put_changes-ascend : (changes : List Change) (cells : List Cell) → Ascend cells
    → Ascend (put_changes changes cells)
put_changes-ascend [] cells h = h
put_changes-ascend (change ∷ changes) cells h =
    put_changes-ascend changes (put_change change cells) (put_change-ascends change cells h)
