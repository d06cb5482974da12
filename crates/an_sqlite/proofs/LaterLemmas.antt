-- The rows of a select with a limit show the first cells that pass its test.
use Rattle.std.proofs.Common.{◌≡◌, inl, inr, ℕ, ℤ, pos, Bool, true, false, cond, ◌&&◌, ◌==◌, nat_lt, List, [], ◌∷◌, ◌++◌, map, take, filter, flat_map, codes, IsPermutation, int_cmp, refl, sym, ap, ap₂, subst, subst₂, ◌∙◌, arith, if◌then◌else◌}
use Rattle.std.specs.Ordering.{is_eq, is_gt}
use Rattle.std.specs.List.{AllByRecursion, IsDistinct, list_all}
use Rattle.std.proofs.lemmas.Bool.{and_parts, and_from, cases_Bool}
use Rattle.std.proofs.lemmas.Bool.Decides.{nat_tests}
use Rattle.std.proofs.lemmas.Int.{ints}
use Rattle.std.proofs.lemmas.List.Elements.{All-from_recursion, recursion_from_All}
use Rattle.std.proofs.lemmas.List.Sorted.{All-permutation, IsPermutation-sym, IsPermutation-map}
use Rattle.std.proofs.lemmas.Map.Keys.{IsDistinct-IsPermutation}
use Rattle.sqlite_value.specs.declared.keys.Collation.TheVariants.{Binary}
use Rattle.sqlite_value.specs.declared.value.Value.TheVariants.{Null, Int}
use Rattle.sqlite_value.specs.Order.{Row, column}
use Rattle.sqlite_value.proofs.OrderLemmas.{value_cmp-Int}
use Rattle.sqlite_trees.specs.Tree.{Trees, IsTable, IsAscending}
use Rattle.sqlite_exec.proofs.PartitionLemmas.{ascending_from_sorted}
use Rattle.sqlite_schema.specs.declared.command.Command.TheVariants.{Select}
use Rattle.sqlite_schema.specs.Rules.{equal}
use Rattle.sqlite_sql.specs.Ops.{is_true, binary}
use Rattle.sqlite_sql.specs.declared.ops.BinaryOp.TheVariants.{Compare}
use Rattle.sqlite_sql.specs.declared.ops.CompareOp.TheVariants.{Gt}
use Rattle.sqlite_sql.specs.Program.{overlay}
use Rattle.sqlite_sql.specs.Query.{Output, output, output_cmp, IsAnswer}
use Rattle.sqlite_sql.specs.Term.{Env, Term, holds}
use Rattle.sqlite_sql.proofs.QueryLemmas.{output_cmp_total}
use Rattle.sqlite_rules.specs.Lists.{Has}
use Rattle.sqlite_rules.proofs.ListLemmas.{all_has, has_filtered, has_kept}
use Rattle.sqlite_tied.specs.Compute.{everything}
use Rattle.sqlite.specs.Given.{IsPlain}
use Rattle.sqlite.specs.Listing.{understood, reads_listing}
use Rattle.sqlite.specs.State.{State, Shown}
use Rattle.sqlite.proofs.Callers.{command_of, reads_as}
use Rattle.an_keep.specs.declared.cell.Cell.{Cell}
use Rattle.an_keep.specs.Cells.{comes_before, is_at, is_behind, Ascend}
use Rattle.an_keep.proofs.CellLemmas.{all-filter}
use Rattle.an_sqlite.specs.Cells.{cell_of, number_of, bytes_of, shown_cell, table}
use Rattle.an_sqlite.specs.Later.{in_later_text, later_in_text, in_later_tests, later_in_tests, later_query, passes, keep, is_later_in, is_in_later, ShowsFirst}
use Rattle.an_sqlite.proofs.RowForms.{IsCellRow, AreCells}
use Rattle.an_sqlite.specs.Tells.{Rises}
use Rattle.an_sqlite.specs.Statements.{key, shown}
use Rattle.an_sqlite.specs.Table.{cell_schema}
use Rattle.an_sqlite.specs.Tells.{Tells, cells_of}
use Rattle.an_sqlite.proofs.CellSetLemmas.{at_itself, same_cells}
use Rattle.an_sqlite.proofs.ChangeLemmas.{cells_in}
use Rattle.an_sqlite.proofs.LeastLemmas.{out}
use Rattle.an_sqlite.proofs.NoneLemmas.{shown_unchanged}
use Rattle.an_sqlite.proofs.PutLemmas.{below_itself}
use Rattle.an_sqlite.proofs.RowLemmas.{truth_is}
use Rattle.an_sqlite.proofs.TableLemmas.{at_of, order_is, table_ascends, table_from, table_has}

-- ---- lists

every_from : {X : Type 0} (P : X → Type 0) (xs : List X) → ((x : X) → Has xs x → P x)
    → AllByRecursion P xs
every_from P [] h = tt
every_from P (x ∷ xs) h = (h x (inl refl), every_from P xs (λ y k. h y (inr k)))

every_map : {X Y : Type 0} (f : X → Y) (P : Y → Type 0) (xs : List X)
    → ((x : X) → Has xs x → P (f x)) → AllByRecursion P (map f xs)
every_map f P [] h = tt
every_map f P (x ∷ xs) h = (h x (inl refl), every_map f P xs (λ y k. h y (inr k)))

tested_map : {X Y : Type 0} (f : X → Y) (p : Y → Bool) (xs : List X)
    → ((x : X) → Has xs x → p (f x) ≡ true) → list_all p (map f xs) ≡ true
tested_map f p [] h = refl
tested_map f p (x ∷ xs) h =
    and_from (p (f x)) _ (h x (inl refl)) (tested_map f p xs (λ y k. h y (inr k)))

every_shuffled : {X : Type 0} (P : X → Type 0) (xs ys : List X) → IsPermutation xs ys
    → AllByRecursion P xs → AllByRecursion P ys
every_shuffled P xs ys same h =
    recursion_from_All P ys (All-permutation P xs ys same (All-from_recursion P xs h))

has_map : {X Y : Type 0} (f : X → Y) (xs : List X) (x : X) → Has xs x → Has (map f xs) (f x)
has_map f [] x h = h
has_map f (y ∷ xs) x (inl same) = inl (ap f same)
has_map f (y ∷ xs) x (inr later) = inr (has_map f xs x later)

from_map : {X Y : Type 0} (f : X → Y) (xs : List X) (y : Y) → Has (map f xs) y
    → (x : X) × Has xs x × (y ≡ f x)
from_map f [] y h = absurd h
from_map f (x ∷ xs) y (inl same) = (x, inl refl, same)
from_map f (x ∷ xs) y (inr later) = let r = from_map f xs y later in (r.0, inr r.1, r.2)

has_shuffled : {X : Type 0} (xs ys : List X) (x : X) → IsPermutation xs ys → Has xs x → Has ys x
has_shuffled xs ys x same h =
    all_has (Has ys) xs x (every_shuffled (Has ys) ys xs (IsPermutation-sym xs ys same)
    (every_from (Has ys) ys (λ y k. k))) h

filter_ascends : (test : Cell → Bool) (cells : List Cell) → Ascend cells
    → Ascend (filter test cells)
filter_ascends test [] up = refl
filter_ascends test (c ∷ cells) up =
    by (test c) refl
    (filter_ascends test cells (and_parts (list_all (is_behind c.tab c.key) cells) _ up).1)
  where
    by : (b : Bool) → test c ≡ b → Ascend (filter test cells) → Ascend (filter test (c ∷ cells))
    by true e rest =
        rw e (and_from (list_all (is_behind c.tab c.key) (filter test cells)) _
        (all-filter (is_behind c.tab c.key) test cells
        (and_parts (list_all (is_behind c.tab c.key) cells) _ up).0) rest)
    by false e rest = rw e rest

keep_has : (p : Row → Bool) (rows : List Row) (x : Row) → Has (keep p rows) x
    → Has rows x × (p x ≡ true)
keep_has p [] x h = absurd h
keep_has p (r ∷ rows) x h = by (p r) refl h (keep_has p rows x)
  where
    by : (b : Bool) → p r ≡ b → Has (cond b (r ∷ keep p rows) (keep p rows)) x
        → (Has (keep p rows) x → Has rows x × (p x ≡ true)) → Has (r ∷ rows) x × (p x ≡ true)
    by true e (inl same) rest = (inl same, ap p same ∙ e)
    by true e (inr later) rest = let k = rest later in (inr k.0, k.1)
    by false e h rest = let k = rest h in (inr k.0, k.1)

has_keep : (p : Row → Bool) (rows : List Row) (x : Row) → Has rows x → p x ≡ true
    → Has (keep p rows) x
has_keep p [] x h is = absurd h
has_keep p (r ∷ rows) x (inl same) is = rw (ap p (sym same) ∙ is) (inl same)
has_keep p (r ∷ rows) x (inr later) is = by (p r) (has_keep p rows x later is)
  where
    by : (b : Bool) → Has (keep p rows) x → Has (cond b (r ∷ keep p rows) (keep p rows)) x
    by true h = inr h
    by false h = h

-- ---- the places of cells

abbrev is_same_place : Cell → Cell → Bool
is_same_place c d = is_at c.tab c.key d

flips : (c d : Cell) → is_same_place c d ≡ is_same_place d c
flips c d = numbers c.tab c.key d.tab d.key
  where
    numbers : (t k t′ k′ : ℕ) → (t′ == t) && (k′ == k) ≡ (t == t′) && (k == k′)
    numbers t k t′ k′ = grind (arith, nat_tests)

else_behind : (t k t′ k′ : ℕ) → comes_before t′ k′ t k ≡ false → (t′ == t) && (k′ == k) ≡ false
    → comes_before t k t′ k′ ≡ true
else_behind t k t′ k′ h off = grind (arith, nat_tests)

-- the cell that a row of an answer shows
abbrev cell_at : Output → Cell
cell_at o = record {
  tab = number_of (column o.1 0);
  key = number_of (column o.1 1);
  val = bytes_of (column o.1 2);
}

module _ (rows : List Row) (are : AreCells rows) (p : Row → Bool) where
  -- no two rows are of one place
  apart : (rs : List Row) → ((r : Row) → Has rs r → Has rows r) → IsTable rs
      → IsDistinct is_same_place (map cell_at (map out (keep p rs)))
  unfolding IsDistinct
  apart [] inside up = tt
  apart (r ∷ rs) inside up = by (p r) refl (apart rs (λ s h. inside s (inr h)) up.1)
    where
      off : (s : Row) → Has (keep p rs) s → is_same_place (cell_of r) (cell_of s) ≡ false
      off s h = elim (cases_Bool (is_same_place (cell_of r) (cell_of s))) [
        | inl at ↦
            let k = (keep_has p rs s h).0 in
            let own =
            at_of (cell_of r).tab (cell_of r).key r (are.typed r (inside r (inl refl)))
            (at_itself (cell_of r)) in
            let its = at_of (cell_of r).tab (cell_of r).key s (are.typed s (inside s (inr k))) at in
            absurd (below_itself (all_has _ rs s up.0 k)
            (are.once (cell_of r).tab (cell_of r).key r s (inside r (inl refl))
            (inside s (inr k)) own its))
        | inr differs ↦ differs
      ]

      all_off : (ss : List Row)
          → ((s : Row) → Has ss s → is_same_place (cell_of r) (cell_of s) ≡ false)
          → AllByRecursion (λ c. is_same_place (cell_of r) c ≡ false) (map cell_at (map out ss))
      all_off [] h = tt
      all_off (s ∷ ss) h = (h s (inl refl), all_off ss (λ x k. h x (inr k)))

      by : (b : Bool) → p r ≡ b → IsDistinct is_same_place (map cell_at (map out (keep p rs)))
          → IsDistinct is_same_place (map cell_at (map out (keep p (r ∷ rs))))
      by true e rest = rw e (all_off (keep p rs) off, rest)
      by false e rest = rw e rest

  abbrev IsOf : Output → Type 0
  IsOf o = (r : Row) × Has rows r × (p r ≡ true) × (o ≡ out r)

  module _ (tests : List Term) where
    behind : (o x : Output) → IsOf o → IsOf x → is_gt (output_cmp (later_query tests) o x) ≡ false
        → is_same_place (cell_at o) (cell_at x) ≡ false
        → is_behind (cell_at o).tab (cell_at o).key (cell_at x) ≡ true
    behind o x a b low off = rows_behind a.0 b.0 (are.typed a.0 a.1) (are.typed b.0 b.1)
        (subst₂ (λ u v. is_gt (output_cmp (later_query tests) u v) ≡ false) a.3 b.3 low)
        (subst₂ (λ u v. is_same_place (cell_at u) (cell_at v) ≡ false) a.3 b.3 off) a.3 b.3
      where
        rows_behind : (r s : Row) → IsCellRow r → IsCellRow s
            → is_gt (output_cmp (later_query tests) (out r) (out s)) ≡ false
            → is_same_place (cell_of r) (cell_of s) ≡ false
            → o ≡ out r → x ≡ out s → is_behind (cell_at o).tab (cell_at o).key (cell_at x) ≡ true
        rows_behind r s c d low off is_r is_s =
            subst₂ (λ u v. is_behind (cell_at u).tab (cell_at u).key (cell_at v) ≡ true)
            (sym is_r) (sym is_s)
            (rw (c.is, d.is) (else_behind c.tab c.key d.tab d.key
            (order_is c.tab c.key d.tab d.key
            (rw (
              c.is,
              d.is,
              value_cmp-Int (pos c.tab) (pos d.tab),
              value_cmp-Int (pos c.key) (pos d.key),
            ) at low))
            (rw (c.is, d.is) at off)))

    ascends : (os : List Output) → ((o : Output) → Has os o → IsOf o)
        → IsAscending (λ a b. is_gt (output_cmp (later_query tests) a b) ≡ false) os
        → IsDistinct is_same_place (map cell_at os) → Ascend (map cell_at os)
    unfolding IsDistinct
    ascends [] of up d = refl
    ascends (o ∷ os) of up d =
        and_from (list_all (is_behind (cell_at o).tab (cell_at o).key) (map cell_at os)) _
        (tested_map cell_at (is_behind (cell_at o).tab (cell_at o).key) os
        (λ x h. behind o x (of o (inl refl)) (of x (inr h)) (all_has _ os x up.0 h)
        (all_has _ (map cell_at os) (cell_at x) d.0 (has_map cell_at os x h))))
        (ascends os (λ x h. of x (inr h)) up.1 d.1)

shows : (rows : List Row) → (are : AreCells rows) → (p : Row → Bool) (os : List Output)
    → ((o : Output) → Has os o → IsOf rows are p o)
    → map (λ (o : Output). o.1) os ≡ map shown_cell (map cell_at os)
shows rows are p [] of = refl
shows rows are p (o ∷ os) of =
    let it = of o (inl refl) in
    let row = are.typed it.0 it.1 in
    let first : o.1 ≡ shown_cell (cell_at o) =
    subst (λ (u : Output). u.1 ≡ shown_cell (cell_at u)) (sym it.3)
    (subst (λ r. shown r ≡ shown_cell (cell_of r)) (sym row.is) refl) in
    ap₂ ◌∷◌ first (shows rows are p os (λ x h. of x (inr h)))

-- ---- an answer

module _ (tests : List Term) (params : Row) (test : Cell → Bool)
    (same : (r : Row) → IsCellRow r → passes tests params r ≡ test (cell_of r)) (db : Trees)
    (rises : Rises (db 0)) (are : AreCells (db 0)) where
  abbrev p : Row → Bool
  p = passes tests params

  abbrev rows : List Row
  rows = db 0

  abbrev env : Row → Env
  env r = params ∷ r ∷ []

  one_of : (b : Bool) (r : Row) (more : List Env) (rs : List Row) → more ≡ map env rs
      → (if b then env r ∷ [] else []) ++ more ≡ map env (if b then r ∷ rs else rs)
  one_of true r more rs is = ap (λ all. env r ∷ all) is
  one_of false r more rs is = is

  staged_as : (rs : List Row)
      → flat_map (λ r. if list_all (holds (env r)) tests then env r ∷ [] else []) rs
      ≡ map env (keep p rs)
  staged_as [] = refl
  staged_as (r ∷ rs) = one_of (p r) r _ _ (staged_as rs)

  kept_as : (rs : List Row) → map (output (later_query tests)) (map env rs) ≡ map out rs
  kept_as [] = refl
  kept_as (r ∷ rs) = ap (λ more. out r ∷ more) (kept_as rs)

  pub shows_first : (answer : List Row) → IsAnswer (later_query tests) (overlay db []) params answer
      → ShowsFirst test (table rows) answer
  shows_first answer a =
      let staged : a.staged ≡ map env (keep p rows) = a.grouped ∙ staged_as rows in
      let kept : a.kept ≡ map out (keep p rows) =
      a.distinct ∙ ap (map (output (later_query tests))) staged ∙ kept_as (keep p rows) in
      let moved : IsPermutation (map out (keep p rows)) a.ordered =
      subst (λ k. IsPermutation k a.ordered) kept a.same in
      let each : AllByRecursion (IsOf rows are p) a.ordered =
      every_shuffled (IsOf rows are p) (map out (keep p rows)) a.ordered moved
      (every_map out (IsOf rows are p) (keep p rows)
      (λ r h. let k = keep_has p rows r h in (r, k.0, k.1, refl))) in
      let of = λ (o : Output) (h : Has a.ordered o). all_has (IsOf rows are p) a.ordered o each h in
      let distinct =
      IsDistinct-IsPermutation is_same_place flips (map cell_at (map out (keep p rows)))
      (map cell_at a.ordered) (IsPermutation-map cell_at (map out (keep p rows)) a.ordered moved)
      (apart rows are p rows (λ r h. h) rises.0) in
      let up =
      ascends rows are p tests a.ordered of
      (ascending_from_sorted _ (output_cmp_total (later_query tests)) a.ordered a.sorted)
      distinct in
      let cells : map cell_at a.ordered ≡ filter test (table rows) =
      same_cells (map cell_at a.ordered) (filter test (table rows)) up
      (filter_ascends test (table rows) (table_ascends rows))
      (λ c h. let o = from_map cell_at a.ordered c h in let it = of o.0 o.1 in
      let is : c ≡ cell_of it.0 = o.2 ∙ ap cell_at it.3 in
      subst (Has (filter test (table rows))) (sym is)
      (has_kept test (table rows) (cell_of it.0) (table_has rows are it.0 it.1)
      (sym (same it.0 (are.typed it.0 it.1)) ∙ it.2)))
      (λ c h. let both = has_filtered test (table rows) c h in let r = table_from rows c both.0 in
      let passed : p r.0 ≡ true = same r.0 (are.typed r.0 r.1) ∙ ap test (sym r.2) ∙ both.1 in
      subst (Has (map cell_at a.ordered)) (sym r.2)
      (has_map cell_at a.ordered (out r.0)
      (has_shuffled (map out (keep p rows)) a.ordered (out r.0) moved
      (has_map out (keep p rows) r.0 (has_keep p rows r.0 r.1 passed)))))
      in
      a.shown ∙ ap (take 100) (shows rows are p a.ordered of ∙ ap (map shown_cell) cells)

-- ---- the two tests

same_number : (t tab : ℕ) → is_eq (int_cmp (pos t) (pos tab)) ≡ (t == tab)
same_number t tab = grind (arith, ints, nat_tests)

greater_number : (t tab : ℕ) → is_gt (int_cmp (pos t) (pos tab)) ≡ nat_lt tab t
greater_number t tab = grind (arith, ints, nat_tests)

equal_tab : (t tab : ℕ) → equal Binary (Int (pos t)) (Int (pos tab)) ≡ (t == tab)
unfolding binary
equal_tab t tab = truth_is _ ∙ ap is_eq (value_cmp-Int (pos t) (pos tab)) ∙ same_number t tab

greater : (k n : ℕ) → is_true (binary (Compare Gt Binary) (Int (pos k)) (Int (pos n))) ≡ nat_lt n k
unfolding binary
greater k n = truth_is _ ∙ ap is_gt (value_cmp-Int (pos k) (pos n)) ∙ greater_number k n

and_true : (b : Bool) → b && true ≡ b
and_true true = refl
and_true false = refl

later_in_passes : (tab key : ℕ) (r : Row) → IsCellRow r
    → passes later_in_tests (Int (pos tab) ∷ Int (pos key) ∷ []) r ≡ is_later_in tab key (cell_of r)
later_in_passes tab key r row =
    subst (λ x.
    passes later_in_tests (Int (pos tab) ∷ Int (pos key) ∷ []) x ≡ is_later_in tab key (cell_of x))
    (sym row.is) (ap₂ ◌&&◌ (equal_tab row.tab tab) (and_true _ ∙ greater row.key key))

in_later_passes : (tab : ℕ) (r : Row) → IsCellRow r
    → passes in_later_tests (Int (pos tab) ∷ []) r ≡ is_in_later tab (cell_of r)
in_later_passes tab r row =
    subst (λ x. passes in_later_tests (Int (pos tab) ∷ []) x ≡ is_in_later tab (cell_of x))
    (sym row.is) (and_true _ ∙ greater row.tab tab)

-- ---- the statements

later_in_is : (command_of (understood cell_schema later_in_text)
    ≡ Select (record { lets = []; body = later_query later_in_tests })
    (codes "tab" ∷ codes "key" ∷ codes "val" ∷ []))
    × (reads_listing cell_schema later_in_text ≡ false)
    × IsPlain (understood cell_schema later_in_text)
unfolding understood everything
later_in_is = (refl, refl, (refl, refl))

in_later_is : (command_of (understood cell_schema in_later_text)
    ≡ Select (record { lets = []; body = later_query in_later_tests })
    (codes "tab" ∷ codes "key" ∷ codes "val" ∷ []))
    × (reads_listing cell_schema in_later_text ≡ false)
    × IsPlain (understood cell_schema in_later_text)
unfolding understood everything
in_later_is = (refl, refl, (refl, refl))

later_in_shows : (old new : State) (tab key : ℕ) (rows : List Row) → Tells old
    → Shown later_in_text (Int (pos tab) ∷ Int (pos key) ∷ []) old new rows
    → ShowsFirst (is_later_in tab key) (cells_of old) rows
later_in_shows old new tab key rows t h =
    let params : Row = Int (pos tab) ∷ Int (pos key) ∷ [] in
    let got =
    reads_as later_in_text params old new cell_schema t.schema _ later_in_is.0 later_in_is.2
    later_in_is.1 rows h in
    shows_first later_in_tests params (is_later_in tab key)
    (later_in_passes tab key) old.now.trees t.rises (cells_in old t) rows (got.answer Null)

-- the same, where the key is a whole number that is not negative
pub later_in_at : (old new : State) (tab key : ℕ) (from : ℤ) (rows : List Row) → from ≡ pos key
    → Tells old → Shown later_in_text (Int (pos tab) ∷ Int from ∷ []) old new rows
    → ShowsFirst (is_later_in tab key) (cells_of old) rows
later_in_at old new tab key from rows is t h = later_in_shows old new tab key rows t (rw is at h)

pub in_later_shows : (old new : State) (tab : ℕ) (rows : List Row) → Tells old
    → Shown in_later_text (Int (pos tab) ∷ []) old new rows
    → ShowsFirst (is_in_later tab) (cells_of old) rows
in_later_shows old new tab rows t h =
    let params : Row = Int (pos tab) ∷ [] in
    let got =
    reads_as in_later_text params old new cell_schema t.schema _ in_later_is.0 in_later_is.2
    in_later_is.1 rows h in
    shows_first in_later_tests params (is_in_later tab) (in_later_passes tab) old.now.trees t.rises
    (cells_in old t) rows (got.answer Null)

pub later_in_same : (old new : State) (params : Row) (rows : List Row) → Tells old
    → Shown later_in_text params old new rows → new.now ≡ old.now
later_in_same old new params rows t h =
    (shown_unchanged later_in_text (later_query later_in_tests) _ later_in_is.0 later_in_is.2 params
    old new rows t.schema h).0.now_is

pub in_later_same : (old new : State) (params : Row) (rows : List Row) → Tells old
    → Shown in_later_text params old new rows → new.now ≡ old.now
in_later_same old new params rows t h =
    (shown_unchanged in_later_text (later_query in_later_tests) _ in_later_is.0 in_later_is.2 params
    old new rows t.schema h).0.now_is
