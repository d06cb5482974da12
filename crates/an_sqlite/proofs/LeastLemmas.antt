-- The first row of the answer is the least of the table.
use Rattle.std.proofs.Common.{◌≡◌, ◌⊎◌, inl, inr, ℕ, zero, suc, ◌<◌, List, [], ◌∷◌, map, length, get_or, All, false, Ok, Err, Result, IfOk, IsPermutation, IsSorted, flat_map, refl, ap, subst, ◌∙◌, arith}
use Rattle.std.specs.Ordering.{is_gt}
use Rattle.std.proofs.lemmas.List.{length-map, get_or-map}
use Rattle.std.proofs.lemmas.List.Sorted.{All-permutation, IsPermutation-sym}
use Rattle.sqlite_value.specs.Order.{Row}
use Rattle.sqlite_trees.proofs.ListLemmas.{ascending-get_or}
use Rattle.sqlite_exec.proofs.PartitionLemmas.{ascending_from_sorted}
use Rattle.sqlite_sql.specs.Term.{Env}
use Rattle.sqlite_sql.specs.Query.{Output, output, output_cmp, page, key_cmp, IsAnswer}
use Rattle.sqlite_sql.specs.Program.{overlay}
use Rattle.sqlite_sql.proofs.QueryLemmas.{output_cmp_total}
use Rattle.sqlite_value.specs.declared.value.Value.TheVariants.{Null}
use Rattle.sqlite.specs.declared.error.Error.{Error}
use Rattle.sqlite.specs.State.{State, QueriesRow}
use Rattle.sqlite.proofs.Callers.{first_as}
use Rattle.std.proofs.lemmas.List.Sorted.{length_permutation}
use Rattle.sqlite.specs.State.{Shown}
use Rattle.sqlite.proofs.Callers.{reads_as}
use Rattle.an_sqlite.specs.Statements.{first_text, first_query, key, keys, shown, IsLeastOf}
use Rattle.an_sqlite.specs.Table.{cell_schema}
use Rattle.an_sqlite.proofs.StatementLemmas.{first_is, first_plain}

abbrev pub out : Row → Output
out r = (key r, shown r)

abbrev env : Row → Env
env r = [] ∷ r ∷ []

staged_as : (rows : List Row) → flat_map (λ r. env r ∷ []) rows ≡ map env rows
staged_as [] = refl
staged_as (r ∷ rows) = ap (λ more. env r ∷ more) (staged_as rows)

kept_as : (rows : List Row) → map (output first_query) (map env rows) ≡ map out rows
kept_as [] = refl
kept_as (r ∷ rows) = ap (λ more. out r ∷ more) (kept_as rows)

module _ (rows : List Row) (o : Output) (more : List Output)
    (same : IsPermutation (map out rows) (o ∷ more))
    (sorted : IsSorted (output_cmp first_query) (o ∷ more)) where
  abbrev IsOf : Output → Type 0
  IsOf x = (i : ℕ) × (i < length rows) × (x ≡ out (get_or rows i []))

  all_of : All IsOf (map out rows)
  all_of k d low =
      let inside : k < length rows = rw length-map at low in
      (k, inside, get_or-map out rows k [] d inside)

  head : IsOf o
  head = All-permutation IsOf (map out rows) (o ∷ more) same all_of 0 o (omega arith)

  abbrev IsAbove : Output → Type 0
  IsAbove x = (x ≡ o) ⊎ (is_gt (output_cmp first_query o x) ≡ false)

  above : All IsAbove (o ∷ more)
  above zero d low = inl refl
  above (suc k) d low =
      inr (ascending-get_or _ (o ∷ more) 0 (suc k) d
      (ascending_from_sorted _ (output_cmp_total first_query) (o ∷ more) sorted) (omega arith) low)

  all_above : All IsAbove (map out rows)
  all_above = All-permutation IsAbove (o ∷ more) (map out rows) (IsPermutation-sym _ _ same) above

  abbrev least : Row
  least = get_or rows head.0 []

  turn : (r : Row) → IsAbove (out r)
      → (key r ≡ key least) ⊎ (is_gt (key_cmp 0 keys (key least) (key r)) ≡ false)
  turn r (inl same') = inl (ap (λ (x : Output). x.0) same' ∙ ap (λ (x : Output). x.0) head.2)
  turn r (inr low) =
      inr (subst (λ (x : Output). is_gt (output_cmp first_query x (out r)) ≡ false) head.2 low)

  pub is_least : IsLeastOf rows o.1
  is_least = record {
    place = head.0;
    within = head.1;
    is = ap (λ (x : Output). x.1) head.2;
    least =
        λ k d low. turn (get_or rows k d)
        (subst IsAbove (get_or-map out rows k d (out d) low)
        (all_above k (out d) (rw length-map low)));
  }

first_of : (rows : List Row) (row : Row) (tail : List Row) (ordered : List Output)
    → row ∷ tail ≡ page first_query [] (map (λ (p : Output). p.1) ordered)
    → IsPermutation (map out rows) ordered
    → IsSorted (output_cmp first_query) ordered → IsLeastOf rows row
first_of rows row tail [] shown' same sorted = absurd cc
first_of rows row tail (o ∷ more) shown' same sorted =
    let is : o.1 ≡ row = cc in subst (IsLeastOf rows) is (is_least rows o more same sorted)

pub finds_first : (old new : State) (r : Result Row Error) → old.now.schema ≡ cell_schema
    → QueriesRow first_text [] old new r → IfOk r (λ row. IsLeastOf (old.now.trees 0) row)
unfolding QueriesRow
finds_first old new (Err e) has h = tt
finds_first old new (Ok row) has h =
    let got =
    (first_as first_text [] old new cell_schema has _ first_is.0 first_plain first_is.1 row h).1 in
    let a : IsAnswer first_query (overlay old.now.trees []) [] (row ∷ got.0) = got.1 Null in
    let rows = old.now.trees 0 in
    let staged : a.staged ≡ map env rows = a.grouped ∙ staged_as rows in
    let kept : a.kept ≡ map out rows =
    a.distinct ∙ ap (map (output first_query)) staged ∙ kept_as rows in
    first_of rows row got.0 a.ordered a.shown
    (subst (λ k. IsPermutation k a.ordered) kept a.same) a.sorted

nothing : (rows : List Row) (ordered : List Output)
    → [] ≡ page first_query [] (map (λ (p : Output). p.1) ordered)
    → IsPermutation (map out rows) ordered → rows ≡ []
nothing [] ordered none same = refl
nothing (r ∷ rows) [] none same =
    absurd (let e = length_permutation (map out (r ∷ rows)) [] same in cc)
nothing (r ∷ rows) (o ∷ more) none same = absurd cc

-- an answer of no row is that of an empty table
pub finds_none : (old new : State) → old.now.schema ≡ cell_schema → Shown first_text [] old new []
    → old.now.trees 0 ≡ []
finds_none old new has h =
    let got =
    reads_as first_text [] old new cell_schema has _ first_is.0 first_plain first_is.1 [] h in
    let a : IsAnswer first_query (overlay old.now.trees []) [] [] = got.answer Null in
    let rows = old.now.trees 0 in
    let staged : a.staged ≡ map env rows = a.grouped ∙ staged_as rows in
    let kept : a.kept ≡ map out rows =
    a.distinct ∙ ap (map (output first_query)) staged ∙ kept_as rows in
    nothing rows a.ordered a.shown (subst (λ k. IsPermutation k a.ordered) kept a.same)
