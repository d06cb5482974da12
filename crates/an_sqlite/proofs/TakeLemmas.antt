-- What the delete makes of the rows of the table.
use Rattle.std.proofs.Common.{◌≡◌, inl, inr, ℕ, pos, Bool, true, cond, ◌&&◌, List, [], ◌∷◌, map, flat_map, IsPermutation, refl, sym, ap, subst, ◌∙◌, true≢false}
use Rattle.std.specs.List.{list_any, list_all}
use Rattle.std.proofs.lemmas.Bool.{and_parts, and_from, cases_Bool}
use Rattle.std.proofs.lemmas.List.Sorted.{length_permutation}
use Rattle.sqlite_value.specs.declared.value.Value.TheVariants.{Int}
use Rattle.sqlite_value.specs.declared.keys.Collation.TheVariants.{Binary}
use Rattle.sqlite_value.specs.Order.{Row, column}
use Rattle.sqlite_trees.specs.Tree.{Trees, rowid}
use Rattle.sqlite_sql.specs.Term.{Env, holds}
use Rattle.sqlite_sql.specs.Query.{Output, output, page, IsAnswer}
use Rattle.sqlite_sql.specs.Program.{overlay}
use Rattle.sqlite_schema.specs.Rules.{equal}
use Rattle.sqlite_rules.specs.Lists.{Has}
use Rattle.sqlite_rules.specs.Edit.{without_all}
use Rattle.sqlite_rules.specs.Calls.{ids_of}
use Rattle.sqlite_rules.proofs.ListLemmas.{some_has, some_from}
use Rattle.sqlite.proofs.Callers.{one_permutation}
use Rattle.an_sqlite.specs.Statements.{take_query}
use Rattle.an_sqlite.proofs.RowForms.{IsAt, AreCells, Takes}
use Rattle.an_sqlite.specs.Tells.{Rises}
use Rattle.an_sqlite.proofs.RowLemmas.{equal_itself, equal_is}
use Rattle.an_sqlite.proofs.PutLemmas.{one_kept, none_kept}

abbrev pub place_params : ℕ → ℕ → Row
place_params tab key = Int (pos tab) ∷ Int (pos key) ∷ []

module _ (tab key : ℕ) (rows : List Row) (rises : Rises rows) (are : AreCells rows) where
  abbrev params : Row
  params = place_params tab key

  abbrev env : Row → Env
  env s = params ∷ s ∷ []

  abbrev is_taken : Row → Bool
  is_taken s = list_all (holds (env s)) take_query.filter

  taken_at : (s : Row) → IsAt tab key s → is_taken s ≡ true
  taken_at s at =
      and_from (equal Binary (column s 1) (Int (pos tab)))
      (equal Binary (column s 2) (Int (pos key)) && true)
      (rw at.tab_is (equal_itself Binary (pos tab)))
      (and_from (equal Binary (column s 2) (Int (pos key))) true
      (rw at.key_is (equal_itself Binary (pos key))) refl)

  at_taken : (s : Row) → Has rows s → is_taken s ≡ true → IsAt tab key s
  at_taken s h t =
      let row = are.typed s h in
      let first =
      and_parts (equal Binary (column s 1) (Int (pos tab)))
      (equal Binary (column s 2) (Int (pos key)) && true) t in
      let second = and_parts (equal Binary (column s 2) (Int (pos key))) true first.1 in
      let tab_is = ap (λ x. column x 1) row.is in
      let key_is = ap (λ x. column x 2) row.is in
      record {
        tab_is = tab_is ∙ ap Int (equal_is Binary (pos row.tab) (pos tab) (rw tab_is at first.0));
        key_is = key_is ∙ ap Int (equal_is Binary (pos row.key) (pos key) (rw key_is at second.0));
      }

  none_ordered : (ordered : List Output) → IsPermutation [] ordered → ordered ≡ []
  none_ordered [] same = refl
  none_ordered (o ∷ more) same = absurd (let e = length_permutation [] (o ∷ more) same in cc)

  pub take_rows : (db : Trees) (new found : List Row) → db 0 ≡ rows
      → IsAnswer take_query (overlay db []) params found → new ≡ without_all rows (ids_of found)
      → Takes tab key rows new
  take_rows db new found here a left = elim (cases_Bool (list_any is_taken rows)) [
    | inl some ↦
        let r = some_has is_taken rows some in
        let at = at_taken r.0 r.1 r.2 in
        let staged : a.staged ≡ env r.0 ∷ [] =
        a.grouped ∙ ap (flat_map (λ s. cond (is_taken s) (env s ∷ []) [])) here
        ∙ one_kept is_taken env rows r.0 rises.0 r.1 r.2
        (λ s k t. are.once tab key s r.0 k r.1 (at_taken s k t) at) in
        let one = a.distinct ∙ ap (map (output take_query)) staged in
        let ordered =
        one_permutation (output take_query (env r.0)) a.ordered
        (subst (λ k. IsPermutation k a.ordered) one a.same) in
        let is : found ≡ (rowid r.0 ∷ []) ∷ [] =
        a.shown ∙ ap (λ k. page take_query params (map (λ (o : Output). o.1) k)) ordered in
        inr (record {
          row = r.0;
          listed = r.1;
          at = at;
          is = left ∙ ap (λ all. without_all rows (ids_of all)) is;
        })
    | inr none ↦
        let off =
        λ (s : Row) (h : Has rows s) (t : is_taken s ≡ true).
        true≢false (sym (some_from is_taken rows s h t) ∙ none) in
        let staged : a.staged ≡ [] =
        a.grouped ∙ ap (flat_map (λ s. cond (is_taken s) (env s ∷ []) [])) here
        ∙ none_kept is_taken env rows off in
        let ordered =
        none_ordered a.ordered (subst (λ k. IsPermutation k a.ordered)
        (a.distinct ∙ ap (map (output take_query)) staged) a.same) in
        let is : found ≡ [] =
        a.shown ∙ ap (λ k. page take_query params (map (λ (o : Output). o.1) k)) ordered in
        inl (record {
          none = λ s h at. off s h (taken_at s at);
          is = left ∙ ap (λ all. without_all rows (ids_of all)) is;
        })
  ]
