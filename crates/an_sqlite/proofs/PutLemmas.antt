-- What the upsert makes of the rows of the table.
use Rattle.std.proofs.Common.{◌≡◌, inl, inr, ℕ, ℤ, pos, List, [], ◌∷◌, ◌++◌, map, Bool, true, false, cond, ◌&&◌, ◌||◌, None, Some, Option, Ok, refl, sym, ap, subst, ◌∙◌, flat_map, IsPermutation, Less}
use Rattle.std.specs.List.{list_all}
use Rattle.std.proofs.lemmas.Cmp.{tied_itself}
use Rattle.sqlite_value.specs.declared.keys.Collation.TheVariants.{Binary}
use Rattle.sqlite_value.proofs.OrderLemmas.{value_cmp_total}
use Rattle.sqlite_sql.specs.Term.{Env, holds}
use Rattle.sqlite_sql.specs.Query.{Output, output, page, IsAnswer}
use Rattle.sqlite_sql.specs.Program.{overlay}
use Rattle.sqlite_schema.specs.Rules.{equal, agree}
use Rattle.sqlite_value.specs.Keys.{plain, first_key, later}
use Rattle.sqlite_rules.proofs.ListLemmas.{all_has}
use Rattle.sqlite_rules.proofs.TableLemmas.{int_is}
use Rattle.sqlite_rules.proofs.PlaceLemmas.{tied_same}
use Rattle.std.proofs.lemmas.Bool.{not-true, and_parts, and_from, cases_Bool}
use Rattle.sqlite_value.specs.declared.value.Value.{Value}
use Rattle.sqlite_value.specs.declared.value.Value.TheVariants.{Null, Int, Blob}
use Rattle.sqlite_value.specs.Order.{Row, column, value_cmp}
use Rattle.sqlite_trees.specs.Tree.{Trees, IsTable, rowid, put_row, without_rowid}
use Rattle.sqlite_sql.specs.Ops.{unary}
use Rattle.sqlite_schema.specs.declared.schema.Kind.TheVariants.{Integer}
use Rattle.sqlite_schema.specs.declared.schema.Keys.TheVariants.{Enforced}
use Rattle.sqlite_schema.specs.declared.command.Command.TheVariants.{InsertOr}
use Rattle.sqlite_schema.specs.declared.command.Source.TheVariants.{Values}
use Rattle.sqlite_schema.specs.declared.command.Conflict.TheVariants.{Abort}
use Rattle.sqlite_rules.specs.Action.{works}
use Rattle.sqlite_rules.specs.Cast.{cast, cast_row}
use Rattle.sqlite_rules.specs.Lists.{Has}
use Rattle.sqlite_rules.specs.Keys.{conflicts}
use Rattle.sqlite_rules.specs.declared.error.Rowids.TheVariants.{Given, Chosen}
use Rattle.sqlite_rules.specs.Edit.{edited, id_in, next_rowid, with_rowid, edit_of, taken_by, is_taken}
use Rattle.sqlite_rules.specs.Calls.{ids_of}
use Rattle.sqlite.specs.Listing.{understood}
use Rattle.sqlite.specs.Effect.{Database, IsDatabase}
use Rattle.sqlite.specs.Does.{Tally, Does}
use Rattle.sqlite.specs.Rows.{count_of, Clears, Written, Task, Upserts, Puts as PutsNew, Updates, Tries, TriesEach, nothing, shown}
use Rattle.sqlite.specs.State.{State, mode_of, Executes}
use Rattle.sqlite.proofs.Callers.{statement_of, runs_as, one_step, one_permutation}
use Rattle.an_sqlite.specs.Statements.{put_text, put_terms, put_clauses, update_query}
use Rattle.an_sqlite.specs.Table.{cell_schema}
use Rattle.an_sqlite.specs.Written.{cells, by_key, written}
use Rattle.an_sqlite.proofs.RowForms.{row_of, AreCells, IsAt, Replaces, Puts}
use Rattle.an_sqlite.specs.Tells.{Rises}
use Rattle.an_sqlite.proofs.ShapeLemmas.{written_is}
use Rattle.an_sqlite.proofs.StatementLemmas.{put_plain}
use Rattle.an_sqlite.proofs.WriteLemmas.{put_is, went, same_value}
use Rattle.an_sqlite.proofs.RowLemmas.{equal_itself, equal_is}

abbrev pub params_of : ℕ → ℕ → List ℕ → Row
params_of tab key val = Int (pos tab) ∷ Int (pos key) ∷ Blob val ∷ []

either : (b : Bool) (x : Value) → cond b x x ≡ x
either true x = refl
either false x = refl

pub cast_null : cast Integer Null ≡ Null
unfolding unary
cast_null = either _ Null

pub cast_int : (n : ℤ) → cast Integer (Int n) ≡ Int n
unfolding unary
cast_int n = either _ (Int n)

pub cast_is : (id : ℤ) (tab key : ℕ) (val : List ℕ)
    → cast_row cells (row_of id tab key val) ≡ row_of id tab key val
cast_is id tab key val = rw (cast_int id, cast_int (pos tab), cast_int (pos key)) refl

new_is : (rows : List Row) (tab key : ℕ) (val : List ℕ)
    → with_rowid Chosen rows (cast_row cells (Null ∷ params_of tab key val))
    ≡ row_of (next_rowid rows) tab key val
new_is rows tab key val = rw (cast_null, cast_int (pos tab), cast_int (pos key)) refl

no_works : (keys : _) (taken news : List Row) → works written keys 0 0 taken news ≡ []
no_works keys taken news = refl

or_false : (b : Bool) → b || false ≡ true → b ≡ true
or_false true h = refl
or_false false h = h

ap₃ : {a a′ b b′ c c′ : Value} (f : Value → Value → Value → Row) → a ≡ a′ → b ≡ b′ → c ≡ c′
    → f a b c ≡ f a′ b′ c′
ap₃ f p q r = rw (p, q, r) refl

pub below_itself : {r s : Row} → value_cmp (rowid r) (rowid s) ≡ Less → r ≡ s → ⊥
below_itself {r} {s} low same =
    absurd (let e : value_cmp (rowid s) (rowid s) ≡ Less = rw same at low in
    let tie = tied_itself value_cmp_total (rowid s) in cc)

-- ---- the one row of a rowid

module _ (p : Row → Bool) (f : Row → Env) where
  abbrev pub kept : List Row → List Env
  kept = flat_map (λ s. cond (p s) (f s ∷ []) [])

  pub none_kept : (rows : List Row) → ((s : Row) → Has rows s → p s ≡ true → ⊥) → kept rows ≡ []
  none_kept [] none = refl
  none_kept (s ∷ rows) none = elim (cases_Bool (p s)) [
    | inl good ↦ absurd (none s (inl refl) good)
    | inr bad ↦ rw bad (none_kept rows (λ t h. none t (inr h)))
  ]

  pub one_kept : (rows : List Row) (r : Row) → IsTable rows → Has rows r → p r ≡ true
      → ((s : Row) → Has rows s → p s ≡ true → s ≡ r) → kept rows ≡ f r ∷ []
  one_kept [] r up h good only = absurd h
  one_kept (s ∷ rows) r up (inl same) good only =
      let rest =
      none_kept rows
      (λ t h passes. below_itself (all_has _ rows t up.0 h) (sym (only t (inr h) passes ∙ same))) in
      rw (← same, good) (ap (λ more. f r ∷ more) rest)
  one_kept (s ∷ rows) r up (inr later) good only = elim (cases_Bool (p s)) [
    | inl also ↦ absurd (below_itself (all_has _ rows r up.0 later) (only s (inl refl) also))
    | inr bad ↦ rw bad (one_kept rows r up.1 later good (λ t h. only t (inr h)))
  ]

-- ---- the parts of the upsert

module _ (limit : Option ℕ) (tab key : ℕ) (val : List ℕ) (db : Trees) (rises : Rises (db 0))
    (are : AreCells (db 0)) where
  abbrev task : Task
  task = record {
    limit = limit;
    keys = Enforced;
    schema = written;
    table = cells;
    params = params_of tab key val;
  }

  abbrev new : Row
  new = row_of (next_rowid (db 0)) tab key val

  meets : (r : Row) → IsAt tab key r
      → conflicts (Some (1 ∷ 2 ∷ [])) (by_key ∷ []) cells new r ≡ true
  meets r at = rw (at.tab_is, at.key_is, equal_itself _ (pos tab), equal_itself _ (pos key)) refl

  met : (r : Row) → Has (db 0) r → conflicts (Some (1 ∷ 2 ∷ [])) (by_key ∷ []) cells new r ≡ true
      → IsAt tab key r
  met r h c =
      let row = are.typed r h in
      let keyed =
      or_false (agree plain (1 ∷ 2 ∷ []) (row_of row.id row.tab row.key row.val) (1 ∷ 2 ∷ []) new)
      (subst (λ x. conflicts (Some (1 ∷ 2 ∷ [])) (by_key ∷ []) cells new x ≡ true) row.is c) in
      let both =
      and_parts (equal (first_key plain).collation (Int (pos row.tab)) (Int (pos tab)))
      (equal (first_key (later plain)).collation (Int (pos row.key)) (Int (pos key)) && true)
      keyed in
      record {
        tab_is = ap (λ x. column x 1) row.is ∙ ap Int (equal_is _ (pos row.tab) (pos tab) both.0);
        key_is =
            ap (λ x. column x 2) row.is
            ∙ ap Int (equal_is _ (pos row.key) (pos key)
            (and_parts
            (equal (first_key (later plain)).collation (Int (pos row.key)) (Int (pos key)))
            true both.1).0);
      }

  adds : (one : Written) → PutsNew task new db (Ok one)
      → (one.trees 0 ≡ put_row new (db 0)) × (is_taken (db 0) new ≡ false)
  adds one h =
      let w = went h in
      let a = one_step written Enforced db w.0 (edit_of db cells [] Given 0 (new ∷ [])) refl w.1 in
      let is = cast_is (next_rowid (db 0)) tab key val in (
        ap (λ (it : Written). it.trees 0) (same_value w.2) ∙ a.rows ∙ ap (λ r. put_row r (db 0)) is,
        subst (λ r. is_taken (db 0) r ≡ false) is (not-true _ (and_parts _ _ a.fresh).0),
      )

  -- what the update is given where it finds the row
  abbrev given : Row → Row
  given r =
      Int (pos tab) ∷ Int (pos key) ∷ Blob val ∷ rowid r ∷ Int (next_rowid (db 0)) ∷ Int (pos tab)
      ∷ Int (pos key) ∷ Blob val ∷ []

  abbrev env : Row → Row → Env
  env r s = given r ∷ s ∷ []

  abbrev again : Row → Row
  again r = rowid r ∷ rowid r ∷ column r 1 ∷ column r 2 ∷ Blob val ∷ []

  only : (r s : Row) → Has (db 0) r → Has (db 0) s
      → list_all (holds (env r s)) update_query.filter ≡ true → s ≡ r
  only r s h k passes =
      let r_is = int_is (rowid r) (all_has _ (db 0) r rises.1 h) in
      let s_is = int_is (rowid s) (all_has _ (db 0) s rises.1 k) in
      let same =
      equal_is Binary (id_in (rowid s)) (id_in (rowid r))
      (rw (r_is, s_is) at (and_parts (equal Binary (rowid s) (rowid r)) true passes).0) in
      tied_same (db 0) s r rises.0 k h
      (rw (s_is ∙ ap Int same ∙ sym r_is) (tied_itself value_cmp_total (rowid r)))

  itself : (r : Row) → Has (db 0) r → list_all (holds (env r r)) update_query.filter ≡ true
  itself r h =
      and_from (equal Binary (rowid r) (rowid r)) true
      (rw (int_is (rowid r) (all_has _ (db 0) r rises.1 h)) (equal_itself Binary _)) refl

  answer : (r : Row) (rows : List Row) → Has (db 0) r
      → IsAnswer update_query (overlay db []) (given r) rows → rows ≡ again r ∷ []
  answer r rows h a =
      let staged : a.staged ≡ env r r ∷ [] =
      a.grouped
      ∙ one_kept (λ s. list_all (holds (env r s)) update_query.filter) (env r) (db 0) r rises.0 h
      (itself r h) (λ s k. only r s h k) in
      let one = a.distinct ∙ ap (map (output update_query)) staged in
      let ordered =
      one_permutation (output update_query (env r r)) a.ordered
      (subst (λ k. IsPermutation k a.ordered) one a.same) in
      a.shown ∙ ap (λ k. page update_query (given r) (map (λ (o : Output). o.1) k)) ordered

  replaces : (r : Row) (one : Written) → Has (db 0) r → IsAt tab key r
      → Updates task (record { lets = []; body = update_query }) (given r) db (Ok one)
      → Replaces tab key val (db 0) (one.trees 0)
  replaces r one h at u =
      let found = went u in
      let w = went found.2 in
      let rows = answer r found.0 h (found.1.answer Null) in
      let edit = edit_of db cells (ids_of found.0) Given 1 found.0 in
      let step =
      one_step written Enforced db w.0 edit (no_works Enforced (taken_by db edit) edit.news) w.1 in
      let r_is = int_is (rowid r) (all_has _ (db 0) r rises.1 h) in
      let edited_is : edited db (edit_of db cells (ids_of found.0) Given 1 found.0)
      ≡ put_row (cast_row cells (rowid r ∷ column r 1 ∷ column r 2 ∷ Blob val ∷ []))
      (without_rowid (id_in (rowid r)) (db 0)) =
      ap (λ all. edited db (edit_of db cells (ids_of all) Given 1 all)) rows in
      let cast_of : cast_row cells (rowid r ∷ column r 1 ∷ column r 2 ∷ Blob val ∷ [])
      ≡ row_of (id_in (rowid r)) tab key val =
      ap₃ (λ i a b. cast_row cells (i ∷ a ∷ b ∷ Blob val ∷ [])) r_is at.tab_is at.key_is
      ∙ cast_is (id_in (rowid r)) tab key val in
      record {
        row = r;
        listed = h;
        at = at;
        is =
            ap (λ (it : Written). it.trees 0) (same_value w.2) ∙ step.rows ∙ edited_is
            ∙ ap (λ x. put_row x (without_rowid (id_in (rowid r)) (db 0))) cast_of;
      }

  puts_row : (one : Written) → Upserts task Abort new db put_clauses (Ok one)
      → Puts tab key val (db 0) (one.trees 0)
  puts_row one ([], found, h) =
      let a = adds one (clears h.0 h.2) in
      inl
      (record { none = λ r there at. found.complete r there (meets r at); free = a.1; is = a.0 })
    where
      clears : (rows : List Row) → Clears task Abort new db rows (Ok one)
          → PutsNew task new db (Ok one)
      clears [] c = c
      clears (x ∷ more) c = c
  puts_row one (there ∷ more, found, h) =
      let r = found.sound there (inl refl) in
      let u : Updates task (record { lets = []; body = update_query }) (given r.0) db (Ok one) =
      subst (λ x. Updates task (record { lets = []; body = update_query })
      (params_of tab key val ++ rowid x ∷ shown cells new) db (Ok one)) r.3 h in
      inr (replaces r.0 one r.1 (met r.0 r.1 r.2) u)

  tried : (one : Written) → Tries task Abort put_clauses new db (Ok one)
      → Puts tab key val (db 0) (one.trees 0)
  tried one (inl unfit) = absurd (let e = unfit.1 in cc)
  tried one (inr (None, judged, h)) = puts_row one h
  tried one (inr (Some why, judged, h)) = absurd (let e = h in cc)

  each : (top : ℤ) (done : Written × ℤ)
      → TriesEach task Abort put_clauses ((Null ∷ params_of tab key val) ∷ []) top
      (nothing db) (Ok done)
      → Puts tab key val (db 0) (done.0.trees 0)
  each top done h =
      let one = went h in
      let row =
      tried one.0 (subst (λ n. Tries task Abort put_clauses n db (Ok one.0))
      (new_is (db 0) tab key val) one.1) in
      subst (λ (d : Written × ℤ). Puts tab key val (db 0) (d.0.trees 0))
      (sym (same_value one.2)) row

-- ---- the statement

pub puts : (old new : State) (tab key : ℕ) (val : List ℕ) (count : ℕ) → old.now.schema ≡ cell_schema
    → Rises (old.now.trees 0) → AreCells (old.now.trees 0)
    → Executes put_text (params_of tab key val) old new (Ok count)
    → Puts tab key val (old.now.trees 0) (new.now.trees 0) × (new.now.schema ≡ cell_schema)
    × IsDatabase new.now
puts old new tab key val count has rises are h =
    let db = old.now.trees in
    let params = params_of tab key val in
    let command = InsertOr 0 Abort (Values put_terms 4) put_clauses in
    let w = runs_as put_text params old new cell_schema has command put_is put_plain count h in
    let text = statement_of put_text (understood cell_schema put_text) in
    let does =
    subst (λ s. Does old.step_limit (mode_of old) params
    (record old.now { schema = s }) text None command (Ok (w.tally, new.now)))
    (has ∙ written_is) w.changed in
    let done = went does in
    let now = ap (λ (p : Tally × Database). p.1) (same_value (went (went done.2).2).2) in
    let given = went done.1 in
    let counted = went given.2 in
    let rows = went counted.2 in
    let last = went rows.2 in
    let trees : done.0.trees ≡ rows.0.0.trees =
    ap (λ (it : Written). it.trees) (same_value last.2) ∙ same_value last.1 in
    let row = each old.step_limit tab key val db rises are _ rows.0
    (subst (λ all. TriesEach (task old.step_limit tab key val db rises are) Abort put_clauses all
    (count_of counted.0) (nothing db) (Ok rows.0)) given.1.1 rows.1) in (
      subst (λ t. Puts tab key val (db 0) (t 0))
          (sym (ap (λ (d : Database). d.trees) now ∙ trees)) row,
      ap (λ (d : Database). d.schema) now ∙ sym written_is,
      w.sound,
    )
