-- That there is no row is told only of an empty table.
use Rattle.std.proofs.Common.{refl, ◌≡◌, inl, inr, ℕ, List, [], Option, Err, sym, ap, subst, ◌∙◌}
use Rattle.sqlite_value.specs.Order.{Row}
use Rattle.sqlite_trees.specs.declared.error.StoreError.{StoreError}
use Rattle.sqlite_trees.specs.declared.error.StoreError.TheVariants.{OutOfMemory, Io, Corrupt, Full, Broken, Unstorable}
use Rattle.sqlite_schema.specs.declared.program.Program.{Program}
use Rattle.sqlite.specs.declared.error.Error.{Error}
use Rattle.sqlite.specs.declared.error.Error.TheVariants.{QueryReturnedNoRows}
use Rattle.sqlite.specs.Effect.{Database, RefusesQuery, RefusesToRead}
use Rattle.sqlite.specs.Listing.{understood}
use Rattle.sqlite.specs.Given.{IsPlain}
use Rattle.sqlite.specs.Clock.{timed}
use Rattle.sqlite.specs.State.{Shown, IsUnchanged, State, QueriesRow, FailsToQuery, IsNotRun, IsNoStatement, store_error}
use Rattle.sqlite.proofs.Callers.{command_of}
use Rattle.an_sqlite.specs.Statements.{first_text, first_query}
use Rattle.an_sqlite.specs.Table.{cell_schema}
use Rattle.an_sqlite.proofs.StatementLemmas.{first_is, first_plain}
use Rattle.an_sqlite.proofs.LeastLemmas.{finds_none}
use Rattle.sqlite_sql.specs.Query.{Query}
use Rattle.sqlite_schema.specs.declared.command.Command.TheVariants.{Select}

store_apart : (cause : StoreError) → store_error cause ≡ QueryReturnedNoRows → ⊥
store_apart OutOfMemory is = absurd cc
store_apart Io is = absurd cc
store_apart Corrupt is = absurd cc
store_apart Full is = absurd cc
store_apart Broken is = absurd cc
store_apart Unstorable is = absurd cc

refused_apart : (limit : Option ℕ) (db : Database) (p : Program) (params : Row) (e : Error)
    → RefusesQuery limit db p params e → e ≡ QueryReturnedNoRows → ⊥
refused_apart limit db p params e (inl h) is = absurd (let a = h.0 in cc)
refused_apart limit db p params e (inr (inl h)) is = absurd (let a = h.0 in cc)
refused_apart limit db p params e (inr (inr h)) is = absurd (let a = h.0 in cc)

no_statement_apart : (s : State) (sql : List ℕ) (params : Row) (e : Error)
    → IsNoStatement s sql params e → e ≡ QueryReturnedNoRows → ⊥
no_statement_apart s sql params e (inl h) is = absurd (let a = h.2 in cc)
no_statement_apart s sql params e (inr (c, known, inl h)) is = absurd (let a = h.1 in cc)
no_statement_apart s sql params e (inr (c, known, inr (inl h))) is = absurd (let a = h.1 in cc)
no_statement_apart s sql params e (inr (c, known, inr (inr h))) is = absurd (let a = h.1 in cc)

not_run_apart : (old new : State) (sql : List ℕ) (params : Row) (e : Error)
    → IsNotRun old new sql params e → e ≡ QueryReturnedNoRows → ⊥
unfolding IsNotRun
not_run_apart old new sql params e (inl h) is = no_statement_apart old sql params e h.0 is
not_run_apart old new sql params e (inr h) is = store_apart h.0 (sym h.1 ∙ is)

module _ (sql : List ℕ) (query : Query) (names : List (List ℕ))
    (known : command_of (understood cell_schema sql)
    ≡ Select (record { lets = []; body = query }) names)
    (plain : IsPlain (understood cell_schema sql)) (given : Row) where
  fails_apart : (old new : State) (e : Error) → old.now.schema ≡ cell_schema
      → FailsToQuery sql given old new e → e ≡ QueryReturnedNoRows → ⊥
  unfolding FailsToQuery
  fails_apart old new e has (inl h) is = not_run_apart old new sql given e h is
  fails_apart old new e has (inr h) is =
      let same = sym h.1.is ∙ ap (λ s. understood s sql) has in
      let bare = subst IsPlain (sym same) plain in
      let it = rw bare.0 at h.2 in
      let full = timed given h.0.formats h.1.now in
      refused_apart old.step_limit it.0 (record { lets = []; body = query }) full e
      (subst (λ k. RefusesToRead old.step_limit k it.0 full e) (ap command_of same ∙ known) it.2) is

  shown_nothing : (old new : State) → old.now.schema ≡ cell_schema
      → QueriesRow sql given old new (Err QueryReturnedNoRows) → Shown sql given old new []
  unfolding QueriesRow
  shown_nothing old new has (inl h) = absurd (fails_apart old new QueryReturnedNoRows has h refl)
  shown_nothing old new has (inr h) = h.1

  pub shown_unchanged : (old new : State) (rows : List Row) → old.now.schema ≡ cell_schema
      → Shown sql given old new rows → IsUnchanged old new
  unfolding Shown
  shown_unchanged old new rows has h =
      let same = sym h.1.is ∙ ap (λ s. understood s sql) has in
      let bare = subst IsPlain (sym same) plain in
      (rw bare.0 at h.2).3

pub finds_nothing : (old new : State) → old.now.schema ≡ cell_schema
    → QueriesRow first_text [] old new (Err QueryReturnedNoRows) → old.now.trees 0 ≡ []
finds_nothing old new has h =
    finds_none old new has
    (shown_nothing first_text first_query _ first_is.0 first_plain [] old new has h)

pub first_nothing : (params : Row) (old new : State) → old.now.schema ≡ cell_schema
    → QueriesRow first_text params old new (Err QueryReturnedNoRows)
    → Shown first_text params old new []
first_nothing params old new has h =
    shown_nothing first_text first_query _ first_is.0 first_plain params old new has h

pub first_unchanged : (params : Row) (old new : State) (rows : List Row)
    → old.now.schema ≡ cell_schema → Shown first_text params old new rows → IsUnchanged old new
first_unchanged params old new rows has h =
    shown_unchanged first_text first_query _ first_is.0 first_plain params old new rows has h
