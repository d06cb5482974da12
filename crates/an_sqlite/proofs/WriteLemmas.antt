-- What the two statements that write stand for.
use Rattle.std.proofs.Common.{◌≡◌, ℕ, List, [], ◌⊎◌, inl, inr, None, Result, Err, OnOk, refl, ap, subst, ◌∙◌, Ok}
use Rattle.sqlite_schema.specs.declared.schema.Keys.TheVariants.{Enforced}
use Rattle.std.proofs.Common.{slice_get, Some}
use Rattle.sqlite_schema.specs.declared.schema.Schema.{Schema}
use Rattle.sqlite_schema.specs.declared.schema.Table.{Table}
use Rattle.sqlite_schema.specs.declared.program.Program.{Program}
use Rattle.sqlite_rules.specs.Action.{works}
use Rattle.sqlite.specs.Given.{IsPlain}
use Rattle.sqlite_schema.specs.declared.command.Source.TheVariants.{Values}
use Rattle.sqlite_schema.specs.declared.command.Conflict.TheVariants.{Abort}
use Rattle.sqlite_trees.specs.Tree.{Trees}
use Rattle.sqlite_value.specs.Order.{Row}
use Rattle.sqlite_rules.specs.declared.error.Rowids.TheVariants.{Given}
use Rattle.sqlite_rules.specs.Edit.{edit_of, taken_by, without_all}
use Rattle.sqlite_rules.specs.Calls.{ids_of}
use Rattle.sqlite.specs.declared.error.Error.{Error}
use Rattle.sqlite.specs.Effect.{Database, Answers}
use Rattle.sqlite.specs.Does.{Tally, Does}
use Rattle.sqlite.specs.Rows.{Written}
use Rattle.sqlite.specs.State.{State, mode_of, Executes}
use Rattle.an_sqlite.proofs.StatementLemmas.{take_plain}
use Rattle.sqlite_schema.specs.declared.command.Command.TheVariants.{Delete, InsertOr}
use Rattle.sqlite_tied.specs.Compute.{everything}
use Rattle.sqlite.specs.Listing.{understood}
use Rattle.sqlite.proofs.Callers.{command_of, statement_of, runs_as, one_step}
use Rattle.an_sqlite.specs.Statements.{put_text, take_text, take_query, take_program, put_terms, put_clauses, Takes, cell_table}
use Rattle.an_sqlite.specs.Table.{cell_schema}

pub put_is : command_of (understood cell_schema put_text)
    ≡ InsertOr 0 Abort (Values put_terms 4) put_clauses
unfolding understood everything
put_is = refl

pub take_is : command_of (understood cell_schema take_text)
    ≡ Delete 0 (record { lets = []; body = take_query })
unfolding understood everything
take_is = refl

-- a part that gave a value did not stop on the way
pub went : {B E R : Type 0} {b : B} {Stops : E → Type 0}
    → ((stop : E) × Stops stop × (Ok b ≡ Err stop)) ⊎ R → R
went (inl stopped) = absurd (let e = stopped.2 in cc)
went (inr on) = on

pub same_value : {B E : Type 0} {a b : B} → ◌≡◌ {A = Result B E} (Ok a) (Ok b) → a ≡ b
same_value e = cc

-- Over a schema that isn't written out: what a delete leaves of the first table, which no foreign
-- key speaks of.
module _ (sql : List ℕ) (schema : Schema) (table : Table)
    (lists : slice_get schema.tables 0 ≡ Some table)
    (free : (taken news : List Row) → works schema Enforced 0 table.tree taken news ≡ [])
    (q : Program) (is : command_of (understood schema sql) ≡ Delete 0 q)
    (plain : IsPlain (understood schema sql)) where
  deletes : (old new : State) (params : Row) (count : ℕ) → old.now.schema ≡ schema
      → Executes sql params old new (Ok count)
      → (rows : List Row)
      × Answers (record { schema = schema; trees = old.now.trees }) q params rows
      × (new.now.trees table.tree ≡ without_all (old.now.trees table.tree) (ids_of rows))
      × (new.now.schema ≡ schema)
  deletes old new params count has h =
      let db = old.now.trees in
      let w = runs_as sql params old new schema has (Delete 0 q) is plain count h in
      let text = statement_of sql (understood schema sql) in
      let does =
      subst (λ s. Does old.step_limit (mode_of old) params (record old.now { schema = s }) text None
      (Delete 0 q) (Ok (w.tally, new.now))) has w.changed in
      let done = went (rw lists at does) in
      let now = ap (λ (p : Tally × Database). p.1) (same_value (went (went done.2).2).2) in
      let given = went done.1 in
      let written = went given.2 in
      let trees : done.0.trees ≡ written.0 =
      ap (λ (it : Written). it.trees) (same_value written.2) in
      let edit = edit_of db table (ids_of given.0) Given 0 [] in
      let rows =
      (one_step schema Enforced db written.0 edit
      (free (taken_by db edit) edit.news) written.1).rows in (
        given.0,
        given.1,
        ap (λ (d : Database). d.trees table.tree) now ∙ ap (λ (t : Trees). t table.tree) trees
            ∙ rows,
        ap (λ (d : Database). d.schema) now,
      )

pub lists_is : slice_get cell_schema.tables 0 ≡ Some cell_table
unfolding understood everything
lists_is = refl

pub free_is : (taken news : List Row) → works cell_schema Enforced 0 cell_table.tree taken news ≡ []
unfolding understood everything
free_is taken news = refl

pub takes : (old new : State) (params : Row) (r : Result ℕ Error) → old.now.schema ≡ cell_schema
    → Executes take_text params old new r → OnOk r (Takes params old.now new.now)
takes old new params (Err e) has h = tt
takes old new params (Ok count) has h =
    let d =
    deletes take_text cell_schema cell_table lists_is free_is take_program take_is take_plain old
    new params count has h in
    record { rows = d.0; found = d.1; left = d.2; schema = d.3 }
