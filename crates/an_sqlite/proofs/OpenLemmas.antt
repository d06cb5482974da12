-- A connection that is open behind a statement was open before it.
use Rattle.std.proofs.Common.{inl, inr, ℕ, List, [], Vec, Option, None, Some, Ok, Err, Result, IfOk, IfErr, IsTrue}
use Rattle.std.specs.declared.alloc.Global.{Global}
use Rattle.sqlite_schema.specs.declared.command.Returning.{Returning}
use Rattle.sqlite_resolve.specs.declared.compiled.Compiled.{Compiled}
use Rattle.sqlite_value.specs.Order.{Row}
use Rattle.sqlite.specs.declared.error.Error.{Error}
use Rattle.sqlite.specs.State.{State, FailsToQuery, FailsToShow, IsNotRun, QueriesRow, Shown, ShowsRows}

module _ (old new : State) where
  not_shown : (sql : List ℕ) (params : Row) (c : Compiled) (e : Error) (what : Option Returning)
      → FailsToShow old new sql c params e what → IsTrue new.is_open → IsTrue old.is_open
  not_shown sql params c e None h is_open = h.3.0.was_open
  not_shown sql params c e (Some what) (inl u) is_open = u.1.0.was_open
  not_shown sql params c e (Some what) (inr f) is_open = f.3.was_open is_open

  pub refused : (sql : List ℕ) (params : Row) (e : Error) → FailsToQuery sql params old new e
      → IsTrue new.is_open → IsTrue old.is_open
  unfolding FailsToQuery IsNotRun
  refused sql params e (inl (inl h)) is_open = h.1.0.was_open
  refused sql params e (inl (inr h)) is_open = h.3.was_open is_open
  refused sql params e (inr h) is_open = not_shown sql _ h.0 e h.0.returning h.2 is_open

  rows_shown : (sql : List ℕ) (params : Row) (c : Compiled) (rows : List Row)
      (what : Option Returning) → ShowsRows old new sql c params rows what → IsTrue old.is_open
  rows_shown sql params c rows None h = h.3.0.was_open
  rows_shown sql params c rows (Some what) h = h.1.shown.was_open

  pub answered : (sql : List ℕ) (params : Row) (rows : List Row) → Shown sql params old new rows
      → IsTrue old.is_open
  unfolding Shown
  answered sql params rows h = rows_shown sql _ h.0 rows h.0.returning h.2

  pub queried : (sql : List ℕ) (params : Row) (r : Result Row Error)
      → QueriesRow sql params old new r → IsTrue new.is_open → IsTrue old.is_open
  unfolding QueriesRow
  queried sql params (Ok row) (inl h) is_open = h.1.0.was_open
  queried sql params (Ok row) (inr h) is_open = answered sql params h.0 h.1
  queried sql params (Err e) (inl h) is_open = refused sql params e h is_open
  queried sql params (Err e) (inr h) is_open = answered sql params [] h.1

  pub asked : (sql : List ℕ) (params : Row) (r : Result (Vec Row Global) Error)
      → IfOk r (λ rows. Shown sql params old new rows.items)
      → IfErr r (FailsToQuery sql params old new) → IsTrue new.is_open → IsTrue old.is_open
  asked sql params (Ok rows) ok err is_open = answered sql params rows.items ok
  asked sql params (Err e) ok err is_open = refused sql params e err is_open
