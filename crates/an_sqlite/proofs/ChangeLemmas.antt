-- What a statement that writes makes of the cells.
use Rattle.std.proofs.Common.{◌≡◌, inl, inr, ℕ, ℤ, pos, [], ◌∷◌, Some, true, List, IsTrue, None, Ok, Err, Result, OnOk, refl, sym, ap, subst, ◌∙◌, true≢false}
use Rattle.sqlite_value.specs.declared.value.Value.TheVariants.{Null, Int, Blob}
use Rattle.sqlite_schema.specs.Rules.{Obeys}
use Rattle.sqlite_schema.specs.declared.schema.Schema.{Schema}
use Rattle.sqlite_schema.specs.declared.command.Command.TheVariants.{Delete}
use Rattle.sqlite.specs.declared.error.Error.{Error}
use Rattle.sqlite.specs.Effect.{Database, IsDatabase}
use Rattle.sqlite.specs.Held.{Held, state}
use Rattle.sqlite.specs.Steps.{FailsToCommit}
use Rattle.sqlite_trees.specs.declared.store.Store.{Ghosts}
use Rattle.an_sqlite.specs.Cells.{table}
use Rattle.sqlite.specs.State.{State, Executes, ExecutesInside}
use Rattle.sqlite.proofs.Callers.{runs_as}
use Rattle.an_keep.specs.Cells.{put_cell, take_cell, put_change, put_changes}
use Rattle.an_keep.specs.declared.cell.Change.{Change}
use Rattle.an_sqlite.specs.Statements.{put_text, take_text, take_program}
use Rattle.an_sqlite.specs.Table.{cell_schema}
use Rattle.an_sqlite.specs.Written.{written}
use Rattle.an_sqlite.proofs.RowForms.{AreCells}
use Rattle.an_sqlite.specs.Tells.{Rises}
use Rattle.an_sqlite.specs.Tells.{Tells, Turns, KeepsCommit, cells_of}
use Rattle.an_sqlite.proofs.ShapeLemmas.{written_is, tree_is}
use Rattle.an_sqlite.proofs.StatementLemmas.{take_plain}
use Rattle.an_sqlite.proofs.WriteLemmas.{take_is, takes}
use Rattle.an_sqlite.proofs.RowLemmas.{are_cells}
use Rattle.an_sqlite.proofs.PutLemmas.{params_of, puts}
use Rattle.an_sqlite.proofs.TakeLemmas.{place_params, take_rows}
use Rattle.an_sqlite.proofs.TableLemmas.{puts_only, put_table, takes_only, take_table}

pub cells_in : (s : State) → Tells s → AreCells (s.now.trees 0)
cells_in s t = are_cells s.now.trees t.rises t.obeys

pub tells_from : (s : State) → s.now.schema ≡ cell_schema → IsDatabase s.now → Rises (s.now.trees 0)
    → Tells s
tells_from s schema sound rises = record {
  schema = schema;
  rises = rises;
  obeys = subst (λ (t : Schema). Obeys t s.now.trees) (schema ∙ written_is) sound.obeys;
}

pub put_state : (old new : State) (tab key : ℕ) (val : List ℕ) (count : ℕ) → Tells old
    → Executes put_text (params_of tab key val) old new (Ok count)
    → Tells new
    × (cells_of new ≡ put_cell (record { tab = tab; key = key; val = val }) (cells_of old))
put_state old new tab key val count t h =
    let are = cells_in old t in
    let p = puts old new tab key val count t.schema t.rises are h in
    let only = puts_only tab key val (old.now.trees 0) (new.now.trees 0) t.rises are p.0 in
    let now = tells_from new p.1 p.2 only.rise in (
      now,
      put_table tab key val (old.now.trees 0) (new.now.trees 0) t.rises are p.0 (cells_in new now),
    )

pub take_state : (old new : State) (tab key : ℕ) (count : ℕ) → Tells old
    → Executes take_text (place_params tab key) old new (Ok count)
    → Tells new × (cells_of new ≡ take_cell tab key (cells_of old))
take_state old new tab key count t h =
    let are = cells_in old t in
    let w =
    runs_as take_text (place_params tab key) old new cell_schema t.schema
    (Delete 0 take_program) take_is take_plain count h in
    let d = takes old new (place_params tab key) (Ok count) t.schema h in
    let rows =
    take_rows tab key (old.now.trees 0) t.rises are old.now.trees (new.now.trees 0) d.rows refl
    (d.found.answer Null) (rw tree_is at d.left) in
    let only = takes_only tab key (old.now.trees 0) (new.now.trees 0) t.rises are rows in
    let now = tells_from new d.schema w.sound only.rise in (
      now,
      take_table tab key (old.now.trees 0) (new.now.trees 0) t.rises are rows (cells_in new now),
    )

-- ---- within a transaction

pub put_inside : (old new : State) (tab key : ℕ) (val : List ℕ) (r : Result ℕ Error) → Tells old
    → ExecutesInside 0 put_text (params_of tab key val) old new r
    → OnOk r (Turns (put_cell (record { tab = tab; key = key; val = val })) old new)
put_inside old new tab key val (Err e) t h = tt
put_inside old new tab key val (Ok count) t h =
    let p = put_state old new tab key val count t h.0 in
    record { tells = p.0; cells = p.1; inside = h.1.mode }

pub take_inside : (old new : State) (tab key : ℕ) (r : Result ℕ Error) → Tells old
    → ExecutesInside 0 take_text (place_params tab key) old new r
    → OnOk r (Turns (take_cell tab key) old new)
take_inside old new tab key (Err e) t h = tt
take_inside old new tab key (Ok count) t h =
    let p = take_state old new tab key count t h.0 in
    record { tells = p.0; cells = p.1; inside = h.1.mode }

pub keeps_then : (a b c : State) → KeepsCommit a b → KeepsCommit b c → KeepsCommit a c
keeps_then a b c p q = record {
  was_open = λ is. p.was_open (q.was_open is);
  committed = λ is. q.committed is ∙ p.committed (q.was_open is);
}

-- the same, where the key is a whole number that is not negative
pub put_at : (old new : State) (tab number : ℕ) (key : ℤ) (val : List ℕ) (r : Result ℕ Error)
    → key ≡ pos number → Tells old
    → ExecutesInside 0 put_text (Int (pos tab) ∷ Int key ∷ Blob val ∷ []) old new r
    → OnOk r (Turns (put_cell (record { tab = tab; key = number; val = val })) old new)
put_at old new tab number key val r is t h = put_inside old new tab number val r t (rw is at h)

pub take_at : (old new : State) (tab number : ℕ) (key : ℤ) (r : Result ℕ Error) → key ≡ pos number
    → Tells old → ExecutesInside 0 take_text (Int (pos tab) ∷ Int key ∷ []) old new r
    → OnOk r (Turns (take_cell tab number) old new)
take_at old new tab number key r is t h = take_inside old new tab number r t (rw is at h)

pub change_put : (old new : State) (change : Change) (val : List ℕ) (key : ℤ) (r : Result ℕ Error)
    → change.val ≡ Some val → key ≡ pos change.key → Tells old
    → ExecutesInside 0 put_text (Int (pos change.tab) ∷ Int key ∷ Blob val ∷ []) old new r
    → OnOk r (Turns (put_change change) old new)
change_put old new change val key r some is t h =
    rw some (put_at old new change.tab change.key key val r is t h)

pub change_take : (old new : State) (change : Change) (key : ℤ) (r : Result ℕ Error)
    → change.val ≡ None → key ≡ pos change.key → Tells old
    → ExecutesInside 0 take_text (Int (pos change.tab) ∷ Int key ∷ []) old new r
    → OnOk r (Turns (put_change change) old new)
change_take old new change key r none is t h =
    rw none (take_at old new change.tab change.key key r is t h)

-- what is left to do makes of the cells now what all changes make of the first
pub record AreLeft (left changes : List Change) (first now : State) : Type 0 where
  pub tells : Tells now
  pub cells : put_changes left (cells_of now) ≡ put_changes changes (cells_of first)

pub all_are_left : (first : State) (changes : List Change) → Tells first
    → AreLeft changes changes first first
all_are_left first changes t = record { tells = t; cells = refl }

pub one_is_done : (first a b : State) (left changes : List Change) (change : Change)
    → AreLeft (change ∷ left) changes first a → Turns (put_change change) a b
    → AreLeft left changes first b
one_is_done first a b left changes change p q =
    record { tells = q.tells; cells = ap (put_changes left) q.cells ∙ p.cells }

pub none_is_left : (first end : State) (changes : List Change) → AreLeft [] changes first end
    → IsTrue end.in_transaction → Turns (put_changes changes) first end
none_is_left first end changes p inside =
    record { tells = p.tells; cells = p.cells; inside = inside }

pub keeps_itself : (s : State) → KeepsCommit s s
keeps_itself s = record { was_open = λ is. is; committed = λ _. refl }

-- what one change needs, and what all of them do
pub ruleset change = (change_put, change_take)

pub ruleset changes = (all_are_left, one_is_done, none_is_left, keeps_then, keeps_itself)

-- ---- a commit

module _ {S : Type 0} (g : Ghosts S) where
  -- a commit that fails leaves what was there before
  pub still_there : (old : Held S) (mid end : State) (e : Error)
      → (IsTrue (state g old).is_open → (state g old).now ≡ (state g old).committed)
      → KeepsCommit (state g (record old { in_transaction = true })) mid → IsTrue mid.in_transaction
      → FailsToCommit mid end e → IsTrue end.is_open → end.now ≡ (state g old).now
  still_there old mid end e settled keeps inside (inl (cause, is, why, back, told)) is_open =
      let was = back.was_open is_open in
      (back.undone is_open).0 ∙ keeps.committed was ∙ sym (settled (keeps.was_open was))
  still_there old mid end e settled keeps inside (inr (is, ended, same)) is_open =
      absurd (true≢false (sym inside ∙ ended))

  pub committed : (old mid end : Held S) (changes : List Change)
      → Turns (put_changes changes) (state g (record old { in_transaction = true })) (state g mid)
      → (state g end).now ≡ (state g mid).now
      → Tells (state g end)
      × (cells_of (state g end) ≡ put_changes changes (cells_of (state g old)))
  committed old mid end changes turns now = (
    record {
      schema = ap (λ (d : Database). d.schema) now ∙ turns.tells.schema;
      rises = subst (λ (d : Database). Rises (d.trees 0)) (sym now) turns.tells.rises;
      obeys = subst (λ (d : Database). Obeys written d.trees) (sym now) turns.tells.obeys;
    },
    ap (λ (d : Database). table (d.trees 0)) now ∙ turns.cells,
  )

-- the table as it was just made tells that there are no cells
pub begins : (s : State) → s.now.schema ≡ cell_schema → IsDatabase s.now → s.now.trees 0 ≡ []
    → Tells s × (cells_of s ≡ [])
begins s schema sound none =
    (tells_from s schema sound (subst Rises (sym none) (tt, tt)), ap table none)
