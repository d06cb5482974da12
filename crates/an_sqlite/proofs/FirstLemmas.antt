-- Which cell the first row shows, and what making the table does.
use Rattle.std.proofs.Common.{◌≡◌, Bool, true, IsTrue, true≢false, inl, inr, ℕ, pos, List, [], Option, None, Some, Ok, Err, Result, IfOk, OnErr, OnOk, false, refl, sym, ap, subst, ◌∙◌}
use Rattle.sqlite_schema.specs.declared.schema.Table.{Table}
use Rattle.sqlite_schema.specs.declared.command.Command.TheVariants.{CreateTable, Nothing}
use Rattle.sqlite_schema.specs.Rules.{Obeys}
use Rattle.sqlite_resolve.specs.Compile.{table_defined_by}
use Rattle.sqlite_catalog.specs.Change.{created, next_tree}
use Rattle.sqlite_value.specs.declared.value.Value.TheVariants.{Blob, Int}
use Rattle.sqlite_value.specs.Order.{Row, column}
use Rattle.sqlite_tied.specs.Compute.{everything}
use Rattle.sqlite.specs.declared.error.Error.{Error}
use Rattle.sqlite.specs.declared.error.Error.TheVariants.{QueryReturnedNoRows}
use Rattle.sqlite.specs.Effect.{Database}
use Rattle.sqlite.specs.Does.{Tally, lacks_sequence}
use Rattle.sqlite.specs.Given.{IsPlain}
use Rattle.sqlite.specs.Listing.{understood}
use Rattle.sqlite.specs.State.{State, IsRolledBack, Writes, Executes, ExecutesInside, FailsToQuery, FailsToShow, IsNotRun, QueriesRow}
use Rattle.sqlite_schema.specs.declared.command.Returning.{Returning}
use Rattle.sqlite_resolve.specs.declared.compiled.Compiled.{Compiled}
use Rattle.sqlite.proofs.Callers.{statement_of, runs_as}
use Rattle.an_keep.specs.Cells.{first_of, put_changes}
use Rattle.an_keep.specs.declared.cell.Cell.{Cell}
use Rattle.an_keep.specs.declared.cell.Change.{Change}
use Rattle.an_sqlite.specs.Statements.{first_text}
use Rattle.an_sqlite.specs.Table.{create_text, no_schema, cell_schema}
use Rattle.an_sqlite.specs.Written.{written}
use Rattle.an_sqlite.specs.Base.{HasCells}
use Rattle.an_sqlite.specs.Cells.{table, shown_cell, ShowsCell}
use Rattle.an_sqlite.specs.Row.{Shows}
use Rattle.an_sqlite.specs.Tells.{Rises}
use Rattle.an_sqlite.specs.Tells.{Tells, cells_of}
use Rattle.an_sqlite.proofs.StatementLemmas.{create_is, create_again_is}
use Rattle.an_sqlite.proofs.WriteLemmas.{went, same_value}
use Rattle.an_sqlite.proofs.LeastLemmas.{finds_first}
use Rattle.an_sqlite.proofs.NoneLemmas.{finds_nothing, first_nothing, first_unchanged}
use Rattle.an_sqlite.proofs.ChangeLemmas.{cells_in, begins}
use Rattle.an_sqlite.proofs.TableLemmas.{first_cell}

pub first_shows : (old new : State) (r : Result Row Error) → Tells old
    → QueriesRow first_text [] old new r → IfOk r (ShowsCell (first_of (cells_of old)))
first_shows old new (Err e) t h = tt
first_shows old new (Ok row) t h =
    first_cell (old.now.trees 0) (cells_in old t) row (finds_first old new (Ok row) t.schema h)

pub first_none : (old new : State) → Tells old
    → QueriesRow first_text [] old new (Err QueryReturnedNoRows) → first_of (cells_of old) ≡ None
first_none old new t h = ap (λ rows. first_of (table rows)) (finds_nothing old new t.schema h)

pub first_same : (old new : State) (row : Row) → Tells old
    → QueriesRow first_text [] old new (Ok row) → new.now ≡ old.now
unfolding QueriesRow
first_same old new row t (inl h) = h.1.0.now_is
first_same old new row t (inr h) = (first_unchanged [] old new h.0 t.schema h.1).0.now_is

pub none_same : (old new : State) → Tells old
    → QueriesRow first_text [] old new (Err QueryReturnedNoRows) → new.now ≡ old.now
none_same old new t h =
    (first_unchanged [] old new [] t.schema (first_nothing [] old new t.schema h)).0.now_is

pub tells_still : (old mid : State) → Tells old → mid.now ≡ old.now → Tells mid
tells_still old mid t is = record {
  schema = ap (λ (d : Database). d.schema) is ∙ t.schema;
  rises = subst (λ (d : Database). Rises (d.trees 0)) (sym is) t.rises;
  obeys = subst (λ (d : Database). Obeys written d.trees) (sym is) t.obeys;
}

pub cells_still : (old mid : State) → mid.now ≡ old.now → cells_of mid ≡ cells_of old
cells_still old mid is = ap (λ (d : Database). table (d.trees 0)) is

-- ---- the table made

create_plain : IsPlain (understood no_schema create_text)
unfolding understood everything
create_plain = (refl, refl)

create_again_plain : IsPlain (understood cell_schema create_text)
unfolding understood everything
create_again_plain = (refl, refl)

create_whole : statement_of create_text (understood no_schema create_text) ≡ create_text
unfolding understood everything
create_whole = refl

-- the table that the text defines
defined : (t : Table) → Ok t ≡ table_defined_by create_text → created no_schema t ≡ cell_schema
unfolding understood everything
defined t is = let same : t ≡ _ = same_value is in ap (created no_schema) same

lacks_none : lacks_sequence cell_schema ≡ false
unfolding understood everything
lacks_none = refl

pub makes : (old new : State) (r : Result ℕ Error) → old.now.schema ≡ no_schema
    → Executes create_text [] old new r → OnOk r (Tells new × (cells_of new ≡ []))
makes old new (Err e) has h = tt
makes old new (Ok count) has h =
    let w =
    subst (λ t. Writes old new None CreateTable t [] count) create_whole
    (runs_as create_text [] old new no_schema has CreateTable create_is create_plain count h) in
    let all = went w.changed in
    let first = went all.1 in
    let made = first.1 in
    let schema : first.0.schema ≡ cell_schema =
    made.is ∙ ap (λ s. created s made.table) has ∙ defined made.table (sym made.defined) in
    let plain : lacks_sequence first.0.schema ≡ false = ap lacks_sequence schema ∙ lacks_none in
    let now : new.now ≡ first.0 =
    ap (λ (p : Tally × Database). p.1) (same_value all.2) ∙ same_value (rw plain at first.2) in
    begins new (ap (λ (d : Database). d.schema) now ∙ schema) w.sound
    (ap (λ (d : Database). d.trees 0) now
    ∙ subst (λ s. first.0.trees (next_tree s) ≡ []) has made.empty)

pub makes_again : (old new : State) (r : Result ℕ Error) → Tells old
    → Executes create_text [] old new r → OnOk r (Tells new × (cells_of new ≡ cells_of old))
makes_again old new (Err e) t h = tt
makes_again old new (Ok count) t h =
    let same =
    (runs_as create_text [] old new cell_schema t.schema Nothing create_again_is create_again_plain
    count h).0 in
    (tells_still old new t same.0.now_is, cells_still old new same.0.now_is)

-- ---- a statement that fails

undone : (old new : State) → (IsTrue old.is_open → old.now ≡ old.committed) → IsRolledBack old new
    → IsTrue new.is_open → new.now ≡ old.now
undone old new settled back is_open =
    (back.undone is_open).0 ∙ sym (settled (back.was_open is_open))

fails_to_show : (sql : List ℕ) (params : Row) (old new : State) (c : Compiled) (e : Error)
    (what : Option Returning) → (IsTrue old.is_open → old.now ≡ old.committed)
    → FailsToShow old new sql c params e what → IsTrue new.is_open → new.now ≡ old.now
fails_to_show sql params old new c e None settled h is_open = h.3.0.now_is
fails_to_show sql params old new c e (Some what) settled (inl u) is_open = u.1.0.now_is
fails_to_show sql params old new c e (Some what) settled (inr f) is_open =
    undone old new settled f.3 is_open

pub keeps_refused : (sql : List ℕ) (params : Row) (old new : State) (e : Error)
    → (IsTrue old.is_open → old.now ≡ old.committed) → FailsToQuery sql params old new e
    → IsTrue new.is_open → new.now ≡ old.now
unfolding FailsToQuery IsNotRun
keeps_refused sql params old new e settled (inl (inl h)) is_open = h.1.0.now_is
keeps_refused sql params old new e settled (inl (inr h)) is_open =
    undone old new settled h.3 is_open
keeps_refused sql params old new e settled (inr h) is_open =
    fails_to_show sql _ old new h.0 e h.0.returning settled h.2 is_open

pub first_failed : (old new : State) (e : Error) → (IsTrue old.is_open → old.now ≡ old.committed)
    → Tells old → QueriesRow first_text [] old new (Err e) → IsTrue new.is_open → new.now ≡ old.now
unfolding QueriesRow
first_failed old new e settled t (inl h) is_open =
    keeps_refused first_text [] old new e settled h is_open
first_failed old new e settled t (inr h) is_open =
    (first_unchanged [] old new [] t.schema h.1).0.now_is

-- ---- the table made within a transaction

pub makes_inside : (old new : State) (r : Result ℕ Error) → old.now.schema ≡ no_schema
    → ExecutesInside 0 create_text [] old new r → OnOk r (Tells new × (cells_of new ≡ []))
makes_inside old new (Err e) has h = tt
makes_inside old new (Ok count) has h = makes old new (Ok count) has h.0

pub makes_again_inside : (old new : State) (r : Result ℕ Error) → Tells old
    → ExecutesInside 0 create_text [] old new r → OnOk r (Tells new × (cells_of new ≡ cells_of old))
makes_again_inside old new (Err e) t h = tt
makes_again_inside old new (Ok count) t h = makes_again old new (Ok count) t h.0

-- what was made is committed
pub kept_made : (mid end : State) (cells : List Cell) → Tells mid × (cells_of mid ≡ cells)
    → end.now ≡ mid.now → Tells end × (cells_of end ≡ cells)
kept_made mid end cells made is = (tells_still mid end made.0 is, cells_still mid end is ∙ made.1)

-- ---- one call behind the other

-- what making the table leaves
pub made_cells : (old new : State) (is_made : Bool) (cells : List Cell) → HasCells old is_made cells
    → (Tells old → Tells new × (cells_of new ≡ cells_of old))
    → (old.now.schema ≡ no_schema → Tells new × (cells_of new ≡ []))
    → Tells new × (cells_of new ≡ cells)
made_cells old new is_made cells (inl h) again made = let it = again h.0 in (it.0, it.1 ∙ h.1)
made_cells old new is_made cells (inr h) again made = let it = made h.1 in (it.0, it.1 ∙ sym h.2)

pub made_before : (old new : State) (cells : List Cell) → HasCells old true cells
    → new.now ≡ old.now → Tells new × (cells_of new ≡ cells)
made_before old new cells (inl h) is = (tells_still old new h.0 is, cells_still old new is ∙ h.1)
made_before old new cells (inr h) is = absurd (true≢false h.0)

pub still_holds : (old new : State) (is_made : Bool) (cells : List Cell)
    → HasCells old is_made cells → new.now ≡ old.now → HasCells new is_made cells
still_holds old new is_made cells (inl h) is =
    inl (tells_still old new h.0 is, cells_still old new is ∙ h.1)
still_holds old new is_made cells (inr h) is =
    inr (h.0, ap (λ (d : Database). d.schema) is ∙ h.1, h.2)

-- what a base needs that makes it
pub ruleset made = (made_cells, made_before, still_holds)

pub commits : (mid new : State) (is_made : Bool) (changes : List Change) (cells : List Cell)
    → Tells mid × (cells_of mid ≡ cells)
    → (Tells mid → Tells new × (cells_of new ≡ put_changes changes (cells_of mid)))
    → HasCells new is_made (put_changes changes cells)
commits mid new is_made changes cells made done =
    let it = done made.0 in inl (it.0, it.1 ∙ ap (put_changes changes) made.1)

pub stays : (mid new : State) (is_made : Bool) (cells : List Cell)
    → Tells mid × (cells_of mid ≡ cells) → (Tells mid → new.now ≡ mid.now)
    → HasCells new is_made cells
stays mid new is_made cells made same =
    let is = same made.0 in inl (tells_still mid new made.0 is, cells_still mid new is ∙ made.1)

pub stays_failed : (mid new : State) (is_made : Bool) (cells : List Cell)
    → Tells mid × (cells_of mid ≡ cells) → new.now ≡ mid.now → HasCells new is_made cells
stays_failed mid new is_made cells made is =
    inl (tells_still mid new made.0 is, cells_still mid new is ∙ made.1)

three : {a b : ℕ} {v : List ℕ} {c d : ℕ} {w : List ℕ} → a ≡ c → b ≡ d → v ≡ w
    → ◌≡◌ {A = Cell} (record { tab = a; key = b; val = v }) (record { tab = c; key = d; val = w })
three p q r = rw (p, q, r) refl

pub cell_is : (row : Row) (c cell : Cell) → row ≡ shown_cell c → Shows row cell → cell ≡ c
cell_is row c cell is s =
    let tabs : Int (pos c.tab) ≡ Int (pos cell.tab) = ap (λ r. column r 0) (sym is) ∙ s.tab in
    let keys : Int (pos c.key) ≡ Int (pos cell.key) = ap (λ r. column r 1) (sym is) ∙ s.key in
    let vals : Blob c.val ≡ Blob cell.val = ap (λ r. column r 2) (sym is) ∙ s.val in
    let tab_is : cell.tab ≡ c.tab = cc in
    let key_is : cell.key ≡ c.key = cc in
    let val_is : cell.val ≡ c.val = cc in
    three tab_is key_is val_is

pub finds_cell : (mid : State) (row : Row) (cell : Cell) (cells : List Cell)
    → Tells mid × (cells_of mid ≡ cells) → (Tells mid → ShowsCell (first_of (cells_of mid)) row)
    → Shows row cell
    → Some cell ≡ first_of cells
finds_cell mid row cell cells made found s =
    let h = found made.0 in ap Some (cell_is row h.0 cell h.1 s) ∙ sym h.2 ∙ ap first_of made.1

pub finds_no_cell : (mid : State) (cells : List Cell) → Tells mid × (cells_of mid ≡ cells)
    → (Tells mid → first_of (cells_of mid) ≡ None) → None ≡ first_of cells
finds_no_cell mid cells made found = sym (found made.0) ∙ ap first_of made.1

pub on_ok : {A E : Type 0} {P Q : Type 0} (r : Result A E) → (P → Q) → OnOk r P → OnOk r Q
on_ok (Ok a) turn p = turn p
on_ok (Err e) turn p = tt

pub on_err : {A E : Type 0} {P Q : Type 0} (r : Result A E) → (P → Q) → OnErr r P → OnErr r Q
on_err (Ok a) turn p = tt
on_err (Err e) turn p = turn p

pub if_ok : {A E : Type 0} {P Q : A → Type 0} (r : Result A E) → ((a : A) → P a → Q a) → IfOk r P
    → IfOk r Q
if_ok (Ok a) turn p = turn a p
if_ok (Err e) turn p = tt
