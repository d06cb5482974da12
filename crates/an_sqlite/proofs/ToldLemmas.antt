-- What a keeper tells before a call and behind it.
use Rattle.std.proofs.Common.{◌≡◌, ◌==◌, ◌&&◌, inl, inr, Bool, true, false, cond, List, [], Option, Some, None, Result, Ok, Err, IfOk, IfSome, IsSome, OnOk, OnErr, IsTrue, refl, sym, ap, subst, ◌∙◌, arith, true≢false}
use Rattle.std.specs.Coded.{coded_bool, coded_list, coded_option}
use Rattle.std.proofs.Math.Logic.{∥∥₁_elim, ∥∥₁_map}
use Rattle.std.proofs.lemmas.Bool.{and_parts, and_from}
use Rattle.std.proofs.lemmas.Bool.Decides.{nat_tests}
use base.Stored.{Coded-set}
use Rattle.sqlite_trees.specs.declared.store.Store.{Ghosts}
use Rattle.sqlite_trees.specs.View.{doubt}
use Rattle.sqlite.specs.Held.{Held, state}
use Rattle.sqlite.specs.State.{State, HasCleanDisk, IsLive}
use Rattle.an_keep.specs.Cells.{Ascend}
use Rattle.an_keep.specs.Keeper.{Told, Turns, Stays, StaysOrBegins}
use Rattle.an_keep.specs.contracts.cell.Cell.{the_row}
use Rattle.an_keep.specs.declared.cell.Cell.{Cell}
use Rattle.an_sqlite.specs.declared.base.Base.{Base}
use Rattle.an_sqlite.specs.Base.{Lists}
use Rattle.an_sqlite.specs.Found.{may_tell, same_schema}
use Rattle.an_sqlite.specs.Table.{no_schema}
use Rattle.an_sqlite.specs.Tells.{cells_of}
use Rattle.an_sqlite.specs.Told.{GoesOn, cells_in, is_well, told_if, told_by}
use Rattle.an_sqlite.proofs.AheadLemmas.{cells_ascend}
use Rattle.an_sqlite.proofs.FoundLemmas.{blank_cells, found_from, settled_from, table_cells, told_true}

-- ---- two cells of knowledge

turns_if : (change : List Cell → List Cell) (old new : Bool) (before behind : List Cell)
    → (new ≡ true → old ≡ true) → (new ≡ true → behind ≡ change before)
    → Turns change (told_if old before) (told_if new behind)
turns_if change old false before behind was is = tt
turns_if change true true before behind was is = is refl
turns_if change false true before behind was is = absurd (true≢false (sym (was refl)))

pub stays_itself : (told : Told) → Stays told told
stays_itself None = tt
stays_itself (Some cells) = refl

-- a keeper that doesn't begin to tell stays
pub never_begins : (old new : Told) → Stays old new → StaysOrBegins old new
never_begins None new stays = tt
never_begins (Some cells) new stays = stays

pub untold : IsSome (told_if false []) → ⊥
untold some = true≢false (sym (told_true false [] some))

pub clean_parts : (s : State) → is_well s ≡ true → HasCleanDisk s × IsTrue s.is_open
clean_parts s well =
    let parts = and_parts (doubt s.is_clean == 0) s.is_open well in
    (grind (arith, nat_tests), parts.1)

pub clean_from : (s : State) → HasCleanDisk s → IsTrue s.is_open → is_well s ≡ true
clean_from s clean is_open =
    and_from (doubt s.is_clean == 0) s.is_open (grind (arith, nat_tests)) is_open

module _ {S : Type 0} (g : Ghosts S) where
  abbrev Knows : Base S → Type 0
  Knows base =
      IsTrue (is_well (state g base.conn))
      → ∥ Lists g base (cells_in (state g base.conn))
      × ((state g base.conn).in_transaction ≡ false) ∥₁

  abbrev may : Held S → Bool
  may came = may_tell (state g came)

  abbrev cells : Base S → List Cell
  cells base = cells_in (state g base.conn)

  abbrev well : Base S → Bool
  well base = is_well (state g base.conn)

  -- the cells that a base holds are those that are told
  held_cells : (base : Base S) (held : List Cell) → Lists g base held → cells base ≡ held
  held_cells base held (inl has, next) = table_cells (state g base.conn) has.0 ∙ has.1
  held_cells base held (inr none, next) = blank_cells (state g base.conn) none.1 ∙ sym none.2

  ascends : (base : Base S) → Ascend (cells base)
  ascends base = by (same_schema (state g base.conn).now.schema no_schema)
    where
      by : (b : Bool) → Ascend (cond b [] (cells_of (state g base.conn)))
      by true = refl
      by false = cells_ascend (state g base.conn)

  pub told_ascends : (came : Held S) (base : Base S) → IfSome (told_by g came base) Ascend
  told_ascends came base = by (may came && well base)
    where
      by : (b : Bool) → IfSome (told_if b (cells base)) Ascend
      by true = ascends base
      by false = tt

  module _ (old new : Base S) (goes : GoesOn g old new) where
    well_before : well new ≡ true → well old ≡ true
    well_before is =
        let parts = clean_parts (state g new.conn) is in
        let clean : HasCleanDisk (state g old.conn) = omega (arith, goes.clean, parts.0) in
        clean_from (state g old.conn) clean (goes.was_open parts.0 parts.1)

    told_before : (came : Held S) → may came && well new ≡ true → may came && well old ≡ true
    told_before came both =
        let parts = and_parts (may came) (well new) both in
        and_from (may came) (well old) parts.0 (well_before parts.1)

    module _ (change : List Cell → List Cell) (known : Knows old)
        (does : HasCleanDisk (state g new.conn) → IsTrue (state g new.conn).is_open
        → (held : List Cell) → Lists g old held → Lists g new (change held)) where
      knows_changed : Knows new
      knows_changed is =
          let parts = clean_parts (state g new.conn) is in
          ∥∥₁_map (known (well_before is)) (λ both.
          let now = does parts.0 parts.1 (cells old) both.0 in
          (subst (Lists g new) (sym (held_cells new _ now)) now, goes.settled both.1))

      changed_in : well new ≡ true → cells new ≡ change (cells old)
      changed_in is =
          let parts = clean_parts (state g new.conn) is in
          ∥∥₁_elim (known (well_before is)) (Coded-set (coded_list the_row.coded) _ _)
          (λ both. held_cells new _ (does parts.0 parts.1 (cells old) both.0))

  -- ---- a commit

  module _ {A E : Type 0} (came : Held S) (old new : Base S) (goes : GoesOn g old new)
      (change : List Cell → List Cell) where
    abbrev Does : Result A E → Type 0
    Does r =
        HasCleanDisk (state g new.conn) → (held : List Cell) → Lists g old held
        → OnOk r (Lists g new (change held))

    abbrev Keeps : Result A E → Type 0
    Keeps r =
        HasCleanDisk (state g new.conn) → IsTrue (state g new.conn).is_open → (held : List Cell)
        → Lists g old held → OnErr r (Lists g new held)

    pub knows_committed : (r : Result A E) → Does r → Keeps r → (IsTrue (may came) → Knows old)
        → IsTrue (may came) → Knows new
    knows_committed (Ok a) does keeps known is =
        knows_changed old new goes change (known is) (λ clean is_open. does clean)
    knows_committed (Err e) does keeps known is =
        knows_changed old new goes (λ held. held) (known is) keeps

    pub turns_committed : (r : Result A E) → Does r → (IsTrue (may came) → Knows old)
        → OnOk r (Turns change (told_by g came old) (told_by g came new))
    turns_committed (Ok a) does known =
        turns_if change _ _ (cells old) (cells new) (told_before old new goes came)
        (λ both.
        let parts = and_parts (may came) (well new) both in
        changed_in old new goes change (known parts.0) (λ clean is_open. does clean) parts.1)
    turns_committed (Err e) does known = tt

    pub stays_committed : (r : Result A E) → Keeps r → (IsTrue (may came) → Knows old)
        → OnErr r (Stays (told_by g came old) (told_by g came new))
    stays_committed (Ok a) keeps known = tt
    stays_committed (Err e) keeps known =
        turns_if (λ held. held) _ _ (cells old) (cells new) (told_before old new goes came)
        (λ both.
        let parts = and_parts (may came) (well new) both in
        changed_in old new goes (λ held. held) (known parts.0) keeps parts.1)

  -- ---- a question

  module _ {A E : Type 0} (came : Held S) (old new : Base S) (goes : GoesOn g old new) where
    abbrev Leaves : Result A E → Type 0
    Leaves r =
        HasCleanDisk (state g new.conn) → (held : List Cell) → Lists g old held
        → OnOk r (Lists g new held)

    abbrev Stands : Result A E → Type 0
    Stands r =
        HasCleanDisk (state g new.conn) → IsTrue (state g new.conn).is_open → (held : List Cell)
        → Lists g old held → OnErr r (Lists g new held)

    keeps : (r : Result A E) → Leaves r → Stands r → HasCleanDisk (state g new.conn)
        → IsTrue (state g new.conn).is_open → (held : List Cell) → Lists g old held
        → Lists g new held
    keeps (Ok a) leaves stands clean is_open held holds = leaves clean held holds
    keeps (Err e) leaves stands clean is_open held holds = stands clean is_open held holds

    pub knows_asked : (r : Result A E) → Leaves r → Stands r → (IsTrue (may came) → Knows old)
        → IsTrue (may came) → Knows new
    knows_asked r leaves stands known is =
        knows_changed old new goes (λ held. held) (known is) (keeps r leaves stands)

    pub stays_asked : (r : Result A E) → Leaves r → Stands r → (IsTrue (may came) → Knows old)
        → Stays (told_by g came old) (told_by g came new)
    stays_asked r leaves stands known =
        turns_if (λ held. held) _ _ (cells old) (cells new) (told_before old new goes came)
        (λ both.
        let parts = and_parts (may came) (well new) both in
        changed_in old new goes (λ held. held) (known parts.0) (keeps r leaves stands) parts.1)

  pub gives_asked : {E : Type 0} (came : Held S) (old new : Base S) → GoesOn g old new
      → (f : List Cell → Option Cell) (r : Result (Option Cell) E)
      → (HasCleanDisk (state g new.conn) → (held : List Cell) → Lists g old held
      → OnOk r (Lists g new held))
      → (HasCleanDisk (state g new.conn) → (held : List Cell) → Lists g old held
      → IfOk r (λ cell. cell ≡ f held))
      → (IsTrue (may came) → Knows old)
      → IfOk r (λ cell. IfSome (told_by g came new) (λ cells. cell ≡ f cells))
  gives_asked came old new goes f (Err e) leaves gives known = tt
  gives_asked came old new goes f (Ok cell) leaves gives known = by (may came && well new) refl
    where
      by : (b : Bool) → may came && well new ≡ b
          → IfSome (told_if b (cells new)) (λ cells. cell ≡ f cells)
      by true both =
          let parts = and_parts (may came) (well new) both in
          let clean = (clean_parts (state g new.conn) parts.1).0 in
          let held = known parts.0 (well_before old new goes parts.1) in
          let same =
          changed_in old new goes (λ held. held) (known parts.0)
          (λ clean is_open. leaves clean) parts.1 in
          let found : cell ≡ f (cells old) =
          ∥∥₁_elim held (Coded-set (coded_option the_row.coded) _ _)
          (λ both. gives clean (cells old) both.0) in
          found ∙ ap f (sym same)
      by false both = tt

  -- ---- the beginning

  pub told_first : (came conn : Held S) (base : Base S) → came ≡ conn
      → base ≡ record { conn = conn; is_made = false; ahead = None }
      → told_by g came base
      ≡ told_if (may_tell (state g conn) && is_well (state g conn)) (cells_in (state g conn))
  told_first came conn base same is = rw (same, is) refl

  -- what is told of a connection that comes is what it holds, and it has no transaction open
  pub knows_found : (base : Base S) → base.is_made ≡ false → base.ahead ≡ None
      → IsLive (state g base.conn) → IsTrue (may_tell (state g base.conn)) → Knows base
  knows_found base not_made none live is goes =
      let parts = clean_parts (state g base.conn) goes in
      let settled = settled_from (state g base.conn) is in
      elim (found_from (state g base.conn) (λ is_open. (live is_open).0) parts.1 is) [
        | inl blank ↦
            ∣
            ((inr (not_made, blank, blank_cells (state g base.conn) blank), rw none tt), settled) ∣₁
        | inr tells ↦
            ∣ ((inl (tells, sym (table_cells (state g base.conn) tells)), rw none tt), settled) ∣₁
      ]

  -- ---- between calls

  -- where the cells are told no transaction is open
  pub settled_by : (came : Held S) (base : Base S) → (IsTrue (may came) → Knows base)
      → IsSome (told_by g came base) → (state g base.conn).in_transaction ≡ false
  settled_by came base known some =
      let parts =
      and_parts (may came) (well base) (told_true (may came && well base) (cells base) some) in
      ∥∥₁_elim (known parts.0 parts.1) (Coded-set coded_bool _ _) (λ both. both.1)
