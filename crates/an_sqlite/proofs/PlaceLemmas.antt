-- What a place tells and holds.
use Rattle.std.proofs.Common.{◌≡◌, ◌&&◌, ◌∙◌, refl, ap, sym, subst, inl, inr, false, List, [], None, Some, IfSome, IsSome, IsTrue}
use Rattle.std.proofs.lemmas.Bool.{and_parts, cases_Bool}
use Rattle.sqlite_trees.specs.declared.store.Store.{Ghosts}
use Rattle.sqlite.specs.Held.{Held, state}
use Rattle.sqlite.specs.State.{State, HasCleanDisk}
use Rattle.an_keep.specs.Cells.{Ascend}
use Rattle.an_keep.specs.declared.cell.Cell.{Cell}
use Rattle.an_sqlite.specs.declared.connecting.Connecting.{Connecting}
use Rattle.an_sqlite.specs.declared.connecting.Connecting.TheVariants.{Open, Refused}
use Rattle.an_sqlite.specs.Base.{HasCells}
use Rattle.an_sqlite.specs.declared.base.Base.{Base}
use Rattle.an_sqlite.specs.Found.{may_tell}
use Rattle.an_keep.specs.Keeper.{Told}
use Rattle.an_sqlite.specs.Connecting.{BeginsWith, IsClean, IsSettled, connection_in, told_in}
use Rattle.an_sqlite.specs.Table.{no_schema}
use Rattle.an_sqlite.specs.Tells.{Tells, cells_of}
use Rattle.an_sqlite.specs.Told.{cells_in, is_well, told_by, told_if}
use Rattle.an_sqlite.proofs.FoundLemmas.{blank_cells, table_cells, told_true}
use Rattle.an_sqlite.proofs.ToldLemmas.{clean_from, clean_parts, never_begins, settled_by, told_ascends, told_first, untold}

pub begins_with : (s : State) (cells : List Cell) → BeginsWith s cells → HasCells s false cells
begins_with s cells (inl h) = inl h
begins_with s cells (inr h) = inr (refl, h.0, h.1)

module _ {S : Type 0} (g : Ghosts S) where
  pub told_ascend : (place : Connecting S g) → IfSome (told_in g place) Ascend
  told_ascend (Open teller) = told_ascends g teller.came.value teller.base
  told_ascend (Refused error) = tt

  -- where the cells are told no transaction is open
  pub settled_in : (place : Connecting S g) → IsSome (told_in g place) → IsSettled g place
  settled_in (Open teller) some = settled_by g teller.came.value teller.base teller.known some
  settled_in (Refused error) some = absurd (untold some)

  -- where the cells are told the disk returned what was written
  pub clean_told : (place : Connecting S g) → IsSome (told_in g place) → IsClean g place
  clean_told (Open teller) some =
      let came = may_tell (state g teller.came.value) in
      let well = is_well (state g teller.base.conn) in
      (clean_parts (state g teller.base.conn)
      (and_parts came well
      (told_true (came && well) (cells_in (state g teller.base.conn)) some)).1).0
  clean_told (Refused error) some = absurd (untold some)

  -- what holds of the cells that a keeper told holds of those that it tells where the disk is clean
  pub told_clean : (place : Connecting S g) (P : Told → Type 0) (cells : List Cell)
      → P (told_in g place) → IsSome (told_in g place)
      → (IsClean g place → told_in g place ≡ Some cells) → P (Some cells)
  told_clean place P cells holds some tells = subst P (tells (clean_told place some)) holds

-- what the keeper needs of a place whose cells it tells
pub ruleset telling = (told_ascend, settled_in, never_begins)

-- ---- a connection as it is adopted

module _ (s : State) (cells : List Cell) where
  begins_in : BeginsWith s cells → cells_in s ≡ cells
  begins_in (inl held) = table_cells s held.0 ∙ held.1
  begins_in (inr none) = blank_cells s none.0 ∙ sym none.1

  -- what is told of it, where anything is, is what it begins with
  pub told_begins : (HasCleanDisk s → BeginsWith s cells)
      → IfSome (told_if (may_tell s && is_well s) (cells_in s)) (λ told. told ≡ cells)
  told_begins begins = elim (cases_Bool (may_tell s && is_well s)) [
    | inl both ↦
        rw both (begins_in (begins (clean_parts s (and_parts (may_tell s) (is_well s) both).1).0))
    | inr other ↦ rw other tt
  ]

  -- what is told of a connection that is clean and open is what it begins with
  pub tells_begins : (told : Told)
      → (s.now.schema ≡ no_schema → s.in_transaction ≡ false → IsTrue (is_well s) → told ≡ Some [])
      → (Tells s → s.in_transaction ≡ false → IsTrue (is_well s) → told ≡ Some (cells_of s))
      → HasCleanDisk s → IsTrue s.is_open → s.in_transaction ≡ false → BeginsWith s cells
      → told ≡ Some cells
  tells_begins told of_none of_table clean is_open settled (inl held) =
      of_table held.0 settled (clean_from s clean is_open) ∙ ap Some held.1
  tells_begins told of_none of_table clean is_open settled (inr none) =
      of_none none.0 settled (clean_from s clean is_open) ∙ ap Some (sym none.1)

module _ {S : Type 0} (g : Ghosts S) where
  pub first_begins : (came conn : Held S) (base : Base S) (cells : List Cell) → came ≡ conn
      → base ≡ record { conn = conn; is_made = false; ahead = None }
      → (HasCleanDisk (state g conn) → BeginsWith (state g conn) cells)
      → IfSome (told_by g came base) (λ told. told ≡ cells)
  first_begins came conn base cells same is begins =
      subst (λ told. IfSome told (λ found. found ≡ cells))
      (sym (told_first g came conn base same is)) (told_begins (state g conn) cells begins)

  pub clean_in : (place : Connecting S g) (conn : Held S) → connection_in place ≡ Some conn
      → IsClean g place → HasCleanDisk (state g conn)
  clean_in (Open teller) conn is clean =
      let same : teller.base.conn ≡ conn = cc in
      subst (λ (c : Held S). HasCleanDisk (state g c)) same clean
  clean_in (Refused error) conn is clean = absurd clean

  pub none_clean : (place : Connecting S g) → connection_in place ≡ None → IsClean g place → ⊥
  none_clean (Open teller) none clean = absurd cc
  none_clean (Refused error) none clean = clean

-- what a keeper needs that adopts a connection
pub ruleset adopting = (begins_with, first_begins)
