-- What the test of a connection that comes decides, and what is told of it.
use Rattle.std.proofs.Common.{◌≡◌, ◌⊎◌, ◌&&◌, not, inl, inr, Bool, true, false, List, [], ◌∷◌, Some, IsSome, IsTrue, Less, refl, sym, ap, ap₂, subst, ◌∙◌, true≢false, eqb-true, eq-eqb}
use Rattle.std.specs.List.{AllByRecursion, list_all}
use Rattle.std.specs.Ordering.{is_lt}
use Rattle.std.proofs.lemmas.Bool.{and_parts, and_from, cases_Bool, not_from_false, or_cases, or_left, or_right}
use base.Stored.{Gv, gnil, gnum, gcons}
use Rattle.sqlite_store.proofs.OrderLemmas.{less}
use Rattle.sqlite_schema.specs.declared.schema.Schema.{Schema}
use Rattle.sqlite_schema.specs.declared.schema.Table.{Table}
use Rattle.sqlite_schema.specs.contracts.schema.Schema.{the_row}
use Rattle.sqlite_value.specs.Order.{Row, value_cmp}
use Rattle.sqlite_trees.specs.Tree.{rowid}
use Rattle.sqlite_trees.specs.View.{is_int}
use Rattle.sqlite.specs.State.{State, IsLive}
use Rattle.sqlite.specs.Effect.{IsDatabase}
use Rattle.an_keep.specs.declared.cell.Cell.{Cell}
use Rattle.an_sqlite.specs.Found.{may_tell, rise, same_code, same_schema}
use Rattle.an_sqlite.specs.Table.{cell_schema, no_schema}
use Rattle.an_sqlite.specs.Tells.{Rises, Tells, cells_of}
use Rattle.an_sqlite.specs.Told.{cells_in, is_well, told_if}
use Rattle.an_sqlite.specs.Written.{cells}
use Rattle.an_sqlite.proofs.ChangeLemmas.{tells_from}
use Rattle.an_sqlite.proofs.ShapeLemmas.{written_is}

-- ---- two schemas

same_codes : (g h : Gv) → same_code g h ≡ true → g ≡ h
same_codes gnil gnil e = refl
same_codes (gnum m) (gnum n) e = ap gnum (eqb-true m n e)
same_codes (gcons a b) (gcons c d) e =
    let parts = and_parts (same_code a c) (same_code b d) e in
    ap₂ gcons (same_codes a c parts.0) (same_codes b d parts.1)
same_codes gnil (gnum n) e = absurd cc
same_codes gnil (gcons c d) e = absurd cc
same_codes (gnum m) gnil e = absurd cc
same_codes (gnum m) (gcons c d) e = absurd cc
same_codes (gcons a b) gnil e = absurd cc
same_codes (gcons a b) (gnum n) e = absurd cc

same_itself : (g : Gv) → same_code g g ≡ true
same_itself gnil = refl
same_itself (gnum n) = eq-eqb n n refl
same_itself (gcons a b) = and_from (same_code a a) (same_code b b) (same_itself a) (same_itself b)

same_schemas : (s t : Schema) → same_schema s t ≡ true → s ≡ t
unfolding same_schema
same_schemas s t e = the_row.coded.inj s t (same_codes _ _ e)

schemas_same : (s t : Schema) → s ≡ t → same_schema s t ≡ true
unfolding same_schema
schemas_same s t is =
    subst (λ (u : Schema). same_code (the_row.coded.code s) (the_row.coded.code u) ≡ true) is
    (same_itself (the_row.coded.code s))

one_is_none : {t : Table} {ts : List Table} → t ∷ ts ≡ [] → ⊥
one_is_none e = cc

-- the table of cells is a table
differ : (s : Schema) → s ≡ cell_schema → same_schema s no_schema ≡ false
differ s is = elim (cases_Bool (same_schema s no_schema)) [
  | inl same ↦
      absurd (one_is_none {t = cells} {ts = []}
      (ap (λ (u : Schema). u.tables) (sym (is ∙ written_is) ∙ same_schemas s no_schema same)))
  | inr is_other ↦ is_other
]

-- ---- the rows in their order

rows_above : (row : Row) (rows : List Row)
    → list_all (λ later. is_lt (value_cmp (rowid row) (rowid later))) rows ≡ true
    → AllByRecursion (λ later. value_cmp (rowid row) (rowid later) ≡ Less) rows
rows_above row [] e = tt
rows_above row (later ∷ rows) e =
    let parts = and_parts (is_lt (value_cmp (rowid row) (rowid later))) _ e in
    (less _ parts.0, rows_above row rows parts.1)

above_rows : (row : Row) (rows : List Row)
    → AllByRecursion (λ later. value_cmp (rowid row) (rowid later) ≡ Less) rows
    → list_all (λ later. is_lt (value_cmp (rowid row) (rowid later))) rows ≡ true
above_rows row [] all = refl
above_rows row (later ∷ rows) all =
    and_from (is_lt (value_cmp (rowid row) (rowid later))) _ (ap is_lt all.0)
    (above_rows row rows all.1)

rises_from : (rows : List Row) → rise rows ≡ true → Rises rows
rises_from [] e = (tt, tt)
rises_from (row ∷ rows) e =
    let parts = and_parts (is_int (rowid row)) _ e in
    let more =
    and_parts (list_all (λ later. is_lt (value_cmp (rowid row) (rowid later))) rows)
    (rise rows) parts.1 in
    let rest = rises_from rows more.1 in
    ((rows_above row rows more.0, rest.0), (parts.0, rest.1))

rise_from : (rows : List Row) → Rises rows → rise rows ≡ true
rise_from [] rises = refl
rise_from (row ∷ rows) rises =
    and_from (is_int (rowid row)) _ rises.1.0
    (and_from (list_all (λ later. is_lt (value_cmp (rowid row) (rowid later))) rows) (rise rows)
    (above_rows row rows rises.0.0) (rise_from rows (rises.0.1, rises.1.1)))

-- ---- a connection that comes

pub told_true : (b : Bool) (all : List Cell) → IsSome (told_if b all) → b ≡ true
told_true true all some = refl
told_true false all some = absurd cc

module _ (s : State) where
  pub blank_cells : s.now.schema ≡ no_schema → cells_in s ≡ []
  blank_cells is = rw (schemas_same s.now.schema no_schema is) refl

  pub table_cells : Tells s → cells_in s ≡ cells_of s
  table_cells tells = rw (differ s.now.schema tells.schema) refl

  may_tell_none : s.now.schema ≡ no_schema → s.in_transaction ≡ false → may_tell s ≡ true
  unfolding may_tell
  may_tell_none schema settled =
      and_from (not s.in_transaction) _ (not_from_false s.in_transaction settled)
      (or_left _ _ (schemas_same s.now.schema no_schema schema))

  may_tell_table : Tells s → s.in_transaction ≡ false → may_tell s ≡ true
  unfolding may_tell
  may_tell_table tells settled =
      and_from (not s.in_transaction) _ (not_from_false s.in_transaction settled)
      (or_right (same_schema s.now.schema no_schema) _
      (and_from _ _ (schemas_same s.now.schema cell_schema tells.schema)
      (rise_from (s.now.trees 0) tells.rises)))

  pub settled_from : may_tell s ≡ true → s.in_transaction ≡ false
  unfolding may_tell
  settled_from may = elim (cases_Bool s.in_transaction) [
    | inl inside ↦
        absurd (true≢false (sym (and_parts (not s.in_transaction) _ may).0 ∙ ap not inside))
    | inr settled ↦ settled
  ]

  pub found_from : (IsTrue s.is_open → IsDatabase s.now) → IsTrue s.is_open → may_tell s ≡ true
      → (s.now.schema ≡ no_schema) ⊎ Tells s
  unfolding may_tell
  found_from live is_open may =
      elim (or_cases (same_schema s.now.schema no_schema) _
      (and_parts (not s.in_transaction) _ may).1) [
        | inl blank ↦ inl (same_schemas s.now.schema no_schema blank)
        | inr table ↦
            let parts =
            and_parts (same_schema s.now.schema cell_schema) (rise (s.now.trees 0)) table in
            inr (tells_from s (same_schemas s.now.schema cell_schema parts.0) (live is_open)
            (rises_from (s.now.trees 0) parts.1))
      ]

  told_is : may_tell s ≡ true → is_well s ≡ true → (held : List Cell) → cells_in s ≡ held
      → told_if (may_tell s && is_well s) (cells_in s) ≡ Some held
  told_is may well held is = rw (may, well) (ap Some is)

  pub tells_none : s.now.schema ≡ no_schema → s.in_transaction ≡ false → IsTrue (is_well s)
      → told_if (may_tell s && is_well s) (cells_in s) ≡ Some []
  tells_none schema settled well =
      told_is (may_tell_none schema settled) well [] (blank_cells schema)

  pub tells_table : Tells s → s.in_transaction ≡ false → IsTrue (is_well s)
      → told_if (may_tell s && is_well s) (cells_in s) ≡ Some (cells_of s)
  tells_table tells settled well =
      told_is (may_tell_table tells settled) well (cells_of s) (table_cells tells)

  both_parts : IsSome (told_if (may_tell s && is_well s) (cells_in s))
      → (may_tell s ≡ true) × (is_well s ≡ true)
  both_parts some =
      and_parts (may_tell s) (is_well s) (told_true (may_tell s && is_well s) (cells_in s) some)

  pub told_of : IsLive s → IsSome (told_if (may_tell s && is_well s) (cells_in s))
      → (s.now.schema ≡ no_schema) ⊎ Tells s
  told_of live some =
      let both = both_parts some in
      found_from (λ is_open. (live is_open).0) (and_parts _ s.is_open both.1).1 both.0

  pub told_settled : IsSome (told_if (may_tell s && is_well s) (cells_in s))
      → s.in_transaction ≡ false
  told_settled some = settled_from (both_parts some).0
