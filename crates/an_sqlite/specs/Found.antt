-- Of which connections, as they come to a keeper, it tells the cells: a test that computes.
use Rattle.std.specs.Prelude.{Bool, true, false, not, ◌&&◌, ◌||◌, ◌==◌, List, [], ◌∷◌}
use Rattle.std.specs.List.{list_all}
use Rattle.std.specs.Ordering.{is_lt}
use base.Stored.{Gv, gnil, gnum, gcons}
use Rattle.sqlite_value.specs.Order.{Row, value_cmp}
use Rattle.sqlite_trees.specs.Tree.{rowid}
use Rattle.sqlite_trees.specs.View.{is_int}
use Rattle.sqlite_schema.specs.declared.schema.Schema.{Schema}
use Rattle.sqlite_schema.specs.contracts.schema.Schema.{the_row}
use Rattle.sqlite.specs.State.{State}
use Rattle.an_sqlite.specs.Table.{cell_schema, no_schema}

abbrev pub same_code : Gv → Gv → Bool
same_code gnil gnil = true
same_code (gnum m) (gnum n) = m == n
same_code (gcons a b) (gcons c d) = same_code a c && same_code b d
same_code _ _ = false

-- whether they are equal, by their codes, since no two schemas have the same
unfoldable pub same_schema : Schema → Schema → Bool
same_schema s t = same_code (the_row.coded.code s) (the_row.coded.code t)

-- whether the rowids are integers and rise
abbrev pub rise : List Row → Bool
rise [] = true
rise (row ∷ rows) =
    is_int (rowid row)
    && (list_all (λ later. is_lt (value_cmp (rowid row) (rowid later))) rows && rise rows)

-- whether no transaction is open, and it has no table at all, or exactly the table of cells, whose
-- rows stand by their rowids
unfoldable pub may_tell : State → Bool
may_tell s =
    not s.in_transaction
    && (same_schema s.now.schema no_schema
    || (same_schema s.now.schema cell_schema && rise (s.now.trees 0)))
