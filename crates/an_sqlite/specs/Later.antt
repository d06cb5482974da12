-- For private clauses: what the two selects of later rows show.
use Rattle.std.specs.Prelude.{ℕ, List, [], ◌∷◌, codes, ◌++◌, pos, ◌≡◌, Bool, ◌&&◌, ◌==◌, nat_lt}
use Rattle.std.specs.Prelude.{map, take, filter}
use Rattle.std.specs.Prelude.{if◌then◌else◌}
use Rattle.std.specs.List.{list_all}
use Rattle.sqlite_value.specs.declared.keys.Collation.TheVariants.{Binary}
use Rattle.sqlite_value.specs.declared.value.Value.TheVariants.{Int}
use Rattle.sqlite_value.specs.Order.{Row}
use Rattle.sqlite_sql.specs.Term.{Term, lit, col, op2, holds}
use Rattle.sqlite_sql.specs.declared.ops.BinaryOp.TheVariants.{Compare}
use Rattle.sqlite_sql.specs.declared.ops.CompareOp.TheVariants.{Eq, Gt}
use Rattle.sqlite_sql.specs.Query.{Query}
use Rattle.an_keep.specs.declared.cell.Cell.{Cell}
use Rattle.an_keep.specs.Cells.{is_behind}
use Rattle.an_sqlite.specs.Cells.{shown_cell}
use Rattle.an_sqlite.specs.Statements.{first_query}

abbrev pub later_in_text : List ℕ
later_in_text =
    codes "SELECT tab, key, val FROM cell WHERE tab = ?1 AND key > ?2 "
    ++ codes "ORDER BY tab, key LIMIT 100"

abbrev pub in_later_text : List ℕ
in_later_text = codes "SELECT tab, key, val FROM cell WHERE tab > ?1 ORDER BY tab, key LIMIT 100"

-- a row stands in slot 1, as its rowid and then its columns, and the parameters in slot 0
abbrev pub later_in_tests : List Term
later_in_tests =
    op2 (Compare Eq Binary) (col 1 1) (col 0 0) ∷ op2 (Compare Gt Binary) (col 1 2) (col 0 1) ∷ []

abbrev pub in_later_tests : List Term
in_later_tests = op2 (Compare Gt Binary) (col 1 1) (col 0 0) ∷ []

abbrev pub later_query : List Term → Query
later_query tests = record first_query { filter = tests; limit = lit (Int (pos 100)) }

abbrev pub passes : List Term → Row → Row → Bool
passes tests params row = list_all (holds (params ∷ row ∷ [])) tests

abbrev pub keep : (Row → Bool) → List Row → List Row
keep p [] = []
keep p (r ∷ rows) = if p r then r ∷ keep p rows else keep p rows

-- the cell is of this table, behind the key
abbrev pub is_later_in : ℕ → ℕ → Cell → Bool
is_later_in tab key cell = cell.tab == tab && nat_lt key cell.key

-- the cell is of a later table
abbrev pub is_in_later : ℕ → Cell → Bool
is_in_later tab cell = nat_lt tab cell.tab

-- the rows show the first 100 cells that pass the test, in their order and with none between
abbrev pub ShowsFirst : (Cell → Bool) → List Cell → List Row → Type 0
ShowsFirst test cells rows = rows ≡ take 100 (map shown_cell (filter test cells))

-- the rows that show the cells behind a place, in their order
abbrev pub shown_behind : ℕ → ℕ → List Cell → List Row
shown_behind tab key cells = map shown_cell (filter (is_behind tab key) cells)

-- the others begin with these rows
abbrev pub IsFrontOf : List Row → List Row → Type 0
IsFrontOf rows others = (more : List Row) × (others ≡ rows ++ more)

-- the rows show the first cells behind a place, with none between, and none where none is there
pub record ShowsBehind (tab : ℕ) (key : ℕ) (cells : List Cell) (rows : List Row) : Type 0 where
  pub front : IsFrontOf rows (shown_behind tab key cells)
  pub none : rows ≡ [] → filter (is_behind tab key) cells ≡ []
