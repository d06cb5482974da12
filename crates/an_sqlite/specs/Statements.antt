-- For private clauses: the texts of the statements, and what they ask for and do.
use Rattle.std.specs.Prelude.{ℕ, List, [], ◌∷◌, codes, ◌++◌, pos, negsuc, false, None, Some, ◌≡◌}
use Rattle.std.specs.Prelude.{◌⊎◌, ◌<◌, length, slice_index_or, All, Ok, Err, Result}
use Rattle.std.specs.Ordering.{is_gt}
use Rattle.sqlite_value.specs.declared.keys.Key.{Key}
use Rattle.sqlite_schema.specs.declared.schema.Table.{Table}
use Rattle.sqlite_resolve.specs.Compile.{table_defined_by}
use Rattle.sqlite_resolve.specs.declared.error.CompileError.{CompileError}
use Rattle.sqlite_schema.specs.declared.program.Program.{Program}
use Rattle.sqlite_schema.specs.declared.command.Upsert.{Upsert}
use Rattle.sqlite_value.specs.declared.value.Value.TheVariants.{Null}
use Rattle.sqlite.specs.Effect.{Database, Answers}
use Rattle.sqlite_rules.specs.Edit.{without_all}
use Rattle.sqlite_rules.specs.Calls.{ids_of}
use Rattle.sqlite_value.specs.declared.keys.Collation.TheVariants.{Binary}
use Rattle.sqlite_value.specs.declared.value.Value.TheVariants.{Int}
use Rattle.sqlite_value.specs.Keys.{ascending}
use Rattle.sqlite_value.specs.Order.{Row, column}
use Rattle.sqlite_sql.specs.Term.{Term, lit, col, op2}
use Rattle.sqlite_sql.specs.declared.ops.BinaryOp.TheVariants.{Compare}
use Rattle.sqlite_sql.specs.declared.ops.CompareOp.TheVariants.{Eq}
use Rattle.sqlite_sql.specs.Query.{Query, inner, end, key_cmp}
use Rattle.an_sqlite.specs.Table.{cell_schema, create_text}

abbrev pub first_text : List ℕ
first_text = codes "SELECT tab, key, val FROM cell ORDER BY tab, key LIMIT 1"

abbrev pub put_text : List ℕ
put_text =
    codes "INSERT INTO cell (tab, key, val) VALUES (?1, ?2, ?3) "
    ++ codes "ON CONFLICT (tab, key) DO UPDATE SET val = excluded.val"

abbrev pub take_text : List ℕ
take_text = codes "DELETE FROM cell WHERE tab = ?1 AND key = ?2"

-- a row of the table is its rowid and then its columns
abbrev pub shown : Row → Row
shown row = column row 1 ∷ column row 2 ∷ column row 3 ∷ []

abbrev pub first_query : Query
first_query = record {
  from = inner 0 end;
  filter = [];
  group = None;
  project = col 1 1 ∷ col 1 2 ∷ col 1 3 ∷ [];
  distinct = false;
  collations = [];
  order = (col 1 1, ascending Binary) ∷ (col 1 2, ascending Binary) ∷ [];
  limit = lit (Int (pos 1));
  offset = lit (Int (pos 0));
}

-- the table as the schema has it; its tree is 0
abbrev pub table_of : Result Table CompileError → Table
table_of (Ok t) = record t { tree = 0 }
table_of (Err e) = record {
  name = [];
  tree = 0;
  columns = [];
  key = None;
  primary = [];
  uniques = [];
  orders = [];
  checks = [];
  references = [];
  computed = [];
  stamps = record { places = []; terms = []; formats = [] };
  is_counted = false;
}

abbrev pub cell_table : Table
cell_table = table_of (table_defined_by create_text)

-- what a row is sorted by
abbrev pub key : Row → Row
key row = column row 1 ∷ column row 2 ∷ []

abbrev pub keys : List Key
keys = ascending Binary ∷ ascending Binary ∷ []

-- the row shows one of the table, and no row of the table has a lesser key
pub record IsLeastOf (rows : List Row) (row : Row) : Type 0 where
  pub place : ℕ
  pub within : place < length rows
  pub is : row ≡ shown (slice_index_or rows place [])
  pub least : All (λ r. (key r ≡ key (slice_index_or rows place []))
      ⊎ (is_gt (key_cmp 0 keys (key (slice_index_or rows place [])) (key r)) ≡ false)) rows

-- the rows to be deleted, each by its rowid
abbrev pub take_query : Query
take_query = record {
  from = inner 0 end;
  filter = op2 (Compare Eq Binary) (col 1 1) (col 0 0)
      ∷ op2 (Compare Eq Binary) (col 1 2) (col 0 1) ∷ [];
  group = None;
  project = col 1 0 ∷ [];
  distinct = false;
  collations = [];
  order = [];
  limit = lit (Int (negsuc 0));
  offset = lit (Int (pos 0));
}

abbrev pub take_program : Program
take_program = record { lets = []; body = take_query }

-- the rows that pass the delete are gone, and no other
pub record Takes (params : Row) (old new : Database) : Type 0 where
  pub rows : List Row
  pub found : Answers (record { schema = cell_schema; trees = old.trees }) take_program params rows
  pub left : new.trees cell_table.tree ≡ without_all (old.trees cell_table.tree) (ids_of rows)
  pub schema : new.schema ≡ cell_schema

-- what the upsert makes of the row that is there, whose rowid is the parameter behind the three,
-- before the new row's rowid and columns
abbrev pub update_query : Query
update_query = record {
  from = inner 0 end;
  filter = op2 (Compare Eq Binary) (col 1 0) (col 0 3) ∷ [];
  group = None;
  project = col 1 0 ∷ col 1 0 ∷ col 1 1 ∷ col 1 2 ∷ col 0 7 ∷ [];
  distinct = false;
  collations = [];
  order = [];
  limit = lit (Int (negsuc 0));
  offset = lit (Int (pos 0));
}

abbrev pub put_terms : List Term
put_terms = lit Null ∷ col 0 0 ∷ col 0 1 ∷ col 0 2 ∷ []

abbrev pub put_clauses : List Upsert
put_clauses =
    (record {
      target = Some (1 ∷ 2 ∷ []);
      update = Some (record { lets = []; body = update_query });
    }) ∷ []
