-- The table of cells.
use Rattle.std.specs.Prelude.{ℕ, List, [], codes, ◌++◌, Ok, Err, Result}
use Rattle.sqlite_schema.specs.declared.schema.Schema.{Schema}
use Rattle.sqlite_schema.specs.declared.schema.Table.{Table}
use Rattle.sqlite_resolve.specs.Compile.{table_defined_by}
use Rattle.sqlite_resolve.specs.declared.error.CompileError.{CompileError}
use Rattle.sqlite_catalog.specs.Change.{created}

abbrev pub create_text : List ℕ
create_text =
    codes "CREATE TABLE IF NOT EXISTS cell (tab INTEGER NOT NULL, key INTEGER NOT NULL, "
    ++ (codes "val BLOB NOT NULL, PRIMARY KEY (tab, key), CHECK (tab >= 0 AND tab <= 255), "
    ++ codes "CHECK (key >= 0)) STRICT")

abbrev pub no_schema : Schema
no_schema = record { tables = []; indexes = []; views = [] }

abbrev pub schema_of : Result Table CompileError → Schema
schema_of (Ok t) = created no_schema t
schema_of (Err e) = no_schema

abbrev pub cell_schema : Schema
cell_schema = schema_of (table_defined_by create_text)
