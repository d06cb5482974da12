-- What the schema of the table of cells is, written out.
use Rattle.std.proofs.Common.{◌≡◌, refl}
use Rattle.sqlite_tied.specs.Compute.{everything}
use Rattle.sqlite.specs.Listing.{understood}
use Rattle.an_sqlite.specs.Statements.{cell_table}
use Rattle.an_sqlite.specs.Table.{cell_schema}
use Rattle.an_sqlite.specs.Written.{written}

pub written_is : cell_schema ≡ written
unfolding understood everything
written_is = refl

pub tree_is : cell_table.tree ≡ 0
unfolding understood everything
tree_is = refl
