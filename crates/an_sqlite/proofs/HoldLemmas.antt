-- An open finds the cells that the files hold.
use Rattle.std.proofs.Common.{◌≡◌, ◌<◌, ◌∙◌, inl, inr, List, [], length, refl, sym, ap, subst, arith}
use Rattle.sqlite_wal.specs.Recovery.{Image}
use Rattle.sqlite_schema.specs.declared.schema.Schema.{Schema}
use Rattle.sqlite_trees.specs.Tree.{Trees}
use Rattle.sqlite_trees.specs.Objects.{catalog_tree}
use Rattle.sqlite_catalog.specs.Listing.{Lists}
use Rattle.sqlite_catalog.proofs.ReadLemmas.{lists_once}
use Rattle.sqlite.specs.Effect.{Database, IsDatabase}
use Rattle.sqlite.specs.State.{State, IsLive, Opens}
use Rattle.sqlite.specs.Start.{FindsIn}
use Rattle.sqlite.specs.Files.{AreFoundIn}
use Rattle.sqlite.proofs.ListingLemmas.{empty_is_sound}
use Rattle.an_keep.specs.declared.cell.Cell.{Cell}
use Rattle.an_sqlite.specs.Cells.{table}
use Rattle.an_sqlite.specs.Hold.{Hold, HoldTable}
use Rattle.an_sqlite.specs.Connecting.{BeginsWith}
use Rattle.an_sqlite.specs.Table.{cell_schema, no_schema}
use Rattle.an_sqlite.specs.Tells.{Rises, Tells, cells_of}
use Rattle.an_sqlite.proofs.ChangeLemmas.{tells_from}

-- what is live and lists this schema has it
has_schema : (d : Database) (db : Trees) (schema : Schema) → IsDatabase d → d.trees ≡ db
    → Lists (db catalog_tree) schema → d.schema ≡ schema
has_schema d db schema sound is lists =
    lists_once (d.trees catalog_tree) d.schema schema sound.lists
    (subst (λ (t : Trees). Lists (t catalog_tree) schema) (sym is) lists)

not_there : (image : Image) → image.db ≡ [] → 0 < length image.db → ⊥
not_there image empty present = let none = ap length empty in omega (arith, present, none)

-- an empty file is no database, whatever its log holds
nothing_found : (image : Image) (db : Trees) → image.db ≡ [] → AreFoundIn image db
    → db catalog_tree ≡ []
nothing_found image db empty (inl found) = absurd (not_there image empty found.3.found.present)
nothing_found image db empty (inr nothing) = nothing.1.1

module _ (image : Image) (s : State) (opens : Opens s) (live : IsLive s)
    (finds : FindsIn image s) where
  sound : IsDatabase s.now
  sound = (live opens.is_open).0

  trees_are : (db : Trees) → s.committed.trees ≡ db → s.now.trees ≡ db
  trees_are db is = ap (λ (d : Database). d.trees) opens.clean ∙ is

  table_found : (cells : List Cell) → HoldTable image cells → Tells s × (cells_of s ≡ cells)
  table_found cells holds =
      let is = trees_are holds.db (finds.holds holds.db holds.holds) in
      let schema = has_schema s.now holds.db cell_schema sound is holds.lists in (
        tells_from s schema sound (subst (λ (t : Trees). Rises (t 0)) (sym is) holds.rises),
        ap (λ (t : Trees). table (t 0)) is ∙ holds.are,
      )

  none_found : image.db ≡ [] → s.now.schema ≡ no_schema
  none_found empty =
      let none = nothing_found image s.committed.trees empty finds.reads in
      has_schema s.now s.committed.trees no_schema sound (trees_are s.committed.trees refl)
      (empty_is_sound s.committed.trees none).lists

  -- what is opened begins with the cells that the files hold
  pub finds_cells : (cells : List Cell) → Hold image cells → BeginsWith s cells
  finds_cells cells (inl held) = inl (table_found cells held)
  finds_cells cells (inr none) = inr (none_found none.0, none.1)
