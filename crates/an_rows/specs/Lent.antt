-- For private clauses: the live parts of rows, as they are lent and as they are read, whether a
-- state has no row, and the change that puts one.
use Rattle.std.specs.Prelude.{Bool, ◌&&◌, ◌==◌, length}
use Rattle.an_keep.specs.declared.cell.Change.{Change}
use Rattle.an_state.specs.State as state
use Rattle.an_state.specs.declared.entry.Row.{Row}
use Rattle.an_rows.specs.Cells.{cell_of}
use Rattle.an_rows.specs.Changes.{place_in, put}
use Rattle.an_rows.specs.declared.format.Format.TheVariants.{Second}
use Rattle.an_rows.specs.declared.manifests.LiveManifest.{LiveManifest}
use Rattle.an_rows.specs.declared.manifests.ReadManifest.{ReadManifest}
use Rattle.an_rows.specs.declared.notes.ReadNote.{ReadNote}

abbrev pub lent_manifest : LiveManifest → state.LiveManifest
lent_manifest m = record { created = m.created; modified = m.modified; tree = m.tree.now }

abbrev pub manifest_read : ReadManifest → state.LiveManifest
manifest_read m = record { created = m.created; modified = m.modified; tree = m.tree }

abbrev pub note_read : ReadNote → state.LiveNote
note_read n = record {
  manifest = n.manifest;
  group = n.group;
  creator = n.creator;
  created = n.created;
  modified = n.modified;
  tree = n.tree;
}

-- the row is put in its place in the state
abbrev pub change_in : state.State → Row → Change
change_in s row = put (cell_of Second (place_in s row) row)

abbrev pub has_no_row : state.State → Bool
has_no_row s =
    (length s.readers == 0)
    && (length s.manifests == 0)
    && (length s.notes == 0)
    && (length s.activities == 0)
