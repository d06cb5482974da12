-- Which entries fit a state.
use Rattle.std.specs.Prelude.{List, [], ◌∷◌, Bool, true, ◌&&◌, Some, None}
use Rattle.std.specs.List.{list_all}
use Rattle.an_policy.specs.Group.{same_group}
use Rattle.an_state.specs.Entries.{with_row, after}
use Rattle.an_state.specs.Sound.{stands_on_live}
use Rattle.an_state.specs.State.{State, manifest_row}
use Rattle.an_state.specs.declared.activity.Activity.{Activity}
use Rattle.an_state.specs.declared.entry.Entry.{Entry}
use Rattle.an_state.specs.declared.entry.Entry.TheVariants.{Restored, Done}
use Rattle.an_state.specs.declared.entry.Row.{Row}
use Rattle.an_state.specs.declared.entry.Row.TheVariants as kept

abbrev pub rows_of : Entry → List Row
rows_of (Restored row) = row ∷ []
rows_of (Done command moment by rows activities) = rows

abbrev pub activities_of : Entry → List Activity
activities_of (Restored row) = []
activities_of (Done command moment by rows activities) = activities

-- the manifest has no row yet, or one of the same group, live or a tombstone
abbrev pub keeps_group : State → Row → Bool
keeps_group s (kept.Reader row) = true
keeps_group s (kept.Manifest row) =
    elim (manifest_row s row.name) [ None ↦ true | Some old ↦ same_group old.group row.group ]
keeps_group s (kept.Note row) = true
keeps_group s (kept.Activity activity) = true

-- each of these rows does, when they are put in order
abbrev pub keep_groups : State → List Row → Bool
keep_groups s [] = true
keep_groups s (row ∷ rows) = keeps_group s row && keep_groups (with_row s row) rows

-- each live annotation's manifest is live
abbrev pub notes_stand : State → Bool
notes_stand s = list_all (stands_on_live s) s.notes

-- no manifest's group changes, and after the entry live annotations stand on live manifests
unfoldable pub fits : State → Entry → Bool
fits s entry = keep_groups s (rows_of entry) && notes_stand (after s entry)
