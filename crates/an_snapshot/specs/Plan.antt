-- For private clauses: what an entry comes to.
use Rattle.std.specs.Prelude.{◌≡◌, ◌≤◌, List, ◌++◌, All, Bool, true, false, ◌&&◌, map, flat_map}
use Rattle.std.specs.Prelude.{⊤, Option, Some, None}
use Rattle.an_policy.specs.declared.group.Audience.{Audience}
use Rattle.an_state.specs.Entries.{needs, with_rows}
use Rattle.an_state.specs.State.{State, NoteState, ManifestState, Held, empty}
use Rattle.an_state.specs.declared.activity.Activity.{Activity}
use Rattle.an_state.specs.declared.entry.Entry.{Entry}
use Rattle.an_state.specs.declared.entry.Row.{Row}
use Rattle.an_listed.specs.Room.{HasRoom}
use Rattle.an_listed.specs.Stands.{Listings}
use Rattle.an_snapshot.specs.Fits.{activities_of, fits, keep_groups, notes_stand, rows_of}
use Rattle.an_snapshot.specs.Steps.{IsStep, filed_in, row_of_step}
use Rattle.an_snapshot.specs.declared.last_rows.LastRows.{LastRows}
use Rattle.an_snapshot.specs.declared.prepare.Prepared.{Prepared}
use Rattle.an_snapshot.specs.declared.planned_row.PlannedRow.{PlannedRow}

-- of these rows' manifests and annotations the last row of each
pub record AreLeft (rows : List Row) (last_manifests : List ManifestState)
    (last_notes : List NoteState) : Type 0 where
  pub manifests : last_manifests ≡ (with_rows rows empty).manifests
  pub notes : last_notes ≡ (with_rows rows empty).notes

-- what is left of the rows, where no manifest's group changes
abbrev pub Leaves : State → List Row → Option LastRows → Type 0
Leaves s rows None = keep_groups s rows ≡ false
Leaves s rows (Some left) =
    (keep_groups s rows ≡ true) × AreLeft rows left.manifests.rows left.notes.rows

-- no manifest's group changes, and after the rows live annotations stand on live manifests
abbrev pub rows_fit : State → List Row → Bool
rows_fit s rows = keep_groups s rows && notes_stand (with_rows rows s)

-- what is left of the rows, where they fit
abbrev pub LeavesFitting : State → List Row → Option LastRows → Type 0
LeavesFitting s rows None = rows_fit s rows ≡ false
LeavesFitting s rows (Some left) =
    (rows_fit s rows ≡ true) × AreLeft rows left.manifests.rows left.notes.rows

-- the steps are those of the rows, where the rows fit
abbrev pub Plans : State → List Audience → List Row → Option (List PlannedRow) → Type 0
Plans s classes rows None = rows_fit s rows ≡ false
Plans s classes rows (Some steps) =
    (rows_fit s rows ≡ true) × (map row_of_step steps ≡ rows)
    × All (IsStep (with_rows rows s) classes) steps

-- what an entry comes to at a state, where it fits
abbrev pub IsPlanned : State → List Audience → Entry → Option Prepared → Type 0
IsPlanned s classes entry None = fits s entry ≡ false
IsPlanned s classes entry (Some prepared) =
    (fits s entry ≡ true) × (map row_of_step prepared.steps.items ≡ rows_of entry)
    × All (IsStep (with_rows (rows_of entry) s) classes) prepared.steps.items
    × (prepared.activities.items ≡ activities_of entry)

-- there is room for it too
abbrev pub HasAllRoom : Held → Listings → Entry → Option Prepared → Type 0
HasAllRoom book lists entry None = ⊤
HasAllRoom book lists entry (Some prepared) =
    (needs entry ≤ book.room) × HasRoom (flat_map filed_in prepared.steps.items) lists

-- the state with these rows, and these activities after its own
abbrev pub state_behind : State → List Row → List Activity → State
state_behind s rows activities =
    let t = with_rows rows s in
    record t { activities = t.activities ++ activities }
