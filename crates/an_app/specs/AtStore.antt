-- How a run of `import`, one of `export` and one of `harvest` end at a keeper, which is opened
-- first.
use Rattle.std.specs.Prelude.{ℕ, ◌⊎◌, List, Option}
use Rattle.an_list.specs.Site.{Site}
use Rattle.an_shelf.specs.Opening.{WasOpened}
use Rattle.an_state.specs.State.{State}
use Rattle.an_world.specs.Link.{Traffic}
use Rattle.an_lines.specs.Export.{export_report}
use Rattle.an_lines.specs.Harvest.{Harvests}
use Rattle.an_lines.specs.ImportEnds.{Imports}
use Rattle.an_lines.specs.Status.{TellsReport}
use Rattle.an_lines.specs.declared.status.Status.{Status}
use Rattle.an_app.specs.Outside.{Outside, WasLeft}
use Rattle.an_app.specs.Unopened.{UnopenedAt}

-- ---- `import`

-- From the state with which the store was opened the input was imported, and the state that this
-- led to is left kept. Where the keeper told its cells before and tells them still, they stood for
-- the first state, and are those of the second.
pub record ImportsOpened (outside : Outside) (old new : Option Traffic) (status : Status)
    : Type 0 where
  pub before : State
  pub opens : WasOpened outside.before outside.after before
  pub behind : State
  pub imports : Imports outside.read_failed outside.write_failed outside.keeper_can_fail old new
      before behind status
  pub leaves : WasLeft outside.after behind

-- how a run of `import` ends
abbrev pub ImportsAt : Outside → Option Traffic → Option Traffic → Status → Type 0
ImportsAt outside old new status =
    ImportsOpened outside old new status
    ⊎ UnopenedAt outside old new status

-- ---- `export`

-- of the state with which the store was opened a view was exported, and it is left kept
pub record ExportsOpened (outside : Outside) (by : List ℕ) (old new : Option Traffic)
    (status : Status) : Type 0 where
  pub state : State
  pub opens : WasOpened outside.before outside.after state
  pub leaves : WasLeft outside.after state
  pub tells : TellsReport (export_report state by) outside.write_failed old new status

-- how a run of `export` ends
unfoldable pub ExportsAt : Outside → List ℕ → Option Traffic → Option Traffic → Status → Type 0
ExportsAt outside by old new status =
    ExportsOpened outside by old new status
    ⊎ UnopenedAt outside old new status

-- ---- `harvest`

-- of the state with which the store was opened a view was harvested, and it is left kept
pub record HarvestsOpened (outside : Outside) (site : Site) (by : List ℕ) (old new : Option Traffic)
    (status : Status) : Type 0 where
  pub state : State
  pub opens : WasOpened outside.before outside.after state
  pub leaves : WasLeft outside.after state
  pub harvests : Harvests site state by outside.write_failed old new status

-- how a run of `harvest` ends
unfoldable pub HarvestsAt
    : Outside → Site → List ℕ → Option Traffic → Option Traffic → Status → Type 0
HarvestsAt outside site by old new status =
    HarvestsOpened outside site by old new status
    ⊎ UnopenedAt outside old new status
