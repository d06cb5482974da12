-- How a run ends whose store isn't opened.
use Rattle.std.specs.Prelude.{ℕ, List, [], ◌++◌, codes, decimal, Option}
use Rattle.an_keep.specs.Keeper.{StaysOrBegins, Told}
use Rattle.an_shelf.specs.Opening.{StaysOrRenews, WasDamagedBy}
use Rattle.an_shelf.specs.declared.error.OpenError.{OpenError}
use Rattle.an_shelf.specs.declared.error.OpenError.TheVariants as error
use Rattle.an_world.specs.Link.{Traffic}
use Rattle.an_app.specs.Outside.{Outside}
use Rattle.an_lines.specs.ImportEnds.{keeper_fault_text}
use Rattle.an_lines.specs.Status.{Exchanges, PrintsFront}
use Rattle.an_lines.specs.declared.status.Status.{Status}
use Rattle.an_lines.specs.declared.status.Status.TheVariants.{Done, WriteFault, Misunderstood}
use Rattle.an_lines.specs.declared.status.Status.TheVariants.{Refused, KeeperFailed, ReadFault}
use Rattle.an_lines.specs.declared.status.Status.TheVariants.{DoorFailed, Memory, Damaged, NoReader}

-- what is printed where the cells stand for no state, and this one is the first damaged one
abbrev pub damage_text : ℕ → ℕ → List ℕ
damage_text tab key =
    codes "store damaged: table " ++ (decimal tab ++ (codes " key " ++ (decimal key
    ++ codes "\n")))

-- what is printed where a store isn't opened; of want of memory nothing is
abbrev pub unopened_text : OpenError → List ℕ
unopened_text error.Keeper = keeper_fault_text
unopened_text (error.Damaged tab key) = damage_text tab key
unopened_text error.Memory = []

-- How a run ends whose store isn't opened, for a cause of which this holds. No input is read.
unfoldable pub Unopened : (OpenError → Type 0) → Type 0 → Option Traffic → Option Traffic → Status
    → Type 0
Unopened Cause Failed old new KeeperFailed =
    Cause error.Keeper × Exchanges [] (unopened_text error.Keeper) old new
Unopened Cause Failed old new (Damaged tab key) =
    Cause (error.Damaged tab key) × Exchanges [] (unopened_text (error.Damaged tab key)) old new
Unopened Cause Failed old new WriteFault =
    Failed × ((why : OpenError) × Cause why × PrintsFront [] (unopened_text why) old new)
Unopened Cause Failed old new Memory = Exchanges [] [] old new
Unopened Cause Failed old new Done = ⊥
Unopened Cause Failed old new Refused = ⊥
Unopened Cause Failed old new ReadFault = ⊥
Unopened Cause Failed old new Misunderstood = ⊥
Unopened Cause Failed old new NoReader = ⊥
Unopened Cause Failed old new DoorFailed = ⊥

-- what may keep a store from being opened; of damage, that the cells are damaged so which the
-- keeper told before, where it tells them still
abbrev pub IsCause : Outside → OpenError → Type 0
IsCause outside error.Keeper = outside.keeper_can_fail
IsCause outside (error.Damaged tab key) =
    WasDamagedBy outside.before outside.after (error.Damaged tab key)
IsCause outside error.Memory = ⊥

-- the cells of a run whose store isn't opened: none was changed, unless memory ran out once those
-- of the first format were turned into today's
abbrev pub LeavesCells : Status → Told → Told → Type 0
LeavesCells Memory before after = StaysOrRenews before after
LeavesCells other before after = StaysOrBegins before after

-- how a run at a keeper ends whose store isn't opened
abbrev pub UnopenedAt : Outside → Option Traffic → Option Traffic → Status → Type 0
UnopenedAt outside old new status =
    LeavesCells status outside.before outside.after
    × Unopened (IsCause outside) outside.write_failed old new status
