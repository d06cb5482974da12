-- How a run of `import` ends: its status, what it has read and printed, the state that it leaves,
-- and why.
use Rattle.std.specs.Prelude.{◌≡◌, ℕ, List, [], take, codes, Option}
use Rattle.an_state.specs.State.{State}
use Rattle.an_world.specs.Link.{Traffic}
use Rattle.an_lines.specs.Import.{import_lines, import_report, imported_of, start}
use Rattle.an_lines.specs.Input.{IsReadWhole}
use Rattle.an_lines.specs.Split.{lines_of}
use Rattle.an_lines.specs.Status.{Exchanges, PrintsFront, read_fault_text}
use Rattle.an_lines.specs.declared.status.Status.{Status}
use Rattle.an_lines.specs.declared.status.Status.TheVariants.{Done, WriteFault, Misunderstood}
use Rattle.an_lines.specs.declared.status.Status.TheVariants.{Refused, KeeperFailed, ReadFault}
use Rattle.an_lines.specs.declared.status.Status.TheVariants.{DoorFailed, Memory, Damaged, NoReader}

-- what is printed where the keeper failed
abbrev pub keeper_fault_text : List ℕ
keeper_fault_text = codes "keeper failed\n"

-- ---- the lines of an input

-- so many of the first lines of an input lead from one state to another
pub record LeavesFront (old : State) (input : List ℕ) (new : State) : Type 0 where
  pub count : ℕ
  pub leads : new ≡ (import_lines (take count (lines_of input)) 1 (start old)).progress.state

-- all lines of an input, up to the one that is refused, if one is, lead to this status, text and
-- state
pub record LeavesAll (old : State) (input : List ℕ) (status : Status) (text : List ℕ)
    (new : State) : Type 0 where
  pub ends : (import_report (imported_of old input)).status ≡ status
  pub tells : (import_report (imported_of old input)).text ≡ text
  pub leads : new ≡ (imported_of old input).progress.state

-- ---- what a run comes to, and what of it is told

-- it was told whole
pub record TellsWhole (Comes : List ℕ → Status → List ℕ → Type 0) (old new : Option Traffic)
    (status : Status) : Type 0 where
  pub input : List ℕ
  pub text : List ℕ
  pub comes : Comes input status text
  pub exchanged : Exchanges input text old new

-- a front of it was told
pub record TellsFront (Comes : List ℕ → Status → List ℕ → Type 0) (old new : Option Traffic)
    : Type 0 where
  pub meant : Status
  pub input : List ℕ
  pub text : List ℕ
  pub comes : Comes input meant text
  pub printed : PrintsFront input text old new

-- ---- `import` at a store that is open

-- What an import comes to that read this input: the status, and the text to be printed. `Unread`
-- and `Unkept` say that the counts of read faults and of the keeper's faults rose. The states
-- before and behind it come first, and the link's bytes behind it.
abbrev pub Comes : Type 0 → Type 0 → State → State → Option Traffic → List ℕ → Status → List ℕ
    → Type 0
Comes Unread Unkept s t new input Done text =
    IsReadWhole input new × LeavesAll s input Done text t
Comes Unread Unkept s t new input Refused text =
    IsReadWhole input new × LeavesAll s input Refused text t
Comes Unread Unkept s t new input KeeperFailed text =
    Unkept × IsReadWhole input new × (text ≡ keeper_fault_text) × LeavesFront s input t
Comes Unread Unkept s t new input ReadFault text = Unread × (text ≡ read_fault_text) × (t ≡ s)
Comes Unread Unkept s t new input WriteFault text = ⊥
Comes Unread Unkept s t new input Misunderstood text = ⊥
Comes Unread Unkept s t new input Memory text = ⊥
Comes Unread Unkept s t new input (Damaged tab key) text = ⊥
Comes Unread Unkept s t new input NoReader text = ⊥
Comes Unread Unkept s t new input DoorFailed text = ⊥

-- memory ran out behind some of the lines, and nothing was printed
pub record RunsOut (s t : State) (old new : Option Traffic) : Type 0 where
  pub input : List ℕ
  pub exchanged : Exchanges input [] old new
  pub leaves : LeavesFront s input t

-- how a run of `import` ends, where `Failed` says that the count of write faults rose
unfoldable pub Imports : Type 0 → Type 0 → Type 0 → Option Traffic → Option Traffic → State → State
    → Status → Type 0
Imports Unread Failed Unkept old new s t Done =
    TellsWhole (Comes Unread Unkept s t new) old new Done
Imports Unread Failed Unkept old new s t Refused =
    TellsWhole (Comes Unread Unkept s t new) old new Refused
Imports Unread Failed Unkept old new s t KeeperFailed =
    TellsWhole (Comes Unread Unkept s t new) old new KeeperFailed
Imports Unread Failed Unkept old new s t ReadFault =
    TellsWhole (Comes Unread Unkept s t new) old new ReadFault
Imports Unread Failed Unkept old new s t WriteFault =
    Failed × TellsFront (Comes Unread Unkept s t new) old new
Imports Unread Failed Unkept old new s t Memory = RunsOut s t old new
Imports Unread Failed Unkept old new s t Misunderstood = ⊥
Imports Unread Failed Unkept old new s t (Damaged tab key) = ⊥
Imports Unread Failed Unkept old new s t NoReader = ⊥
Imports Unread Failed Unkept old new s t DoorFailed = ⊥
