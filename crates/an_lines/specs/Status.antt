-- How a run ends: its status, what it has read and printed, and why.
use Rattle.std.specs.Prelude.{◌≡◌, ℕ, ◌+◌, ◌≤◌, ◌⊎◌, List, [], ◌++◌, length, codes, Option, ⊤}
use Rattle.an_world.specs.Link.{Traffic, Tells}
use Rattle.an_list.specs.Site.{Site}
use Rattle.an_lines.specs.Find.{Report, report_of}
use Rattle.an_lines.specs.Input.{input_limit, IsReadWhole}
use Rattle.an_lines.specs.declared.status.Status.{Status}
use Rattle.an_lines.specs.declared.status.Status.TheVariants.{Done, WriteFault, Misunderstood}
use Rattle.an_lines.specs.declared.status.Status.TheVariants.{Refused, KeeperFailed, ReadFault}
use Rattle.an_lines.specs.declared.status.Status.TheVariants.{DoorFailed, Memory, Damaged, NoReader}

-- bytes were read, and others written, and nothing else moved
pub record Moves (input output : List ℕ) (old new : Traffic) : Type 0 where
  pub left : old.left ≡ input ++ new.left
  pub read : new.read ≡ old.read ++ input
  pub written : new.written ≡ old.written ++ output

-- the same, where a link tells its bytes
abbrev pub Exchanges : List ℕ → List ℕ → Option Traffic → Option Traffic → Type 0
Exchanges input output = Tells (Moves input output)

-- what is printed where a read failed
abbrev pub read_fault_text : List ℕ
read_fault_text = codes "read failed\n"

-- this was read, and a front of the text was printed
pub record PrintsFront (input text : List ℕ) (old new : Option Traffic) : Type 0 where
  pub front : List ℕ
  pub rest : List ℕ
  pub is : text ≡ front ++ rest
  pub exchanged : Exchanges input front old new

-- no call of the link failed
abbrev pub IsUnfailing : Status → Type 0
IsUnfailing WriteFault = ⊥
IsUnfailing ReadFault = ⊥
IsUnfailing Done = ⊤
IsUnfailing Misunderstood = ⊤
IsUnfailing Refused = ⊤
IsUnfailing KeeperFailed = ⊤
IsUnfailing Memory = ⊤
IsUnfailing (Damaged tab key) = ⊤
IsUnfailing NoReader = ⊤
IsUnfailing DoorFailed = ⊤

-- ---- nothing is read

-- How a run ends that reads nothing and has this to tell: it was printed whole; or in part, where a
-- write failed; or nothing was, where memory ran out. `Failed` says that the count of write faults
-- rose.
unfoldable pub TellsReport : Report → Type 0 → Option Traffic → Option Traffic → Status → Type 0
TellsReport report Failed old new WriteFault = Failed × PrintsFront [] report.text old new
TellsReport report Failed old new Memory = Exchanges [] [] old new
TellsReport report Failed old new end = (report.status ≡ end) × Exchanges [] report.text old new

-- the words are those of no form
abbrev pub misunderstood : Report
misunderstood = record { status = Misunderstood; text = codes "words not understood\n" }

abbrev pub Misunderstands : Type 0 → Option Traffic → Option Traffic → Status → Type 0
Misunderstands = TellsReport misunderstood

-- ---- `find`

-- the report of an input was printed, which was read to its end unless it is too large
pub record Reports (site : Site) (old new : Option Traffic) (status : Status) : Type 0 where
  pub input : List ℕ
  pub exchanged : Exchanges input (report_of site input).text old new
  pub ends : (report_of site input).status ≡ status
  pub whole : IsReadWhole input new

-- a front of the report of an input was printed, which was read as where all of it is printed
pub record ReportsFront (site : Site) (old new : Option Traffic) : Type 0 where
  pub input : List ℕ
  pub printed : PrintsFront input (report_of site input).text old new
  pub whole : IsReadWhole input new

-- How a run of `find` ends, where `Unread` and `Failed` say that the counts of read faults and of
-- write faults rose. A write that fails may be that of the report, or that of the read that failed.
unfoldable pub Finds : Site → Type 0 → Type 0 → Option Traffic → Option Traffic → Status → Type 0
Finds site Unread Failed old new Done = Reports site old new Done
Finds site Unread Failed old new Refused = Reports site old new Refused
Finds site Unread Failed old new WriteFault =
    Failed × (ReportsFront site old new ⊎ (Unread × ((input : List ℕ) × PrintsFront
    input read_fault_text old new)))
Finds site Unread Failed old new ReadFault =
    Unread × ((input : List ℕ) × Exchanges input read_fault_text old new)
Finds site Unread Failed old new Memory = (input : List ℕ) × Exchanges input [] old new
Finds site Unread Failed old new Misunderstood = ⊥
Finds site Unread Failed old new KeeperFailed = ⊥
Finds site Unread Failed old new (Damaged tab key) = ⊥
Finds site Unread Failed old new NoReader = ⊥
Finds site Unread Failed old new DoorFailed = ⊥

-- little more is read than an input may have
pub record ReadsLittle (old new : Option Traffic) : Type 0 where
  pub input : List ℕ
  pub written : List ℕ
  pub exchanged : Exchanges input written old new
  pub most : length input ≤ input_limit + 1
