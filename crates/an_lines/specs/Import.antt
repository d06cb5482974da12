-- What the lines of an import do, one after another: writes change the state and are counted, and
-- the first refusal of what is not old ends the run. A read is no line of an import.
use Rattle.std.specs.Prelude.{ℕ, ◌+◌, List, [], ◌∷◌, ◌++◌, length, codes, decimal, Bool, nat_lt}
use Rattle.std.specs.Prelude.{if◌then◌else◌, Option, Some, None, Result, Ok, Err}
use Rattle.an_code.specs.declared.code.Code.{Code}
use Rattle.an_code.specs.declared.code.Code.TheVariants as code
use Rattle.an_state.specs.State.{State}
use Rattle.an_lines.specs.Asked.{asked_of, no_line}
use Rattle.an_lines.specs.Find.{Report}
use Rattle.an_lines.specs.Input.{input_limit}
use Rattle.an_lines.specs.Split.{lines_of}
use Rattle.an_lines.specs.Stop.{refusal_line}
use Rattle.an_lines.specs.Written as written
use Rattle.an_lines.specs.Written.{Written, written_of}
use Rattle.an_lines.specs.declared.asked.Asked.{Asked}
use Rattle.an_lines.specs.declared.asked.Asked.TheVariants as asked
use Rattle.an_lines.specs.declared.counts.Counts.{Counts}
use Rattle.an_lines.specs.declared.status.Status.TheVariants as status
use Rattle.an_lines.specs.declared.stop.Stop.{Stop}

-- the state behind some lines, and how many of them were accepted, repeats, and old
pub record Progress : Type 0 where
  pub state : State
  pub counts : Counts

-- no line was taken yet
abbrev pub start : State → Progress
start s = record { state = s; counts = record { accepted = 0; repeated = 0; old = 0 } }

-- ---- a line

-- one more that is done, as a repeat or not
abbrev pub with_done : Bool → Counts → Counts
with_done repeat counts =
    if repeat then record counts { repeated = counts.repeated + 1 }
    else record counts { accepted = counts.accepted + 1 }

-- one more that is old
abbrev pub with_old : Counts → Counts
with_old counts = record counts { old = counts.old + 1 }

abbrev pub import_written : Counts → State → Written → Result Progress Code
import_written counts s (written.done repeat t) =
    Ok (record { state = t; counts = with_done repeat counts })
import_written counts s written.old = Ok (record { state = s; counts = with_old counts })
import_written counts s (written.refused why) = Err why

abbrev pub import_asked : Counts → State → Result Asked Code → Result Progress Code
import_asked counts s (Ok asked.Nothing) = Ok (record { state = s; counts = counts })
import_asked counts s (Ok (asked.Read by read)) = Err no_line
import_asked counts s (Ok (asked.Unread by methods why)) = Err no_line
import_asked counts s (Ok (asked.Write moment by command)) =
    import_written counts s (written_of s moment by command)
import_asked counts s (Err why) = Err why

-- what a line leads to, or why it is refused
unfoldable pub import_line : Progress → List ℕ → Result Progress Code
import_line p line = import_asked p.counts p.state (asked_of line)

-- ---- all lines

-- what the lines led to, and where they stop, if they do
pub record Imported : Type 0 where
  pub progress : Progress
  pub stop : Option Stop

-- the lines from this number on; `go` has the lines behind
abbrev pub import_on : ℕ → Progress → (ℕ → Progress → Imported) → Result Progress Code
    → Imported
import_on number p go (Ok q) = go (number + 1) q
import_on number p go (Err why) =
    record { progress = p; stop = Some (record { line = number; why = why }) }

abbrev pub import_lines : List (List ℕ) → ℕ → Progress → Imported
import_lines [] number p = record { progress = p; stop = None }
import_lines (line ∷ lines) number p =
    import_on number p (import_lines lines) (import_line p line)

-- what comes of an input: one that is too large is refused before its first line
unfoldable pub imported_of : State → List ℕ → Imported
imported_of s input =
    if nat_lt input_limit (length input)
    then record {
      progress = start s;
      stop = Some (record { line = 0; why = code.Input });
    }
    else import_lines (lines_of input) 1 (start s)

-- ---- what is printed

abbrev pub counts_line : Counts → List ℕ
counts_line counts =
    codes "accepted " ++ (decimal counts.accepted ++ (codes " repeated " ++ (decimal counts.repeated
    ++ (codes " old " ++ (decimal counts.old ++ codes "\n")))))

abbrev pub report_of : Counts → Option Stop → Report
report_of counts None = record { status = status.Done; text = counts_line counts }
report_of counts (Some stop) = record { status = status.Refused; text = refusal_line stop }

-- how the run ends, and what is printed
abbrev pub import_report : Imported → Report
import_report imported = report_of imported.progress.counts imported.stop
