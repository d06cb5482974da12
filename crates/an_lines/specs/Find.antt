-- What lines do, one after another: writes change the state, reads print an answer, and the first
-- refusal of what is not old ends the run.
use Rattle.std.specs.Prelude.{ℕ, ◌+◌, List, [], ◌∷◌, ◌++◌, length, codes, decimal, nat_lt}
use Rattle.std.specs.Prelude.{if◌then◌else◌, Option, Some, None, Result, Ok, Err}
use Rattle.an_code.specs.declared.code.Code.{Code}
use Rattle.an_code.specs.declared.code.Code.TheVariants as code
use Rattle.an_http.specs.Status.{number_of}
use Rattle.an_http.specs.declared.reply.Reply.{Reply}
use Rattle.an_policy.specs.declared.who.Caller.{Caller}
use Rattle.an_policy.specs.declared.who.Caller.TheVariants as caller
use Rattle.an_state.specs.State.{State, empty}
use Rattle.an_list.specs.Site.{Site}
use Rattle.an_answers.specs.Answer.{answer_of, query_answer}
use Rattle.an_answers.specs.Fetch.{no_preference}
use Rattle.an_state.specs.View.{view_by}
use Rattle.an_lines.specs.Asked.{asked_of}
use Rattle.an_lines.specs.Input.{input_limit}
use Rattle.an_lines.specs.Split.{lines_of}
use Rattle.an_lines.specs.Stop.{refusal_line}
use Rattle.an_lines.specs.Written as written
use Rattle.an_lines.specs.Written.{Written, written_of}
use Rattle.an_lines.specs.declared.asked.Asked.{Asked}
use Rattle.an_lines.specs.declared.asked.Asked.TheVariants as asked
use Rattle.an_lines.specs.declared.status.Status.{Status}
use Rattle.an_lines.specs.declared.status.Status.TheVariants as status
use Rattle.an_lines.specs.declared.stop.Stop.{Stop}

-- what a line comes to: nothing, a printed answer, another state, or the end of the run
pub data Turn : Type 0 where
  passes : Turn
  prints : List ℕ → Turn
  writes : State → Turn
  stops : Code → Turn

-- ---- a line that writes

abbrev pub write_turn : Written → Turn
write_turn (written.done repeat t) = writes t
write_turn written.old = passes
write_turn (written.refused why) = stops why

-- ---- a line that reads

-- a line by nobody's name is read for the anonymous caller
abbrev pub reader : Option (List ℕ) → Caller
reader None = caller.Anonymous
reader (Some name) = caller.Named name

-- a reply, as a line shows it: its status and its body
abbrev pub reply_line : Reply → List ℕ
reply_line reply =
    decimal (number_of reply.status) ++ (codes " " ++ (reply.body ++ codes "\n"))

-- ---- a line

-- no line says what it prefers
abbrev pub asked_turn : Site → State → Result Asked Code → Turn
asked_turn site s (Ok asked.Nothing) = passes
asked_turn site s (Ok (asked.Read by read)) =
    prints (reply_line (answer_of site (view_by s (reader by)) no_preference read))
asked_turn site s (Ok (asked.Unread by methods refusal)) =
    prints (reply_line (query_answer (view_by s (reader by)) methods refusal))
asked_turn site s (Ok (asked.Write moment by command)) =
    write_turn (written_of s moment by command)
asked_turn site s (Err refusal) = stops refusal

unfoldable pub turn_of : Site → State → List ℕ → Turn
turn_of site s line = asked_turn site s (asked_of line)

-- ---- all lines

-- what is printed for the lines, and where they stop, if they do
pub record Played : Type 0 where
  pub output : List ℕ
  pub stop : Option Stop

-- the text stands before what else is printed
abbrev pub printed_first : List ℕ → Played → Played
printed_first text played = record played { output = text ++ played.output }

-- the lines from this number on, at a state; `go` has the lines behind
abbrev pub follow : ℕ → State → (ℕ → State → Played) → Turn → Played
follow number s go passes = go (number + 1) s
follow number s go (prints text) = printed_first text (go (number + 1) s)
follow number s go (writes t) = go (number + 1) t
follow number s go (stops why) =
    record { output = []; stop = Some (record { line = number; why = why }) }

abbrev pub play : Site → List (List ℕ) → ℕ → State → Played
play site [] number s = record { output = []; stop = None }
play site (line ∷ lines) number s = follow number s (play site lines) (turn_of site s line)

-- how the run ends, and what is printed
pub record Report : Type 0 where
  pub status : Status
  pub text : List ℕ

abbrev pub report_played : Played → Option Stop → Report
report_played played None = record { status = status.Done; text = played.output }
report_played played (Some stop) =
    record { status = status.Refused; text = played.output ++ refusal_line stop }

-- what comes of an input: one that is too large is refused before its first line
unfoldable pub report_of : Site → List ℕ → Report
report_of site input =
    if nat_lt input_limit (length input)
    then record {
      status = status.Refused;
      text = refusal_line
          (record { line = 0; why = code.Input });
    }
    else (let played = play site (lines_of input) 1 empty in report_played played played.stop)
