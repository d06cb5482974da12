-- A line is answered alike in two states of which its reader has one view.
use Rattle.std.proofs.Common.{◌≡◌, ℕ, List, Result, Ok, Err, refl, ap}
use Rattle.an_code.specs.declared.code.Code.{Code}
use Rattle.an_state.specs.State.{State}
use Rattle.an_list.specs.Site.{Site}
use Rattle.an_answers.specs.Answer.{answer_of}
use Rattle.an_answers.specs.Answer as answer
use Rattle.an_lines.specs.Asked.{asked_of}
use Rattle.an_answers.specs.Fetch.{no_preference}
use Rattle.an_lines.specs.Find.{asked_turn, prints, reply_line, turn_of}
use Rattle.an_lines.specs.Isolation.{ReaderSeesAlike}
use Rattle.an_lines.specs.declared.asked.Asked.{Asked}
use Rattle.an_lines.specs.declared.asked.Asked.TheVariants as asked

module _ (site : Site) (s t : State) where
  asked_alike : (found : Result Asked Code) → ReaderSeesAlike s t found
      → asked_turn site s found ≡ asked_turn site t found
  asked_alike (Ok asked.Nothing) agree = refl
  asked_alike (Ok (asked.Read by read)) agree =
      ap (λ view. prints (reply_line (answer_of site view no_preference read))) agree
  asked_alike (Ok (asked.Unread by methods refusal)) agree =
      ap (λ view. prints (reply_line (answer.query_answer view methods refusal))) agree
  asked_alike (Ok (asked.Write moment by command)) agree = absurd agree
  asked_alike (Err refusal) agree = refl

pub line_alike : (site : Site) (s t : State) (line : List ℕ) → ReaderSeesAlike s t (asked_of line)
    → turn_of site s line ≡ turn_of site t line
unfolding turn_of
line_alike site s t line agree = asked_alike site s t (asked_of line) agree
