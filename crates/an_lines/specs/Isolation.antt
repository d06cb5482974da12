-- Who reads by a line can't tell two states apart.
use Rattle.std.specs.Prelude.{Result, Ok, Err}
use Rattle.an_code.specs.declared.code.Code.{Code}
use Rattle.an_state.specs.State.{State}
use Rattle.an_answers.specs.Isolation.{SeesAlike}
use Rattle.an_lines.specs.Find.{reader}
use Rattle.an_lines.specs.declared.asked.Asked.{Asked}
use Rattle.an_lines.specs.declared.asked.Asked.TheVariants as asked

-- whose line this is has one view of both states; the line writes nothing
abbrev pub ReaderSeesAlike : State → State → Result Asked Code → Type 0
ReaderSeesAlike s t (Ok asked.Nothing) = Unit {0}
ReaderSeesAlike s t (Ok (asked.Read by read)) = SeesAlike s t (reader by)
ReaderSeesAlike s t (Ok (asked.Unread by methods refusal)) = SeesAlike s t (reader by)
ReaderSeesAlike s t (Ok (asked.Write moment by command)) = ⊥
ReaderSeesAlike s t (Err refusal) = Unit {0}
