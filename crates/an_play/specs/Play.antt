-- How a run ends of a program that opens no store.
use Rattle.std.specs.Prelude.{Option}
use Rattle.an_world.specs.Link.{Traffic}
use Rattle.an_lines.specs.Status.{Finds, Misunderstands, TellsReport}
use Rattle.an_lines.specs.Trials.{trial_report}
use Rattle.an_lines.specs.declared.status.Status.{Status}
use Rattle.an_app.specs.declared.form.Form.{Form}
use Rattle.an_app.specs.declared.form.Form.TheVariants as form

-- `find` and `trial` end as they do in a run of any form, and the others are not understood; the
-- first two say that the counts of read faults and of write faults rose
abbrev pub Plays : Type 0 → Type 0 → Option Traffic → Option Traffic → Status → Form → Type 0
Plays Unread Failed old new status (form.Find site) = Finds site Unread Failed old new status
Plays Unread Failed old new status (form.Trial count seed) =
    TellsReport (trial_report (record { count = count; seed = seed })) Failed old new status
Plays Unread Failed old new status form.Import = Misunderstands Failed old new status
Plays Unread Failed old new status (form.Export by) = Misunderstands Failed old new status
Plays Unread Failed old new status (form.Harvest site by) = Misunderstands Failed old new status
Plays Unread Failed old new status (form.Session site) = Misunderstands Failed old new status
Plays Unread Failed old new status (form.Serve serving) = Misunderstands Failed old new status
