-- How a run of a form ends, and how much of its link it reads.
use Rattle.std.specs.Prelude.{◌≡◌, ℤ, Bool, Option}
use Rattle.an_session.specs.Session.{Line, ReadsRequests}
use Rattle.an_world.specs.Link.{Traffic}
use Rattle.an_lines.specs.Status.{Finds, ReadsLittle, TellsReport}
use Rattle.an_lines.specs.Trials.{trial_report}
use Rattle.an_lines.specs.declared.status.Status.{Status}
use Rattle.an_app.specs.AtStore.{ExportsAt, HarvestsAt, ImportsAt}
use Rattle.an_app.specs.Outside.{Outside}
use Rattle.an_app.specs.Serving.{DoorEnd, ServesAt}
use Rattle.an_app.specs.SessionEnds.{SessionAt}
use Rattle.an_app.specs.declared.form.Form.{Form}
use Rattle.an_app.specs.declared.form.Form.TheVariants as form

-- How a run of a form ends, with moments that the clock tells, over a link that told these two of
-- itself, beside a door that came to this. `Find` and `Trial` open no store, and leave the keeper.
abbrev pub Runs : Outside → DoorEnd → (ℤ → Bool) → Line → Line → Status → Form → Type 0
Runs outside door clock old new status (form.Find site) =
    (outside.after ≡ outside.before)
    × Finds site outside.read_failed outside.write_failed old.traffic new.traffic status
Runs outside door clock old new status form.Import =
    ImportsAt outside old.traffic new.traffic status
Runs outside door clock old new status (form.Export by) =
    ExportsAt outside by old.traffic new.traffic status
Runs outside door clock old new status (form.Harvest site by) =
    HarvestsAt outside site by old.traffic new.traffic status
Runs outside door clock old new status (form.Session site) =
    SessionAt outside clock site old new status
Runs outside door clock old new status (form.Serve serving) =
    ServesAt outside door serving.port serving.connections old.traffic new.traffic status
Runs outside door clock old new status (form.Trial count seed) =
    (outside.after ≡ outside.before)
    × TellsReport (trial_report (record { count = count; seed = seed })) outside.write_failed
    old.traffic new.traffic status

-- little more is read than an input may have, and of a connection no more than 1,000 requests may
-- have; an export, a harvest, a trial and a server read nothing
abbrev pub ReadsInput : Option Traffic → Option Traffic → Form → Type 0
ReadsInput old new (form.Find site) = ReadsLittle old new
ReadsInput old new form.Import = ReadsLittle old new
ReadsInput old new (form.Export by) = ReadsLittle old new
ReadsInput old new (form.Harvest site by) = ReadsLittle old new
ReadsInput old new (form.Session site) = ReadsRequests old new
ReadsInput old new (form.Serve serving) = ReadsLittle old new
ReadsInput old new (form.Trial count seed) = ReadsLittle old new
