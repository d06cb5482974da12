-- For a law: what the status of a run says of the cells that the keeper told before it, where the
-- keeper tells them after it too, as one in memory does.
use Rattle.std.specs.Prelude.{⊤}
use Rattle.an_lines.specs.declared.status.Status.{Status}
use Rattle.an_lines.specs.declared.status.Status.TheVariants as status
use Rattle.an_app.specs.declared.form.Form.{Form}
use Rattle.an_app.specs.declared.form.Form.TheVariants as form

-- the form opens a store
abbrev pub OpensStore : Form → Type 0
OpensStore (form.Find site) = ⊥
OpensStore form.Import = ⊤
OpensStore (form.Export by) = ⊤
OpensStore (form.Harvest site by) = ⊤
OpensStore (form.Session site) = ⊤
OpensStore (form.Serve serving) = ⊤
OpensStore (form.Trial count seed) = ⊥

-- Only a run whose store was opened ends so. After a failed write, a fault of the keeper and want
-- of memory it may have been opened or not.
abbrev pub IsOfOpened : Status → Type 0
IsOfOpened status.Done = ⊤
IsOfOpened status.Misunderstood = ⊤
IsOfOpened status.Refused = ⊤
IsOfOpened status.ReadFault = ⊤
IsOfOpened status.NoReader = ⊤
IsOfOpened status.DoorFailed = ⊤
IsOfOpened status.WriteFault = ⊥
IsOfOpened status.KeeperFailed = ⊥
IsOfOpened status.Memory = ⊥
IsOfOpened (status.Damaged tab key) = ⊥
