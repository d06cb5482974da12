-- The numbers with which the program ends.
use Rattle.std.specs.Prelude.{ℕ}
use Rattle.an_lines.specs.declared.status.Status.{Status}
use Rattle.an_lines.specs.declared.status.Status.TheVariants as status

abbrev pub status_code : Status → ℕ
status_code status.Done = 0
status_code status.WriteFault = 1
status_code status.Misunderstood = 2
status_code status.Refused = 3
status_code status.KeeperFailed = 4
status_code status.ReadFault = 5
status_code status.DoorFailed = 5
status_code status.Memory = 6
status_code (status.Damaged tab key) = 7
status_code status.NoReader = 8
