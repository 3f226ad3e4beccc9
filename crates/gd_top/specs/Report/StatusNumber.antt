-- The numbers of the statuses, with which the program ends.
use Rattle.std.specs.Prelude.{ℕ}
use Rattle.gd_top.specs.declared.status.Status.{Status}

abbrev pub status_number : Status → ℕ
status_number Status.Done = 0
status_number Status.Usage = 2
status_number Status.ReadFault = 3
status_number Status.WriteFault = 4
status_number Status.DiskFault = 5
status_number Status.ScriptFault = 6
status_number Status.Locked = 7
status_number Status.SetupRefused = 8
status_number Status.OutOfMemory = 9
status_number Status.AlreadyMade = 10
status_number Status.SetupDiffers = 11
status_number Status.LinkFault = 12
status_number Status.SessionFull = 13
