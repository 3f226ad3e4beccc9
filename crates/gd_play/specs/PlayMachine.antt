-- What a play machine holds. Public clauses speak by these words.
use Rattle.std.specs.Prelude.{Option}
use Rattle.gd_base.specs.declared.play.PlayRecord.{PlayRecord}
use Rattle.gd_base.specs.declared.play.StageOpen.{StageOpen}
use Rattle.gd_play.specs.declared.play_machine.PlayMachine.{PlayMachine}

-- the paytable of a machine
abbrev pub play_machine_table : {P : Type 0} {g : _} → PlayMachine P g → P
play_machine_table machine = machine.table

-- the play that was begun and not yet handed out
abbrev pub play_machine_play : {P : Type 0} {g : _} → PlayMachine P g → Option PlayRecord
play_machine_play machine = machine.play

-- the stage that is open in it, Ended where it is over or there is none
abbrev pub play_machine_stage : {P : Type 0} {g : _} → PlayMachine P g → StageOpen
play_machine_stage machine = machine.phase
