-- A play that is over, and one that goes on, by what the setup makes of it.
use Rattle.std.specs.Prelude.{Bool, not, ◌&&◌}
use Rattle.gd_base.specs.declared.play.PlayRecord.{PlayRecord}
use Rattle.gd_base.specs.declared.play.StageOpen.{StageOpen}
use Rattle.gd_base.specs.declared.setup.Setup.{Setup}
use Rattle.gd_base.specs.Payloads.ViewRules.{is_finished, is_in, is_played}

abbrev pub has_ended : Setup → PlayRecord → Bool
has_ended setup p = is_played setup p && is_finished setup p

abbrev pub goes_on : Setup → PlayRecord → Bool
goes_on setup p = is_played setup p && not (is_in setup p StageOpen.Ended)
