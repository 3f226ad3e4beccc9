-- The turns of gamble of a play whose win before them is known.
use Rattle.std.specs.Prelude.{ℕ, zero, suc, Bool, true, ◌&&◌, List}
use Rattle.gd_base.specs.declared.play.StageOpen.{StageOpen}
use Rattle.gd_base.specs.declared.setup.Setup.{Setup}
use Rattle.gd_base.specs.Games.Stage.{gamble_stage, is_stage, win_after}

-- the gamble stage was open before each of these turns
abbrev pub could_turn_from : Setup → List ℕ → ℕ → ℕ → ℕ → Bool
could_turn_from setup words colours base zero = true
could_turn_from setup words colours base (suc t) =
    could_turn_from setup words colours base t && is_stage (gamble_stage setup t (win_after words colours base t)).phase StageOpen.Gamble
