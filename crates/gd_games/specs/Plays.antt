-- A play of which the wager, the choices and the win are recorded, beside the stages that these have by the rules.
use Rattle.std.specs.Prelude.{ℕ, ◌==◌, if◌then◌else◌, Option, Some, None}
use Rattle.gd_base.specs.declared.play.PlayRecord.{PlayRecord}
use Rattle.gd_base.specs.declared.play.Stage.{Stage}
use Rattle.gd_base.specs.declared.play.StageOpen.{StageOpen}
use Rattle.gd_base.specs.declared.setup.Setup.{Setup}
use Rattle.gd_base.specs.Games.Stage.{are_choices, first_stage, gamble_stage, stage, win_after}
use Rattle.gd_base.specs.Histories.Rounds.{choices_of}
use Rattle.gd_base.specs.Payloads.ViewRules.{is_played}
use Rattle.gd_games.specs.Turns.{could_turn_from}

-- where a recorded play stands
abbrev pub play_stage : Setup → PlayRecord → Stage
play_stage setup p = stage setup p.game p.bet p.words (choices_of p)

-- its open stage, where its wager, its choices and its win are those of its stages
abbrev pub phase_if_played : Setup → PlayRecord → Option StageOpen
phase_if_played setup p = if is_played setup p then Some (play_stage setup p).phase else None

-- ================ parts of it

-- its stage, where its stages allow its choices in order
abbrev pub stage_if_chosen : Setup → PlayRecord → Option Stage
stage_if_chosen setup p = if are_choices setup p.game p.bet p.words (choices_of p) then Some (play_stage setup p) else None

-- its stage over a win before any gamble, where each of its turns could come
abbrev pub stage_if_turned : Setup → PlayRecord → ℕ → Option Stage
stage_if_turned setup p base =
    if could_turn_from setup p.words p.colours base p.turns then Some (gamble_stage setup p.turns (win_after p.words p.colours base p.turns)) else None

-- its stage where no win is known, and so no turn could come
abbrev pub stage_unturned : PlayRecord → Option Stage
stage_unturned p = if p.turns == 0 then Some (record { phase = first_stage p.game; win = 0 }) else None
