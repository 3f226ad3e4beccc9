-- The rules of the play that a machine holds.
use Rattle.std.specs.Prelude.{Bool, not, ◌&&◌, ◌||◌, ◌==◌, Option, Some, None}
use Rattle.gd_base.specs.declared.play.PlayRecord.{PlayRecord}
use Rattle.gd_base.specs.declared.play.StageOpen.{StageOpen}
use Rattle.gd_base.specs.declared.setup.Setup.{Setup}
use Rattle.gd_base.specs.Histories.Rounds.{choices_of}
use Rattle.gd_base.specs.Payloads.ViewRules.{is_play_record, is_played, is_in}
use Rattle.gd_base.specs.Games.Stage.{stage, is_bet, is_stage, are_choices}

-- the rules of an open play in a payload, but for its place among the entries
abbrev pub is_open_play : Setup → PlayRecord → Bool
is_open_play setup p = is_play_record p && is_played setup p && not (is_in setup p StageOpen.Ended) && (p.after == 0)

-- a legal bet, choices in order and the win of their stage
abbrev pub is_in_order : Setup → PlayRecord → Bool
is_in_order setup p =
    is_bet p.game p.bet && are_choices setup p.game p.bet p.words (choices_of p)
    && (p.win == (stage setup p.game p.bet p.words (choices_of p)).win)

-- the stage of its words and choices is open, or it was taken in its gamble stage
abbrev pub is_left : Setup → PlayRecord → StageOpen → Bool
is_left setup p phase = is_in setup p phase || (is_stage phase StageOpen.Ended && is_in setup p StageOpen.Gamble)

-- what holds of the play and the stage of a machine
abbrev pub are_kept : Setup → Option PlayRecord → StageOpen → Bool
are_kept setup None phase = is_stage phase StageOpen.Ended
are_kept setup (Some p) phase = is_in_order setup p && is_left setup p phase
