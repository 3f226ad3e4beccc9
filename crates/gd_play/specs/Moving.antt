-- What an event of the player makes of the open play, and the stage that it leaves open.
use Rattle.std.specs.Prelude.{ℕ, if◌then◌else◌, Option, Some, None, option_map}
use Rattle.gd_base.specs.declared.event.Event.{Event}
use Rattle.gd_base.specs.declared.play.PlayRecord.{PlayRecord}
use Rattle.gd_base.specs.declared.play.StageOpen.{StageOpen}
use Rattle.gd_base.specs.declared.setup.Setup.{Setup}
use Rattle.gd_base.specs.Histories.Rounds.{Round, round_of, round_stage, moved_round, is_over}

-- a play with the choices of a round, and with the win of their stage
abbrev pub play_with_round : Setup → PlayRecord → Round → PlayRecord
play_with_round setup p r =
    record p {
      choice = r.choices.choice;
      turns = r.choices.turns;
      colours = r.choices.colours;
      win = (round_stage setup r).win;
    }

-- the open play after an event that moves it on
abbrev pub play_after : Setup → Event → Option PlayRecord → Option PlayRecord
play_after setup event None = None
play_after setup event (Some p) = option_map (play_with_round setup p) (moved_round p.place None (Some (round_of p)) event)

-- the stage that is open in a round after an event: none where the event ends the play
abbrev pub stage_left : Setup → Event → Option Round → StageOpen
stage_left setup event None = StageOpen.Ended
stage_left setup event (Some r) = if is_over setup event r then StageOpen.Ended else (round_stage setup r).phase

abbrev pub stage_after : Setup → Event → Option PlayRecord → StageOpen
stage_after setup event None = StageOpen.Ended
stage_after setup event (Some p) = stage_left setup event (moved_round p.place None (Some (round_of p)) event)

-- the stage that is open in a play, by its words and choices
abbrev pub open_stage_of : Setup → Option PlayRecord → StageOpen
open_stage_of setup None = StageOpen.Ended
open_stage_of setup (Some p) = (round_stage setup (round_of p)).phase

-- a play as it is handed out: with the balance after the entry that ended it
abbrev pub play_with_after : ℕ → PlayRecord → PlayRecord
play_with_after after p = record p { after = after }
