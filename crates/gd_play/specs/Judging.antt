-- How an event of the player is judged: by whether a play is open, and by the stage that is open in it.
use Rattle.std.specs.Prelude.{ℕ, Bool, true, false, ◌&&◌, nat_le, Option, Some, None, Result, Ok, Err}
use Rattle.gd_base.specs.declared.limits.TheConstants.{MOST_HOLD, MOST_PICK}
use Rattle.gd_base.specs.declared.event.Event.{Event}
use Rattle.gd_base.specs.declared.refusal.Refusal.{Refusal}
use Rattle.gd_base.specs.declared.refusal.Reply.{Reply}
use Rattle.gd_base.specs.declared.play.PlayRecord.{PlayRecord}
use Rattle.gd_base.specs.declared.play.StageOpen.{StageOpen}
use Rattle.gd_base.specs.Judging.Rule.{unless}
use Rattle.gd_base.specs.Games.Stage.{is_stage}

-- a pick or a hold
abbrev pub is_choosing : Event → Bool
is_choosing (Event.Pick door) = true
is_choosing (Event.Hold mask) = true
is_choosing _ = false

-- the door or the mask that it names
abbrev pub choice_in : Event → ℕ
choice_in (Event.Pick door) = door
choice_in (Event.Hold mask) = mask
choice_in _ = 0

-- whether a stage asks for an event
abbrev pub asks_for : StageOpen → Event → Bool
asks_for phase (Event.Pick door) = is_stage phase StageOpen.Pick && (nat_le 1 door && nat_le door MOST_PICK)
asks_for phase (Event.Hold mask) = is_stage phase StageOpen.Hold && nat_le mask MOST_HOLD
asks_for phase (Event.Gamble colour) = is_stage phase StageOpen.Gamble
asks_for phase Event.Take = is_stage phase StageOpen.Gamble
asks_for phase _ = false

-- why an event is refused: no play is open, or its stage doesn't ask for the event
abbrev pub refusal : Option PlayRecord → StageOpen → Event → Option Refusal
refusal None phase event = Some Refusal.NoPlay
refusal (Some p) phase event = unless (asks_for phase event) Refusal.BadChoice

-- a refusal, or the stage that is open afterwards
abbrev pub judgement : Option Refusal → StageOpen → Result StageOpen Refusal
judgement None phase = Ok phase
judgement (Some why) phase = Err why

abbrev pub judgement_reply : Option Refusal → Reply
judgement_reply None = Reply.Taken
judgement_reply (Some why) = Reply.Refused why
