-- What a machine's play is in a history: an event is judged by the rule, and the play that is open then is the
-- history's.
use Rattle.std.specs.Prelude.{◌≡◌, ℕ, Bool, true, false, IsTrue, if◌then◌else◌, Option, Some, None, option_map}
use Rattle.gd_base.specs.declared.event.Event.{Event}
use Rattle.gd_base.specs.declared.play.PlayRecord.{PlayRecord}
use Rattle.gd_base.specs.declared.play.StageOpen.{StageOpen}
use Rattle.gd_base.specs.declared.setup.Setup.{Setup}
use Rattle.gd_base.specs.Histories.Conditions.{lock}
use Rattle.gd_base.specs.Histories.Credit.{wager}
use Rattle.gd_base.specs.Histories.Entry.{Entry, is_taken}
use Rattle.gd_base.specs.Histories.Recall.{play_record}
use Rattle.gd_base.specs.Histories.Rounds.{Round, round_of, choices_of, no_choices, open_after, ended_after, moved_round, is_over}
use Rattle.gd_base.specs.Judging.Rule.{rule}
use Rattle.gd_base.specs.Games.Stage.{is_stage}
use Rattle.gd_base.specs.Histories.View.{View}
use Rattle.gd_play.specs.Judging.{refusal, judgement_reply}
use Rattle.gd_play.specs.Moving.{play_with_round, play_after, stage_after, open_stage_of}

-- the events that move an open play on
abbrev pub is_move : Event → Bool
is_move (Event.Pick door) = true
is_move (Event.Hold mask) = true
is_move (Event.Gamble colour) = true
is_move Event.Take = true
is_move _ = false

-- Where nothing locks the machine up, the rule's reply is that of the machine with the open play.
abbrev pub JudgesAsRule : Type 0
JudgesAsRule =
    (setup : Setup) (v : View) (event : Event) → IsTrue (is_move event) → lock v ≡ None
    → rule setup v event ≡ judgement_reply (refusal v.play (open_stage_of setup v.play) event)

-- the round of a play, where it goes on
abbrev pub open_round_of : StageOpen → Option PlayRecord → Option Round
open_round_of phase play = if is_stage phase StageOpen.Ended then None else option_map round_of play

-- and where it has ended
abbrev pub ended_round_of : StageOpen → Option PlayRecord → Option Round
ended_round_of phase play = if is_stage phase StageOpen.Ended then option_map round_of play else None

-- After a taken event the machine's play is the history's open one, or the one that the entry ended.
abbrev pub MovesAsHistory : Type 0
MovesAsHistory =
    (setup : Setup) (e : Entry) (place : ℕ) (play : Option PlayRecord)
    → IsTrue (is_move e.event) → IsTrue (is_taken e.reply)
    → (open_after setup e place (option_map round_of play)
    ≡ open_round_of (stage_after setup e.event play) (play_after setup e.event play))
    × (ended_after setup e place (option_map round_of play)
    ≡ ended_round_of (stage_after setup e.event play) (play_after setup e.event play))

-- A play that begins is the round that its Play opens in a history, and it is over exactly where that Play ends it.
abbrev pub BeginsAsHistory : Type 0
BeginsAsHistory =
    (setup : Setup) (p : PlayRecord) → choices_of p ≡ no_choices
    → (moved_round p.place (Some (p.index, p.words)) None (Event.Play p.game p.bet) ≡ Some (round_of p))
    × (is_stage (open_stage_of setup (Some p)) StageOpen.Ended ≡ is_over setup (Event.Play p.game p.bet) (round_of p))

-- Its record is the history's, where it has the wager of its bet.
abbrev pub KeepsRecord : Type 0
KeepsRecord =
    (setup : Setup) (p : PlayRecord) (event : Event) (r : Round) → p.wager ≡ wager setup p.bet
    → (play_with_round setup p (round_of p) ≡ play_record setup (p.number, p.before) p.after (round_of p))
    × (IsTrue (is_move event) → moved_round p.place None (Some (round_of p)) event ≡ Some r
    → play_with_round setup p r ≡ play_record setup (p.number, p.before) p.after r)
