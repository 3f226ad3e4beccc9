-- Which play is open: a taken Play opens it, taken choices are kept with it, and it is over once its stage is Ended or its
-- win was taken.
use Rattle.std.specs.Prelude.{ℕ, ◌+◌, ◌*◌, ◌^◌, Bool, true, false, ◌||◌, if◌then◌else◌, List, [], ◌∷◌, Option, Some, None, option_map}
use Rattle.gd_base.specs.declared.game.Colour.{Colour}
use Rattle.gd_base.specs.declared.event.Event.{Event}
use Rattle.gd_base.specs.declared.game.Game.{Game}
use Rattle.gd_base.specs.declared.play.Choices.{Choices}
use Rattle.gd_base.specs.declared.play.PlayRecord.{PlayRecord}
use Rattle.gd_base.specs.declared.play.Stage.{Stage}
use Rattle.gd_base.specs.declared.play.StageOpen.{StageOpen}
use Rattle.gd_base.specs.declared.setup.Setup.{Setup}
use Rattle.gd_base.specs.Histories.Entry.{Entry, is_taken}
use Rattle.gd_base.specs.Histories.History.{Origin, next_place}
use Rattle.gd_base.specs.Games.Stage.{stage, is_stage}

-- a play without its number and its money
pub record Round : Type 0 where
  pub index : ℕ  -- of its block
  pub words : List ℕ
  pub game : Game
  pub bet : ℕ
  pub choices : Choices
  pub place : ℕ  -- of its Play entry

abbrev pub choices_of : PlayRecord → Choices
choices_of p = record { choice = p.choice; turns = p.turns; colours = p.colours }

abbrev pub round_of : PlayRecord → Round
round_of p = record { index = p.index; words = p.words; game = p.game; bet = p.bet; choices = choices_of p; place = p.place }

abbrev pub round_stage : Setup → Round → Stage
round_stage setup r = stage setup r.game r.bet r.words r.choices

abbrev pub no_choices : Choices
no_choices = record { choice = None; turns = 0; colours = 0 }

abbrev pub colour_bit : Colour → ℕ
colour_bit Colour.Red = 0
colour_bit Colour.Black = 1

-- a round with a pick or a hold, and with a gamble turn more
abbrev pub with_choice : ℕ → Round → Round
with_choice choice r = record r { choices = record r.choices { choice = Some choice } }

abbrev pub with_turn : Colour → Round → Round
with_turn colour r = record r { choices = record r.choices { turns = r.choices.turns + 1; colours = r.choices.colours + colour_bit colour * 2 ^ r.choices.turns } }

abbrev pub draw_index : Option (ℕ × List ℕ) → ℕ
draw_index None = 0
draw_index (Some draw) = draw.0

abbrev pub draw_words : Option (ℕ × List ℕ) → List ℕ
draw_words None = []
draw_words (Some draw) = draw.1

abbrev pub new_round : ℕ → Option (ℕ × List ℕ) → Game → ℕ → Round
new_round place draw game bet = record { index = draw_index draw; words = draw_words draw; game = game; bet = bet; choices = no_choices; place = place }

-- the play that an event moves on, as it is after it, by the one that was open and the place and draw of the entry
abbrev pub moved_round : ℕ → Option (ℕ × List ℕ) → Option Round → Event → Option Round
moved_round place draw before (Event.Play game bet) = Some (new_round place draw game bet)
moved_round place draw before (Event.Pick door) = option_map (with_choice door) before
moved_round place draw before (Event.Hold mask) = option_map (with_choice mask) before
moved_round place draw before (Event.Gamble colour) = option_map (with_turn colour) before
moved_round place draw before Event.Take = before
moved_round place draw before _ = None

abbrev pub is_take : Event → Bool
is_take Event.Take = true
is_take _ = false

-- whether an event ends the play that it moved on
abbrev pub is_over : Setup → Event → Round → Bool
is_over setup event r = is_take event || is_stage (round_stage setup r).phase StageOpen.Ended

-- what is open after an event that moved a play on, or none
abbrev pub left_open : Setup → Event → Option Round → Option Round → Option Round
left_open setup event before None = before
left_open setup event before (Some r) = if is_over setup event r then None else Some r

-- the play that it ended
abbrev pub ended_by : Setup → Event → Option Round → Option Round
ended_by setup event None = None
ended_by setup event (Some r) = if is_over setup event r then Some r else None

abbrev pub open_after : Setup → Entry → ℕ → Option Round → Option Round
open_after setup e place before = if is_taken e.reply then left_open setup e.event before (moved_round place e.draw before e.event) else before

abbrev pub open_round : Origin → List Entry → Option Round
open_round o [] = option_map round_of o.opening.play
open_round o (e ∷ past) = open_after o.setup e (next_place o past) (open_round o past)

-- the play that a taken entry ends, by the one that was open
abbrev pub ended_after : Setup → Entry → ℕ → Option Round → Option Round
ended_after setup e place before = ended_by setup e.event (moved_round place e.draw before e.event)

abbrev pub ended_round : Origin → Entry → List Entry → Option Round
ended_round o e past = ended_after o.setup e (next_place o past) (open_round o past)

abbrev pub win_of : Setup → Option Round → ℕ
win_of setup None = 0
win_of setup (Some r) = (round_stage setup r).win

-- the win that a taken entry posts
abbrev pub posted_win : Origin → Entry → List Entry → ℕ
posted_win o e past = win_of o.setup (ended_round o e past)
