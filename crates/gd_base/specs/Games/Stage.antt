-- Where a play stands, by its words and choices alone: the open stage and the win in cents.
use Rattle.std.specs.Prelude.{ℕ, zero, suc, ◌+◌, ◌-◌, ◌*◌, ◌^◌, Bool, true, false, not, ◌&&◌, ◌||◌, ◌==◌, nat_le, nat_lt, if◌then◌else◌, List, Option, Some, None}
use Rattle.gd_base.specs.declared.limits.TheConstants.{MOST_HOLD, MOST_PICK, MOST_POKER_BET, MOST_REELS_BET, MOST_TURNS}
use Rattle.gd_base.specs.declared.game.Game.{Game}
use Rattle.gd_base.specs.declared.play.Choices.{Choices}
use Rattle.gd_base.specs.declared.play.Stage.{Stage}
use Rattle.gd_base.specs.declared.play.StageOpen.{StageOpen}
use Rattle.gd_base.specs.declared.setup.Setup.{Setup}
use Rattle.gd_base.specs.Games.Chance.{pick, word_at, window, line_wins, scatter_count, prize, final_hand, rank, hand_pay, has_bit, is_red}

abbrev pub has_pick : Setup → List ℕ → Bool
has_pick setup words = nat_le 3 (scatter_count (window setup words))

-- the line wins, in cents
abbrev pub lines_win : Setup → ℕ → List ℕ → ℕ
lines_win setup bet words = line_wins setup (window setup words) bet * setup.denom

-- the win before any gamble, in cents, once it is known
abbrev pub base_win : Setup → Game → ℕ → List ℕ → Option ℕ → Option ℕ
base_win setup Game.Reels bet words None = if has_pick setup words then None else Some (lines_win setup bet words)
base_win setup Game.Reels bet words (Some door) = Some (lines_win setup bet words + prize setup words door * bet * setup.denom)
base_win setup Game.Poker bet words None = None
base_win setup Game.Poker bet words (Some mask) = Some (hand_pay setup (rank (final_hand words mask)) * bet * setup.denom)

-- the card that gamble turn t shows, from 1
abbrev pub gamble_card : List ℕ → ℕ → ℕ
gamble_card words t = pick (word_at words (10 + t)) 52

-- whether the colour chosen in turn t is that of the card: bit t - 1 is 1 for black
abbrev pub is_right : List ℕ → ℕ → ℕ → Bool
is_right words colours t = if has_bit colours (t - 1) then not (is_red (gamble_card words t)) else is_red (gamble_card words t)

-- the win after so many gamble turns
abbrev pub win_after : List ℕ → ℕ → ℕ → ℕ → ℕ
win_after words colours base zero = base
win_after words colours base (suc t) = if is_right words colours (suc t) then 2 * win_after words colours base t else 0

abbrev pub first_stage : Game → StageOpen
first_stage Game.Reels = StageOpen.Pick
first_stage Game.Poker = StageOpen.Hold

-- a known win may be gambled, up to the limit and five times
abbrev pub gamble_stage : Setup → ℕ → ℕ → Stage
gamble_stage setup turns win =
    if (win == 0) || nat_le setup.gamble_limit win || (turns == MOST_TURNS)
    then record { phase = StageOpen.Ended; win = win }
    else record { phase = StageOpen.Gamble; win = win }

abbrev pub stage_with : Setup → Game → List ℕ → Choices → Option ℕ → Stage
stage_with setup game words choices None = record { phase = first_stage game; win = 0 }
stage_with setup game words choices (Some base) = gamble_stage setup choices.turns (win_after words choices.colours base choices.turns)

abbrev pub stage : Setup → Game → ℕ → List ℕ → Choices → Stage
stage setup game bet words choices = stage_with setup game words choices (base_win setup game bet words choices.choice)

-- ================ which choices a play's stages allow, in order

abbrev pub is_bet : Game → ℕ → Bool
is_bet Game.Reels bet = nat_le 1 bet && nat_le bet MOST_REELS_BET
is_bet Game.Poker bet = nat_le 1 bet && nat_le bet MOST_POKER_BET

abbrev pub is_stage : StageOpen → StageOpen → Bool
is_stage StageOpen.Pick StageOpen.Pick = true
is_stage StageOpen.Hold StageOpen.Hold = true
is_stage StageOpen.Gamble StageOpen.Gamble = true
is_stage StageOpen.Ended StageOpen.Ended = true
is_stage _ _ = false

abbrev pub is_choice : Setup → Game → List ℕ → Option ℕ → Bool
is_choice setup game words None = true
is_choice setup Game.Reels words (Some door) = has_pick setup words && nat_le 1 door && nat_le door MOST_PICK
is_choice setup Game.Poker words (Some mask) = nat_le mask MOST_HOLD

-- the gamble stage was open before each of these turns
abbrev pub could_turn : Setup → Game → ℕ → List ℕ → Choices → ℕ → Bool
could_turn setup game bet words choices zero = true
could_turn setup game bet words choices (suc t) =
    could_turn setup game bet words choices t
    && is_stage (stage setup game bet words (record choices { turns = t })).phase StageOpen.Gamble

abbrev pub are_choices : Setup → Game → ℕ → List ℕ → Choices → Bool
are_choices setup game bet words choices =
    is_choice setup game words choices.choice && nat_lt choices.colours (2 ^ choices.turns)
    && could_turn setup game bet words choices choices.turns
