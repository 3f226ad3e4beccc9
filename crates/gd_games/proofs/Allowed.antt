-- For callers: choices that the stages of a play allow are such as `stage` asks for.
use Rattle.std.proofs.Common.{◌≡◌, ◌≤◌, ◌^◌, ◌&&◌, ℕ, true, nat_le, nat_lt, List, Option, Some, None, refl}
use Rattle.gd_base.specs.declared.game.Game.{Game}
use Rattle.gd_base.specs.declared.limits.TheConstants.{MOST_PICK, MOST_TURNS}
use Rattle.gd_base.specs.declared.play.Choices.{Choices}
use Rattle.gd_base.specs.declared.setup.Setup.{Setup}
use Rattle.gd_base.specs.Games.Stage.{are_choices, could_turn, has_pick, is_choice}
use Rattle.gd_base.specs.Judging.Product.{both_hold}
use Rattle.gd_base.specs.Payloads.ViewRules.{is_choice_value}
use Rattle.gd_base.proofs.BoolTests.{both}
use Rattle.gd_base.proofs.StageLemmas.Turns.{most_turns}

allowed_value : (setup : Setup) (game : Game) (words : List ℕ) (choice : Option ℕ) → is_choice setup game words choice ≡ true → is_choice_value game choice ≡ true
allowed_value setup game words None h = refl
allowed_value setup Game.Reels words (Some door) h =
    let high = both (has_pick setup words && nat_le 1 door) (nat_le door MOST_PICK) h in
    let low = both (has_pick setup words) (nat_le 1 door) high.0 in
    both_hold (nat_le 1 door) (nat_le door MOST_PICK) low.1 high.1
allowed_value setup Game.Poker words (Some mask) h = h

-- a choice of the game
pub choice_allowed : (setup : Setup) (game : Game) (bet : ℕ) (words : List ℕ) (c : Choices) → are_choices setup game bet words c ≡ true → is_choice_value game c.choice ≡ true
choice_allowed setup game bet words c h =
    let tests = both (is_choice setup game words c.choice && nat_lt c.colours (2 ^ c.turns)) (could_turn setup game bet words c c.turns) h in
    allowed_value setup game words c.choice (both (is_choice setup game words c.choice) (nat_lt c.colours (2 ^ c.turns)) tests.0).0

-- and at most five turns
pub turns_allowed : (setup : Setup) (game : Game) (bet : ℕ) (words : List ℕ) (c : Choices) → are_choices setup game bet words c ≡ true → c.turns ≤ MOST_TURNS
turns_allowed setup game bet words c h =
    most_turns setup game bet words c c.turns (both (is_choice setup game words c.choice && nat_lt c.colours (2 ^ c.turns)) (could_turn setup game bet words c c.turns) h).1
