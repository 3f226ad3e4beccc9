-- For callers: tests of stages, and which stages can be open.
use Rattle.std.specs.Prelude.{◌≡◌, ◌==◌, ◌&&◌, ◌||◌, ℕ, Bool, true, false, nat_le, if◌then◌else◌, List, Option, Some, None, refl}
use Rattle.gd_base.specs.declared.game.Game.{Game}
use Rattle.gd_base.specs.declared.play.Choices.{Choices}
use Rattle.gd_base.specs.declared.play.Stage.{Stage}
use Rattle.gd_base.specs.declared.play.StageOpen.{StageOpen}
use Rattle.gd_base.specs.declared.limits.TheConstants.{MOST_TURNS}
use Rattle.gd_base.specs.declared.setup.Setup.{Setup}
use Rattle.gd_base.specs.Games.Stage.{is_stage, stage_with, base_win, has_pick, lines_win, win_after}

pub one_stage : (a b : StageOpen) → is_stage a b ≡ true → a ≡ b
one_stage StageOpen.Pick StageOpen.Pick h = refl
one_stage StageOpen.Hold StageOpen.Hold h = refl
one_stage StageOpen.Gamble StageOpen.Gamble h = refl
one_stage StageOpen.Ended StageOpen.Ended h = refl
one_stage StageOpen.Pick StageOpen.Hold h = cc
one_stage StageOpen.Pick StageOpen.Gamble h = cc
one_stage StageOpen.Pick StageOpen.Ended h = cc
one_stage StageOpen.Hold StageOpen.Pick h = cc
one_stage StageOpen.Hold StageOpen.Gamble h = cc
one_stage StageOpen.Hold StageOpen.Ended h = cc
one_stage StageOpen.Gamble StageOpen.Pick h = cc
one_stage StageOpen.Gamble StageOpen.Hold h = cc
one_stage StageOpen.Gamble StageOpen.Ended h = cc
one_stage StageOpen.Ended StageOpen.Pick h = cc
one_stage StageOpen.Ended StageOpen.Hold h = cc
one_stage StageOpen.Ended StageOpen.Gamble h = cc

pub stage_itself : (a : StageOpen) → is_stage a a ≡ true
stage_itself StageOpen.Pick = refl
stage_itself StageOpen.Hold = refl
stage_itself StageOpen.Gamble = refl
stage_itself StageOpen.Ended = refl

pub or_left : (a b : Bool) → a ≡ true → a || b ≡ true
or_left true b p = refl
or_left false b p = cc

pub or_right : (a b : Bool) → b ≡ true → a || b ≡ true
or_right true b p = refl
or_right false b p = p

-- where the other way can't be
pub only_left : (a b : Bool) → a || (false && b) ≡ true → a ≡ true
only_left true b h = refl
only_left false b h = h

pub none_of : (a b : Bool) → a || b ≡ false → b ≡ false
none_of true b h = cc
none_of false b h = h

-- ================ which stage is open

abbrev known : Bool → ℕ → Stage
known is_over win = if is_over then record { phase = StageOpen.Ended; win = win } else record { phase = StageOpen.Gamble; win = win }

not_over : (b : Bool) (win : ℕ) → (known b win).phase ≡ StageOpen.Gamble → b ≡ false
not_over true win h = cc
not_over false win h = refl

never_pick : (b : Bool) (win : ℕ) → (known b win).phase ≡ StageOpen.Pick → ⊥
never_pick true win h = cc
never_pick false win h = cc

never_hold : (b : Bool) (win : ℕ) → (known b win).phase ≡ StageOpen.Hold → ⊥
never_hold true win h = cc
never_hold false win h = cc

-- a gamble stage is open for at most five turns
pub turns_left : (setup : Setup) (g : Game) (words : List ℕ) (c : Choices) (base : Option ℕ)
    → (stage_with setup g words c base).phase ≡ StageOpen.Gamble → c.turns == MOST_TURNS ≡ false
turns_left setup Game.Reels words c None h = cc
turns_left setup Game.Poker words c None h = cc
turns_left setup g words c (Some base) h =
    let win = win_after words c.colours base c.turns in
    none_of ((win == 0) || nat_le setup.gamble_limit win) (c.turns == MOST_TURNS) (not_over ((win == 0) || nat_le setup.gamble_limit win || (c.turns == MOST_TURNS)) win h)

-- a pick is open in reels, before the base win is known, and a hold in poker
pub pick_open : (setup : Setup) (g : Game) (words : List ℕ) (c : Choices) (base : Option ℕ)
    → (stage_with setup g words c base).phase ≡ StageOpen.Pick → (g ≡ Game.Reels) × (base ≡ None)
pick_open setup Game.Reels words c None h = (refl, refl)
pick_open setup Game.Poker words c None h = absurd (cc h)
pick_open setup g words c (Some base) h =
    let win = win_after words c.colours base c.turns in
    absurd (never_pick ((win == 0) || nat_le setup.gamble_limit win || (c.turns == MOST_TURNS)) win h)

pub hold_open : (setup : Setup) (g : Game) (words : List ℕ) (c : Choices) (base : Option ℕ)
    → (stage_with setup g words c base).phase ≡ StageOpen.Hold → (g ≡ Game.Poker) × (base ≡ None)
hold_open setup Game.Poker words c None h = (refl, refl)
hold_open setup Game.Reels words c None h = absurd (cc h)
hold_open setup g words c (Some base) h =
    let win = win_after words c.colours base c.turns in
    absurd (never_hold ((win == 0) || nat_le setup.gamble_limit win || (c.turns == MOST_TURNS)) win h)

-- in reels the base win is not known where there is a pick
pub pick_waits : (setup : Setup) (bet : ℕ) (words : List ℕ) (choice : Option ℕ) → base_win setup Game.Reels bet words choice ≡ None → has_pick setup words ≡ true
pick_waits setup bet words (Some door) h = cc
pick_waits setup bet words None h =
    elim (has_pick setup words) as (λ b. (if b then None else Some (lines_win setup bet words)) ≡ None → b ≡ true) [ true ↦ λ e. refl | false ↦ λ e. cc e ] h
