-- The win after a turn of gamble is that of the stage there.
use Rattle.std.proofs.Common.{◌≡◌, ◌∙◌, ap, sym, refl, ℕ, zero, suc, ◌*◌, ◌==◌, ◌||◌, Bool, true, false, nat_le, if◌then◌else◌, List, Option, Some, None}
use Rattle.std.specs.Prelude.{unwrap_or}
use Rattle.gd_base.specs.declared.game.Game.{Game}
use Rattle.gd_base.specs.declared.limits.TheConstants.{MOST_TURNS}
use Rattle.gd_base.specs.declared.play.Choices.{Choices}
use Rattle.gd_base.specs.declared.play.PlayRecord.{PlayRecord}
use Rattle.gd_base.specs.declared.play.Stage.{Stage}
use Rattle.gd_base.specs.declared.play.StageOpen.{StageOpen}
use Rattle.gd_base.specs.declared.setup.Setup.{Setup}
use Rattle.gd_base.specs.Games.Stage.{base_win, is_right, stage, stage_with, win_after}
use Rattle.gd_base.specs.Texts.OfViews.{base_of}

either : (b : Bool) (n : ℕ) → (if b then n else n) ≡ n
either true n = refl
either false n = refl

nothing_won : (words : List ℕ) (colours turns : ℕ) → win_after words colours 0 turns ≡ 0
nothing_won words colours zero = refl
nothing_won words colours (suc turns) =
    ap (λ (n : ℕ). if is_right words colours (suc turns) then 2 * n else 0) (nothing_won words colours turns) ∙ either (is_right words colours (suc turns)) 0

one_win : (is_over : Bool) (a b : StageOpen) (win : ℕ) → (let s : Stage = if is_over then record { phase = a; win = win } else record { phase = b; win = win } in s.win) ≡ win
one_win true a b win = refl
one_win false a b win = refl

win_with : (setup : Setup) (game : Game) (words : List ℕ) (c : Choices) (base : Option ℕ) → (stage_with setup game words c base).win ≡ win_after words c.colours (unwrap_or base 0) c.turns
win_with setup game words c None = sym (nothing_won words c.colours c.turns)
win_with setup game words c (Some base) =
    let win = win_after words c.colours base c.turns in
    one_win ((win == 0) || nat_le setup.gamble_limit win || (c.turns == MOST_TURNS)) StageOpen.Ended StageOpen.Gamble win

pub turn_win : (setup : Setup) (p : PlayRecord) (t : ℕ) → (stage setup p.game p.bet p.words (record { choice = p.choice; turns = t; colours = p.colours })).win ≡ win_after p.words p.colours (base_of setup p) t
turn_win setup p t = win_with setup p.game p.words (record { choice = p.choice; turns = t; colours = p.colours }) (base_win setup p.game p.bet p.words p.choice)
