-- For callers: a pick or a hold is the first choice of its play.
use Rattle.std.proofs.Common.{◌≡◌, ◌&&◌, ℕ, true, nat_le, List, Some}
use Rattle.gd_base.proofs.BoolTests.{both}
use Rattle.gd_base.specs.declared.event.Event.{Event}
use Rattle.gd_base.specs.declared.game.Game.{Game}
use Rattle.gd_base.specs.declared.play.Choices.{Choices}
use Rattle.gd_base.specs.declared.play.StageOpen.{StageOpen}
use Rattle.gd_base.specs.declared.limits.TheConstants.{MOST_HOLD, MOST_PICK}
use Rattle.gd_base.specs.declared.setup.Setup.{Setup}
use Rattle.gd_base.specs.Games.Stage.{stage, is_stage, are_choices}
use Rattle.gd_base.proofs.StageLemmas.FirstChoice.{pick_allowed, hold_allowed}
use Rattle.gd_base.proofs.StageLemmas.Stages.{one_stage}
use Rattle.gd_play.specs.Judging.{is_choosing, choice_in, asks_for}

-- the choices of a play with the choice that its stage asks for
pub first_asked : (setup : Setup) (g : Game) (bet : ℕ) (words : List ℕ) (c : Choices) (event : Event) → is_choosing event ≡ true
    → are_choices setup g bet words c ≡ true → asks_for (stage setup g bet words c).phase event ≡ true
    → are_choices setup g bet words (record c { choice = Some (choice_in event) }) ≡ true
first_asked setup g bet words c (Event.Pick door) choosing legal asks =
    let t = both (is_stage (stage setup g bet words c).phase StageOpen.Pick) (nat_le 1 door && nat_le door MOST_PICK) asks in
    pick_allowed setup g bet words c door legal (one_stage _ _ t.0) t.1
first_asked setup g bet words c (Event.Hold mask) choosing legal asks =
    let t = both (is_stage (stage setup g bet words c).phase StageOpen.Hold) (nat_le mask MOST_HOLD) asks in
    hold_allowed setup g bet words c mask legal (one_stage _ _ t.0) t.1
first_asked setup g bet words c _ choosing legal asks = absurd (cc choosing)
