-- For callers: a pick or a hold is the first choice of its play.
use Rattle.std.proofs.Common.{◌≡◌, ◌&&◌, ◌^◌, ℕ, zero, suc, true, nat_lt, nat_le, List, Option, Some, None, refl, ap, ◌∙◌, sym}
use Rattle.gd_base.proofs.BoolTests.{both}
use Rattle.gd_base.specs.declared.game.Game.{Game}
use Rattle.gd_base.specs.declared.play.Choices.{Choices}
use Rattle.gd_base.specs.declared.play.StageOpen.{StageOpen}
use Rattle.gd_base.specs.declared.limits.TheConstants.{MOST_HOLD, MOST_PICK}
use Rattle.gd_base.specs.declared.setup.Setup.{Setup}
use Rattle.gd_base.specs.Games.Stage.{stage, stage_with, base_win, has_pick, first_stage, is_stage, is_choice, could_turn, are_choices}
use Rattle.gd_base.specs.Judging.Product.{both_hold}
use Rattle.gd_base.proofs.StageLemmas.Stages.{pick_open, hold_open, pick_waits}

never_first : (g : Game) → is_stage (first_stage g) StageOpen.Gamble ≡ true → ⊥
never_first Game.Reels h = cc h
never_first Game.Poker h = cc h

-- before the base win is known there was no turn
no_turns : (setup : Setup) (g : Game) (bet : ℕ) (words : List ℕ) (c : Choices) (n : ℕ) → base_win setup g bet words c.choice ≡ None
    → could_turn setup g bet words c n ≡ true → n ≡ 0
no_turns setup g bet words c zero unknown h = refl
no_turns setup g bet words c (suc n) unknown h =
    let before = record c { turns = n } in
    let t = both (could_turn setup g bet words c n) (is_stage (stage setup g bet words before).phase StageOpen.Gamble) h in
    let first = ap (λ (m : Option ℕ). is_stage (stage_with setup g words before m).phase StageOpen.Gamble) unknown in
    absurd (never_first g (sym first ∙ t.1))

first_choice : (setup : Setup) (g : Game) (bet : ℕ) (words : List ℕ) (c : Choices) (x : ℕ) → are_choices setup g bet words c ≡ true
    → base_win setup g bet words c.choice ≡ None → is_choice setup g words (Some x) ≡ true
    → are_choices setup g bet words (record c { choice = Some x }) ≡ true
first_choice setup g bet words c x legal unknown good =
    let outer = both (is_choice setup g words c.choice && nat_lt c.colours (2 ^ c.turns)) (could_turn setup g bet words c c.turns) legal in
    let inner = both (is_choice setup g words c.choice) (nat_lt c.colours (2 ^ c.turns)) outer.0 in
    let after = record c { choice = Some x } in
    let none = no_turns setup g bet words c c.turns unknown outer.1 in
    both_hold (is_choice setup g words (Some x) && nat_lt c.colours (2 ^ c.turns)) (could_turn setup g bet words after c.turns)
    (both_hold (is_choice setup g words (Some x)) (nat_lt c.colours (2 ^ c.turns)) good inner.1) (ap (could_turn setup g bet words after) none)

pub pick_allowed : (setup : Setup) (g : Game) (bet : ℕ) (words : List ℕ) (c : Choices) (door : ℕ) → are_choices setup g bet words c ≡ true
    → (stage setup g bet words c).phase ≡ StageOpen.Pick → nat_le 1 door && nat_le door MOST_PICK ≡ true
    → are_choices setup g bet words (record c { choice = Some door }) ≡ true
pick_allowed setup Game.Reels bet words c door legal shown good =
    let unknown = (pick_open setup Game.Reels words c (base_win setup Game.Reels bet words c.choice) shown).1 in
    let doors = both (nat_le 1 door) (nat_le door MOST_PICK) good in
    first_choice setup Game.Reels bet words c door legal unknown
    (both_hold (has_pick setup words && nat_le 1 door) (nat_le door MOST_PICK)
    (both_hold (has_pick setup words) (nat_le 1 door) (pick_waits setup bet words c.choice unknown) doors.0) doors.1)
pick_allowed setup Game.Poker bet words c door legal shown good =
    absurd (cc ((pick_open setup Game.Poker words c (base_win setup Game.Poker bet words c.choice) shown).0))

pub hold_allowed : (setup : Setup) (g : Game) (bet : ℕ) (words : List ℕ) (c : Choices) (mask : ℕ) → are_choices setup g bet words c ≡ true
    → (stage setup g bet words c).phase ≡ StageOpen.Hold → nat_le mask MOST_HOLD ≡ true
    → are_choices setup g bet words (record c { choice = Some mask }) ≡ true
hold_allowed setup Game.Poker bet words c mask legal shown good =
    let unknown = (hold_open setup Game.Poker words c (base_win setup Game.Poker bet words c.choice) shown).1 in
    first_choice setup Game.Poker bet words c mask legal unknown good
hold_allowed setup Game.Reels bet words c mask legal shown good =
    absurd (cc ((hold_open setup Game.Reels words c (base_win setup Game.Reels bet words c.choice) shown).0))
