-- The stage of a recorded play, where its choices are such as its stages allow.
use Rattle.std.proofs.Common.{◌≡◌, ◌∙◌, ap, sym, ℕ, zero, suc, ◌^◌, ◌==◌, Bool, true, false, ◌&&◌, nat_lt, List, if◌then◌else◌, refl, arith, Option, Some, None}
use Rattle.std.proofs.lemmas.Bool.Decides.{nat_tests}
use Rattle.gd_base.specs.declared.game.Game.{Game}
use Rattle.gd_base.specs.declared.play.Choices.{Choices}
use Rattle.gd_base.specs.declared.play.PlayRecord.{PlayRecord}
use Rattle.gd_base.specs.declared.play.Stage.{Stage}
use Rattle.gd_base.specs.declared.play.StageOpen.{StageOpen}
use Rattle.gd_base.specs.declared.setup.Setup.{Setup}
use Rattle.gd_base.specs.Games.Stage.{are_choices, base_win, could_turn, first_stage, is_choice, is_stage, stage_with}
use Rattle.gd_base.specs.Histories.Credit.{wager}
use Rattle.gd_base.specs.Histories.Rounds.{choices_of}
use Rattle.gd_games.specs.Plays.{phase_if_played, play_stage, stage_if_chosen, stage_if_turned, stage_unturned}
use Rattle.gd_games.specs.Turns.{could_turn_from}
use Rattle.gd_games.proofs.Turning.{same_turns, stage_known}

first_false : (a b c : Bool) → a ≡ false → (a && b && c) ≡ false
first_false true b c h = absurd (cc h)
first_false false b c h = refl

last_alone : (a b c : Bool) → a ≡ true → b ≡ true → (a && b && c) ≡ c
last_alone true true c h i = refl
last_alone true false c h i = absurd (cc i)
last_alone false b c h i = absurd (cc h)

pub not_chosen : (setup : Setup) (p : PlayRecord) → is_choice setup p.game p.words p.choice ≡ false → stage_if_chosen setup p ≡ None
not_chosen setup p h =
    ap (λ (b : Bool). if b then Some (play_stage setup p) else None)
    (first_false (is_choice setup p.game p.words p.choice) (nat_lt p.colours (2 ^ p.turns)) (could_turn setup p.game p.bet p.words (choices_of p) p.turns) h)

-- the choices are in order where the turns are
chosen_is : (setup : Setup) (p : PlayRecord) → is_choice setup p.game p.words p.choice ≡ true → nat_lt p.colours (2 ^ p.turns) ≡ true
    → are_choices setup p.game p.bet p.words (choices_of p) ≡ could_turn setup p.game p.bet p.words (choices_of p) p.turns
chosen_is setup p good small =
    last_alone (is_choice setup p.game p.words p.choice) (nat_lt p.colours (2 ^ p.turns)) (could_turn setup p.game p.bet p.words (choices_of p) p.turns) good small

pub turned_is : (setup : Setup) (p : PlayRecord) (base : ℕ) → is_choice setup p.game p.words p.choice ≡ true → nat_lt p.colours (2 ^ p.turns) ≡ true
    → base_win setup p.game p.bet p.words p.choice ≡ Some base → stage_if_turned setup p base ≡ stage_if_chosen setup p
turned_is setup p base good small is =
    let tests = sym (chosen_is setup p good small ∙ same_turns setup p.game p.bet p.words (choices_of p) base p.turns is) in
    let shown = sym (stage_known setup p.game p.bet p.words (choices_of p) base is) in
    ap (λ (s : Stage). if could_turn_from setup p.words p.colours base p.turns then Some s else None) shown
    ∙ ap (λ (b : Bool). if b then Some (play_stage setup p) else None) tests

never_gamble : (g : Game) → is_stage (first_stage g) StageOpen.Gamble ≡ false
never_gamble Game.Reels = refl
never_gamble Game.Poker = refl

last_false : (a b : Bool) → b ≡ false → (a && b) ≡ false
last_false true b h = h
last_false false b h = refl

some_turns : (n : ℕ) → (suc n == 0) ≡ false
some_turns n = grind (arith, nat_tests)

none_turns : (setup : Setup) (g : Game) (bet : ℕ) (words : List ℕ) (c : Choices) (n : ℕ) → base_win setup g bet words c.choice ≡ None
    → could_turn setup g bet words c n ≡ (n == 0)
none_turns setup g bet words c zero unknown = refl
none_turns setup g bet words c (suc n) unknown =
    let before : Choices = record c { turns = n } in
    let shut = ap (λ (m : Option ℕ). is_stage (stage_with setup g words before m).phase StageOpen.Gamble) unknown ∙ never_gamble g in
    last_false (could_turn setup g bet words c n) _ shut ∙ sym (some_turns n)

pub unturned_is : (setup : Setup) (p : PlayRecord) → is_choice setup p.game p.words p.choice ≡ true → nat_lt p.colours (2 ^ p.turns) ≡ true
    → base_win setup p.game p.bet p.words p.choice ≡ None → stage_unturned p ≡ stage_if_chosen setup p
unturned_is setup p good small unknown =
    let tests = sym (chosen_is setup p good small ∙ none_turns setup p.game p.bet p.words (choices_of p) p.turns unknown) in
    let shown : record { phase = first_stage p.game; win = 0 } ≡ play_stage setup p = sym (ap (stage_with setup p.game p.words (choices_of p)) unknown) in
    ap (λ (s : Stage). if p.turns == 0 then Some s else None) shown
    ∙ ap (λ (b : Bool). if b then Some (play_stage setup p) else None) tests

-- ================ the play

-- the wager of another bet
pub wagered_else : (setup : Setup) (p : PlayRecord) → (p.wager == wager setup p.bet) ≡ false → phase_if_played setup p ≡ None
wagered_else setup p h =
    ap (λ (b : Bool). if b then Some (play_stage setup p).phase else None)
    (first_false (p.wager == wager setup p.bet) (are_choices setup p.game p.bet p.words (choices_of p)) (p.win == (play_stage setup p).win) h)

tested : (a b c : Bool) → a ≡ true → (a && b && c) ≡ (b && c)
tested true b c h = refl
tested false b c h = absurd (cc h)

pub wagered_is : (setup : Setup) (p : PlayRecord) → (p.wager == wager setup p.bet) ≡ true
    → phase_if_played setup p ≡ (if are_choices setup p.game p.bet p.words (choices_of p) && (p.win == (play_stage setup p).win) then Some (play_stage setup p).phase else None)
wagered_is setup p h =
    ap (λ (b : Bool). if b then Some (play_stage setup p).phase else None)
    (tested (p.wager == wager setup p.bet) (are_choices setup p.game p.bet p.words (choices_of p)) (p.win == (play_stage setup p).win) h)

some_if : {A : Type 0} (b : Bool) (x y : A) → (if b then Some x else None) ≡ Some y → (b ≡ true) × (x ≡ y)
some_if true x y h = (refl, cc h)
some_if false x y h = absurd (cc h)

none_if : {A : Type 0} (b : Bool) (x : A) → (if b then Some x else None) ≡ None → b ≡ false
none_if true x h = absurd (cc h)
none_if false x h = refl

-- the choices are in order, and the stage is this one
pub won_is : (setup : Setup) (p : PlayRecord) (s : Stage) → (p.wager == wager setup p.bet) ≡ true → stage_if_chosen setup p ≡ Some s
    → (if p.win == s.win then Some s.phase else None) ≡ phase_if_played setup p
won_is setup p s good chosen =
    let t = some_if (are_choices setup p.game p.bet p.words (choices_of p)) (play_stage setup p) s chosen in
    ap (λ (x : Stage). if p.win == x.win then Some x.phase else None) (sym t.1)
    ∙ ap (λ (b : Bool). if b && (p.win == (play_stage setup p).win) then Some (play_stage setup p).phase else None) (sym t.0)
    ∙ sym (wagered_is setup p good)

pub never_played : (setup : Setup) (p : PlayRecord) → (p.wager == wager setup p.bet) ≡ true → stage_if_chosen setup p ≡ None → None ≡ phase_if_played setup p
never_played setup p good never =
    let shut = none_if (are_choices setup p.game p.bet p.words (choices_of p)) (play_stage setup p) never in
    ap (λ (b : Bool). if b && (p.win == (play_stage setup p).win) then Some (play_stage setup p).phase else None) (sym shut)
    ∙ sym (wagered_is setup p good)
