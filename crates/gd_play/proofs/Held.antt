-- What the rules of a machine's play tell.
use Rattle.std.specs.Prelude.{◌≡◌, ◌==◌, ◌&&◌, ◌<◌, ◌^◌, ℕ, nat_lt, Bool, true, false, not, if◌then◌else◌, Option, Some, None, refl}
use Rattle.std.proofs.Common.{ap, ◌∙◌, sym}
use Rattle.std.proofs.lemmas.Bool.{eqb-true}
use Rattle.gd_base.proofs.BoolTests.{both, all_told}
use Rattle.gd_base.specs.declared.event.Event.{Event}
use Rattle.gd_base.specs.declared.play.PlayRecord.{PlayRecord}
use Rattle.gd_base.specs.declared.play.StageOpen.{StageOpen}
use Rattle.gd_base.specs.declared.setup.Setup.{Setup}
use Rattle.gd_base.specs.Histories.Credit.{wager}
use Rattle.gd_base.specs.Histories.Rounds.{choices_of}
use Rattle.gd_base.specs.Payloads.ViewRules.{is_open_as, record_rules, is_play_record, is_played, is_in}
use Rattle.gd_base.specs.Games.Stage.{stage, is_bet, is_stage, is_choice, could_turn, are_choices}
use Rattle.gd_play.proofs.Fresh.{first_asked}
use Rattle.gd_base.proofs.StageLemmas.Stages.{one_stage, stage_itself, or_left, only_left}
use Rattle.gd_base.specs.Judging.Product.{both_hold}
use Rattle.gd_base.proofs.StageLemmas.Turns.{room_for_turn}
use Rattle.gd_play.specs.Judging.{is_choosing, choice_in, asks_for}
use Rattle.gd_play.specs.Moving.{open_stage_of}
use Rattle.gd_play.specs.Rules.{is_open_play, is_in_order, is_left, are_kept}

abbrev pub own_stage : Setup → PlayRecord → StageOpen
own_stage setup p = (stage setup p.game p.bet p.words (choices_of p)).phase

pub record Facts (setup : Setup) (p : PlayRecord) (phase : StageOpen) : Type 0 where
  pub bet : is_bet p.game p.bet ≡ true
  pub choices : are_choices setup p.game p.bet p.words (choices_of p) ≡ true
  pub win : p.win ≡ (stage setup p.game p.bet p.words (choices_of p)).win
  pub left : is_left setup p phase ≡ true

-- the rules of the play that a machine holds
pub held : (setup : Setup) (play : Option PlayRecord) (p : PlayRecord) (phase : StageOpen) → play ≡ Some p
    → are_kept setup play phase ≡ true → Facts setup p phase
held setup play p phase is kept =
    let own : is_in_order setup p && is_left setup p phase ≡ true = sym (ap (λ (m : Option PlayRecord). are_kept setup m phase) is) ∙ kept in
    let choices = are_choices setup p.game p.bet p.words (choices_of p) in
    let win = p.win == (stage setup p.game p.bet p.words (choices_of p)).win in
    let t = both (is_in_order setup p) (is_left setup p phase) own in
    let u = both (is_bet p.game p.bet && choices) win t.0 in
    let v = both (is_bet p.game p.bet) choices u.0 in
    record { bet = v.0; choices = v.1; win = eqb-true p.win (stage setup p.game p.bet p.words (choices_of p)).win u.1; left = t.1 }

-- the machine's stage is that of the play's words and choices, as long as it isn't Ended
pub stage_held : (setup : Setup) (p : PlayRecord) (phase : StageOpen) → is_left setup p phase ≡ true → is_stage phase StageOpen.Ended ≡ false
    → own_stage setup p ≡ phase
stage_held setup p StageOpen.Pick left going = one_stage _ _ (only_left (is_in setup p StageOpen.Pick) (is_in setup p StageOpen.Gamble) left)
stage_held setup p StageOpen.Hold left going = one_stage _ _ (only_left (is_in setup p StageOpen.Hold) (is_in setup p StageOpen.Gamble) left)
stage_held setup p StageOpen.Gamble left going = one_stage _ _ (only_left (is_in setup p StageOpen.Gamble) (is_in setup p StageOpen.Gamble) left)
stage_held setup p StageOpen.Ended left going = absurd (cc going)

-- an ended play asks for nothing more
still_going : (phase : StageOpen) (event : Event) → is_choosing event ≡ true → asks_for phase event ≡ true → is_stage phase StageOpen.Ended ≡ false
still_going StageOpen.Ended (Event.Pick door) choosing asks = absurd (cc asks)
still_going StageOpen.Ended (Event.Hold mask) choosing asks = absurd (cc asks)
still_going StageOpen.Ended _ choosing asks = absurd (cc choosing)
still_going _ event choosing asks = refl

pub some_if : (b : Bool) (x y : ℕ) → Some x ≡ (if b then Some y else None) → (b ≡ true) × (x ≡ y)
some_if true x y h = (refl, cc)
some_if false x y h = absurd (cc h)

-- the choices of a play with the choice that the machine's stage asks for
pub choice_kept : (setup : Setup) (play : Option PlayRecord) (p : PlayRecord) (phase : StageOpen) (event : Event) (x : ℕ)
    → play ≡ Some p → are_kept setup play phase ≡ true → is_choosing event ≡ true
    → Some x ≡ (if asks_for phase event then Some (choice_in event) else None)
    → are_choices setup p.game p.bet p.words (record { choice = Some x; turns = p.turns; colours = p.colours }) ≡ true
choice_kept setup play p phase event x is kept choosing answer =
    let f = held setup play p phase is kept in
    let told = some_if (asks_for phase event) x (choice_in event) answer in
    let same = stage_held setup p phase f.left (still_going phase event choosing told.0) in
    let asks = ap (λ (s : StageOpen). asks_for s event) same ∙ told.0 in
    ap (λ (n : ℕ). are_choices setup p.game p.bet p.words (record { choice = Some n; turns = p.turns; colours = p.colours })) told.1
    ∙ first_asked setup p.game p.bet p.words (choices_of p) event choosing f.choices asks

pub record GambleFacts (setup : Setup) (p : PlayRecord) : Type 0 where
  pub turns : p.turns < 5
  pub choices : are_choices setup p.game p.bet p.words (choices_of p) ≡ true
  pub stage : own_stage setup p ≡ StageOpen.Gamble

pub gamble_held : (setup : Setup) (play : Option PlayRecord) (p : PlayRecord) (phase : StageOpen) → play ≡ Some p
    → phase ≡ StageOpen.Gamble → are_kept setup play phase ≡ true → GambleFacts setup p
gamble_held setup play p phase is gamble kept =
    let f = held setup play p phase is kept in
    let same = stage_held setup p phase f.left (ap (λ (s : StageOpen). is_stage s StageOpen.Ended) gamble) ∙ gamble in
    let could = both (is_choice setup p.game p.words p.choice && nat_lt p.colours (2 ^ p.turns)) (could_turn setup p.game p.bet p.words (choices_of p) p.turns) f.choices in
    record { turns = room_for_turn setup p.game p.bet p.words (choices_of p) could.1 same; choices = f.choices; stage = same }

-- the choices of a play that keeps the rules of an open play
pub open_choices : (setup : Setup) (play : Option PlayRecord) (p : PlayRecord) → play ≡ Some p → is_open_as (is_open_play setup) play ≡ true
    → are_choices setup p.game p.bet p.words (choices_of p) ≡ true
open_choices setup play p is rules =
    let own : is_open_play setup p ≡ true = sym (ap (is_open_as (is_open_play setup)) is) ∙ rules in
    let going = not (is_in setup p StageOpen.Ended) in
    let t = both (is_play_record p && is_played setup p && going) (p.after == 0) own in
    let u = both (is_play_record p && is_played setup p) going t.0 in
    let v = both (is_play_record p) (is_played setup p) u.0 in
    let choices = are_choices setup p.game p.bet p.words (choices_of p) in
    let w = both ((p.wager == wager setup p.bet) && choices) (p.win == (stage setup p.game p.bet p.words (choices_of p)).win) v.1 in
    (both (p.wager == wager setup p.bet) choices w.0).1

-- the first rule of a record is its bet
record_bet : (p : PlayRecord) → is_play_record p ≡ true → is_bet p.game p.bet ≡ true
record_bet p rules = (all_told (record_rules p) rules).0

-- the rules of an open play, taken apart
pub kept_parts : (setup : Setup) (play : Option PlayRecord) → is_open_as (is_open_play setup) play ≡ true → are_kept setup play (open_stage_of setup play) ≡ true
kept_parts setup None rules = refl
kept_parts setup (Some p) rules =
    let choices = are_choices setup p.game p.bet p.words (choices_of p) in
    let win = p.win == (stage setup p.game p.bet p.words (choices_of p)).win in
    let going = not (is_in setup p StageOpen.Ended) in
    let t = both (is_play_record p && is_played setup p && going) (p.after == 0) rules in
    let u = both (is_play_record p && is_played setup p) going t.0 in
    let v = both (is_play_record p) (is_played setup p) u.0 in
    let w = both ((p.wager == wager setup p.bet) && choices) win v.1 in
    let own = own_stage setup p in
    let bet = record_bet p v.0 in
    both_hold (is_in_order setup p) (is_left setup p own)
    (both_hold (is_bet p.game p.bet && choices) win
    (both_hold (is_bet p.game p.bet) choices bet (both (p.wager == wager setup p.bet) choices w.0).1)
    w.1)
    (or_left (is_in setup p own) (is_stage own StageOpen.Ended && is_in setup p StageOpen.Gamble) (stage_itself own))
