-- Rules of a view that one entry more keeps, further: the record of a round in order keeps the rules of a record.
use Rattle.std.specs.Prelude.{◌≡◌, ℕ, ◌<◌, ◌≤◌, ◌^◌, ◌==◌, ◌&&◌, nat_le, nat_lt, true, List, length, Option, Some, None, refl}
use Rattle.std.specs.List.{list_all}
use Rattle.std.proofs.Common.{arith}
use Rattle.gd_base.specs.declared.game.Game.{Game}
use Rattle.gd_base.specs.declared.limits.TheConstants.{MOST_PICK, MOST_POKER_BET, MOST_REELS_BET, MOST_TURNS}
use Rattle.gd_base.specs.declared.play.PlayRecord.{PlayRecord}
use Rattle.gd_base.specs.declared.setup.Setup.{Setup}
use Rattle.gd_base.specs.Games.Stage.{stage, has_pick, is_bet, is_choice, could_turn, are_choices}
use Rattle.gd_base.specs.Histories.Credit.{wager}
use Rattle.gd_base.specs.Histories.Recall.{play_record}
use Rattle.gd_base.specs.Histories.Rounds.{Round, round_of, round_stage, choices_of}
use Rattle.gd_base.specs.Judging.Product.{both_hold, number_itself}
use Rattle.gd_base.specs.Payloads.ViewRules.{is_choice_value, record_rules, is_play_record, is_played}
use Rattle.gd_base.proofs.BoolTests.{all_hold, all_told, at_most, both, is_below, is_within}
use Rattle.gd_base.proofs.HistoryLemmas.Wins.{wager_small}
use Rattle.gd_base.proofs.StageLemmas.MostWin.{most_win}
use Rattle.gd_base.proofs.StageLemmas.Turns.{most_turns}

-- a legal bet, choices in order, and a block of sixteen words
pub record InOrder (setup : Setup) (r : Round) : Type 0 where
  pub bet : is_bet r.game r.bet ≡ true
  pub choices : are_choices setup r.game r.bet r.words r.choices ≡ true
  pub index : nat_lt r.index (2 ^ 64) ≡ true
  pub sixteen : (length r.words == 16) ≡ true
  pub words : list_all (λ w. nat_lt w (2 ^ 64)) r.words ≡ true

choice_value : (setup : Setup) (g : Game) (words : List ℕ) (choice : Option ℕ) → is_choice setup g words choice ≡ true → is_choice_value g choice ≡ true
choice_value setup g words None h = refl
choice_value setup Game.Reels words (Some door) h =
    let t = both (has_pick setup words && nat_le 1 door) (nat_le door MOST_PICK) h in
    both_hold (nat_le 1 door) (nat_le door MOST_PICK) (both (has_pick setup words) (nat_le 1 door) t.0).1 t.1
choice_value setup Game.Poker words (Some mask) h = h

bet_most : (g : Game) (bet : ℕ) → is_bet g bet ≡ true → bet ≤ 9
bet_most Game.Reels bet h = at_most bet MOST_REELS_BET (both (nat_le 1 bet) (nat_le bet MOST_REELS_BET) h).1
bet_most Game.Poker bet h = let most = at_most bet MOST_POKER_BET (both (nat_le 1 bet) (nat_le bet MOST_POKER_BET) h).1 in omega (arith, most)

could : (setup : Setup) (r : Round) → InOrder setup r → could_turn setup r.game r.bet r.words r.choices r.choices.turns ≡ true
could setup r k = (both (is_choice setup r.game r.words r.choices.choice && nat_lt r.choices.colours (2 ^ r.choices.turns)) (could_turn setup r.game r.bet r.words r.choices r.choices.turns) k.choices).1

pub win_most : (setup : Setup) (r : Round) → InOrder setup r → (round_stage setup r).win ≤ 9000000
win_most setup r k = most_win setup r.game r.bet r.words r.choices (bet_most r.game r.bet k.bet) (could setup r k)

-- the numbers of a start and of the balance after fit their widths
pub recorded : (setup : Setup) (start : ℕ × ℕ) (after : ℕ) (r : Round) → InOrder setup r → start.0 < 2 ^ 64 → start.1 < 2 ^ 64 → after < 2 ^ 64
    → is_play_record (play_record setup start after r) ≡ true
recorded setup start after r k number before later =
    let p = play_record setup start after r in
    let turns = r.choices.turns in
    let legal = both (is_choice setup r.game r.words r.choices.choice && nat_lt r.choices.colours (2 ^ turns)) (could_turn setup r.game r.bet r.words r.choices turns) k.choices in
    let chosen = both (is_choice setup r.game r.words r.choices.choice) (nat_lt r.choices.colours (2 ^ turns)) legal.0 in
    let few = most_turns setup r.game r.bet r.words r.choices turns legal.1 in
    let win : p.win < 2 ^ 64 = let most = win_most setup r k in omega (arith, most) in
    let paid : p.wager < 2 ^ 32 = let most : wager setup r.bet ≤ 900 = wager_small setup r.bet (bet_most r.game r.bet k.bet) in omega (arith, most) in
    all_hold (record_rules p) (
      k.bet,
      (
        choice_value setup r.game r.words r.choices.choice chosen.0,
        (
          is_within turns MOST_TURNS few,
          (
            chosen.1,
            (
              is_below start.0 (2 ^ 64) number,
              (
                k.index,
                (
                  k.sixteen,
                  (
                    k.words,
                    (
                      is_below p.wager (2 ^ 32) paid,
                      (
                        is_below p.win (2 ^ 64) win,
                        (is_below start.1 (2 ^ 64) before, (is_below after (2 ^ 64) later, tt)),
                      ),
                    ),
                  ),
                ),
              ),
            ),
          ),
        ),
      ),
    )

-- its wager, choices and win are those of the round
pub played : (setup : Setup) (start : ℕ × ℕ) (after : ℕ) (r : Round) → InOrder setup r → is_played setup (play_record setup start after r) ≡ true
played setup start after r k =
    let p = play_record setup start after r in
    both_hold ((p.wager == wager setup p.bet) && are_choices setup p.game p.bet p.words (choices_of p)) (p.win == (round_stage setup r).win)
    (both_hold (p.wager == wager setup p.bet) (are_choices setup p.game p.bet p.words (choices_of p)) (number_itself p.wager) k.choices) (number_itself p.win)

-- the round of a record that keeps these rules is in order
pub in_order : (setup : Setup) (p : PlayRecord) → is_play_record p ≡ true → is_played setup p ≡ true → InOrder setup (round_of p)
in_order setup p h k =
    let t = all_told (record_rules p) h in
    let choices = are_choices setup p.game p.bet p.words (choices_of p) in
    let u = both ((p.wager == wager setup p.bet) && choices) (p.win == (stage setup p.game p.bet p.words (choices_of p)).win) k in
    record { bet = t.0; choices = (both (p.wager == wager setup p.bet) choices u.0).1; index = t.1.1.1.1.1.0; sixteen = t.1.1.1.1.1.1.0; words = t.1.1.1.1.1.1.1.0 }

-- its number and the balance before it fit their widths
pub start_short : (p : PlayRecord) → is_play_record p ≡ true → (nat_lt p.number (2 ^ 64) ≡ true) × (nat_lt p.before (2 ^ 64) ≡ true)
start_short p h = let t = all_told (record_rules p) h in (t.1.1.1.1.0, t.1.1.1.1.1.1.1.1.1.1.0)
