-- A play is judged by a machine as by the rule, and begins in it as in a view.
use Rattle.std.proofs.Common.{◌≡◌, ◌∙◌, ap, sym, subst, refl, ℕ, ◌+◌, ◌<◌, ◌≤◌, ◌^◌, nat_le, nat_lt, not, Bool, true, false, List, [], ◌∷◌, ◌++◌, arith, Option, Some, None, Result, Ok, Err, IfSome, is_ok}
use Rattle.std.proofs.lemmas.Bool.Decides.{nat_tests}
use Rattle.std.specs.Prelude.{slice_index, take}
use Rattle.gd_base.specs.declared.event.Event.{Event}
use Rattle.gd_base.specs.declared.game.Game.{Game}
use Rattle.gd_base.specs.declared.play.PlayRecord.{PlayRecord}
use Rattle.gd_base.specs.declared.play.StageOpen.{StageOpen}
use Rattle.gd_base.specs.declared.refusal.Refusal.{Refusal}
use Rattle.gd_base.specs.declared.refusal.Reply.{Reply}
use Rattle.gd_base.specs.declared.setup.Setup.{Setup}
use Rattle.gd_base.specs.Histories.Credit.{wager}
use Rattle.gd_base.specs.Histories.Entry.{is_taken}
use Rattle.gd_base.specs.Histories.Rounds.{round_of, round_stage, new_round, is_over}
use Rattle.gd_base.specs.Histories.View.{View}
use Rattle.gd_base.specs.Judging.Answer.{IsDraw}
use Rattle.gd_base.specs.Judging.Draws.{is_drawn, next_index}
use Rattle.gd_base.specs.Judging.Rule.{rule, refusals, reply_by, refuse_if}
use Rattle.gd_base.proofs.BooksLemmas.LegalBooks.{AreNone, told, not_refused}
use Rattle.gd_base.proofs.Effects.Plays.{effect_play}
use Rattle.gd_base.proofs.PreservedLemmas.Moved.{HasBlock, moved}
use Rattle.gd_base.proofs.PreservedLemmas.PlayRules.{win_most}
use Rattle.gd_account.specs.Judging.{first_refusal, outcome, wager_refusal}
use Rattle.gd_account.specs.Money.{with_wager}
use Rattle.gd_play.specs.Moving.{open_stage_of, play_with_round}
use Rattle.gd_machine.specs.Acts.{acted, replied}
use Rattle.gd_machine.specs.Words.{IsWhole}
use Rattle.gd_machine.proofs.Acted.{acted_by}
use Rattle.gd_machine.proofs.Refusals.{passed_by, refused_by, told_by}
use Rattle.gd_machine.proofs.Wholes.{facts_of}
use Rattle.gd_machine.proofs.PlaysSettled.{money_of, settled, settled_view, with_money}

-- ================ refusals that are tried in two parts

-- the first of them refuses
pub refused_first : (xs ys : List (Option Refusal)) (why : Refusal) → Err why ≡ outcome (first_refusal xs) → Err why ≡ outcome (first_refusal (xs ++ ys))
refused_first [] ys why h = absurd (cc h)
refused_first (None ∷ xs) ys why h = refused_first xs ys why h
refused_first (Some w ∷ xs) ys why h = h

-- one alone
pub outcome_alone : (x : Option Refusal) → outcome x ≡ outcome (first_refusal (x ∷ []))
outcome_alone None = refl
outcome_alone (Some why) = refl

-- ================ a play, whose balance is looked at last

covers : (b : Bool) (why : Refusal) → not b ≡ is_taken (reply_by (refuse_if b why ∷ []))
covers true why = refl
covers false why = refl

is_enough : (balance cost : ℕ) → nat_le cost balance ≡ not (nat_lt balance cost)
is_enough balance cost = grind (arith, nat_tests)

pub taken_where_covered : (xs : List (Option Refusal)) (r : Result (Unit {0}) Refusal) (balance cost : ℕ) → r ≡ outcome (first_refusal xs) → is_ok r ≡ true
    → nat_le cost balance ≡ is_taken (reply_by (xs ++ (wager_refusal balance cost ∷ [])))
taken_where_covered xs (Ok u) balance cost is good =
    is_enough balance cost ∙ covers (nat_lt balance cost) Refusal.NoCredit ∙ ap is_taken (passed_by xs (wager_refusal balance cost ∷ []) (sym is))
taken_where_covered xs (Err why) balance cost is good = absurd (cc good)

pub not_taken : (xs ys : List (Option Refusal)) (r : Result (Unit {0}) Refusal) → r ≡ outcome (first_refusal xs) → is_ok r ≡ false → false ≡ is_taken (reply_by (xs ++ ys))
not_taken xs ys (Ok u) is bad = absurd (cc bad)
not_taken xs ys (Err why) is bad = ap is_taken (refused_by xs ys why (sym is))

-- the refusals but for that by the balance
abbrev pub first_five : Setup → View → Game → ℕ → List (Option Refusal)
first_five setup v game bet = take 5 (refusals setup v (Event.Play game bet))

-- where none of them holds, the wager tells
pub wager_answer : (setup : Setup) (v : View) (game : Game) (bet cost : ℕ) (r : Result (Unit {0}) Refusal) → outcome (first_refusal (first_five setup v game bet)) ≡ Ok tt → cost ≡ wager setup bet
    → r ≡ outcome (wager_refusal v.balance cost) → replied r ≡ rule setup v (Event.Play game bet)
wager_answer setup v game bet cost r passed paid h =
    let last = wager_refusal v.balance (wager setup bet) in
    told_by (first_five setup v game bet) (last ∷ []) r passed (h ∙ ap (λ (n : ℕ). outcome (wager_refusal v.balance n)) paid ∙ outcome_alone last)

-- ================ a play that begins

covered_by : (balance cost : ℕ) → nat_lt balance cost ≡ false → cost ≤ balance
covered_by balance cost h = grind (arith, nat_tests, h)

-- its record, on a draw
abbrev pub new_play : Setup → View → Game → ℕ → ℕ × List ℕ → PlayRecord
new_play setup v game bet drawn = record {
  number = slice_index v.totals 9 + 1;
  index = drawn.0;
  words = drawn.1;
  game = game;
  bet = bet;
  wager = wager setup bet;
  choice = None;
  turns = 0;
  colours = 0;
  win = 0;
  before = v.balance;
  after = 0;
  place = v.count + 1;
}

abbrev pub begun : Setup → PlayRecord → Option PlayRecord
begun setup p = Some (play_with_round setup p (round_of p))

-- a win that may be posted
abbrev pub IsPosted : Option PlayRecord → Type 0
IsPosted play = IfSome play (λ p. p.win < 2 ^ 63)

-- what is known where a play is taken
pub record IsBegun (setup : Setup) (v : View) (game : Game) (bet : ℕ) (draw : Option (ℕ × List ℕ)) (d : ℕ × List ℕ) : Type 0 where
  pub whole : IsWhole setup v
  pub taken : rule setup v (Event.Play game bet) ≡ Reply.Taken
  pub drawn : IsDraw (is_drawn setup v (Event.Play game bet)) (next_index v) draw
  pub block : HasBlock draw
  pub some : draw ≡ Some d

module _ (setup : Setup) (v : View) (game : Game) (bet : ℕ) (draw : Option (ℕ × List ℕ)) (d : ℕ × List ℕ) (k : IsBegun setup v game bet draw d) where
  covered : wager setup bet ≤ v.balance
  covered =
      let t : AreNone (refusals setup v (Event.Play game bet)) = told setup v (Event.Play game bet) k.taken in
      covered_by v.balance (wager setup bet) (not_refused (nat_lt v.balance (wager setup bet)) Refusal.NoCredit t.1.1.1.1.1.0)

  pub begun_view : (let p = new_play setup v game bet d in
      settled setup (open_stage_of setup (Some p)) (begun setup p) (with_money v (with_wager (wager setup bet) (money_of v))) ≡ acted setup v (Event.Play game bet) draw)
  begun_view =
      let event = Event.Play game bet in
      let p = new_play setup v game bet d in
      let r = round_of p in
      let is = (facts_of setup v k.whole).itself in
      settled_view setup v is (with_wager (wager setup bet) (money_of v)) (p.number, p.before) r (open_stage_of setup (Some p)) (is_over setup event r) (play_with_round setup p r) refl refl
      ∙ acted_by setup v event (Some d) _ (effect_play setup v is 0 (Some d) game bet covered)
      ∙ ap (λ (x : Option (ℕ × List ℕ)). acted setup v event x) (sym k.some)

  pub begun_small : (play_with_round setup (new_play setup v game bet d) (round_of (new_play setup v game bet d))).win < 2 ^ 63
  begun_small =
      let event = Event.Play game bet in
      let f = facts_of setup v k.whole in
      let onto = moved setup v draw event f.rules f.under k.taken k.drawn k.block in
      let small = win_most setup (new_round (v.count + 1) draw game bet) onto.order in
      let le : (round_stage setup (new_round (v.count + 1) (Some d) game bet)).win ≤ 9000000 =
      subst (λ (x : Option (ℕ × List ℕ)). (round_stage setup (new_round (v.count + 1) x game bet)).win ≤ 9000000) k.some small in
      omega (arith, le)

-- what the code begins, by the numbers that it has read, in a play machine whose table has the setup
pub begun_by : (setup own : Setup) (v : View) (game : Game) (bet : ℕ) (d : ℕ × List ℕ) (number cost before place : ℕ) (mid : Option PlayRecord) (at : StageOpen)
    → (let p = new_play setup v game bet d in let q : PlayRecord = record p { number = number + 1; wager = cost; before = before; place = place } in
    own ≡ setup → number ≡ slice_index v.totals 9 → cost ≡ wager setup bet → before ≡ v.balance → place ≡ v.count + 1
    → mid ≡ begun own q → at ≡ open_stage_of own (Some q) → (mid ≡ begun setup p) × (at ≡ open_stage_of setup (Some p)))
begun_by setup own v game bet d number cost before place mid at same numbered paid was next play phase =
    let p = new_play setup v game bet d in
    let is : (record p { number = number + 1; wager = cost; before = before; place = place }) ≡ p =
    λ x. record p { number = numbered x + 1; wager = paid x; before = was x; place = next x } in
    (play ∙ λ x. begun (same x) (is x), phase ∙ λ x. open_stage_of (same x) (Some (is x)))
