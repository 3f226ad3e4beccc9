-- A pick, a hold, a gamble and a take move the open play of a machine on as they move that of a view.
use Rattle.std.proofs.Common.{◌≡◌, ◌∙◌, ap, sym, subst, refl, ℕ, ◌+◌, ◌*◌, ◌^◌, ◌<◌, ◌≤◌, ◌==◌, ◌&&◌, ◌||◌, nat_le, is_some, if◌then◌else◌, Bool, true, false, List, [], ◌∷◌, take, arith, Option, Some, None, Result, Ok, Err, IfSome}
use Rattle.std.specs.Prelude.{option_map}
use Rattle.gd_base.specs.declared.event.Event.{Event}
use Rattle.gd_base.specs.declared.limits.TheConstants.{MOST_HOLD, MOST_PICK}
use Rattle.gd_base.specs.declared.play.Choices.{Choices}
use Rattle.gd_base.specs.declared.play.PlayRecord.{PlayRecord}
use Rattle.gd_base.specs.declared.play.StageOpen.{StageOpen}
use Rattle.gd_base.specs.declared.refusal.Refusal.{Refusal}
use Rattle.gd_base.specs.declared.refusal.Reply.{Reply}
use Rattle.gd_base.specs.declared.setup.Setup.{Setup}
use Rattle.gd_base.specs.Games.Stage.{stage, are_choices, is_stage}
use Rattle.gd_base.specs.Histories.Credit.{credited_win, wager}
use Rattle.gd_base.specs.Histories.History.{or_else, with_note}
use Rattle.gd_base.specs.Histories.Meters.{with_additions, handpay_of_win, win_additions}
use Rattle.gd_base.specs.Histories.Recall.{handpay_event, play_record}
use Rattle.gd_base.specs.Histories.Rounds.{Round, round_of, round_stage, choices_of, colour_bit, moved_round, is_over, is_take, ended_by, left_open, win_of}
use Rattle.gd_base.specs.Histories.View.{View}
use Rattle.gd_base.specs.Histories.ViewOf.{from_view, IsItself}
use Rattle.gd_base.specs.Judging.Answer.{IsDraw}
use Rattle.gd_base.specs.Judging.Draws.{is_drawn, next_index}
use Rattle.gd_base.specs.Judging.Rule.{rule, refusals, reply_by, choice_refusals, while_locked, unless, is_at}
use Rattle.gd_base.specs.Payloads.ViewRules.{is_open_record, is_open_as, is_played, play_limit}
use Rattle.gd_base.specs.declared.records.TheConstants.{PLAYS_KEPT, EVENTS_KEPT}
use Rattle.gd_base.proofs.BoolTests.{both, is_so}
use Rattle.gd_base.proofs.Effects.Plays.{moved_on, effect_pick, effect_hold, effect_gamble, effect_take}
use Rattle.gd_base.proofs.Effects.Shared.{after}
use Rattle.gd_base.proofs.PreservedLemmas.Moved.{Onto, moved}
use Rattle.gd_base.proofs.PreservedLemmas.PlayRules.{win_most}
use Rattle.gd_account.specs.Judging.{outcome}
use Rattle.gd_play.specs.Histories.{is_move}
use Rattle.gd_play.specs.Judging.{asks_for, is_choosing, refusal, judgement, judgement_reply}
use Rattle.gd_play.specs.Moving.{open_stage_of, play_with_round, play_after, stage_after, stage_left}
use Rattle.gd_machine.specs.Acts.{acted}
use Rattle.gd_machine.specs.Words.{IsWhole}
use Rattle.gd_machine.proofs.Acted.{acted_by}
use Rattle.gd_machine.proofs.PlaysBegun.{outcome_alone}
use Rattle.gd_machine.proofs.Refusals.{refused_by}
use Rattle.gd_machine.proofs.Wholes.{facts_of}
use Rattle.gd_machine.proofs.PlaysSettled.{money_of, settled, settled_view}

-- ================ the round that an event leaves

abbrev moved_choices : Event → Choices → Choices
moved_choices (Event.Pick door) c = record c { choice = Some door }
moved_choices (Event.Hold mask) c = record c { choice = Some mask }
moved_choices (Event.Gamble colour) c = record c { turns = c.turns + 1; colours = c.colours + colour_bit colour * 2 ^ c.turns }
moved_choices _ c = c

abbrev onto : Event → PlayRecord → Round
onto event p = record (round_of p) { choices = moved_choices event (choices_of p) }

moved_is : (place : ℕ) (draw : Option (ℕ × List ℕ)) (event : Event) (p : PlayRecord) → is_move event ≡ true → moved_round place draw (Some (round_of p)) event ≡ Some (onto event p)
moved_is place draw (Event.Pick door) p h = refl
moved_is place draw (Event.Hold mask) p h = refl
moved_is place draw (Event.Gamble colour) p h = refl
moved_is place draw Event.Take p h = refl
moved_is place draw _ p h = absurd (cc h)

-- no event but a play draws
not_drawn : (setup : Setup) (v : View) (event : Event) → is_move event ≡ true → is_drawn setup v event ≡ false
not_drawn setup v (Event.Pick door) h = refl
not_drawn setup v (Event.Hold mask) h = refl
not_drawn setup v (Event.Gamble colour) h = refl
not_drawn setup v Event.Take h = refl
not_drawn setup v _ h = absurd (cc h)

-- the record that the machine keeps is that of the history
kept_record : (setup : Setup) (v : View) (p : PlayRecord) (c : Choices) → is_open_as (is_open_record v) (Some p) ≡ true → is_open_as (is_played setup) (Some p) ≡ true
    → (let r = record (round_of p) { choices = c } in play_with_round setup p r ≡ play_record setup (p.number, p.before) 0 r)
kept_record setup v p c placed played =
    let r = record (round_of p) { choices = c } in
    let win = p.win == (stage setup p.game p.bet p.words (choices_of p)).win in
    let are = are_choices setup p.game p.bet p.words (choices_of p) in
    let t = both ((p.wager == wager setup p.bet) && are) win played in
    let paid = is_so p.wager (wager setup p.bet) (both (p.wager == wager setup p.bet) are t.0).0 in
    let after = is_so p.after 0 (both (nat_le 1 p.place && nat_le p.place v.count) (p.after == 0) placed).1 in
    λ x. record (play_with_round setup p r) { wager = paid x; after = after x }

-- whether the play is over, by the stage that it leaves
ended_by_stage : (setup : Setup) (event : Event) (r : Round) (over : Bool) → is_over setup event r ≡ over → is_stage (if over then StageOpen.Ended else (round_stage setup r).phase) StageOpen.Ended ≡ over
ended_by_stage setup event r true is = refl
ended_by_stage setup event r false is = neither (is_take event) (is_stage (round_stage setup r).phase StageOpen.Ended) is
  where
    neither : (a b : Bool) → a || b ≡ false → b ≡ false
    neither true b h = absurd (cc h)
    neither false b h = h

-- ================ the view after the event

effect : (setup : Setup) (v : View) (is : IsItself setup v) (event : Event) → is_move event ≡ true → after setup v 0 None event Reply.Taken ≡ moved_on setup v is 0 None event
effect setup v is (Event.Pick door) h = effect_pick setup v is 0 None door
effect setup v is (Event.Hold mask) h = effect_hold setup v is 0 None mask
effect setup v is (Event.Gamble colour) h = effect_gamble setup v is 0 None colour
effect setup v is Event.Take h = effect_take setup v is 0 None
effect setup v is _ h = absurd (cc h)

-- by the round that it leaves
abbrev left_view : Setup → View → PlayRecord → Event → Option Round → View
left_view setup v p event m =
    let win = win_of setup (ended_by setup event m) in
    record v {
      balance = v.balance + credited_win setup win;
      totals = with_additions (win_additions win) v.totals;
      play = option_map (play_record setup (p.number, p.before) 0) (left_open setup event (Some (round_of p)) m);
      handpay = or_else (handpay_of_win setup win) v.handpay;
      plays = take PLAYS_KEPT (with_note (option_map (play_record setup (p.number, p.before) (v.balance + credited_win setup win)) (ended_by setup event m)) v.plays);
      events = take EVENTS_KEPT (with_note (handpay_event (from_view setup v) [] (handpay_of_win setup win)) v.events);
    }

module _ (setup : Setup) (event : Event) (move : is_move event ≡ true) where
  play_moved : (p : PlayRecord) → play_after setup event (Some p) ≡ Some (play_with_round setup p (onto event p))
  play_moved p = ap (option_map (play_with_round setup p)) (moved_is p.place None event p move)

  stage_moved : (p : PlayRecord) → stage_after setup event (Some p) ≡ stage_left setup event (Some (onto event p))
  stage_moved p = ap (stage_left setup event) (moved_is p.place None event p move)

  -- where a play is open
  open_view : (v : View) (p : PlayRecord) → (let u : View = record v { play = Some p } in IsWhole setup u
      → settled setup (stage_after setup event (Some p)) (play_after setup event (Some p)) u ≡ acted setup u event None)
  open_view v p whole =
      let u : View = record v { play = Some p } in
      let f = facts_of setup u whole in
      let is = f.itself in
      let r = onto event p in
      let over = is_over setup event r in
      (λ x. settled setup (stage_moved p x) (play_moved p x) u)
      ∙ settled_view setup u is (money_of u) (p.number, p.before) r (stage_left setup event (Some r)) over (play_with_round setup p r) (ended_by_stage setup event r over refl) (kept_record setup u p r.choices f.rules.play_placed f.under.play)
      ∙ sym (ap (left_view setup u p event) (moved_is (u.count + 1) None event p move))
      ∙ acted_by setup u event None (moved_on setup u is 0 None event) (effect setup u is event move)

  -- ================ a win that is posted

  small_win : (v : View) (m : Option Round) → IfSome m (Onto setup (play_limit v v.play) (v.count + 1) event) → IfSome m (λ r. (round_stage setup r).win ≤ 9000000)
  small_win v None o = tt
  small_win v (Some r) o = win_most setup r o.order

  open_small : (v : View) (p : PlayRecord) → (let u : View = record v { play = Some p } in IsWhole setup u → rule setup u event ≡ Reply.Taken
      → IfSome (play_after setup event (Some p)) (λ q. q.win ≤ 9000000))
  open_small v p whole taken =
      let u : View = record v { play = Some p } in
      let r = onto event p in
      let drawn = subst (λ (b : Bool). IsDraw b (next_index u) None) (sym (not_drawn setup u event move)) refl in
      let f = facts_of setup u whole in
      let onto_round = moved setup u None event f.rules f.under taken drawn tt in
      let small = subst (λ (m : Option Round). IfSome m (λ r. (round_stage setup r).win ≤ 9000000)) (moved_is (u.count + 1) None event p move)
      (small_win u (moved_round (u.count + 1) None (Some (round_of p)) event) onto_round) in
      subst (λ (q : Option PlayRecord). IfSome q (λ q. q.win ≤ 9000000)) (sym (play_moved p)) small

-- ================ how it is answered

-- the stage that an event asks for, and whether it names a door or a mask that there is
abbrev phase_for : Event → StageOpen
phase_for (Event.Pick door) = StageOpen.Pick
phase_for (Event.Hold mask) = StageOpen.Hold
phase_for _ = StageOpen.Gamble

abbrev is_good : Event → Bool
is_good (Event.Pick door) = nat_le 1 door && nat_le door MOST_PICK
is_good (Event.Hold mask) = nat_le mask MOST_HOLD
is_good _ = true

refusals_are : (setup : Setup) (v : View) (event : Event) → is_move event ≡ true → choice_refusals setup v (phase_for event) (is_good event) ≡ refusals setup v event
refusals_are setup v (Event.Pick door) h = refl
refusals_are setup v (Event.Hold mask) h = refl
refusals_are setup v (Event.Gamble colour) h = refl
refusals_are setup v Event.Take h = refl
refusals_are setup v _ h = absurd (cc h)

only : (b : Bool) → b && true ≡ b
only true = refl
only false = refl

asked : (s : StageOpen) (event : Event) → is_move event ≡ true → is_stage s (phase_for event) && is_good event ≡ asks_for s event
asked s (Event.Pick door) h = refl
asked s (Event.Hold mask) h = refl
asked s (Event.Gamble colour) h = only (is_stage s StageOpen.Gamble)
asked s Event.Take h = only (is_stage s StageOpen.Gamble)
asked s _ h = absurd (cc h)

judged : (b : Bool) (why : Refusal) → reply_by (unless b why ∷ []) ≡ judgement_reply (unless b why)
judged true why = refl
judged false why = refl

by_play : (setup : Setup) (event : Event) (x : Option PlayRecord) → is_move event ≡ true
    → reply_by (unless (is_some x) Refusal.NoPlay ∷ unless (is_at setup (phase_for event) x && is_good event) Refusal.BadChoice ∷ []) ≡ judgement_reply (refusal x (open_stage_of setup x) event)
by_play setup event None move = refl
by_play setup event (Some p) move =
    judged (is_at setup (phase_for event) (Some p) && is_good event) Refusal.BadChoice
    ∙ ap (λ (b : Bool). judgement_reply (unless b Refusal.BadChoice)) (asked (open_stage_of setup (Some p)) event move)

-- where nothing locks the machine up, the rule's reply is that of the play machine
rule_is : (setup : Setup) (v : View) (event : Event) → is_move event ≡ true → while_locked v ≡ None → judgement_reply (refusal v.play (open_stage_of setup v.play) event) ≡ rule setup v event
rule_is setup v event move free =
    let rest = unless (is_some v.play) Refusal.NoPlay ∷ unless (is_at setup (phase_for event) v.play && is_good event) Refusal.BadChoice ∷ [] in
    sym (by_play setup event v.play move) ∙ ap (λ (x : Option Refusal). reply_by (x ∷ rest)) (sym free) ∙ ap reply_by (refusals_are setup v event move)

pub none_of : (x : Option Refusal) (u : Unit {0}) → Ok u ≡ outcome x → x ≡ None
none_of None u h = refl
none_of (Some w) u h = absurd (cc h)

-- a lock refuses each of them
pub locked_answer : (setup : Setup) (v : View) (event : Event) (why : Refusal) → is_move event ≡ true → Err why ≡ outcome (while_locked v) → Reply.Refused why ≡ rule setup v event
locked_answer setup v event why move h =
    let rest = unless (is_some v.play) Refusal.NoPlay ∷ unless (is_at setup (phase_for event) v.play && is_good event) Refusal.BadChoice ∷ [] in
    refused_by (while_locked v ∷ []) rest why (sym (h ∙ outcome_alone (while_locked v))) ∙ ap reply_by (refusals_are setup v event move)

refused_is : (w : Option Refusal) (phase : StageOpen) (why : Refusal) → Err why ≡ judgement w phase → Reply.Refused why ≡ judgement_reply w
refused_is None phase why h = absurd (cc h)
refused_is (Some x) phase why h = ap judgement_of h
  where
    judgement_of : Result StageOpen Refusal → Reply
    judgement_of (Ok phase) = Reply.Taken
    judgement_of (Err w) = Reply.Refused w

-- the play machine refuses as the rule does, by whatever setup its table has
pub refused_answer : (setup own : Setup) (v : View) (event : Event) (at : StageOpen) (why : Refusal) → is_move event ≡ true → while_locked v ≡ None → at ≡ open_stage_of setup v.play
    → Err why ≡ judgement (refusal v.play at event) (stage_after own event v.play) → Reply.Refused why ≡ rule setup v event
refused_answer setup own v event at why move free is h =
    refused_is (refusal v.play at event) (stage_after own event v.play) why h
    ∙ ap (λ (s : StageOpen). judgement_reply (refusal v.play s event)) is
    ∙ rule_is setup v event move free

-- ================ a play that was moved on, and then settled

-- what is known once the play machine has moved the play on
pub record IsMoved (setup : Setup) (v : View) (event : Event) (at phase : StageOpen) (mid : Option PlayRecord) : Type 0 where
  pub whole : IsWhole setup v
  pub move : is_move event ≡ true
  pub free : while_locked v ≡ None
  pub stage : at ≡ open_stage_of setup v.play
  pub answer : Ok phase ≡ judgement (refusal v.play at event) (stage_after setup event v.play)
  pub play : mid ≡ play_after setup event v.play

allowed : (w : Option Refusal) (phase s : StageOpen) → Ok phase ≡ judgement w s → (w ≡ None) × (phase ≡ s)
allowed None phase s h = (refl, ap ok_of h)
  where
    ok_of : Result StageOpen Refusal → StageOpen
    ok_of (Ok phase) = phase
    ok_of (Err why) = StageOpen.Ended
allowed (Some why) phase s h = absurd (cc h)

module _ (setup : Setup) (v : View) (event : Event) (at phase : StageOpen) (mid : Option PlayRecord) (k : IsMoved setup v event at phase mid) where
  told_so : (refusal v.play at event ≡ None) × (phase ≡ stage_after setup event v.play)
  told_so = allowed (refusal v.play at event) phase (stage_after setup event v.play) k.answer

  moved_taken : rule setup v event ≡ Reply.Taken
  moved_taken = sym (rule_is setup v event k.move k.free) ∙ ap judgement_reply (ap (λ (s : StageOpen). refusal v.play s event) (sym k.stage) ∙ told_so.0)

  -- by whether a play is open
  seen : (x : Option PlayRecord) → refusal x at event ≡ None → (let u : View = record v { play = x } in IsWhole setup u → rule setup u event ≡ Reply.Taken
      → (settled setup (stage_after setup event x) (play_after setup event x) u ≡ acted setup u event None) × IfSome (play_after setup event x) (λ q. q.win ≤ 9000000))
  seen None none whole taken = absurd (cc none)
  seen (Some p) none whole taken =
      (open_view setup event k.move v p whole, open_small setup event k.move v p whole taken)

  small : (m : Option PlayRecord) → IfSome m (λ q. q.win ≤ 9000000) → IfSome m (λ q. q.win < 2 ^ 63)
  small None h = tt
  small (Some q) h = omega (arith, h)

  pub moved_small : IfSome mid (λ q. q.win < 2 ^ 63)
  moved_small = subst (λ (m : Option PlayRecord). IfSome m (λ q. q.win < 2 ^ 63)) (sym k.play) (small (play_after setup event v.play) (seen v.play told_so.0 k.whole moved_taken).1)

  pub moved_settled : settled setup phase mid v ≡ acted setup v event None
  moved_settled = (λ x. settled setup (told_so.1 x) (k.play x) v) ∙ (seen v.play told_so.0 k.whole moved_taken).0

-- ================ by the clauses of the play machine, whose table has the setup

pub choosing_moves : (event : Event) → is_choosing event ≡ true → is_move event ≡ true
choosing_moves (Event.Pick door) h = refl
choosing_moves (Event.Hold mask) h = refl
choosing_moves _ h = absurd (cc h)

pub moved_by : (setup own : Setup) (v : View) (event : Event) (at phase : StageOpen) (mid : Option PlayRecord) → own ≡ setup → IsWhole setup v → is_move event ≡ true → while_locked v ≡ None
    → at ≡ open_stage_of setup v.play → Ok phase ≡ judgement (refusal v.play at event) (stage_after own event v.play) → mid ≡ play_after own event v.play → IsMoved setup v event at phase mid
moved_by setup own v event at phase mid same whole move free stage answer play = record {
  whole = whole;
  move = move;
  free = free;
  stage = stage;
  answer = subst (λ (s : Setup). Ok phase ≡ judgement (refusal v.play at event) (stage_after s event v.play)) same answer;
  play = subst (λ (s : Setup). mid ≡ play_after s event v.play) same play;
}
