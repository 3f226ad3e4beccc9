-- The parts of a machine whose play was begun or moved on and settled are those of the view after the entry.
use Rattle.std.proofs.Common.{◌≡◌, ◌∙◌, ap, sym, refl, ℕ, ◌+◌, nat_lt, if◌then◌else◌, Bool, true, false, [], ◌∷◌, take, arith, Option, Some, None}
use Rattle.std.specs.Prelude.{option_map}
use Rattle.std.proofs.lemmas.Bool.Decides.{nat_tests}
use Rattle.gd_base.specs.declared.payout.Handpay.{Handpay}
use Rattle.gd_base.specs.declared.play.PlayRecord.{PlayRecord}
use Rattle.gd_base.specs.declared.play.StageOpen.{StageOpen}
use Rattle.gd_base.specs.declared.records.TheConstants.{PLAYS_KEPT, EVENTS_KEPT}
use Rattle.gd_base.specs.declared.setup.Setup.{Setup}
use Rattle.gd_base.specs.Games.Stage.{is_stage}
use Rattle.gd_base.specs.Histories.Credit.{credited_win}
use Rattle.gd_base.specs.Histories.History.{or_else, with_note}
use Rattle.gd_base.specs.Histories.Meters.{with_additions, handpay_of_win, win_additions}
use Rattle.gd_base.specs.Histories.Recall.{event_record, handpay_event, play_record}
use Rattle.gd_base.specs.Histories.Rounds.{Round, round_stage, win_of}
use Rattle.gd_base.specs.Histories.View.{View}
use Rattle.gd_base.specs.Histories.ViewOf.{from_view, IsItself}
use Rattle.gd_base.specs.Payloads.Lists.{Lists, lists_of}
use Rattle.gd_base.proofs.Effects.Shared.{none_more}
use Rattle.gd_account.specs.Money.{Money}
use Rattle.gd_payout.specs.Payouts.{Payouts, with_held_win}
use Rattle.gd_play.specs.Moving.{play_with_after}
use Rattle.gd_machine.specs.Settling.{account_after, ended_at, left_at, lists_after, payout_after}

abbrev pub money_of : View → Money
money_of v = record { balance = v.balance; totals = v.totals }

abbrev pub payouts_of : View → Payouts
payouts_of v = record { orders = v.orders; order = v.order; handpay = v.handpay }

-- a view with other money
abbrev pub with_money : View → Money → View
with_money v a = record v { balance = a.balance; totals = a.totals }

-- a view with parts in place of its own
abbrev pub with_parts : View → Money → Payouts → Lists → Option PlayRecord → View
with_parts v a q l play = record v {
  balance = a.balance;
  totals = a.totals;
  play = play;
  orders = q.orders;
  order = q.order;
  handpay = q.handpay;
  plays = l.plays;
  events = l.events;
  bills = l.bills;
  vouchers = l.vouchers;
}

-- what settling makes of a view in which a play stands
abbrev pub settled : Setup → StageOpen → Option PlayRecord → View → View
settled setup phase play v =
    let ended = ended_at phase play in
    let a = account_after setup ended (money_of v) in
    with_parts v a (payout_after setup ended (payouts_of v)) (lists_after setup (v.count + 1) a.balance ended (lists_of v)) (left_at phase play)

-- what an entry makes of it that leaves a round, and may end it
abbrev pub moved_view : Setup → View → Money → ℕ × ℕ → Round → Bool → View
moved_view setup v a start r over =
    let ended : Option Round = if over then Some r else None in
    let left : Option Round = if over then None else Some r in
    let win = win_of setup ended in
    let balance = a.balance + credited_win setup win in
    record v {
      balance = balance;
      totals = with_additions (win_additions win) a.totals;
      play = option_map (play_record setup start 0) left;
      handpay = or_else (handpay_of_win setup win) v.handpay;
      plays = take PLAYS_KEPT (with_note (option_map (play_record setup start balance) ended) v.plays);
      events = take EVENTS_KEPT (with_note (handpay_event (from_view setup v) [] (handpay_of_win setup win)) v.events);
    }

module _ (setup : Setup) (v : View) (is : IsItself setup v) (a : Money) (start : ℕ × ℕ) (r : Round) where
  same_plays : take PLAYS_KEPT v.plays ≡ v.plays
  same_plays = ap (λ (w : View). w.plays) is

  same_events : take EVENTS_KEPT v.events ≡ v.events
  same_events = ap (λ (w : View). w.events) is

  -- ================ a play that has ended, by whether its win is below the handpay limit

  abbrev win : ℕ
  win = (round_stage setup r).win

  abbrev credited : Bool → ℕ
  credited below = a.balance + (if below then win else 0)

  abbrev posted : Bool → View
  posted below =
      let q : Payouts = if below then payouts_of v else with_held_win win (payouts_of v) in
      record v {
        balance = credited below;
        totals = with_additions (win_additions win) a.totals;
        play = None;
        orders = q.orders;
        order = q.order;
        handpay = q.handpay;
        plays = take PLAYS_KEPT (play_with_after (credited below) (play_record setup start 0 r) ∷ v.plays);
        events = if below then v.events else take EVENTS_KEPT (event_record (v.count + 1) 6 win ∷ v.events);
      }

  abbrev held : Bool → Option (Option Handpay)
  held below = if below then None else Some (Some (record { win = true; amount = win }))

  abbrev ended : Bool → View
  ended below = record v {
    balance = credited below;
    totals = with_additions (win_additions win) a.totals;
    play = None;
    handpay = or_else (held below) v.handpay;
    plays = take PLAYS_KEPT (play_record setup start (credited below) r ∷ v.plays);
    events = take EVENTS_KEPT (with_note (handpay_event (from_view setup v) [] (held below)) v.events);
  }

  ended_view : (below : Bool) → posted below ≡ ended below
  ended_view true = λ x. record (ended true) { events = sym same_events x }
  ended_view false = refl

  -- ================ a play that goes on

  abbrev no_win : Bool → View
  no_win below =
      let handpay : Option (Option Handpay) = if below then None else Some (Some (record { win = true; amount = 0 })) in
      record v {
        balance = a.balance + (if below then 0 else 0);
        totals = a.totals;
        play = Some (play_record setup start 0 r);
        handpay = or_else handpay v.handpay;
        plays = take PLAYS_KEPT v.plays;
        events = take EVENTS_KEPT (with_note (handpay_event (from_view setup v) [] handpay) v.events);
      }

  open_view : record v { balance = a.balance; totals = a.totals; play = Some (play_record setup start 0 r) } ≡ moved_view setup v a start r false
  open_view =
      let none : nat_lt 0 setup.handpay_limit ≡ true = grind (arith, nat_tests, setup.has_handpay_limit) in
      sym (
      ap no_win none
      ∙ λ x. record (no_win true) { balance = none_more a.balance x; plays = same_plays x; events = same_events x }
      )

  -- ================ either, by the stage that is open then

  pub settled_view : (phase : StageOpen) (over : Bool) (p : PlayRecord) → is_stage phase StageOpen.Ended ≡ over → p ≡ play_record setup start 0 r
      → settled setup phase (Some p) (with_money v a) ≡ moved_view setup v a start r over
  settled_view StageOpen.Ended over p is_over same =
      ap (λ (q : PlayRecord). settled setup StageOpen.Ended (Some q) (with_money v a)) same ∙ ended_view (nat_lt win setup.handpay_limit) ∙ ap (moved_view setup v a start r) is_over
  settled_view StageOpen.Pick over p is_over same =
      ap (λ (q : PlayRecord). settled setup StageOpen.Pick (Some q) (with_money v a)) same ∙ open_view ∙ ap (moved_view setup v a start r) is_over
  settled_view StageOpen.Hold over p is_over same =
      ap (λ (q : PlayRecord). settled setup StageOpen.Hold (Some q) (with_money v a)) same ∙ open_view ∙ ap (moved_view setup v a start r) is_over
  settled_view StageOpen.Gamble over p is_over same =
      ap (λ (q : PlayRecord). settled setup StageOpen.Gamble (Some q) (with_money v a)) same ∙ open_view ∙ ap (moved_view setup v a start r) is_over

-- the parts after `settle`, at a place, where a play stands in a view
pub parts_settled : (setup : Setup) (v : View) (phase : StageOpen) (mid left : Option PlayRecord) (place : ℕ) (a : Money) (q : Payouts) (l : Lists)
    → a ≡ account_after setup (ended_at phase mid) (money_of v) → q ≡ payout_after setup (ended_at phase mid) (payouts_of v)
    → l ≡ lists_after setup place a.balance (ended_at phase mid) (lists_of v) → left ≡ left_at phase mid → place ≡ v.count + 1
    → with_parts v a q l left ≡ settled setup phase mid v
parts_settled setup v phase mid left place a q l account payout lists play at =
    let same : l ≡ lists_after setup (v.count + 1) (account_after setup (ended_at phase mid) (money_of v)).balance (ended_at phase mid) (lists_of v) =
    lists ∙ λ x. lists_after setup (at x) (account x).balance (ended_at phase mid) (lists_of v) in
    λ x. with_parts v (account x) (payout x) (same x) (play x)
