-- For callers: what a taken cash-out, an event of its order or a confirmed handpay makes of a view.
use Rattle.std.specs.Prelude.{◌≡◌, ℕ, ◌+◌, ◌-◌, List, [], ◌∷◌, ◌++◌, take, Option, None}
use Rattle.std.proofs.Common.{◌∙◌, append-nil}
use Rattle.gd_base.specs.declared.condition.Tilt.{Tilt}
use Rattle.gd_base.specs.declared.device.Device.{Device}
use Rattle.gd_base.specs.declared.event.Event.{Event}
use Rattle.gd_base.specs.declared.meter.Meter.{Meter}
use Rattle.gd_base.specs.declared.payout.Handpay.{Handpay}
use Rattle.gd_base.specs.declared.records.TheConstants.{EVENTS_KEPT, VOUCHERS_KEPT}
use Rattle.gd_base.specs.declared.refusal.Reply.{Reply}
use Rattle.gd_base.specs.declared.setup.Setup.{Setup}
use Rattle.gd_base.specs.Histories.Credit.{payment, amount_of, one_for_order, order_by, less_coin, order_amount}
use Rattle.gd_base.specs.Histories.Devices.{with_reply}
use Rattle.gd_base.specs.Histories.Entry.{device_of}
use Rattle.gd_base.specs.Histories.History.{or_else, with_note}
use Rattle.gd_base.specs.Histories.Meters.{with_one, with_additions, handpay_of_payment, handpay_addition, handpay_amount}
use Rattle.gd_base.specs.Histories.Numbers.{tilt_place}
use Rattle.gd_base.specs.Histories.Recall.{event_record, voucher_record, handpay_event}
use Rattle.gd_base.specs.Histories.View.{View}
use Rattle.gd_base.specs.Histories.ViewOf.{from_view, IsItself}
use Rattle.gd_base.proofs.Effects.Conditions.{tilts_after}
use Rattle.gd_base.proofs.Effects.Shared.{after, none_more, with_credit, same_balance, with_debit, more_totals, same_events}
use Rattle.gd_base.proofs.PreservedLemmas.OnlyOneOpen.{no_win}

module _ (setup : Setup) (v : View) (is : IsItself setup v) (number : ℕ) (draw : Option (ℕ × List ℕ)) where
  pub effect_cash_out : after setup v number draw Event.CashOut Reply.Taken
      ≡ (let p = payment setup v.balance in
      record v {
        count = v.count + 1;
        balance = v.balance - amount_of p;
        orders = v.orders + one_for_order p;
        order = order_by (v.orders + 1) p;
        handpay = or_else (handpay_of_payment p) v.handpay;
        kept = with_reply Device.Player Reply.Taken v.kept;
        events = take EVENTS_KEPT (with_note (handpay_event (from_view setup v) [] (handpay_of_payment p)) v.events);
      })
  effect_cash_out =
      let p = payment setup v.balance in
      let balance = with_debit setup v.balance (amount_of p) in
      let totals = more_totals setup v is number draw Event.CashOut in
      λ x. record (is x) {
        count = v.count + 1;
        balance = balance x;
        totals = totals x;
        orders = v.orders + one_for_order p;
        order = order_by (v.orders + 1) p;
        handpay = or_else (handpay_of_payment p) v.handpay;
        kept = with_reply Device.Player Reply.Taken v.kept;
        events = take EVENTS_KEPT (with_note (handpay_event (from_view setup v) [] (handpay_of_payment p)) v.events);
      }

  -- ================ an order is carried out

  pub effect_printed : (order : ℕ)
      → after setup v number draw (Event.Printed order) Reply.Taken
      ≡ record v {
        count = v.count + 1;
        totals = with_one Meter.VoucherOut (order_amount v.order) v.totals;
        order = None;
        kept = with_reply Device.Printer Reply.Taken v.kept;
        vouchers = take VOUCHERS_KEPT (voucher_record (v.count + 1) 2 order (order_amount v.order) ∷ v.vouchers);
      }
  effect_printed order =
      let balance = same_balance setup v.balance in
      let totals = more_totals setup v is number draw (Event.Printed order) in
      let orders = none_more v.orders in
      let handpay = no_win setup v.handpay in
      let events = same_events setup v is number draw in
      λ x. record (is x) {
        count = v.count + 1;
        balance = balance x;
        totals = totals x;
        orders = orders x;
        order = None;
        handpay = handpay x;
        kept = with_reply Device.Printer Reply.Taken v.kept;
        events = events x;
        vouchers = take VOUCHERS_KEPT (voucher_record (v.count + 1) 2 order (order_amount v.order) ∷ v.vouchers);
      }

  pub effect_coin_paid : (order : ℕ)
      → after setup v number draw (Event.CoinPaid order) Reply.Taken
      ≡ record v {
        count = v.count + 1;
        totals = with_one Meter.CoinOut setup.coin v.totals;
        order = less_coin setup.coin v.order;
        kept = with_reply Device.Hopper Reply.Taken v.kept;
      }
  effect_coin_paid order =
      let balance = same_balance setup v.balance in
      let totals = more_totals setup v is number draw (Event.CoinPaid order) in
      let orders = none_more v.orders in
      let handpay = no_win setup v.handpay in
      let events = same_events setup v is number draw in
      λ x. record (is x) {
        count = v.count + 1;
        balance = balance x;
        totals = totals x;
        orders = orders x;
        order = less_coin setup.coin v.order;
        handpay = handpay x;
        kept = with_reply Device.Hopper Reply.Taken v.kept;
        events = events x;
      }

  -- ================ an order fails: what is left of it comes back, and a tilt is raised

  abbrev failed : View → ℕ → List ℕ → ℕ → Option Handpay → Event → Tilt → View
  failed w balance totals orders handpay event tilt = record w {
    count = v.count + 1;
    balance = balance;
    totals = totals;
    tilts = tilts_after event v.tilts;
    orders = orders;
    order = None;
    handpay = handpay;
    kept = with_reply (device_of event) Reply.Taken v.kept;
    events = take EVENTS_KEPT (event_record (v.count + 1) 4 (tilt_place tilt + 5) ∷ v.events);
  }

  abbrev pub given_back : Event → Tilt → View
  given_back event tilt = record v {
    count = v.count + 1;
    balance = v.balance + order_amount v.order;
    tilts = tilts_after event v.tilts;
    order = None;
    kept = with_reply (device_of event) Reply.Taken v.kept;
    events = take EVENTS_KEPT (event_record (v.count + 1) 4 (tilt_place tilt + 5) ∷ v.events);
  }

  pub effect_print_fail : (order : ℕ) → after setup v number draw (Event.PrintFail order) Reply.Taken ≡ given_back (Event.PrintFail order) Tilt.PrintFail
  effect_print_fail order =
      let balance = with_credit setup (v.balance + order_amount v.order) in
      let totals = more_totals setup v is number draw (Event.PrintFail order) in
      let orders = none_more v.orders in
      let handpay = no_win setup v.handpay in
      λ x. failed (is x) (balance x) (totals x) (orders x) (handpay x) (Event.PrintFail order) Tilt.PrintFail

  pub effect_hopper_empty : (order : ℕ) → after setup v number draw (Event.HopperEmpty order) Reply.Taken ≡ given_back (Event.HopperEmpty order) Tilt.HopperEmpty
  effect_hopper_empty order =
      let balance = with_credit setup (v.balance + order_amount v.order) in
      let totals = more_totals setup v is number draw (Event.HopperEmpty order) in
      let orders = none_more v.orders in
      let handpay = no_win setup v.handpay in
      λ x. failed (is x) (balance x) (totals x) (orders x) (handpay x) (Event.HopperEmpty order) Tilt.HopperEmpty

  -- ================ a handpay is confirmed

  pub effect_handpay_done : after setup v number draw Event.HandpayDone Reply.Taken
      ≡ record v {
        count = v.count + 1;
        totals = with_additions (handpay_addition v.handpay) v.totals;
        handpay = None;
        kept = with_reply Device.Attendant Reply.Taken v.kept;
        events = take EVENTS_KEPT (event_record (v.count + 1) 8 (handpay_amount v.handpay) ∷ v.events);
      }
  effect_handpay_done =
      let balance = same_balance setup v.balance in
      let same : handpay_addition v.handpay ++ [] ≡ handpay_addition v.handpay = append-nil (handpay_addition v.handpay) in
      let totals = more_totals setup v is number draw Event.HandpayDone ∙ (λ x. with_additions (same x) v.totals) in
      let orders = none_more v.orders in
      λ x. record (is x) {
        count = v.count + 1;
        balance = balance x;
        totals = totals x;
        orders = orders x;
        handpay = None;
        kept = with_reply Device.Attendant Reply.Taken v.kept;
        events = take EVENTS_KEPT (event_record (v.count + 1) 8 (handpay_amount v.handpay) ∷ v.events);
      }
