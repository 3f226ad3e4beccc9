-- For callers: what a taken bill, coin or voucher makes of a view.
use Rattle.std.specs.Prelude.{◌≡◌, ℕ, ◌+◌, List, ◌∷◌, take, Option}
use Rattle.gd_base.specs.declared.device.Device.{Device}
use Rattle.gd_base.specs.declared.event.Event.{Event}
use Rattle.gd_base.specs.declared.meter.Meter.{Meter}
use Rattle.gd_base.specs.declared.records.TheConstants.{BILLS_KEPT, VOUCHERS_KEPT}
use Rattle.gd_base.specs.declared.refusal.Reply.{Reply}
use Rattle.gd_base.specs.declared.setup.Setup.{Setup}
use Rattle.gd_base.specs.Histories.Devices.{with_reply}
use Rattle.gd_base.specs.Histories.Meters.{with_one}
use Rattle.gd_base.specs.Histories.Recall.{voucher_record}
use Rattle.gd_base.specs.Histories.View.{View}
use Rattle.gd_base.specs.Histories.ViewOf.{IsItself}
use Rattle.gd_base.proofs.Effects.Shared.{after, none_more, with_credit, more_totals, same_events}
use Rattle.gd_base.proofs.PreservedLemmas.OnlyOneOpen.{no_win}

module _ (setup : Setup) (v : View) (is : IsItself setup v) (number : ℕ) (draw : Option (ℕ × List ℕ)) where
  pub effect_bill : (value : ℕ)
      → after setup v number draw (Event.Bill value) Reply.Taken
      ≡ record v {
        count = v.count + 1;
        balance = v.balance + value;
        totals = with_one Meter.BillIn value v.totals;
        kept = with_reply Device.Bill Reply.Taken v.kept;
        bills = take BILLS_KEPT (record { place = v.count + 1; value = value } ∷ v.bills);
      }
  effect_bill value =
      let balance = with_credit setup (v.balance + value) in
      let totals = more_totals setup v is number draw (Event.Bill value) in
      let orders = none_more v.orders in
      let handpay = no_win setup v.handpay in
      let events = same_events setup v is number draw in
      λ x. record (is x) {
        count = v.count + 1;
        balance = balance x;
        totals = totals x;
        orders = orders x;
        handpay = handpay x;
        kept = with_reply Device.Bill Reply.Taken v.kept;
        events = events x;
        bills = take BILLS_KEPT (record { place = v.count + 1; value = value } ∷ v.bills);
      }

  pub effect_coin : (value : ℕ)
      → after setup v number draw (Event.Coin value) Reply.Taken
      ≡ record v {
        count = v.count + 1;
        balance = v.balance + value;
        totals = with_one Meter.CoinIn value v.totals;
        kept = with_reply Device.Coin Reply.Taken v.kept;
      }
  effect_coin value =
      let balance = with_credit setup (v.balance + value) in
      let totals = more_totals setup v is number draw (Event.Coin value) in
      let orders = none_more v.orders in
      let handpay = no_win setup v.handpay in
      let events = same_events setup v is number draw in
      λ x. record (is x) {
        count = v.count + 1;
        balance = balance x;
        totals = totals x;
        orders = orders x;
        handpay = handpay x;
        kept = with_reply Device.Coin Reply.Taken v.kept;
        events = events x;
      }

  pub effect_voucher_in : (id value : ℕ)
      → after setup v number draw (Event.VoucherIn id value) Reply.Taken
      ≡ record v {
        count = v.count + 1;
        balance = v.balance + value;
        totals = with_one Meter.VoucherIn value v.totals;
        kept = with_reply Device.Reader Reply.Taken v.kept;
        vouchers = take VOUCHERS_KEPT (voucher_record (v.count + 1) 1 id value ∷ v.vouchers);
      }
  effect_voucher_in id value =
      let balance = with_credit setup (v.balance + value) in
      let totals = more_totals setup v is number draw (Event.VoucherIn id value) in
      let orders = none_more v.orders in
      let handpay = no_win setup v.handpay in
      let events = same_events setup v is number draw in
      λ x. record (is x) {
        count = v.count + 1;
        balance = balance x;
        totals = totals x;
        orders = orders x;
        handpay = handpay x;
        kept = with_reply Device.Reader Reply.Taken v.kept;
        events = events x;
        vouchers = take VOUCHERS_KEPT (voucher_record (v.count + 1) 1 id value ∷ v.vouchers);
      }
