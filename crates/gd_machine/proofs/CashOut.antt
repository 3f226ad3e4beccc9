-- What a cash-out makes of a view: by hand it is noted.
use Rattle.std.proofs.Common.{◌≡◌, ◌∙◌, ap, sym, refl, ◌+◌, ◌-◌, List, [], ◌∷◌, take, is_some, false, Option, Some, None}
use Rattle.gd_base.specs.declared.event.Event.{Event}
use Rattle.gd_base.specs.declared.payout.Handpay.{Handpay}
use Rattle.gd_base.specs.declared.records.EventRecord.{EventRecord}
use Rattle.gd_base.specs.declared.records.TheConstants.{EVENTS_KEPT}
use Rattle.gd_base.specs.declared.setup.Setup.{Setup}
use Rattle.gd_base.specs.Histories.Credit.{Payment, ByHopper, ByPrinter, ByHand, amount_of, one_for_order, order_by, payment}
use Rattle.gd_base.specs.Histories.History.{or_else, with_note}
use Rattle.gd_base.specs.Histories.Meters.{handpay_amount, handpay_of_payment}
use Rattle.gd_base.specs.Histories.Recall.{event_record, handpay_event}
use Rattle.gd_base.specs.Histories.View.{View}
use Rattle.gd_base.specs.Histories.ViewOf.{from_view, IsItself}
use Rattle.gd_base.proofs.Effects.Orders.{effect_cash_out}
use Rattle.gd_machine.specs.Acts.{acted}
use Rattle.gd_machine.proofs.Acted.{acted_by}

none_of : (h : Option Handpay) → is_some h ≡ false → h ≡ None
none_of None e = refl
none_of (Some h) e = absurd (cc e)

module _ (setup : Setup) (v : View) (is : IsItself setup v) (unheld : is_some v.handpay ≡ false) where
  abbrev Noted : Payment → List EventRecord → Type 0
  Noted q events = events ≡ with_note (handpay_event (from_view setup v) [] (handpay_of_payment q)) v.events

  abbrev before_none : Payment → Option Handpay
  before_none q = or_else (handpay_of_payment q) None

  noted : (q : Payment) (h : Handpay) → before_none q ≡ Some h → Noted q (event_record (v.count + 1) 7 h.amount ∷ v.events)
  noted (ByHopper amount) h e = absurd (cc e)
  noted (ByPrinter amount) h e = absurd (cc e)
  noted (ByHand amount) h e = ap (λ (x : Option Handpay). event_record (v.count + 1) 7 (handpay_amount x) ∷ v.events) (sym e)

  not_noted : (q : Payment) → before_none q ≡ None → Noted q v.events
  not_noted (ByHopper amount) e = refl
  not_noted (ByPrinter amount) e = refl
  not_noted (ByHand amount) e = absurd (cc e)

  abbrev pub paid : View
  paid =
      let q = payment setup v.balance in
      record v {
        balance = v.balance - amount_of q;
        orders = v.orders + one_for_order q;
        order = order_by (v.orders + 1) q;
        handpay = or_else (handpay_of_payment q) v.handpay;
      }

  fresh : or_else (handpay_of_payment (payment setup v.balance)) v.handpay ≡ before_none (payment setup v.balance)
  fresh = ap (or_else (handpay_of_payment (payment setup v.balance))) (none_of v.handpay unheld)

  pub paid_by_hand : (h : Handpay) → or_else (handpay_of_payment (payment setup v.balance)) v.handpay ≡ Some h
      → record paid { events = take EVENTS_KEPT (event_record (v.count + 1) 7 h.amount ∷ v.events) } ≡ acted setup v Event.CashOut None
  paid_by_hand h e =
      let told = noted (payment setup v.balance) h (sym fresh ∙ e) in
      (λ x. record paid { events = take EVENTS_KEPT (told x) }) ∙ acted_by setup v Event.CashOut None _ (effect_cash_out setup v is 0 None)

  pub paid_by_order : or_else (handpay_of_payment (payment setup v.balance)) v.handpay ≡ None → paid ≡ acted setup v Event.CashOut None
  paid_by_order e =
      let told = not_noted (payment setup v.balance) (sym fresh ∙ e) in
      let all = sym (ap (λ (w : View). w.events) is) in
      (λ x. record paid { events = all x }) ∙ (λ x. record paid { events = take EVENTS_KEPT (told x) }) ∙ acted_by setup v Event.CashOut None _ (effect_cash_out setup v is 0 None)
