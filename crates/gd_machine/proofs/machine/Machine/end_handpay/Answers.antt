use Rattle.std.proofs.Common.{◌∙◌, ap, None, take, ◌+◌, ◌∷◌}
use Rattle.gd_base.specs.declared.records.TheConstants.{EVENTS_KEPT}
use Rattle.gd_base.specs.Histories.Recall.{event_record}
use Rattle.gd_base.specs.declared.event.Event.{Event}
use Rattle.gd_machine.proofs.Acted.{acted_by}
use Rattle.gd_base.specs.Histories.Meters.{handpay_amount}
use Rattle.gd_base.proofs.Effects.Orders.{effect_handpay_done}
use Rattle.gd_machine.proofs.Wholes.{facts_of}
use Rattle.gd_machine.specs.Words.{machine_setup, machine_view}
use Rattle.gd_base.specs.declared.meter.Meter.{Meter}
use Rattle.gd_machine.proofs.machine.Machine.end_handpay.Goals as goal

pub handpay_done-requires-clause-win : goal.handpay_done-requires-clause-win
handpay_done-requires-clause-win c =
    let setup = machine_setup c.args.self.now in
    let v = machine_view c.args.self.now in
    let f = facts_of setup v c.requires.whole in
    f.totals Meter.HandWin

pub handpay_done-requires-clause-cancel : goal.handpay_done-requires-clause-cancel
handpay_done-requires-clause-cancel c =
    let setup = machine_setup c.args.self.now in
    let v = machine_view c.args.self.now in
    let f = facts_of setup v c.requires.whole in
    f.totals Meter.HandCancel

pub handpay_done-requires-clause-amount : goal.handpay_done-requires-clause-amount
handpay_done-requires-clause-amount c =
    let setup = machine_setup c.args.self.now in
    let v = machine_view c.args.self.now in
    let f = facts_of setup v c.requires.whole in
    f.held

pub returns-clause-view : goal.returns-clause-view
returns-clause-view c =
    let setup = machine_setup c.args.self.now in
    let v = machine_view c.args.self.now in
    let f = facts_of setup v c.requires.whole in
    let P = c.in_ok-handpay_done.ensures.payout in
    let A = c.in_ok-handpay_done.ensures.account in
    let amount = c.held-amount.ensures ∙ ap handpay_amount c.open_handpay.ensures in
    c.note_event.ensures.view
    ∙ (λ x. record v {
      balance = (A x).balance;
      totals = (A x).totals;
      orders = (P x).orders;
      order = (P x).order;
      handpay = (P x).handpay;
      events = take EVENTS_KEPT (event_record (v.count + 1) 8 (amount x) ∷ v.events);
    })
    ∙ acted_by setup v Event.HandpayDone None _ (effect_handpay_done setup v f.itself 0 None)
