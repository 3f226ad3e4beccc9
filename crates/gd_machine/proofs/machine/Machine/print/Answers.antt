use Rattle.std.proofs.Common.{◌∙◌, ap, sym, None, arith, take, ◌+◌, ◌∷◌}
use Rattle.gd_base.specs.declared.records.TheConstants.{VOUCHERS_KEPT}
use Rattle.gd_base.specs.Histories.Recall.{voucher_record}
use Rattle.gd_base.specs.Histories.Credit.{order_amount}
use Rattle.gd_base.proofs.Effects.Orders.{effect_printed}
use Rattle.gd_base.specs.declared.event.Event.{Event}
use Rattle.gd_machine.proofs.Acted.{acted_by}
use Rattle.gd_base.specs.Histories.Meters.{with_one}
use Rattle.gd_machine.proofs.Printed.{printed_small}
use Rattle.gd_machine.proofs.Wholes.{facts_of}
use Rattle.gd_machine.specs.Words.{machine_setup, machine_view}
use Rattle.gd_base.specs.declared.meter.Meter.{Meter}
use Rattle.gd_base.specs.declared.refusal.Refusal.{Refusal}
use Rattle.gd_machine.proofs.machine.Machine.print.Goals as goal

pub printed-requires-clause-total : goal.printed-requires-clause-total
printed-requires-clause-total c =
    let setup = machine_setup c.args.self.now in
    let v = machine_view c.args.self.now in
    let f = facts_of setup v c.requires.whole in
    f.totals Meter.VoucherOut

pub printed-requires-clause-amount : goal.printed-requires-clause-amount
printed-requires-clause-amount c =
    let setup = machine_setup c.args.self.now in
    let v = machine_view c.args.self.now in
    let f = facts_of setup v c.requires.whole in
    f.ordered

pub overflow_cast-amount : goal.overflow_cast-amount
overflow_cast-amount c =
    let setup = machine_setup c.args.self.now in
    let v = machine_view c.args.self.now in
    let f = facts_of setup v c.requires.whole in
    let amount = c.ordered-amount.ensures ∙ ap order_amount c.open_order.ensures in
    let le = printed_small c.args.order v.order Refusal.NoSuchOrder (sym c.in_ok-printed.ensures.answer) f.rules.small_order in
    omega (arith, amount, le)

pub returns-clause-view : goal.returns-clause-view
returns-clause-view c =
    let setup = machine_setup c.args.self.now in
    let v = machine_view c.args.self.now in
    let f = facts_of setup v c.requires.whole in
    let P = c.in_ok-printed.ensures.payout in
    let A = c.in_ok-printed.ensures.account in
    let L = c.note_voucher.ensures.lists in
    let amount = c.ordered-amount.ensures ∙ ap order_amount c.open_order.ensures in
    (λ x. record v {
      balance = (A x).balance;
      totals = (A x).totals;
      orders = (P x).orders;
      order = (P x).order;
      handpay = (P x).handpay;
      plays = (L x).plays;
      events = (L x).events;
      bills = (L x).bills;
      vouchers = (L x).vouchers;
    })
    ∙ (λ x. record v {
      totals = with_one Meter.VoucherOut (order_amount v.order) v.totals;
      order = None;
      vouchers = take VOUCHERS_KEPT (voucher_record (v.count + 1) 2 c.args.order (amount x) ∷ v.vouchers);
    })
    ∙ acted_by setup v (Event.Printed c.args.order) None _ (effect_printed setup v f.itself 0 None c.args.order)
