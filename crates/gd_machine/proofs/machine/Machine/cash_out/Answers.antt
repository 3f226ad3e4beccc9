use Rattle.std.proofs.Common.{◌∙◌, ap, sym, Err, [], arith, is_some, take, ◌+◌, ◌==◌, ◌∷◌}
use Rattle.gd_base.specs.declared.records.TheConstants.{EVENTS_KEPT}
use Rattle.gd_base.specs.Histories.Recall.{event_record}
use Rattle.gd_machine.proofs.CashOut.{paid_by_hand, paid_by_order}
use Rattle.gd_machine.proofs.Refusals.{first_passed, refused_on, told_at_cash}
use Rattle.gd_base.proofs.BooksLemmas.LegalBooks.{not_held}
use Rattle.gd_machine.proofs.Wholes.{facts_of}
use Rattle.gd_machine.specs.Words.{machine_setup, machine_view}
use Rattle.gd_machine.proofs.Kept.{copied_some}
use Rattle.std.proofs.lemmas.Result.{err_from_is_err_and}
use Rattle.gd_base.specs.Judging.Rule.{while_locked, while_ordered}
use Rattle.gd_base.specs.declared.refusal.Refusal.{Refusal}
use Rattle.gd_payout.specs.Payouts.{Payouts}
use Rattle.gd_machine.proofs.machine.Machine.cash_out.Goals as goal

pub returns-in_err-check_free-clause-answer : goal.returns-in_err-check_free-clause-answer
returns-in_err-check_free-clause-answer c =
    let v = machine_view c.args.self.now in
    refused_on (while_locked v ∷ while_ordered v ∷ []) _ c.from_residual.result c.in_err-check_free.field-0.0 (err_from_is_err_and c.from_residual.result c.from_residual.ensures.1) c.in_err-check_free.ensures

pub cash_out-requires : goal.cash_out-requires
cash_out-requires c =
    let setup = machine_setup c.args.self.now in
    let v = machine_view c.args.self.now in
    let f = facts_of setup v c.requires.whole in
    let le = f.rules.orders in
    let room = f.count in
    record { orders = omega (arith, le, room) }

pub returns-in_err-cash_out-clause-answer : goal.returns-in_err-cash_out-clause-answer
returns-in_err-cash_out-clause-answer c =
    let v = machine_view c.args.self.now in
    let t = err_from_is_err_and c.from_residual-in_err-cash_out.result c.from_residual-in_err-cash_out.ensures.1 in
    let closed = sym (c.is_some.ensures ∙ copied_some c.open.result ∙ ap is_some c.open.ensures) ∙ c.if-is_some.false in
    told_at_cash (while_locked v) (is_some v.order) (is_some v.play) (v.balance == 0) Refusal.OrderOpen Refusal.PlayOpen Refusal.NothingToPay c.from_residual-in_err-cash_out.result
    (sym c.check_free.ensures ∙ c.in_ok-check_free.was) closed (t.1 ∙ ap Err t.2 ∙ c.in_err-cash_out.ensures.answer)

pub returns-in-Some-clause-view : goal.returns-in-Some-clause-view
returns-in-Some-clause-view c =
    let setup = machine_setup c.args.self.now in
    let v = machine_view c.args.self.now in
    let f = facts_of setup v c.requires.whole in
    let P = c.in_ok-cash_out.ensures.payout in
    let A = c.in_ok-cash_out.ensures.account in
    let unheld = not_held v (first_passed (while_locked v) (while_ordered v) (sym c.check_free.ensures ∙ c.in_ok-check_free.was)) in
    c.note_event.ensures.view
    ∙ (λ x. record v {
      balance = (A x).balance;
      totals = (A x).totals;
      orders = (P x).orders;
      order = (P x).order;
      handpay = (P x).handpay;
      events = take EVENTS_KEPT (event_record (v.count + 1) 7 c.in-Some.handpay.amount ∷ v.events);
    })
    ∙ paid_by_hand setup v f.itself unheld c.in-Some.handpay (sym (ap (λ (p : Payouts). p.handpay) P) ∙ sym c.open_handpay.ensures ∙ c.in-Some.is)

pub returns-in_default-clause-view : goal.returns-in_default-clause-view
returns-in_default-clause-view c =
    let setup = machine_setup c.args.self.now in
    let v = machine_view c.args.self.now in
    let f = facts_of setup v c.requires.whole in
    let P = c.in_ok-cash_out.ensures.payout in
    let A = c.in_ok-cash_out.ensures.account in
    let unheld = not_held v (first_passed (while_locked v) (while_ordered v) (sym c.check_free.ensures ∙ c.in_ok-check_free.was)) in
    (λ x. record v { balance = (A x).balance; totals = (A x).totals; orders = (P x).orders; order = (P x).order; handpay = (P x).handpay })
    ∙ paid_by_order setup v f.itself unheld (sym (ap (λ (p : Payouts). p.handpay) P) ∙ sym c.open_handpay.ensures ∙ c.in_default.is)
