use Rattle.std.proofs.Common.{◌∙◌, ap, sym, Err, None, Ok, [], ◌∷◌}
use Rattle.gd_base.specs.declared.event.Event.{Event}
use Rattle.gd_machine.proofs.Acted.{acted_by}
use Rattle.gd_machine.proofs.Refusals.{between_on, refused_on, told_around}
use Rattle.gd_base.proofs.Effects.Money.{effect_voucher_in}
use Rattle.gd_machine.proofs.Wholes.{facts_of}
use Rattle.gd_machine.specs.Words.{machine_setup, machine_view}
use Rattle.std.proofs.lemmas.Result.{err_from_is_err_and}
use Rattle.gd_base.specs.Judging.Rule.{is_seen, over_limit, while_locked, while_ordered}
use Rattle.gd_base.specs.declared.meter.Meter.{Meter}
use Rattle.gd_base.specs.declared.refusal.Refusal.{Refusal}
use Rattle.gd_account.specs.Judging.{is_voucher_value}
use Rattle.gd_machine.proofs.machine.Machine.take_voucher.Goals as goal

pub returns-in_err-check_free-clause-answer : goal.returns-in_err-check_free-clause-answer
returns-in_err-check_free-clause-answer c =
    let v = machine_view c.args.self.now in
    refused_on (while_locked v ∷ while_ordered v ∷ []) _ c.from_residual.result c.in_err-check_free.field-0.0 (err_from_is_err_and c.from_residual.result c.from_residual.ensures.1) c.in_err-check_free.ensures

pub returns-in_err-check_unseen-clause-answer : goal.returns-in_err-check_unseen-clause-answer
returns-in_err-check_unseen-clause-answer c =
    let v = machine_view c.args.self.now in
    between_on (while_locked v ∷ while_ordered v ∷ []) (is_voucher_value c.args.value) (is_seen v c.args.id) Refusal.ValueNotEnabled Refusal.VoucherSeen (over_limit (machine_setup c.args.self.now) v c.args.value)
    c.from_residual-in_err-check_unseen.result c.in_err-check_unseen.field-0.0 (sym c.check_free.ensures ∙ c.in_ok-check_free.was)
    (err_from_is_err_and c.from_residual-in_err-check_unseen.result c.from_residual-in_err-check_unseen.ensures.1) c.in_err-check_unseen.ensures

pub take_voucher-requires-clause-balance : goal.take_voucher-requires-clause-balance
take_voucher-requires-clause-balance c =
    let setup = machine_setup c.args.self.now in
    let v = machine_view c.args.self.now in
    let f = facts_of setup v c.requires.whole in
    f.balance

pub take_voucher-requires-clause-total : goal.take_voucher-requires-clause-total
take_voucher-requires-clause-total c =
    let setup = machine_setup c.args.self.now in
    let v = machine_view c.args.self.now in
    let f = facts_of setup v c.requires.whole in
    f.totals Meter.VoucherIn

pub returns-in_err-take_voucher-clause-answer : goal.returns-in_err-take_voucher-clause-answer
returns-in_err-take_voucher-clause-answer c =
    let v = machine_view c.args.self.now in
    let t = err_from_is_err_and c.from_residual-in_err-take_voucher.result c.from_residual-in_err-take_voucher.ensures.1 in
    told_around (while_locked v ∷ while_ordered v ∷ []) (is_voucher_value c.args.value) (is_seen v c.args.id) Refusal.ValueNotEnabled Refusal.VoucherSeen (over_limit (machine_setup c.args.self.now) v c.args.value)
    c.from_residual-in_err-take_voucher.result (sym c.check_free.ensures ∙ c.in_ok-check_free.was) (sym c.check_unseen.ensures ∙ c.in_ok-check_unseen.was) (t.1 ∙ ap Err t.2 ∙ c.in_err-take_voucher.ensures.answer)

pub returns-clause-answer : goal.returns-clause-answer
returns-clause-answer c =
    let v = machine_view c.args.self.now in
    told_around (while_locked v ∷ while_ordered v ∷ []) (is_voucher_value c.args.value) (is_seen v c.args.id) Refusal.ValueNotEnabled Refusal.VoucherSeen (over_limit (machine_setup c.args.self.now) v c.args.value)
    (Ok tt) (sym c.check_free.ensures ∙ c.in_ok-check_free.was) (sym c.check_unseen.ensures ∙ c.in_ok-check_unseen.was) c.in_ok-take_voucher.ensures.answer

pub returns-clause-view : goal.returns-clause-view
returns-clause-view c =
    let setup = machine_setup c.args.self.now in
    let v = machine_view c.args.self.now in
    let f = facts_of setup v c.requires.whole in
    let A = c.in_ok-take_voucher.ensures.money in
    let L = c.note_voucher.ensures.lists in
    (λ x. record v { balance = (A x).balance; totals = (A x).totals; plays = (L x).plays; events = (L x).events; bills = (L x).bills; vouchers = (L x).vouchers })
    ∙ acted_by setup v (Event.VoucherIn c.args.id c.args.value) None _ (effect_voucher_in setup v f.itself 0 None c.args.id c.args.value)
