use Rattle.std.proofs.Common.{◌∙◌, sym, None, [], ◌∷◌}
use Rattle.gd_base.proofs.Effects.Money.{effect_coin}
use Rattle.gd_base.specs.declared.event.Event.{Event}
use Rattle.gd_machine.proofs.Acted.{acted_by}
use Rattle.gd_machine.proofs.Refusals.{refused_on, told_by}
use Rattle.gd_machine.proofs.Wholes.{facts_of}
use Rattle.gd_machine.specs.Words.{machine_setup, machine_view}
use Rattle.std.proofs.lemmas.Result.{err_from_is_err_and, on_ok_weaker}
use Rattle.gd_base.specs.Judging.Rule.{while_locked, while_ordered}
use Rattle.gd_base.specs.declared.meter.Meter.{Meter}
use Rattle.gd_machine.proofs.machine.Machine.take_coin.Goals as goal

pub returns-in_err-check_free-clause-answer : goal.returns-in_err-check_free-clause-answer
returns-in_err-check_free-clause-answer c =
    let v = machine_view c.args.self.now in
    refused_on (while_locked v ∷ while_ordered v ∷ []) _ c.from_residual.result c.in_err-check_free.field-0.0 (err_from_is_err_and c.from_residual.result c.from_residual.ensures.1) c.in_err-check_free.ensures

pub take_coin-requires-clause-balance : goal.take_coin-requires-clause-balance
take_coin-requires-clause-balance c =
    let setup = machine_setup c.args.self.now in
    let v = machine_view c.args.self.now in
    let f = facts_of setup v c.requires.whole in
    f.balance

pub take_coin-requires-clause-total : goal.take_coin-requires-clause-total
take_coin-requires-clause-total c =
    let setup = machine_setup c.args.self.now in
    let v = machine_view c.args.self.now in
    let f = facts_of setup v c.requires.whole in
    f.totals Meter.CoinIn

pub returns-clause-answer : goal.returns-clause-answer
returns-clause-answer c =
    let v = machine_view c.args.self.now in
    told_by (while_locked v ∷ while_ordered v ∷ []) _ c.take_coin.result (sym c.check_free.ensures ∙ c.in_ok-check_free.was) c.take_coin.ensures.answer

pub returns-clause-view : goal.returns-clause-view
returns-clause-view c =
    let setup = machine_setup c.args.self.now in
    let v = machine_view c.args.self.now in
    let f = facts_of setup v c.requires.whole in
    on_ok_weaker c.take_coin.result
    (λ A. (λ x. record v { balance = (A x).balance; totals = (A x).totals }) ∙ acted_by setup v (Event.Coin c.args.value) None _ (effect_coin setup v f.itself 0 None c.args.value))
    c.take_coin.ensures.money
