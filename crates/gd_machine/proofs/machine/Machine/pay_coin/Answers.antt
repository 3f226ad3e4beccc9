use Rattle.std.proofs.Common.{◌∙◌, None}
use Rattle.gd_base.specs.declared.event.Event.{Event}
use Rattle.gd_machine.proofs.Wholes.{facts_of}
use Rattle.gd_machine.specs.Words.{machine_setup, machine_view}
use Rattle.gd_machine.proofs.Refusals.{ok_both}
use Rattle.gd_base.proofs.Effects.Orders.{effect_coin_paid}
use Rattle.gd_machine.proofs.Acted.{acted_by}
use Rattle.gd_base.specs.declared.meter.Meter.{Meter}
use Rattle.gd_machine.proofs.machine.Machine.pay_coin.Goals as goal

pub coin_paid-requires : goal.coin_paid-requires
coin_paid-requires c =
    let setup = machine_setup c.args.self.now in
    let v = machine_view c.args.self.now in
    let f = facts_of setup v c.requires.whole in
    record { total = f.totals Meter.CoinOut }

pub returns-clause-view : goal.returns-clause-view
returns-clause-view c =
    let setup = machine_setup c.args.self.now in
    let v = machine_view c.args.self.now in
    let f = facts_of setup v c.requires.whole in
    ok_both c.coin_paid.result
    (λ P A. (λ x. record v { balance = (A x).balance; totals = (A x).totals; orders = (P x).orders; order = (P x).order; handpay = (P x).handpay })
    ∙ acted_by setup v (Event.CoinPaid c.args.order) None _ (effect_coin_paid setup v f.itself 0 None c.args.order))
    c.coin_paid.ensures.payout c.coin_paid.ensures.account
