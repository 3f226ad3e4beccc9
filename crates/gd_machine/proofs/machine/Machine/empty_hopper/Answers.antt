use Rattle.std.proofs.Common.{◌∙◌, None, take, ◌+◌, ◌∷◌}
use Rattle.gd_base.specs.declared.records.TheConstants.{EVENTS_KEPT}
use Rattle.gd_machine.proofs.Flags.{hopper_empty}
use Rattle.gd_base.specs.Histories.Recall.{event_record}
use Rattle.gd_base.proofs.Effects.Orders.{effect_hopper_empty}
use Rattle.gd_base.specs.declared.event.Event.{Event}
use Rattle.gd_base.specs.declared.condition.Tilt.{Tilt}
use Rattle.gd_machine.proofs.Acted.{acted_by}
use Rattle.gd_base.specs.Histories.Numbers.{tilt_place}
use Rattle.gd_machine.proofs.Wholes.{facts_of}
use Rattle.gd_machine.specs.Words.{machine_setup, machine_view}
use Rattle.gd_machine.proofs.machine.Machine.empty_hopper.Goals as goal

pub hopper_empty-requires-clause-balance : goal.hopper_empty-requires-clause-balance
hopper_empty-requires-clause-balance c =
    let setup = machine_setup c.args.self.now in
    let v = machine_view c.args.self.now in
    let f = facts_of setup v c.requires.whole in
    f.balance

pub hopper_empty-requires-clause-amount : goal.hopper_empty-requires-clause-amount
hopper_empty-requires-clause-amount c =
    let setup = machine_setup c.args.self.now in
    let v = machine_view c.args.self.now in
    let f = facts_of setup v c.requires.whole in
    f.ordered

pub returns-clause-view : goal.returns-clause-view
returns-clause-view c =
    let setup = machine_setup c.args.self.now in
    let v = machine_view c.args.self.now in
    let f = facts_of setup v c.requires.whole in
    let P = c.in_ok-hopper_empty.ensures.payout in
    let A = c.in_ok-hopper_empty.ensures.account in
    let six = f.rules.tilts in
    c.raise.ensures.view
    ∙ (λ x. record v {
      balance = (A x).balance;
      totals = (A x).totals;
      orders = (P x).orders;
      order = (P x).order;
      handpay = (P x).handpay;
      tilts = hopper_empty c.args.order v.tilts six x;
      events = take EVENTS_KEPT (event_record (v.count + 1) 4 (tilt_place Tilt.HopperEmpty + 5) ∷ v.events);
    })
    ∙ acted_by setup v (Event.HopperEmpty c.args.order) None _ (effect_hopper_empty setup v f.itself 0 None c.args.order)
