use Rattle.std.proofs.Common.{◌∙◌, None, take, ◌+◌, ◌∷◌}
use Rattle.gd_base.proofs.Effects.Conditions.{effect_start}
use Rattle.gd_base.specs.declared.records.TheConstants.{EVENTS_KEPT}
use Rattle.gd_base.specs.declared.event.Event.{Event}
use Rattle.gd_machine.proofs.Wholes.{facts_of}
use Rattle.gd_machine.specs.Words.{machine_setup, machine_view}
use Rattle.gd_base.specs.Histories.Recall.{event_record}
use Rattle.gd_machine.proofs.Acted.{acted_by}
use Rattle.gd_base.specs.declared.meter.Meter.{Meter}
use Rattle.gd_machine.proofs.machine.Machine.start.Goals as goal

pub add-requires-clause-total : goal.add-requires-clause-total
add-requires-clause-total c =
    let setup = machine_setup c.args.self.now in
    let v = machine_view c.args.self.now in
    let f = facts_of setup v c.requires.whole in
    f.totals Meter.PowerUps

pub returns-clause-view : goal.returns-clause-view
returns-clause-view c =
    let setup = machine_setup c.args.self.now in
    let v = machine_view c.args.self.now in
    let f = facts_of setup v c.requires.whole in
    let A = c.add.ensures in
    c.note_event.ensures.view
    ∙ (λ x. record v { balance = (A x).balance; totals = (A x).totals; events = take EVENTS_KEPT (event_record (v.count + 1) 1 0 ∷ v.events) })
    ∙ acted_by setup v Event.Start None _ (effect_start setup v f.itself 0 None)
