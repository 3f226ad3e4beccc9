use Rattle.std.proofs.Common.{◌∙◌, ap, None, take, ◌+◌, ◌∷◌}
use Rattle.gd_base.specs.declared.records.TheConstants.{EVENTS_KEPT}
use Rattle.gd_base.specs.Histories.Recall.{event_record}
use Rattle.gd_base.specs.declared.event.Event.{Event}
use Rattle.gd_base.proofs.Effects.Conditions.{effect_clear_tilt}
use Rattle.gd_machine.proofs.Acted.{acted_by}
use Rattle.gd_machine.proofs.Flags.{cleared, tilt_number}
use Rattle.gd_base.specs.Histories.Numbers.{condition_number, tilt_place}
use Rattle.gd_machine.proofs.Wholes.{facts_of}
use Rattle.gd_machine.specs.Words.{machine_setup, machine_view}
use Rattle.gd_machine.proofs.machine.Machine.clear_tilt.Goals as goal

pub returns-clause-view : goal.returns-clause-view
returns-clause-view c =
    let setup = machine_setup c.args.self.now in
    let v = machine_view c.args.self.now in
    let f = facts_of setup v c.requires.whole in
    let D = c.in_ok-clear.ensures.moved in
    let six = f.rules.tilts in
    let number = c.from.ensures ∙ c.number.ensures.value ∙ ap condition_number c.condition.ensures ∙ tilt_number c.args.tilt in
    c.note_event.ensures.view
    ∙ (λ x. record v {
      doors = (D x).doors;
      tilts = (D x).tilts;
      events = take EVENTS_KEPT (event_record (v.count + 1) 5 (number x) ∷ v.events);
    })
    ∙ (λ x. record v {
      tilts = cleared c.args.tilt v.tilts six x;
      events = take EVENTS_KEPT (event_record (v.count + 1) 5 (tilt_place c.args.tilt + 5) ∷ v.events);
    })
    ∙ acted_by setup v (Event.ClearTilt c.args.tilt) None _ (effect_clear_tilt setup v f.itself 0 None c.args.tilt)
