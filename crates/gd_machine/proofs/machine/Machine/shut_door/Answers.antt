use Rattle.std.proofs.Common.{◌∙◌, ap, None, take, ◌+◌, ◌∷◌}
use Rattle.gd_base.specs.declared.records.TheConstants.{EVENTS_KEPT}
use Rattle.gd_base.specs.Histories.Recall.{event_record}
use Rattle.gd_base.specs.declared.event.Event.{Event}
use Rattle.gd_machine.proofs.Acted.{acted_by}
use Rattle.gd_base.proofs.Effects.Conditions.{effect_door_shut}
use Rattle.gd_base.specs.Histories.Numbers.{condition_number, door_place}
use Rattle.gd_machine.specs.Words.{machine_setup, machine_view}
use Rattle.gd_machine.proofs.Wholes.{facts_of}
use Rattle.gd_machine.proofs.Flags.{door_number, shut}
use Rattle.gd_machine.proofs.machine.Machine.shut_door.Goals as goal

pub returns-clause-view : goal.returns-clause-view
returns-clause-view c =
    let setup = machine_setup c.args.self.now in
    let v = machine_view c.args.self.now in
    let f = facts_of setup v c.requires.whole in
    let D = c.in_ok-door.ensures.moved in
    let four = f.rules.doors in
    let number = c.from.ensures ∙ c.number.ensures.value ∙ ap condition_number c.condition.ensures ∙ door_number c.args.door in
    c.note_event.ensures.view
    ∙ (λ x. record v {
      doors = (D x).doors;
      tilts = (D x).tilts;
      events = take EVENTS_KEPT (event_record (v.count + 1) 3 (number x) ∷ v.events);
    })
    ∙ (λ x. record v {
      doors = shut c.args.door v.doors four x;
      events = take EVENTS_KEPT (event_record (v.count + 1) 3 (door_place c.args.door + 1) ∷ v.events);
    })
    ∙ acted_by setup v (Event.DoorShut c.args.door) None _ (effect_door_shut setup v f.itself 0 None c.args.door)
