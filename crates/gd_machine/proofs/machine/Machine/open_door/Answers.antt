use Rattle.std.proofs.Common.{◌∙◌, ap, sym, None, slice_index, subst, take, ◌+◌, ◌<◌, ◌^◌, ◌∷◌}
use Rattle.gd_base.specs.declared.records.TheConstants.{EVENTS_KEPT}
use Rattle.gd_base.specs.Histories.Recall.{event_record}
use Rattle.gd_base.proofs.Effects.Conditions.{effect_door_open}
use Rattle.gd_base.specs.declared.event.Event.{Event}
use Rattle.gd_machine.proofs.Acted.{acted_by}
use Rattle.gd_base.specs.Histories.Meters.{door_meter, with_one}
use Rattle.gd_base.specs.Histories.Numbers.{condition_number, door_place, meter_place}
use Rattle.gd_machine.proofs.Flags.{door_number, opened}
use Rattle.gd_machine.proofs.Wholes.{facts_of}
use Rattle.gd_machine.specs.Words.{machine_setup, machine_view}
use Rattle.gd_base.specs.declared.meter.Meter.{Meter}
use Rattle.gd_machine.proofs.machine.Machine.open_door.Goals as goal

pub add-requires-clause-total : goal.add-requires-clause-total
add-requires-clause-total c =
    let setup = machine_setup c.args.self.now in
    let v = machine_view c.args.self.now in
    let f = facts_of setup v c.requires.whole in
    subst (λ (m : Meter). slice_index v.totals (meter_place m) < 2 ^ 63) (sym c.meter_of.ensures) (f.totals (door_meter c.args.door))

pub note_event-requires : goal.note_event-requires
note_event-requires c =
    let setup = machine_setup c.args.self.now in
    let v = machine_view c.args.self.now in
    let f = facts_of setup v c.requires.whole in
    f.count

pub returns-clause-view : goal.returns-clause-view
returns-clause-view c =
    let setup = machine_setup c.args.self.now in
    let v = machine_view c.args.self.now in
    let f = facts_of setup v c.requires.whole in
    let D = c.in_ok-door.ensures.moved in
    let A = c.add.ensures in
    let four = f.rules.doors in
    let number = c.from.ensures ∙ c.number.ensures.value ∙ ap condition_number c.condition.ensures ∙ door_number c.args.door in
    c.note_event.ensures.view
    ∙ (λ x. record v {
      balance = (A x).balance;
      totals = (A x).totals;
      doors = (D x).doors;
      tilts = (D x).tilts;
      events = take EVENTS_KEPT (event_record (v.count + 1) 2 (number x) ∷ v.events);
    })
    ∙ (λ x. record v {
      totals = with_one (c.meter_of.ensures x) 1 v.totals;
      doors = opened c.args.door v.doors four x;
      events = take EVENTS_KEPT (event_record (v.count + 1) 2 (door_place c.args.door + 1) ∷ v.events);
    })
    ∙ acted_by setup v (Event.DoorOpen c.args.door) None _ (effect_door_open setup v f.itself 0 None c.args.door)
