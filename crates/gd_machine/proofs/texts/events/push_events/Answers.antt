use Rattle.std.proofs.Common.{◌∙◌, sym, arith}
use Rattle.gd_base.specs.Texts.OfViews.{event_line}
use Rattle.gd_machine.proofs.Lists.{next_record, one_there}
use Rattle.gd_machine.proofs.texts.events.push_events.Goals as goal

pub unreachable-requires : goal.unreachable-requires
unreachable-requires c = one_there c.args.recall.now.lists.events c.loop-i.i (omega (arith, c.loop-i-test.true, c.event_count-i-end.ensures.count)) (sym c.event.ensures.event ∙ c.in_default.is)

pub loop-i-preserved : goal.loop-i-preserved
loop-i-preserved c = record {
  bytes = next_record event_line c.args.recall.now.lists.events c.loop-i.i c.in-Some.event c.args.text.now.bytes c.loop-i.text.bytes c.push_event.new.text.bytes c.loop-i.invariant.bytes
      (sym c.event.ensures.event ∙ c.in-Some.is) c.push_event.ensures.bytes;
  room = omega (arith, c.push_event.ensures.room, c.loop-i.invariant.room);
}
