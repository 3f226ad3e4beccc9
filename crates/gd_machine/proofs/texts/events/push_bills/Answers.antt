use Rattle.std.proofs.Common.{◌∙◌, sym, arith}
use Rattle.gd_base.specs.Texts.OfViews.{bill_line}
use Rattle.gd_machine.proofs.Lists.{next_record, one_there}
use Rattle.gd_machine.proofs.texts.events.push_bills.Goals as goal

pub unreachable-requires : goal.unreachable-requires
unreachable-requires c = one_there c.args.recall.now.lists.bills c.loop-i.i (omega (arith, c.loop-i-test.true, c.bill_count-i-end.ensures.count)) (sym c.bill.ensures.bill ∙ c.in_default.is)

pub loop-i-preserved : goal.loop-i-preserved
loop-i-preserved c = record {
  bytes = next_record bill_line c.args.recall.now.lists.bills c.loop-i.i c.in-Some.bill c.args.text.now.bytes c.loop-i.text.bytes c.push_bill.new.text.bytes c.loop-i.invariant.bytes
      (sym c.bill.ensures.bill ∙ c.in-Some.is) c.push_bill.ensures.bytes;
  room = omega (arith, c.push_bill.ensures.room, c.loop-i.invariant.room);
}
