use Rattle.std.proofs.Common.{◌∙◌, sym, arith}
use Rattle.gd_base.specs.Texts.OfViews.{voucher_line}
use Rattle.gd_machine.proofs.Lists.{next_record, one_there}
use Rattle.gd_machine.proofs.texts.events.push_vouchers.Goals as goal

pub unreachable-requires : goal.unreachable-requires
unreachable-requires c = one_there c.args.recall.now.lists.vouchers c.loop-i.i (omega (arith, c.loop-i-test.true, c.voucher_count-i-end.ensures.count)) (sym c.voucher.ensures.voucher ∙ c.in_default.is)

pub loop-i-preserved : goal.loop-i-preserved
loop-i-preserved c = record {
  bytes = next_record voucher_line c.args.recall.now.lists.vouchers c.loop-i.i c.in-Some.voucher c.args.text.now.bytes c.loop-i.text.bytes c.push_voucher.new.text.bytes c.loop-i.invariant.bytes
      (sym c.voucher.ensures.voucher ∙ c.in-Some.is) c.push_voucher.ensures.bytes;
  room = omega (arith, c.push_voucher.ensures.room, c.loop-i.invariant.room);
}
