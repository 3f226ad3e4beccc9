use Rattle.std.proofs.Common.{◌≡◌, ◌≤◌, ◌+◌, ◌*◌, ◌++◌, take, flat_map}
use Rattle.arrayvec.specs.ArrayString.{array_string_len}
use Rattle.gd_base.specs.Texts.OfViews.{voucher_line}
use Rattle.gd_machine.proofs.texts.events.push_vouchers.Given as goal

-- the lines of the first records
abbrev pub invariant-loop-i : goal.invariant-loop-i
invariant-loop-i l = record {
  bytes : l.text.bytes ≡ l.fn.text.bytes ++ flat_map voucher_line (take l.i l.recall.lists.vouchers);
  room : array_string_len l.text ≤ array_string_len l.fn.text + 67 * l.i;
}
