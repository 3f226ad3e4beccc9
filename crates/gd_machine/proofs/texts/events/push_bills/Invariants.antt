use Rattle.std.proofs.Common.{◌≡◌, ◌≤◌, ◌+◌, ◌*◌, ◌++◌, take, flat_map}
use Rattle.arrayvec.specs.ArrayString.{array_string_len}
use Rattle.gd_base.specs.Texts.OfViews.{bill_line}
use Rattle.gd_machine.proofs.texts.events.push_bills.Given as goal

-- the lines of the first records
abbrev pub invariant-loop-i : goal.invariant-loop-i
invariant-loop-i l = record {
  bytes : l.text.bytes ≡ l.fn.text.bytes ++ flat_map bill_line (take l.i l.recall.lists.bills);
  room : array_string_len l.text ≤ array_string_len l.fn.text + 42 * l.i;
}
