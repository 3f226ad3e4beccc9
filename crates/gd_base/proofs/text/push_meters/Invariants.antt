use Rattle.std.proofs.Common.{◌≡◌, ◌≤◌, ◌+◌, ◌*◌, ◌++◌, take}
use Rattle.arrayvec.specs.ArrayString.{array_string_len}
use Rattle.gd_base.specs.Histories.Meters.{meters}
use Rattle.gd_base.specs.Texts.OfViews.{meter_lines}
use Rattle.gd_base.proofs.text.push_meters.Given as goal

-- the lines of the first meters
abbrev pub invariant-loop-place : goal.invariant-loop-place
invariant-loop-place l = record {
  bytes : l.text.bytes ≡ l.fn.text.bytes ++ meter_lines (take l.place meters) l.totals;
  room : array_string_len l.text ≤ array_string_len l.fn.text + 23 * l.place;
}
