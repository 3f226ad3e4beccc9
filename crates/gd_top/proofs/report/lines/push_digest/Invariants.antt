use Rattle.std.proofs.Common.{◌≡◌, ◌≤◌, ◌+◌, ◌*◌, ◌++◌, take}
use Rattle.arrayvec.specs.ArrayString.{array_string_len}
use Rattle.gd_top.specs.Report.Lines.{hex}
use Rattle.gd_top.proofs.report.lines.push_digest.Given as goal

-- the digits of the first bytes
abbrev pub invariant-loop-place : goal.invariant-loop-place
invariant-loop-place l = record {
  bytes : l.text.bytes ≡ l.fn.text.bytes ++ hex (take l.place l.digest);
  room : array_string_len l.text ≤ array_string_len l.fn.text + 2 * l.place;
}
