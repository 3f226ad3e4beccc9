use Rattle.std.proofs.Common.{◌≡◌, length}
use Rattle.std.specs.Io.KnownBytes.{Consumes, prepend_known}
use Rattle.gd_top.specs.Script.Lines.{HasNoEnd}
use Rattle.gd_top.proofs.script.reader.next_line.Given as goal

-- the line so far was taken, and has no LF
abbrev pub invariant-loop : goal.invariant-loop
invariant-loop g l = record {
  taken : Consumes (prepend_known l.fn.ahead (g.S.Source.left l.fn.source)) (prepend_known l.ahead (g.S.Source.left l.source)) l.line.items;
  no_end : HasNoEnd l.line.items;
  count : length l.line.items ≡ l.counter;
  faults : g.S.Source.faults l.source ≡ g.S.Source.faults l.fn.source;
}
