use Rattle.std.proofs.Common.{◌≡◌, ◌≤◌, ◌-◌, length}
use Rattle.std.specs.Io.KnownBytes.{Consumes}
use Rattle.gd_top.specs.declared.command.setup.TheConstants.{MOST_TAKEN}
use Rattle.gd_top.proofs.command.setup.take_front.Given as goal

-- these bytes were taken, and nothing failed
abbrev pub invariant-loop-piece : goal.invariant-loop-piece
invariant-loop-piece g l = record {
  taken : Consumes (g.C.Source.left l.fn.file) (g.C.Source.left l.file) l.bytes.items;
  most : length l.bytes.items ≤ MOST_TAKEN;
  faults : g.C.Source.faults l.file ≡ g.C.Source.faults l.fn.file;
}

abbrev pub decreases-loop-piece : goal.decreases-loop-piece
decreases-loop-piece g l = MOST_TAKEN - length l.bytes.items
