use Rattle.std.proofs.Common.{◌≡◌, ◌*◌, length, take, Ok}
use Rattle.gd_disk.specs.CutRuns.{IsCompleteRun}
use Rattle.gd_disk.specs.Disk.{Answers, seen_with_bytes}
use Rattle.gd_disk.specs.Runs.{LeavesOnly}
use Rattle.gd_disk.specs.declared.lengths.TheConstants.{PAGE_LEN}
use Rattle.gd_store.specs.Changes.{KeepsPages}
use Rattle.gd_store.specs.Writing.{From}
use Rattle.gd_store.proofs.copy.changing.write_pages.Given as goal

abbrev pub invariant-loop-i : goal.invariant-loop-i
invariant-loop-i g l = record {
  seen : (g.D.Disk.state l.disk).seen ≡ seen_with_bytes l.at (take (PAGE_LEN * l.i) l.payload) (g.D.Disk.state l.fn.disk).seen;
  moments : LeavesOnly (g.D.Disk.state l.fn.disk) (g.D.Disk.state l.disk) (From (g.D.Disk.state l.fn.disk) (KeepsPages l.at (length l.payload) l.at l.changed));
  answer : Answers {T = Unit {0}} {E = Unit {0}} (Ok tt) (g.D.Disk.state l.fn.disk) (g.D.Disk.state l.disk);
  run : IsCompleteRun 0 (g.D.Disk.state l.fn.disk) (g.D.Disk.state l.disk);
  reads : (g.D.Disk.state l.disk).reads ≡ (g.D.Disk.state l.fn.disk).reads;
}
