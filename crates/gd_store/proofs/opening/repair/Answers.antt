use Rattle.std.proofs.Common.{rules, ◌≡◌}
use Rattle.gd_store.specs.Repair.{repair_needed, syncs_of_repair}
use Rattle.gd_disk.proofs.WholeRuns.{no_syncs}
use Rattle.gd_store.proofs.opening.repair.Goals as goal

pub returns-clause-run : goal.returns-clause-run
returns-clause-run g c =
    let none : syncs_of_repair (repair_needed c.args.found) ≡ 0 = search rules in
    no_syncs (syncs_of_repair (repair_needed c.args.found)) _ (g.D.Disk.state c.args.disk.now) none
