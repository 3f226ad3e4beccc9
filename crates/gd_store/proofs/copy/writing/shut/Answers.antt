use Rattle.std.proofs.Common.{◌≡◌, length, ◌∙◌, get_or, arith}
use Rattle.gd_disk.specs.Disk.{Torn}
use Rattle.gd_disk.proofs.Runs.{weaker}
use Rattle.gd_store.specs.Writing.{IsShutting, From}
use Rattle.gd_store.proofs.CopyMoments.{told, shutting}
use Rattle.gd_disk.proofs.WholeRuns.{of_sync}
use Rattle.gd_store.proofs.copy.writing.shut.Goals as goal

pub returns-then-gate-eq-OPEN-clause-any_moment : goal.returns-then-gate-eq-OPEN-clause-any_moment
returns-then-gate-eq-OPEN-clause-any_moment g c =
    let old = g.D.Disk.state c.args.disk.now in
    weaker old (g.D.Disk.state c.write_synced.new.disk) (From old (Torn c.args.at 1)) (From old (IsShutting c.args.at)) c.write_synced.ensures.any_moment
    (λ i from.
    let is_open : get_or from.0 c.args.at 0 ≡ 0xA5 = told old (λ image. get_or image c.args.at 0 ≡ c.args.gate) from.0 c.requires.synced from.1 c.requires.gate ∙ c.if-gate-eq-OPEN.true in
    let long : length from.0 ≡ old.size = old.whole from.0 (c.requires.synced from.0 from.1) in
    (from.0, from.1, shutting c.args.at from.0 i (omega (arith, long, c.requires.within)) is_open from.2))

pub returns-else-gate-eq-OPEN-clause-run : goal.returns-else-gate-eq-OPEN-clause-run
returns-else-gate-eq-OPEN-clause-run g c = of_sync c.sync.result (g.D.Disk.state c.args.disk.now) (g.D.Disk.state c.sync.new.self) c.sync.ensures.syncs c.sync.ensures.no_sync c.sync.ensures.cuts c.sync.ensures.answer
