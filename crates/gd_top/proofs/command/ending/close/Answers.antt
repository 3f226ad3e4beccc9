use Rattle.std.proofs.Common.{◌≡◌, sym, subst, refl, false}
use Rattle.gd_disk.specs.Disk.{IsSynced}
use Rattle.gd_top.specs.Claims.MemoryLeft.{IsAtRest, IsSettled}
use Rattle.gd_top.specs.Code.Memory.{memory_disk, memory_phase, memory_stopped}
use Rattle.gd_top.specs.Run.State.{Off, Locked}
use Rattle.gd_top.proofs.command.ending.close.Goals as goal

pub returns-in-On-clause-at_rest : goal.returns-in-On-clause-at_rest
returns-in-On-clause-at_rest g c =
    λ runs settled synced.
    subst (λ m. IsAtRest (memory_phase m) (g.D.Disk.state c.close.result.disk)) (sym c.in-On.is)
    (c.close.ensures.synced (subst (λ m. memory_stopped m ≡ false) c.in-On.is runs))

pub returns-in-Off-clause-at_rest : goal.returns-in-Off-clause-at_rest
returns-in-Off-clause-at_rest g c =
    λ runs settled synced.
    subst (λ m. IsAtRest (memory_phase m) (g.D.Disk.state c.in-Off.parts.disk)) (sym c.in-Off.is)
    (subst (λ m. memory_phase m ≡ Off → IsSettled (g.D.Disk.state (memory_disk m))) c.in-Off.is settled refl)

pub returns-in-Locked-clause-at_rest : goal.returns-in-Locked-clause-at_rest
returns-in-Locked-clause-at_rest g c =
    λ runs settled synced.
    subst (λ m. IsAtRest (memory_phase m) (g.D.Disk.state c.in-Locked.parts.disk)) (sym c.in-Locked.is)
    (subst (λ m. memory_phase m ≡ Locked → IsSynced (g.D.Disk.state (memory_disk m))) c.in-Locked.is synced refl)
