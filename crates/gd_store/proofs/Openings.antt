-- What each moment of an opening leaves.
use Rattle.std.proofs.Common.{◌≡◌, ◌∙◌, sym, ap, subst, ⊎_elim, false, arith, ◌≤◌, true, List, ℕ, Option, Some, None}
use Rattle.gd_disk.specs.Disk.{DiskState, Unchanged, IfTold, IsSynced}
use Rattle.gd_disk.specs.Runs.{LeavesOnly}
use Rattle.gd_disk.proofs.Runs.{and_then, at_end, weaker}
use Rattle.gd_store.proofs.Boots.{told_maps}
use Rattle.gd_store.specs.Booting.{IsFound}
use Rattle.gd_store.specs.Copy.{found_in}
use Rattle.gd_store.specs.Opening.{repairs_of}
use Rattle.gd_store.specs.Repair.{Repair, NoRepair, RepairA, RepairB, repair_needed, syncs_of_repair}
use Rattle.gd_store.specs.declared.copy.states.Found.{Found}
use Rattle.gd_store.specs.Copy.{boots}
use Rattle.gd_store.specs.OpenAnswer.{IsOpenable}
use Rattle.gd_store.specs.Writing.{From, KeepsBoot}
use Rattle.gd_store.specs.declared.copy.layout.Layout.{Layout}

-- reads, and then what keeps the boot of each image
pub kept_boot : (l : Layout) (old mid new : DiskState) → LeavesOnly old mid (From old Unchanged) → LeavesOnly mid new (KeepsBoot l mid) → LeavesOnly old new (KeepsBoot l old)
kept_boot l old mid new first second =
    and_then old mid new _ _ _ first second (λ c from. (from.0, from.1, ap (boots l) from.2)) (λ c keeps.
    let back = at_end old mid _ first keeps.0 keeps.1 in
    (back.0, back.1, keeps.2 ∙ ap (boots l) back.2))

-- reads alone
pub reads_keep_boot : (l : Layout) (old new : DiskState) → LeavesOnly old new (From old Unchanged) → LeavesOnly old new (KeepsBoot l old)
reads_keep_boot l old new run = weaker old new _ _ run (λ c from. (from.0, from.1, ap (boots l) from.2))

-- after reads of a disk that may be opened nothing waits for a sync
pub still_synced : (old new : DiskState) → IsOpenable old → old.is_on ≡ true → LeavesOnly old new (From old Unchanged) → new.seen ≡ old.seen → IsSynced new
still_synced old new openable on run seen c may =
    let back = at_end old new _ run c may in
    ⊎_elim (λ off. absurd (clash (sym on ∙ off))) (λ synced. seen ∙ synced back.0 back.1 ∙ ap Some (sym back.2)) openable
  where
    clash : true ≡ false → ⊥
    clash e = cc

-- of each image that is told
pub told_all : (seen : Option (List ℕ)) (P : List ℕ → Type 0) → ((c : List ℕ) → P c) → IfTold seen P
told_all None P all = tt
told_all (Some c) P all = all c

-- what is told of an image by what was found of it is so by the image
pub by_found : (l : Layout) (old : DiskState) (found : Found) (n : ℕ) (p : List ℕ) (P : ℕ → Type 0) → IfTold old.seen (λ image. IsFound l found image × (boots l image ≡ Some (n, p))) → P (syncs_of_repair (repair_needed found)) → IfTold old.seen (λ image. P (repairs_of l image))
by_found l old found n p P told here = told_maps old.seen _ _ (λ image seen is.
    let same : found ≡ found_in l image = λ i. record { a = is.0.0 i; b = is.0.1 i } in
    subst (λ (f : Found). P (syncs_of_repair (repair_needed f))) same here) told

-- a repair has at most three syncs
pub few_syncs : (r : Repair) → syncs_of_repair r ≤ 3
few_syncs NoRepair = omega arith
few_syncs RepairA = omega arith
few_syncs RepairB = omega arith
