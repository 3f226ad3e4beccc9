-- What each moment of an opening leaves.
use Rattle.std.proofs.Common.{◌≡◌, ◌∙◌, ap, subst, inl, inr, ⊎_elim, ℕ, List, Option}
use Rattle.gd_disk.specs.Disk.{DiskState, IfTold, Unchanged}
use Rattle.gd_disk.specs.Runs.{LeavesOnly}
use Rattle.gd_disk.proofs.Runs.{and_then, at_end, weaker}
use Rattle.gd_base.specs.Judging.Machine.{Machine, Blocks}
use Rattle.gd_base.specs.Payloads.LoadedView.{opens}
use Rattle.gd_base.specs.Payloads.Spelled.{Shows}
use Rattle.gd_store.specs.Writing.{KeepsBoot, From}
use Rattle.gd_store.specs.declared.copy.layout.TheConstants.{LAYOUT}
use Rattle.gd_cabinet.specs.Shown.{shows, spelled_boot, ShowsEither}
use Rattle.gd_cabinet.specs.OpenMoments.{IsOpening, KeepsView, view_started}

-- what keeps the boot keeps the view
keeps_view : {V : Type 0} (M : Machine V) (s : DiskState) (c : List ℕ) → KeepsBoot LAYOUT s c → KeepsView M s c
keeps_view M s c keeps = (keeps.0, keeps.1, ap (λ (b : Option (ℕ × List ℕ)). opens M (spelled_boot M b)) keeps.2)

-- a repair alone
pub repair_moments : {V : Type 0} (M : Machine V) (blocks : Blocks) (lap : ℕ) (s0 s1 : DiskState) → LeavesOnly s0 s1 (KeepsBoot LAYOUT s0) → LeavesOnly s0 s1 (IsOpening M blocks lap s0)
repair_moments M blocks lap s0 s1 run = weaker s0 s1 _ _ run (λ c keeps. inl (keeps_view M s0 c keeps))

-- a repair, and then the start
pub opening_moments : {V : Type 0} (M N : Machine V) (blocks : Blocks) (lap : ℕ) (v : V) (s0 s1 s2 : DiskState) → N ≡ M → LeavesOnly s0 s1 (KeepsBoot LAYOUT s0) → LeavesOnly s1 s2 (ShowsEither N v (view_started N blocks lap v)) → IfTold s0.seen (λ image. shows M image ≡ Shows v) → LeavesOnly s0 s2 (IsOpening M blocks lap s0)
opening_moments M N blocks lap v s0 s1 s2 same first second told =
    and_then s0 s1 s2 _ _ _ first (subst (λ K. LeavesOnly s1 s2 (ShowsEither K v (view_started K blocks lap v))) same second) (λ c keeps. inl (keeps_view M s0 c keeps)) (λ c either. inr (v, told, either))

-- reads alone
pub reads_alone : {V : Type 0} (M : Machine V) (blocks : Blocks) (lap : ℕ) (s0 s1 : DiskState) → LeavesOnly s0 s1 (From s0 Unchanged) → LeavesOnly s0 s1 (IsOpening M blocks lap s0)
reads_alone M blocks lap s0 s1 run = weaker s0 s1 _ _ run (λ c from. inl (from.0, from.1, ap (shows M) from.2))

-- reads, and then an opening
pub reads_then : {V : Type 0} (M N : Machine V) (blocks : Blocks) (lap : ℕ) (s0 s1 s2 : DiskState) → N ≡ M → s1.seen ≡ s0.seen → LeavesOnly s0 s1 (From s0 Unchanged) → LeavesOnly s1 s2 (IsOpening N blocks lap s1) → LeavesOnly s0 s2 (IsOpening M blocks lap s0)
reads_then {V} M N blocks lap s0 s1 s2 same seen first second =
    and_then s0 s1 s2 _ _ _ first (subst (λ K. LeavesOnly s1 s2 (IsOpening K blocks lap s1)) same second) (λ c from. inl (from.0, from.1, ap (shows M) from.2)) (λ c opening. ⊎_elim
    (λ keeps. let back = at_end s0 s1 _ first keeps.0 keeps.1 in inl (back.0, back.1, keeps.2 ∙ ap (shows M) back.2))
    (λ late. inr (late.0, subst (λ (s : Option (List ℕ)). IfTold s (λ image. shows M image ≡ Shows late.0)) seen late.1, late.2))
    opening)
