-- The syncs of an opening, and the cuts that fall in it.
use Rattle.std.proofs.Common.{◌≡◌, ◌∙◌, sym, ap, ◌+◌, true, List, ℕ, Err}
use Rattle.gd_disk.specs.Disk.{DiskState, IfTold}
use Rattle.gd_disk.specs.CutRuns.{RunOf}
use Rattle.gd_disk.specs.Runs.{CutOrFaultIn}
use Rattle.gd_base.specs.Judging.Machine.{Machine}
use Rattle.gd_base.specs.Payloads.Spelled.{Shows}
use Rattle.gd_store.specs.Copy.{found_in}
use Rattle.gd_store.specs.Repair.{repair_needed, syncs_of_repair}
use Rattle.gd_store.specs.declared.copy.states.Found.{Found}
use Rattle.gd_store.specs.declared.copy.layout.TheConstants.{LAYOUT}
use Rattle.gd_store.proofs.RunLemmas.{cuts_of_run}
use Rattle.gd_cabinet.specs.Answers.{event_syncs}
use Rattle.gd_cabinet.specs.OpenMoments.{start_of, start_syncs, opening_syncs}
use Rattle.gd_cabinet.specs.OpenAnswer.{OnOff}
use Rattle.gd_cabinet.specs.OpenRuns.{RunsBy}
use Rattle.gd_cabinet.specs.Shown.{shows}
use Rattle.gd_cabinet.specs.declared.opening.CabinetOpened.{CabinetOpened}
use Rattle.gd_cabinet.proofs.Showing.{told_maps}

-- the syncs of the start on a view
abbrev pub starting : {V : Type 0} → Machine V → V → ℕ
starting M v = event_syncs M v (start_of M v)

-- an image whose boot was found and loaded has as many syncs as the repair and the start make
pub syncs_are : {V : Type 0} (M : Machine V) (found : Found) (v : V) (c : List ℕ) → found ≡ found_in LAYOUT c → shows M c ≡ Shows v → syncs_of_repair (repair_needed found) + starting M v ≡ opening_syncs M c
syncs_are M found v c same show =
    ap (λ (f : Found). syncs_of_repair (repair_needed f) + starting M v) same
    ∙ ap (λ s. syncs_of_repair (repair_needed (found_in LAYOUT c)) + start_syncs M s) (sym show)

-- why an opening failed that began with the power on
pub fault_of_run : {V : Type 0} (M : Machine V) (old new : DiskState) → IfTold old.seen (λ image. RunOf {T = Unit {0}} {E = Unit {0}} (opening_syncs M image) (Err tt) old new)
    → IfTold old.seen (λ image. old.is_on ≡ true → CutOrFaultIn (opening_syncs M image) old new)
fault_of_run M old new told = told_maps old.seen (λ image. RunOf {T = Unit {0}} {E = Unit {0}} (opening_syncs M image) (Err tt) old new) (λ image. old.is_on ≡ true → CutOrFaultIn (opening_syncs M image) old new)
    (λ image run. (cuts_of_run {T = Unit {0}} {E = Unit {0}} (opening_syncs M image) (Err tt) old new run).cause) told

pub cut_of_run : {V C D W : Type 0} {g h i : _} (r : CabinetOpened C D W g h i) (M : Machine V) (old new : DiskState) → IfTold old.seen (λ image. RunsBy r (opening_syncs M image) old new)
    → OnOff r (IfTold old.seen (λ image. old.is_on ≡ true → CutOrFaultIn (opening_syncs M image) old new))
cut_of_run (CabinetOpened.Ready cabinet found) M old new told = tt
cut_of_run (CabinetOpened.Locked why found parts) M old new told = tt
cut_of_run (CabinetOpened.Differs kept found parts) M old new told = tt
cut_of_run (CabinetOpened.Off found parts) M old new told = fault_of_run M old new told
