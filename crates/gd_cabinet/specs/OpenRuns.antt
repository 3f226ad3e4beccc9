-- What an opening leaves of the syncs, the armed cuts and the faults, by what it answers.
use Rattle.std.specs.Prelude.{◌≡◌, ◌≤◌, ◌+◌, ℕ, true, Some, None, Err}
use Rattle.gd_base.specs.Judging.Machine.{Machine, Blocks}
use Rattle.gd_base.specs.Payloads.Spelled.{Shows}
use Rattle.gd_disk.specs.CutRuns.{IsCompleteRun, RunOf}
use Rattle.gd_disk.specs.Disk.{DiskState, Answers, next_count}
use Rattle.gd_store.specs.Reads.{HasReadFewer}
use Rattle.gd_store.specs.Repair.{repair_needed, syncs_of_repair}
use Rattle.gd_cabinet.specs.OpenMoments.{view_started, start_syncs}
use Rattle.gd_cabinet.specs.Cabinet.{cabinet_core}
use Rattle.gd_cabinet.specs.declared.opening.CabinetOpened.{CabinetOpened}

-- a run of this many syncs, which is whole at Ready; where the memory is shut, a whole one of none
abbrev pub RunsBy : {C D W : Type 0} {g h i : _} → CabinetOpened C D W g h i → ℕ → DiskState → DiskState → Type 0
RunsBy (CabinetOpened.Ready cabinet found) syncs old new = IsCompleteRun syncs old new
RunsBy (CabinetOpened.Locked why found parts) syncs old new = IsCompleteRun 0 old new
RunsBy (CabinetOpened.Differs kept found parts) syncs old new = IsCompleteRun 0 old new
RunsBy (CabinetOpened.Off found parts) syncs old new = RunOf {T = Unit {0}} {E = Unit {0}} syncs (Err tt) old new

-- The same for a disk that doesn't tell its content: at Ready the syncs of the repair and those of the start on the view that
-- was read, else at most those of one repair, or of that and a start.
abbrev pub OpeningRun : {V C D W : Type 0} {g h i : _} → Machine V → (C → V) → Blocks → ℕ → CabinetOpened C D W g h i → DiskState → DiskState → Type 0
OpeningRun M view blocks lap (CabinetOpened.Ready cabinet found) old new =
    (v : _) × (view (cabinet_core cabinet) ≡ view_started M blocks lap v) × IsCompleteRun (syncs_of_repair (repair_needed found) + start_syncs M (Shows v)) old new
OpeningRun M view blocks lap (CabinetOpened.Locked why found parts) old new = (syncs : ℕ) × (syncs ≤ 3) × IsCompleteRun syncs old new
OpeningRun M view blocks lap (CabinetOpened.Differs kept found parts) old new = (syncs : ℕ) × (syncs ≤ 3) × IsCompleteRun syncs old new
OpeningRun M view blocks lap (CabinetOpened.Off found parts) old new = RunOf {T = Unit {0}} {E = Unit {0}} 9 (Err tt) old new

-- the first reading of the copies, which needs the power on: both of its reads were good
pub record HasRead (old new : DiskState) : Type 0 where
  pub was_on : old.is_on ≡ true
  pub reads : next_count (next_count old.reads) ≤ new.reads

-- it failed: none of its reads was good, or one
pub record HasNotRead (old new : DiskState) : Type 0 where
  pub answer : Answers {T = Unit {0}} {E = Unit {0}} (Err tt) old new
  pub run : RunOf {T = Unit {0}} {E = Unit {0}} 0 (Err tt) old new
  pub reads : HasReadFewer old.reads new.reads

-- At Off nothing is found where the first reading failed. Every other answer comes after both copies were read.
abbrev pub FirstReading : {C D W : Type 0} {g h i : _} → CabinetOpened C D W g h i → DiskState → DiskState → Type 0
FirstReading (CabinetOpened.Ready cabinet found) old new = HasRead old new
FirstReading (CabinetOpened.Locked why found parts) old new = HasRead old new
FirstReading (CabinetOpened.Differs kept found parts) old new = HasRead old new
FirstReading (CabinetOpened.Off None parts) old new = HasNotRead old new
FirstReading (CabinetOpened.Off (Some found) parts) old new = HasRead old new
