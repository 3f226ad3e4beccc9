-- What a run of several calls leaves of the syncs, the armed cuts and the faults, for cuts of both units.
use Rattle.std.specs.Prelude.{◌≡◌, ◌⊎◌, ℕ, ◌+◌, ◌<◌, ◌≤◌, max, true, false, List, [], ◌∷◌, Result, OnOk, OnErr}
use Rattle.gd_disk.specs.Disk.{DiskState, Rose, later_cuts}
use Rattle.gd_disk.specs.Runs.{CutsLeft}
use Rattle.gd_disk.specs.declared.disk.CutUnit.{CutUnit}
use Rattle.gd_disk.specs.declared.disk.CutUnit.TheVariants.{Call, Sync}
use Rattle.gd_disk.specs.declared.disk.ArmedCut.{ArmedCut}

-- a run that succeeds makes all its syncs, and meets neither a cut nor a fault
pub record IsCompleteRun (syncs : ℕ) (old new : DiskState) : Type 0 where
  pub made : new.syncs ≡ old.syncs + syncs
  pub left : CutsLeft syncs old.armed new.armed
  pub no_fault : new.faults ≡ old.faults

-- A cut of this unit and count comes behind so many good syncs of a run. One that counts syncs comes at the next of
-- them, which the run was to make.
abbrev pub ComesBehind : ℕ → ℕ → CutUnit → ℕ → Type 0
ComesBehind done syncs Sync count = (max count 1 ≡ done + 1) × (done < syncs)
ComesBehind done syncs Call count = Unit {0}

-- there is a first armed cut, and it comes behind so many
abbrev pub FirstComes : ℕ → ℕ → List ArmedCut → Type 0
FirstComes done syncs [] = ⊥
FirstComes done syncs (cut ∷ later) = ComesBehind done syncs cut.unit cut.count

-- the first cut ended a run behind some of its syncs, and is used up
pub record IsCutOff (syncs : ℕ) (old new : DiskState) : Type 0 where
  pub done : ℕ
  pub within : done ≤ syncs
  pub made : new.syncs ≡ old.syncs + done
  pub came : FirstComes done syncs old.armed
  pub used : new.armed ≡ later_cuts old.armed
  pub no_fault : new.faults ≡ old.faults

-- a fault ended a run behind some of its syncs, and the cuts are as these left them
pub record IsFaulted (syncs : ℕ) (old new : DiskState) : Type 0 where
  pub done : ℕ
  pub within : done ≤ syncs
  pub made : new.syncs ≡ old.syncs + done
  pub left : CutsLeft done old.armed new.armed
  pub fault : Rose old.faults new.faults

-- a run that began with the power off made no sync, and met neither a cut nor a fault
pub record WasOff (old new : DiskState) : Type 0 where
  pub syncs : new.syncs ≡ old.syncs
  pub armed : new.armed ≡ old.armed
  pub faults : new.faults ≡ old.faults

-- a run of this many syncs: whole where it succeeds, else ended by its first cut or by a fault
pub record RunOf {T E : Type 0} (syncs : ℕ) (result : Result T E) (old new : DiskState) : Type 0 where
  pub whole : OnOk result (IsCompleteRun syncs old new)
  pub failed : OnErr result (old.is_on ≡ true → IsCutOff syncs old new ⊎ IsFaulted syncs old new)
  pub was_off : old.is_on ≡ false → WasOff old new
