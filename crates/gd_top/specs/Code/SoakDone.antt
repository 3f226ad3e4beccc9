-- How far the items of a soak have come, and how they ended.
use Rattle.std.specs.Prelude.{◌≡◌, ◌⊎◌, ◌≤◌, ℕ, List, codes, Result, Ok, Err}
use Rattle.gd_base.specs.Judging.Machine.{Machine}
use Rattle.gd_disk.specs.Disk.{DiskState}
use Rattle.gd_top.specs.Claims.Soak.{soak_lines}
use Rattle.gd_top.specs.Code.LinesDone.{IsFailedMaking, Telling, made_outside}
use Rattle.gd_top.specs.Code.Memory.{Moment, Fits, Serves, outside}
use Rattle.gd_top.specs.Code.Parts.{Outside, CarriesBy}
use Rattle.gd_top.specs.Code.Standing.{Standing, first_standing}
use Rattle.gd_top.specs.Run.Items.{lines_meaning}
use Rattle.gd_top.specs.Run.Life.{run_meaning, soak_summary}
use Rattle.gd_top.specs.Run.State.{Phase, On}
use Rattle.gd_top.specs.declared.halt.Halt.{Halt}
use Rattle.gd_top.specs.declared.status.Status.{Status}

-- So many of the items were carried out: all, or those up to the one that ended the run.
pub record ItemsDone {V : Type 0} (M : Machine V) (tell : Telling V) (count seed : ℕ) (ended : Result (Unit {0}) Halt) (was stands : Standing V) (old new : Outside) (disk : DiskState) : Type 0 where
  pub items : ℕ
  pub few : items ≤ count
  pub all : ended ≡ Ok tt → items ≡ count
  pub carried : CarriesBy ended M (tell (soak_lines items seed)) was stands old new disk

-- the items, once the memory is open, in each standing that fits
abbrev pub ItemsOver : {V : Type 0} → (count seed : ℕ) → Result (Unit {0}) Halt → (was now : Moment V) → Type 0
ItemsOver {V} count seed ended was now = (s : Standing V) → Fits s was
    → (t : Standing V) × (Serves ended → Fits t now)
    × ItemsDone was.machine (lines_meaning was.machine was.blocks) count seed ended s t (outside was) (outside now) now.disk

-- a whole soak: the making of a memory, its opening and the items
abbrev pub SoakRun : {V : Type 0} → (count seed : ℕ) → Result (Unit {0}) Halt → (was now : Moment V) → Type 0
SoakRun {V} count seed ended was now = IsFailedMaking ended was now
    ⊎ ((t : Standing V) × (Serves ended → Fits t now)
    × ItemsDone was.machine (run_meaning was.machine was.blocks) count seed ended (first_standing was.machine) t (made_outside was) (outside now) now.disk)

-- how a soak can end: with all items carried out and the memory open, or where the disk failed
abbrev pub IsSoakEnd : Result (Unit {0}) Halt → Phase → Type 0
IsSoakEnd (Ok done) phase = phase ≡ On
IsSoakEnd (Err Halt.DiskFault) phase = Unit {0}
IsSoakEnd (Err _) phase = ⊥

-- what it prints then, with so many power-ons and this view
abbrev pub soak_text : {V : Type 0} → Machine V → (items power_ons : ℕ) → V → Result (Unit {0}) Halt → List ℕ
soak_text M items power_ons v (Ok done) = soak_summary M items power_ons v
soak_text M items power_ons v (Err halt) = codes "disk fault\n"

-- and its status, where the sink takes it
abbrev pub soak_status : Result (Unit {0}) Halt → Status
soak_status (Ok done) = Status.Done
soak_status (Err halt) = Status.DiskFault
