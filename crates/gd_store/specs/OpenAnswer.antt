-- What the opening of a store answers.
use Rattle.std.specs.Prelude.{◌≡◌, ◌⊎◌, false, Result, Ok, Err}
use Rattle.gd_disk.specs.Disk.{DiskState, IsSynced}
use Rattle.gd_disk.specs.CutRuns.{IsCompleteRun, RunOf}
use Rattle.gd_store.specs.Repair.{repair_needed, syncs_of_repair}
use Rattle.gd_store.specs.declared.copy.states.Found.{Found}
use Rattle.gd_store.specs.declared.room.Room.{Room}
use Rattle.gd_store.specs.declared.store.Store.{Store}
use Rattle.gd_store.specs.declared.opening.Opened.{Opened}

-- off, or with nothing that waits for a sync
abbrev pub IsOpenable : DiskState → Type 0
IsOpenable disk = (disk.is_on ≡ false) ⊎ IsSynced disk

-- the disk and the room that an answer holds
abbrev pub disk_in : {D : Type 0} {g : _} → Opened D g → D
disk_in (Opened.Ready store found) = store.disk
disk_in (Opened.Lost found disk room) = disk
disk_in (Opened.Off disk room) = disk

abbrev pub room_in : {D : Type 0} {g : _} → Opened D g → Room
room_in (Opened.Ready store found) = store.room
room_in (Opened.Lost found disk room) = room
room_in (Opened.Off disk room) = room

-- Off is a failure
abbrev pub outcome : {D : Type 0} {g : _} → Opened D g → Result (Unit {0}) (Unit {0})
outcome (Opened.Ready store found) = Ok tt
outcome (Opened.Lost found disk room) = Ok tt
outcome (Opened.Off disk room) = Err tt

-- a fact of the store and of what was found, where there is a store
abbrev pub OnReady : {D : Type 0} {g : _} → Opened D g → (Store D g → Found → Type 0) → Type 0
OnReady (Opened.Ready store found) P = P store found
OnReady (Opened.Lost found disk room) P = Unit {0}
OnReady (Opened.Off disk room) P = Unit {0}

-- a fact of what was found, where nothing could be booted
abbrev pub OnLost : {D : Type 0} {g : _} → Opened D g → (Found → Type 0) → Type 0
OnLost (Opened.Ready store found) P = Unit {0}
OnLost (Opened.Lost found disk room) P = P found
OnLost (Opened.Off disk room) P = Unit {0}

-- What an opening leaves of the syncs, the armed cuts and the faults, by what it answers: a whole run with the syncs of the
-- repair, or of none, or a run of at most three that failed.
abbrev pub OpeningRun : {D : Type 0} {g : _} → Opened D g → DiskState → DiskState → Type 0
OpeningRun (Opened.Ready store found) old new = IsCompleteRun (syncs_of_repair (repair_needed found)) old new
OpeningRun (Opened.Lost found disk room) old new = IsCompleteRun 0 old new
OpeningRun (Opened.Off disk room) old new = RunOf {T = Unit {0}} {E = Unit {0}} 3 (Err tt) old new
