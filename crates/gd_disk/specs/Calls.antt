-- What each disk and each laboratory ensures of a call, in one fact a call: the clauses of `Disk` and of `LabDisk`.
use Rattle.std.specs.Prelude.{◌≡◌, ℕ, ◌+◌, ◌-◌, ◌^◌, ◌<◌, true, false, List, [], ◌∷◌, ◌++◌, length, take, drop, OnOk, OnErr, Result}
use Rattle.gd_disk.specs.Disk.{DiskState, IfTold, seen_with_bytes, Torn, Unchanged, Altered, Loses, IsSynced, Answers, CountsCuts, KeepsCounts, HasFound, Rose, next_count}
use Rattle.gd_disk.specs.declared.disk.ArmedCut.{ArmedCut}

-- a read from a place on, into a room that is then filled
pub record IsRead {T E : Type 0} (at : ℕ) (room filled : List ℕ) (result : Result T E) (old new : DiskState)
    : Type 0 where
  pub given : OnOk result (IfTold old.seen (λ image. filled ≡ take (length room) (drop at image)))
  pub seen : OnOk result (new.seen ≡ old.seen)
  pub loss : Loses Unchanged old new
  pub answer : Answers result old new
  pub counted : OnOk result (new.reads ≡ next_count old.reads)
  pub uncounted : OnErr result (new.reads ≡ old.reads)
  pub syncs : new.syncs ≡ old.syncs
  pub armed : new.armed ≡ old.armed
  pub fault : OnErr result (old.is_on ≡ true → Rose old.faults new.faults)
  pub no_fault : old.is_on ≡ false → new.faults ≡ old.faults

-- a write of bytes at a place
pub record IsWrite {T E : Type 0} (at : ℕ) (bytes : List ℕ) (result : Result T E) (old new : DiskState) : Type 0 where
  pub seen : OnOk result (new.seen ≡ seen_with_bytes at bytes old.seen)
  pub loss : Loses (Torn at (length bytes)) old new
  pub answer : Answers result old new
  pub reads : new.reads ≡ old.reads
  pub syncs : new.syncs ≡ old.syncs
  pub cuts : CountsCuts false result old new

-- a sync
pub record IsSync {T E : Type 0} (result : Result T E) (old new : DiskState) : Type 0 where
  pub seen : OnOk result (new.seen ≡ old.seen)
  pub synced : OnOk result (IsSynced new)
  pub loss : Loses Unchanged old new
  pub answer : Answers result old new
  pub reads : new.reads ≡ old.reads
  pub syncs : OnOk result (new.syncs ≡ old.syncs + 1)
  pub last : OnOk result (old.syncs < 2 ^ 64 - 1)
  pub no_sync : OnErr result (new.syncs ≡ old.syncs)
  pub cuts : CountsCuts true result old new

-- a cut is armed behind the others
pub record IsArm (cut : ArmedCut) (old new : DiskState) : Type 0 where
  pub armed : new.armed ≡ old.armed ++ cut ∷ []
  pub power : new.is_on ≡ old.is_on
  pub seen : new.seen ≡ old.seen
  pub loss : Loses Unchanged old new
  pub counts : KeepsCounts old new
  pub found : new.found ≡ old.found
  pub faults : new.faults ≡ old.faults

-- the power is turned off
pub record IsPowerOff (old new : DiskState) : Type 0 where
  pub power : new.is_on ≡ false
  pub loss : Loses Unchanged old new
  pub counts : KeepsCounts old new
  pub armed : new.armed ≡ old.armed
  pub found : new.found ≡ old.found
  pub faults : new.faults ≡ old.faults

-- the power is turned on
pub record IsPowerOn {T E : Type 0} (result : Result T E) (old new : DiskState) : Type 0 where
  pub power : OnOk result (new.is_on ≡ true)
  pub found : OnOk result (HasFound old new)
  pub synced : OnOk result (IsSynced new)
  pub no_fault : OnOk result (new.faults ≡ old.faults)
  pub stays_off : OnErr result (new.is_on ≡ false)
  pub none_found : OnErr result (new.found ≡ old.found)
  pub fault : OnErr result (Rose old.faults new.faults)
  pub loss : Loses Unchanged old new
  pub counts : KeepsCounts old new
  pub armed : new.armed ≡ old.armed

-- a byte is combined with a mask
pub record IsAlter (at mask : ℕ) (old new : DiskState) : Type 0 where
  pub power : new.is_on ≡ false
  pub loss : Loses (Altered at mask) old new
  pub counts : KeepsCounts old new
  pub armed : new.armed ≡ old.armed
  pub found : new.found ≡ old.found
  pub faults : new.faults ≡ old.faults
