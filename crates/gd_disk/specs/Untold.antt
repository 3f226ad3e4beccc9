-- What a disk over a file means: it tells no content.
use Rattle.std.specs.Prelude.{◌≡◌, ℕ, List, [], length, Option, Some, None}
use Rattle.std.proofs.Common.{subst}
use Rattle.gd_disk.specs.Disk.{DiskState}
use Rattle.gd_disk.specs.declared.lengths.TheConstants.{DISK_LEN}
use Rattle.gd_disk.specs.declared.file_disk.FileDisk.{FileDisk}

-- no content is told
abbrev pub IsUntold : Option (List ℕ) → Type 0
IsUntold None = Unit {0}
IsUntold (Some image) = ⊥

-- so what is told of it is no image
pub none_told : (size : ℕ) (image : List ℕ) → None ≡ Some image → length image ≡ size
none_told size image is = absurd (subst IsUntold is tt)

-- a disk of the memory's length, of which no image is told
abbrev pub file_state : FileDisk → DiskState
file_state m = record {
  size = DISK_LEN;
  is_on = m.is_on;
  seen = None;
  may_find = λ c. ⊥;
  moment = 0;
  found_since = λ t c. ⊥;
  stops = m.stops;
  reads = m.reads;
  syncs = m.syncs;
  armed = [];
  found = [];
  faults = m.faults;
  whole = none_told DISK_LEN;
  only_now = λ c none. none;
  counts_now = λ t c le none. none;
}

-- a disk that has done nothing yet
pub record HasDoneNothing (disk : DiskState) : Type 0 where
  pub seen : disk.seen ≡ None
  pub stops : disk.stops ≡ 0
  pub reads : disk.reads ≡ 0
  pub syncs : disk.syncs ≡ 0
  pub faults : disk.faults ≡ 0
