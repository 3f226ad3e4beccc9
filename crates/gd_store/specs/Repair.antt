-- Which copy an opening writes anew.
use Rattle.std.specs.Prelude.{ℕ, ◌==◌, nat_lt, if◌then◌else◌}
use Rattle.gd_store.specs.declared.copy.states.Found.{Found}
use Rattle.gd_store.specs.declared.copy.states.CopyState.{CopyState}
use Rattle.gd_disk.specs.declared.side.Side.{Side}

-- the other one of the two copies
abbrev pub other_side : Side → Side
other_side Side.A = Side.B
other_side Side.B = Side.A

-- a copy, or none
pub data Repair : Type 0 where
  NoRepair : Repair
  RepairA : Repair
  RepairB : Repair

-- of two copies in these states, the one that isn't sound, or else the one with the earlier sequence; none where nothing can be booted
abbrev pub repair_of : CopyState → CopyState → Repair
repair_of (CopyState.Sound m) (CopyState.Sound n) = if m == n then NoRepair else if nat_lt m n then RepairA else RepairB
repair_of (CopyState.Sound m) (CopyState.Bad why) = RepairB
repair_of (CopyState.Bad why) (CopyState.Sound n) = RepairA
repair_of (CopyState.Bad why) (CopyState.Bad other) = NoRepair

-- of what was found
abbrev pub repair_needed : Found → Repair
repair_needed found = repair_of found.a found.b

-- how many syncs it makes
abbrev pub syncs_of_repair : Repair → ℕ
syncs_of_repair NoRepair = 0
syncs_of_repair RepairA = 3
syncs_of_repair RepairB = 3
