-- What the core shows after an opening that isn't Ready.
use Rattle.std.specs.Prelude.{◌≡◌, ℕ, List, Option, Some, None}
use Rattle.gd_base.specs.Judging.Machine.{Machine}
use Rattle.gd_base.specs.Payloads.Spelled.{Shows}
use Rattle.gd_disk.specs.Disk.{IfTold}
use Rattle.gd_cabinet.specs.Shown.{shows}
use Rattle.gd_cabinet.specs.declared.opening.CabinetOpened.{CabinetOpened}

-- At Locked and Differs it's as after a clear. At Off it's as it was handed in where no copy was read, and else it shows
-- what the image shows that a read gave.
abbrev pub LeavesCore : {V C D W : Type 0} {g h i : _} → Machine V → (C → V) → C → CabinetOpened C D W g h i → Option (List ℕ) → Type 0
LeavesCore M view core (CabinetOpened.Ready cabinet found) seen = Unit {0}
LeavesCore M view core (CabinetOpened.Locked why found parts) seen = view parts.core ≡ M.empty
LeavesCore M view core (CabinetOpened.Differs kept found parts) seen = view parts.core ≡ M.empty
LeavesCore M view core (CabinetOpened.Off None parts) seen = parts.core ≡ core
LeavesCore M view core (CabinetOpened.Off (Some found) parts) seen = IfTold seen (λ image. shows M image ≡ Shows (view parts.core))
