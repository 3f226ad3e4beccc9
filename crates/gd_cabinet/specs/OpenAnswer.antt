-- What the opening of a memory answers.
use Rattle.std.specs.Prelude.{◌≡◌, ℕ, List, Some, None, IfSome}
use Rattle.gd_base.specs.Judging.Machine.{Machine, Blocks}
use Rattle.gd_base.specs.Payloads.LoadedView.{at_sequence}
use Rattle.gd_base.specs.Payloads.Spelled.{Shows, Foreign, Unreadable}
use Rattle.gd_store.specs.Copy.{boots, found_in}
use Rattle.gd_store.specs.declared.copy.layout.TheConstants.{LAYOUT}
use Rattle.gd_store.specs.declared.copy.states.Found.{Found}
use Rattle.gd_cabinet.specs.OpenMoments.{view_started}
use Rattle.gd_cabinet.specs.Shown.{shows}
use Rattle.gd_cabinet.specs.Cabinet.{cabinet_core, cabinet_disk, cabinet_draws}
use Rattle.gd_cabinet.specs.declared.cabinet.Cabinet.{Cabinet}
use Rattle.gd_cabinet.specs.declared.opening.Locked.{Locked}
use Rattle.gd_cabinet.specs.declared.opening.CabinetOpened.{CabinetOpened}

-- the disk, the core and the source of blocks that an answer gives back, in the cabinet or beside it
abbrev pub disk_in : {C D W : Type 0} {g h i : _} → CabinetOpened C D W g h i → D
disk_in (CabinetOpened.Ready cabinet found) = cabinet_disk cabinet
disk_in (CabinetOpened.Locked why found parts) = parts.disk
disk_in (CabinetOpened.Differs kept found parts) = parts.disk
disk_in (CabinetOpened.Off found parts) = parts.disk

abbrev pub core_in : {C D W : Type 0} {g h i : _} → CabinetOpened C D W g h i → C
core_in (CabinetOpened.Ready cabinet found) = cabinet_core cabinet
core_in (CabinetOpened.Locked why found parts) = parts.core
core_in (CabinetOpened.Differs kept found parts) = parts.core
core_in (CabinetOpened.Off found parts) = parts.core

abbrev pub draws_in : {C D W : Type 0} {g h i : _} → CabinetOpened C D W g h i → W
draws_in (CabinetOpened.Ready cabinet found) = cabinet_draws cabinet
draws_in (CabinetOpened.Locked why found parts) = parts.draws
draws_in (CabinetOpened.Differs kept found parts) = parts.draws
draws_in (CabinetOpened.Off found parts) = parts.draws

-- a fact of an answer Ready
abbrev pub OnReady : {C D W : Type 0} {g h i : _} → CabinetOpened C D W g h i → (Cabinet C D W g h i → Found → Type 0) → Type 0
OnReady (CabinetOpened.Ready cabinet found) P = P cabinet found
OnReady (CabinetOpened.Locked why found parts) P = Unit {0}
OnReady (CabinetOpened.Differs kept found parts) P = Unit {0}
OnReady (CabinetOpened.Off found parts) P = Unit {0}

-- a fact of an answer Locked or Differs
abbrev pub OnShut : {C D W : Type 0} {g h i : _} → CabinetOpened C D W g h i → Type 0 → Type 0
OnShut (CabinetOpened.Ready cabinet found) P = Unit {0}
OnShut (CabinetOpened.Locked why found parts) P = P
OnShut (CabinetOpened.Differs kept found parts) P = P
OnShut (CabinetOpened.Off found parts) P = Unit {0}

-- a fact of an answer Off
abbrev pub OnOff : {C D W : Type 0} {g h i : _} → CabinetOpened C D W g h i → Type 0 → Type 0
OnOff (CabinetOpened.Ready cabinet found) P = Unit {0}
OnOff (CabinetOpened.Locked why found parts) P = Unit {0}
OnOff (CabinetOpened.Differs kept found parts) P = Unit {0}
OnOff (CabinetOpened.Off found parts) P = P

-- a fact of an answer Off to a memory whose copies could not be read
abbrev pub OnUnread : {C D W : Type 0} {g h i : _} → CabinetOpened C D W g h i → Type 0 → Type 0
OnUnread (CabinetOpened.Ready cabinet found) P = Unit {0}
OnUnread (CabinetOpened.Locked why found parts) P = Unit {0}
OnUnread (CabinetOpened.Differs kept found parts) P = Unit {0}
OnUnread (CabinetOpened.Off None parts) P = P
OnUnread (CabinetOpened.Off (Some found) parts) P = Unit {0}

-- why an image is locked
abbrev pub IsLocked : {V : Type 0} → Machine V → Locked → List ℕ → Type 0
IsLocked M Locked.Lost image = boots LAYOUT image ≡ None
IsLocked M Locked.Unreadable image = (booted : ℕ × List ℕ) × (boots LAYOUT image ≡ Some booted) × (at_sequence M booted.0 (M.spelled booted.1) ≡ Unreadable)

-- an answer about the image that a read gives: the states of its copies, and what it shows
abbrev pub OpenedAs : {V C D W : Type 0} {g h i : _} → Machine V → (C → V) → Blocks → ℕ → CabinetOpened C D W g h i → List ℕ → Type 0
OpenedAs M view blocks lap (CabinetOpened.Ready cabinet found) image =
    (found ≡ found_in LAYOUT image) × ((v : _) × (shows M image ≡ Shows v) × (view (cabinet_core cabinet) ≡ view_started M blocks lap v))
OpenedAs M view blocks lap (CabinetOpened.Locked why found parts) image = (found ≡ found_in LAYOUT image) × IsLocked M why image
OpenedAs M view blocks lap (CabinetOpened.Differs kept found parts) image = (found ≡ found_in LAYOUT image) × (shows M image ≡ Foreign kept)
OpenedAs M view blocks lap (CabinetOpened.Off found parts) image = IfSome found (λ f. f ≡ found_in LAYOUT image)
