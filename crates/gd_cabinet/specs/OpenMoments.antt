-- What the opening of a memory leaves at each moment, and how many syncs it makes.
use Rattle.std.specs.Prelude.{◌≡◌, ◌⊎◌, ℕ, ◌+◌, List}
use Rattle.gd_disk.specs.Disk.{DiskState, IfTold}
use Rattle.gd_base.specs.Judging.Machine.{Machine, Blocks}
use Rattle.gd_base.specs.Payloads.Spelled.{Spelled, Shows, Foreign, Unreadable}
use Rattle.gd_base.specs.declared.device.Device.{Device}
use Rattle.gd_base.specs.declared.event.Event.{Event}
use Rattle.gd_base.specs.declared.step.Numbered.{Numbered}
use Rattle.gd_store.specs.Copy.{found_in}
use Rattle.gd_store.specs.Repair.{repair_needed, syncs_of_repair}
use Rattle.gd_store.specs.declared.copy.layout.TheConstants.{LAYOUT}
use Rattle.gd_cabinet.specs.Answers.{view_offered, event_syncs}
use Rattle.gd_cabinet.specs.Shown.{shows, ShowsEither}

-- the start, under the next number of the power supply
abbrev pub start_of : {V : Type 0} → Machine V → V → Numbered
start_of M v = record { number = M.last v Device.Power + 1; event = Event.Start }

-- the view after the start was offered
abbrev pub view_started : {V : Type 0} → Machine V → Blocks → ℕ → V → V
view_started M blocks lap v = view_offered M blocks lap v (start_of M v)

-- an image that shows what one that may be found before shows
abbrev pub KeepsView : {V : Type 0} → Machine V → DiskState → List ℕ → Type 0
KeepsView M old image = (d : List ℕ) × old.may_find d × (shows M image ≡ shows M d)

-- an image of an opening: it shows what one before shows, or the view that a read showed, or this view after the start
abbrev pub IsOpening : {V : Type 0} → Machine V → Blocks → ℕ → DiskState → List ℕ → Type 0
IsOpening M blocks lap old image = KeepsView M old image
    ⊎ ((v : _) × IfTold old.seen (λ seen. shows M seen ≡ Shows v) × ShowsEither M v (view_started M blocks lap v) image)

-- how many syncs the start makes on what an image shows: none where it isn't a view under the given setup
abbrev pub start_syncs : {V : Type 0} → Machine V → Spelled V → ℕ
start_syncs M (Shows v) = event_syncs M v (start_of M v)
start_syncs M (Foreign kept) = 0
start_syncs M Unreadable = 0

-- how many syncs the opening of an image makes: those of the repair and of the start
abbrev pub opening_syncs : {V : Type 0} → Machine V → List ℕ → ℕ
opening_syncs M image = syncs_of_repair (repair_needed (found_in LAYOUT image)) + start_syncs M (shows M image)
