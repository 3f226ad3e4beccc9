-- Doors and tilts, and the condition that locks the machine up.
use Rattle.std.specs.Prelude.{ℕ, zero, suc, Bool, true, false, is_some, if◌then◌else◌, List, [], ◌∷◌, Option, Some, None}
use Rattle.std.specs.List.{find}
use Rattle.gd_base.specs.declared.condition.Condition.{Condition}
use Rattle.gd_base.specs.declared.condition.Door.{Door}
use Rattle.gd_base.specs.declared.event.Event.{Event}
use Rattle.gd_base.specs.declared.condition.Tilt.{Tilt}
use Rattle.gd_base.specs.Histories.Entry.{Entry}
use Rattle.gd_base.specs.Histories.Numbers.{is_door, is_tilt, door_place, tilt_place}
use Rattle.gd_base.specs.Histories.History.{Origin, latest}
use Rattle.gd_base.specs.Histories.View.{View}

abbrev pub doors : List Door
doors = Door.Logic ∷ Door.Main ∷ Door.Cashbox ∷ Door.Drop ∷ []

abbrev pub tilts : List Tilt
tilts = Tilt.BillJam ∷ Tilt.CoinJam ∷ Tilt.StackerFull ∷ Tilt.PaperOut ∷ Tilt.PrintFail ∷ Tilt.HopperEmpty ∷ []

-- whether the flag at a place is true
abbrev pub flag_at : List Bool → ℕ → Bool
flag_at [] n = false
flag_at (b ∷ bs) zero = b
flag_at (b ∷ bs) (suc n) = flag_at bs n

abbrev pub says_door : Door → Event → Option Bool
says_door d (Event.DoorOpen door) = if is_door door d then Some true else None
says_door d (Event.DoorShut door) = if is_door door d then Some false else None
says_door d _ = None

-- a door is open where the latest entry about it is its opening
abbrev pub is_open : Origin → Door → List Entry → Bool
is_open o d past = latest (λ e past. says_door d e.event) (flag_at o.opening.doors (door_place d)) past

-- the tilt that an event raises
abbrev pub raised_tilt : Event → Option Tilt
raised_tilt Event.BillJam = Some Tilt.BillJam
raised_tilt Event.CoinJam = Some Tilt.CoinJam
raised_tilt Event.StackerFull = Some Tilt.StackerFull
raised_tilt Event.PaperOut = Some Tilt.PaperOut
raised_tilt (Event.PrintFail order) = Some Tilt.PrintFail
raised_tilt (Event.HopperEmpty order) = Some Tilt.HopperEmpty
raised_tilt _ = None

abbrev pub says_raised : Tilt → Option Tilt → Option Bool
says_raised t None = None
says_raised t (Some tilt) = if is_tilt tilt t then Some true else None

abbrev pub says_tilt : Tilt → Event → Option Bool
says_tilt t (Event.ClearTilt tilt) = if is_tilt tilt t then Some false else None
says_tilt t e = says_raised t (raised_tilt e)

-- a tilt stands where the latest entry about it raises it
abbrev pub has_tilt : Origin → Tilt → List Entry → Bool
has_tilt o t past = latest (λ e past. says_tilt t e.event) (flag_at o.opening.tilts (tilt_place t)) past

abbrev pub holds : View → Condition → Bool
holds v Condition.LogicDoor = flag_at v.doors 0
holds v Condition.MainDoor = flag_at v.doors 1
holds v Condition.CashboxDoor = flag_at v.doors 2
holds v Condition.DropDoor = flag_at v.doors 3
holds v Condition.BillJam = flag_at v.tilts 0
holds v Condition.CoinJam = flag_at v.tilts 1
holds v Condition.StackerFull = flag_at v.tilts 2
holds v Condition.PaperOut = flag_at v.tilts 3
holds v Condition.PrintFail = flag_at v.tilts 4
holds v Condition.HopperEmpty = flag_at v.tilts 5
holds v Condition.Handpay = is_some v.handpay

abbrev pub conditions : List Condition
conditions =
    Condition.LogicDoor ∷ Condition.MainDoor ∷ Condition.CashboxDoor ∷ Condition.DropDoor ∷ Condition.BillJam ∷ Condition.CoinJam
    ∷ Condition.StackerFull ∷ Condition.PaperOut ∷ Condition.PrintFail ∷ Condition.HopperEmpty ∷ Condition.Handpay ∷ []

-- the first condition that holds locks the machine up
abbrev pub lock : View → Option Condition
lock v = find (holds v) conditions
