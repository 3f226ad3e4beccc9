-- A flag that is set is what an event about its door or its tilt makes of the flags; numbers of doors and tilts.
use Rattle.std.proofs.Common.{◌≡◌, refl, ℕ, ◌+◌, List, [], ◌∷◌, Bool, true, false, length, slice_set, arith}
use Rattle.gd_base.specs.declared.condition.Door.{Door}
use Rattle.gd_base.specs.declared.condition.Tilt.{Tilt}
use Rattle.gd_base.specs.declared.event.Event.{Event}
use Rattle.gd_base.specs.Histories.Numbers.{condition_number, door_condition, door_place, tilt_condition, tilt_place}
use Rattle.gd_base.proofs.Effects.Conditions.{doors_after, tilts_after}

pub door_number : (door : Door) → condition_number (door_condition door) ≡ door_place door + 1
door_number Door.Logic = refl
door_number Door.Main = refl
door_number Door.Cashbox = refl
door_number Door.Drop = refl

pub tilt_number : (tilt : Tilt) → condition_number (tilt_condition tilt) ≡ tilt_place tilt + 5
tilt_number Tilt.BillJam = refl
tilt_number Tilt.CoinJam = refl
tilt_number Tilt.StackerFull = refl
tilt_number Tilt.PaperOut = refl
tilt_number Tilt.PrintFail = refl
tilt_number Tilt.HopperEmpty = refl

pub opened : (door : Door) (flags : List Bool) → length flags ≡ 4 → slice_set flags (door_place door) true ≡ doors_after (Event.DoorOpen door) flags
opened Door.Logic (a ∷ b ∷ c ∷ d ∷ []) len = refl
opened Door.Main (a ∷ b ∷ c ∷ d ∷ []) len = refl
opened Door.Cashbox (a ∷ b ∷ c ∷ d ∷ []) len = refl
opened Door.Drop (a ∷ b ∷ c ∷ d ∷ []) len = refl
opened _ _ len = absurd (omega (arith, len))

pub shut : (door : Door) (flags : List Bool) → length flags ≡ 4 → slice_set flags (door_place door) false ≡ doors_after (Event.DoorShut door) flags
shut Door.Logic (a ∷ b ∷ c ∷ d ∷ []) len = refl
shut Door.Main (a ∷ b ∷ c ∷ d ∷ []) len = refl
shut Door.Cashbox (a ∷ b ∷ c ∷ d ∷ []) len = refl
shut Door.Drop (a ∷ b ∷ c ∷ d ∷ []) len = refl
shut _ _ len = absurd (omega (arith, len))

pub cleared : (tilt : Tilt) (flags : List Bool) → length flags ≡ 6 → slice_set flags (tilt_place tilt) false ≡ tilts_after (Event.ClearTilt tilt) flags
cleared Tilt.BillJam (a ∷ b ∷ c ∷ d ∷ e ∷ f ∷ []) len = refl
cleared Tilt.CoinJam (a ∷ b ∷ c ∷ d ∷ e ∷ f ∷ []) len = refl
cleared Tilt.StackerFull (a ∷ b ∷ c ∷ d ∷ e ∷ f ∷ []) len = refl
cleared Tilt.PaperOut (a ∷ b ∷ c ∷ d ∷ e ∷ f ∷ []) len = refl
cleared Tilt.PrintFail (a ∷ b ∷ c ∷ d ∷ e ∷ f ∷ []) len = refl
cleared Tilt.HopperEmpty (a ∷ b ∷ c ∷ d ∷ e ∷ f ∷ []) len = refl
cleared _ _ len = absurd (omega (arith, len))

-- each event that raises a tilt
abbrev pub IsRaised : Event → Tilt → List Bool → Type 0
IsRaised event tilt flags = slice_set flags (tilt_place tilt) true ≡ tilts_after event flags

pub bill_jam : (flags : List Bool) → length flags ≡ 6 → IsRaised Event.BillJam Tilt.BillJam flags
bill_jam (a ∷ b ∷ c ∷ d ∷ e ∷ f ∷ []) len = refl
bill_jam _ len = absurd (omega (arith, len))

pub coin_jam : (flags : List Bool) → length flags ≡ 6 → IsRaised Event.CoinJam Tilt.CoinJam flags
coin_jam (a ∷ b ∷ c ∷ d ∷ e ∷ f ∷ []) len = refl
coin_jam _ len = absurd (omega (arith, len))

pub stacker_full : (flags : List Bool) → length flags ≡ 6 → IsRaised Event.StackerFull Tilt.StackerFull flags
stacker_full (a ∷ b ∷ c ∷ d ∷ e ∷ f ∷ []) len = refl
stacker_full _ len = absurd (omega (arith, len))

pub paper_out : (flags : List Bool) → length flags ≡ 6 → IsRaised Event.PaperOut Tilt.PaperOut flags
paper_out (a ∷ b ∷ c ∷ d ∷ e ∷ f ∷ []) len = refl
paper_out _ len = absurd (omega (arith, len))

pub print_fail : (order : ℕ) (flags : List Bool) → length flags ≡ 6 → IsRaised (Event.PrintFail order) Tilt.PrintFail flags
print_fail order (a ∷ b ∷ c ∷ d ∷ e ∷ f ∷ []) len = refl
print_fail order _ len = absurd (omega (arith, len))

pub hopper_empty : (order : ℕ) (flags : List Bool) → length flags ≡ 6 → IsRaised (Event.HopperEmpty order) Tilt.HopperEmpty flags
hopper_empty order (a ∷ b ∷ c ∷ d ∷ e ∷ f ∷ []) len = refl
hopper_empty order _ len = absurd (omega (arith, len))
