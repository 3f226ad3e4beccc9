-- What the machine keeps of each device: its last number, and the reply to it.
use Rattle.std.specs.Prelude.{ℕ, zero, suc, ◌+◌, if◌then◌else◌, List, [], ◌∷◌, map, Option, Some, None}
use Rattle.gd_base.specs.declared.device.Device.{Device}
use Rattle.gd_base.specs.declared.refusal.Reply.{Reply}
use Rattle.gd_base.specs.Histories.Entry.{Entry, device_of}
use Rattle.gd_base.specs.Histories.Numbers.{is_device, device_place}
use Rattle.gd_base.specs.Histories.History.{Origin}

abbrev pub devices : List Device
devices =
    Device.Bill ∷ Device.Coin ∷ Device.Reader ∷ Device.Printer ∷ Device.Hopper ∷ Device.Doors ∷ Device.Player ∷ Device.Attendant ∷ Device.Power ∷ []

-- what a view keeps at a place
abbrev pub kept_at : List (ℕ × Option Reply) → ℕ → ℕ × Option Reply
kept_at [] n = (0, None)
kept_at (k ∷ ks) zero = k
kept_at (k ∷ ks) (suc n) = kept_at ks n

abbrev pub one_for : Device → Entry → ℕ
one_for d e = if is_device (device_of e.event) d then 1 else 0

-- an entry of a device, refused ones too, is one number more
abbrev pub last_number : Origin → Device → List Entry → ℕ
last_number o d [] = (kept_at o.opening.kept (device_place d)).0
last_number o d (e ∷ past) = last_number o d past + one_for d e

abbrev pub reply_if : Device → Entry → Option Reply → Option Reply
reply_if d e before = if is_device (device_of e.event) d then Some e.reply else before

-- the reply to the latest entry of the device
abbrev pub kept_reply : Origin → Device → List Entry → Option Reply
kept_reply o d [] = (kept_at o.opening.kept (device_place d)).1
kept_reply o d (e ∷ past) = reply_if d e (kept_reply o d past)

-- ================ what is kept after an entry

-- one number more, and its reply
abbrev pub kept_after : Device → Reply → List (ℕ × Option Reply) → Device → ℕ × Option Reply
kept_after d reply kept x =
    ((kept_at kept (device_place x)).0 + (if is_device d x then 1 else 0), if is_device d x then Some reply else (kept_at kept (device_place x)).1)

abbrev pub with_reply : Device → Reply → List (ℕ × Option Reply) → List (ℕ × Option Reply)
with_reply d reply kept = map (kept_after d reply kept) devices
