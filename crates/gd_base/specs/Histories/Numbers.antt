-- The places of the values of an enum, from 0, and the numbers by which formats name them, from 1.
use Rattle.std.specs.Prelude.{ℕ, Bool, ◌==◌}
use Rattle.gd_base.specs.declared.condition.Condition.{Condition}
use Rattle.gd_base.specs.declared.device.Device.{Device}
use Rattle.gd_base.specs.declared.condition.Door.{Door}
use Rattle.gd_base.specs.declared.game.Game.{Game}
use Rattle.gd_base.specs.declared.meter.Meter.{Meter}
use Rattle.gd_base.specs.declared.refusal.Refusal.{Refusal}
use Rattle.gd_base.specs.declared.condition.Tilt.{Tilt}
use Rattle.gd_base.specs.declared.payout.OrderKind.{OrderKind}

-- ================ places

abbrev pub device_place : Device → ℕ
device_place Device.Bill = 0
device_place Device.Coin = 1
device_place Device.Reader = 2
device_place Device.Printer = 3
device_place Device.Hopper = 4
device_place Device.Doors = 5
device_place Device.Player = 6
device_place Device.Attendant = 7
device_place Device.Power = 8

abbrev pub door_place : Door → ℕ
door_place Door.Logic = 0
door_place Door.Main = 1
door_place Door.Cashbox = 2
door_place Door.Drop = 3

abbrev pub tilt_place : Tilt → ℕ
tilt_place Tilt.BillJam = 0
tilt_place Tilt.CoinJam = 1
tilt_place Tilt.StackerFull = 2
tilt_place Tilt.PaperOut = 3
tilt_place Tilt.PrintFail = 4
tilt_place Tilt.HopperEmpty = 5

abbrev pub meter_place : Meter → ℕ
meter_place Meter.BillIn = 0
meter_place Meter.CoinIn = 1
meter_place Meter.VoucherIn = 2
meter_place Meter.Wagered = 3
meter_place Meter.Won = 4
meter_place Meter.VoucherOut = 5
meter_place Meter.CoinOut = 6
meter_place Meter.HandWin = 7
meter_place Meter.HandCancel = 8
meter_place Meter.GamesPlayed = 9
meter_place Meter.GamesWon = 10
meter_place Meter.PowerUps = 11
meter_place Meter.LogicOpen = 12
meter_place Meter.MainOpen = 13
meter_place Meter.CashboxOpen = 14
meter_place Meter.DropOpen = 15

abbrev pub is_device : Device → Device → Bool
is_device a b = device_place a == device_place b

abbrev pub is_door : Door → Door → Bool
is_door a b = door_place a == door_place b

abbrev pub is_tilt : Tilt → Tilt → Bool
is_tilt a b = tilt_place a == tilt_place b

-- ================ the condition of a door or a tilt

abbrev pub door_condition : Door → Condition
door_condition Door.Logic = Condition.LogicDoor
door_condition Door.Main = Condition.MainDoor
door_condition Door.Cashbox = Condition.CashboxDoor
door_condition Door.Drop = Condition.DropDoor

abbrev pub tilt_condition : Tilt → Condition
tilt_condition Tilt.BillJam = Condition.BillJam
tilt_condition Tilt.CoinJam = Condition.CoinJam
tilt_condition Tilt.StackerFull = Condition.StackerFull
tilt_condition Tilt.PaperOut = Condition.PaperOut
tilt_condition Tilt.PrintFail = Condition.PrintFail
tilt_condition Tilt.HopperEmpty = Condition.HopperEmpty

-- ================ numbers

abbrev pub condition_number : Condition → ℕ
condition_number Condition.LogicDoor = 1
condition_number Condition.MainDoor = 2
condition_number Condition.CashboxDoor = 3
condition_number Condition.DropDoor = 4
condition_number Condition.BillJam = 5
condition_number Condition.CoinJam = 6
condition_number Condition.StackerFull = 7
condition_number Condition.PaperOut = 8
condition_number Condition.PrintFail = 9
condition_number Condition.HopperEmpty = 10
condition_number Condition.Handpay = 11

abbrev pub refusal_number : Refusal → ℕ
refusal_number (Refusal.LockedUp condition) = 1
refusal_number Refusal.CreditLimit = 2
refusal_number Refusal.ValueNotEnabled = 3
refusal_number Refusal.NoGame = 4
refusal_number Refusal.BadWager = 5
refusal_number Refusal.NoCredit = 6
refusal_number Refusal.PlayOpen = 7
refusal_number Refusal.NoPlay = 8
refusal_number Refusal.BadChoice = 9
refusal_number Refusal.OrderOpen = 10
refusal_number Refusal.NothingToPay = 11
refusal_number Refusal.NoSuchOrder = 12
refusal_number Refusal.NoSuchTilt = 13
refusal_number Refusal.NoHandpay = 14
refusal_number Refusal.VoucherSeen = 15
refusal_number Refusal.DoorAlready = 16

-- the number of the condition that a refusal names, or 0
abbrev pub refusal_condition : Refusal → ℕ
refusal_condition (Refusal.LockedUp condition) = condition_number condition
refusal_condition _ = 0

abbrev pub game_number : Game → ℕ
game_number Game.Reels = 1
game_number Game.Poker = 2

abbrev pub kind_number : OrderKind → ℕ
kind_number OrderKind.Printer = 1
kind_number OrderKind.Hopper = 2
