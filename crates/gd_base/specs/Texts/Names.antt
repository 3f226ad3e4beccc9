-- The names that texts use.
use Rattle.std.specs.Prelude.{ℕ, List, codes, decimal, slice_index, ◌%◌, ◌∷◌, [], ◌++◌}
use Rattle.gd_base.specs.declared.game.Colour.{Colour}
use Rattle.gd_base.specs.declared.condition.Condition.{Condition}
use Rattle.gd_base.specs.declared.device.Device.{Device}
use Rattle.gd_base.specs.declared.condition.Door.{Door}
use Rattle.gd_base.specs.declared.game.Game.{Game}
use Rattle.gd_base.specs.declared.meter.Meter.{Meter}
use Rattle.gd_base.specs.declared.refusal.Refusal.{Refusal}
use Rattle.gd_base.specs.declared.refusal.Reply.{Reply}
use Rattle.gd_base.specs.declared.condition.Tilt.{Tilt}
use Rattle.gd_base.specs.declared.game.Rank.{Rank}
use Rattle.gd_base.specs.declared.play.StageOpen.{StageOpen}
use Rattle.gd_base.specs.Games.Chance.{suit}
use Rattle.gd_base.specs.Histories.Numbers.{refusal_number, tilt_condition}

abbrev pub device_name : Device → List ℕ
device_name Device.Bill = codes "bill"
device_name Device.Coin = codes "coin"
device_name Device.Reader = codes "reader"
device_name Device.Printer = codes "printer"
device_name Device.Hopper = codes "hopper"
device_name Device.Doors = codes "doors"
device_name Device.Player = codes "player"
device_name Device.Attendant = codes "attendant"
device_name Device.Power = codes "power"

abbrev pub condition_name : Condition → List ℕ
condition_name Condition.LogicDoor = codes "logic-door"
condition_name Condition.MainDoor = codes "main-door"
condition_name Condition.CashboxDoor = codes "cashbox-door"
condition_name Condition.DropDoor = codes "drop-door"
condition_name Condition.BillJam = codes "bill-jam"
condition_name Condition.CoinJam = codes "coin-jam"
condition_name Condition.StackerFull = codes "stacker-full"
condition_name Condition.PaperOut = codes "paper-out"
condition_name Condition.PrintFail = codes "print-fail"
condition_name Condition.HopperEmpty = codes "hopper-empty"
condition_name Condition.Handpay = codes "handpay"

abbrev pub door_name : Door → List ℕ
door_name Door.Logic = codes "logic"
door_name Door.Main = codes "main"
door_name Door.Cashbox = codes "cashbox"
door_name Door.Drop = codes "drop"

-- a tilt has the name of its condition
abbrev pub tilt_name : Tilt → List ℕ
tilt_name tilt = condition_name (tilt_condition tilt)

abbrev pub meter_name : Meter → List ℕ
meter_name Meter.BillIn = codes "BillIn"
meter_name Meter.CoinIn = codes "CoinIn"
meter_name Meter.VoucherIn = codes "VoucherIn"
meter_name Meter.Wagered = codes "Wagered"
meter_name Meter.Won = codes "Won"
meter_name Meter.VoucherOut = codes "VoucherOut"
meter_name Meter.CoinOut = codes "CoinOut"
meter_name Meter.HandWin = codes "HandWin"
meter_name Meter.HandCancel = codes "HandCancel"
meter_name Meter.GamesPlayed = codes "GamesPlayed"
meter_name Meter.GamesWon = codes "GamesWon"
meter_name Meter.PowerUps = codes "PowerUps"
meter_name Meter.LogicOpen = codes "LogicOpen"
meter_name Meter.MainOpen = codes "MainOpen"
meter_name Meter.CashboxOpen = codes "CashboxOpen"
meter_name Meter.DropOpen = codes "DropOpen"

abbrev pub game_name : Game → List ℕ
game_name Game.Reels = codes "reels"
game_name Game.Poker = codes "poker"

abbrev pub colour_name : Colour → List ℕ
colour_name Colour.Red = codes "red"
colour_name Colour.Black = codes "black"

abbrev pub rank_name : Rank → List ℕ
rank_name Rank.RoyalFlush = codes "royal-flush"
rank_name Rank.StraightFlush = codes "straight-flush"
rank_name Rank.Four = codes "four"
rank_name Rank.FullHouse = codes "full-house"
rank_name Rank.Flush = codes "flush"
rank_name Rank.Straight = codes "straight"
rank_name Rank.Three = codes "three"
rank_name Rank.TwoPair = codes "two-pair"
rank_name Rank.Jacks = codes "jacks"
rank_name Rank.Nothing = codes "nothing"

abbrev pub stage_name : StageOpen → List ℕ
stage_name StageOpen.Pick = codes "pick"
stage_name StageOpen.Hold = codes "hold"
stage_name StageOpen.Gamble = codes "gamble"
stage_name StageOpen.Ended = codes "ended"

-- as `Ac`: the ace of clubs
abbrev pub card_name : ℕ → List ℕ
card_name card = slice_index (codes "23456789TJQKA") (card % 13) ∷ slice_index (codes "cdhs") (suit card) ∷ []

abbrev pub refusal_name : Refusal → List ℕ
refusal_name (Refusal.LockedUp condition) = codes "locked-up"
refusal_name Refusal.CreditLimit = codes "credit-limit"
refusal_name Refusal.ValueNotEnabled = codes "value-not-enabled"
refusal_name Refusal.NoGame = codes "no-game"
refusal_name Refusal.BadWager = codes "bad-wager"
refusal_name Refusal.NoCredit = codes "no-credit"
refusal_name Refusal.PlayOpen = codes "play-open"
refusal_name Refusal.NoPlay = codes "no-play"
refusal_name Refusal.BadChoice = codes "bad-choice"
refusal_name Refusal.OrderOpen = codes "order-open"
refusal_name Refusal.NothingToPay = codes "nothing-to-pay"
refusal_name Refusal.NoSuchOrder = codes "no-such-order"
refusal_name Refusal.NoSuchTilt = codes "no-such-tilt"
refusal_name Refusal.NoHandpay = codes "no-handpay"
refusal_name Refusal.VoucherSeen = codes "voucher-seen"
refusal_name Refusal.DoorAlready = codes "door-already"

-- the condition that a refusal names, behind a space
abbrev pub named_condition : Refusal → List ℕ
named_condition (Refusal.LockedUp condition) = codes " " ++ condition_name condition
named_condition _ = []

-- a refusal's number and name
abbrev pub refusal_text : Refusal → List ℕ
refusal_text why = decimal (refusal_number why) ++ codes " " ++ refusal_name why ++ named_condition why

-- a reply as texts tell it
abbrev pub reply_text : Reply → List ℕ
reply_text Reply.Taken = codes "taken"
reply_text (Reply.Refused why) = codes "refused " ++ refusal_text why
