-- The sixteen meters: each is the sum of what the taken entries add to it.
use Rattle.std.specs.Prelude.{ℕ, ◌+◌, ◌%◌, ◌^◌, true, false, ◌==◌, nat_lt, if◌then◌else◌, List, [], ◌∷◌, ◌++◌, sum_by, slice_index, slice_set, Option, Some, None}
use Rattle.gd_base.specs.declared.condition.Door.{Door}
use Rattle.gd_base.specs.declared.event.Event.{Event}
use Rattle.gd_base.specs.declared.meter.Meter.{Meter}
use Rattle.gd_base.specs.declared.payout.Handpay.{Handpay}
use Rattle.gd_base.specs.declared.setup.Setup.{Setup}
use Rattle.gd_base.specs.Histories.Credit.{Payment, ByHopper, ByPrinter, ByHand, payment, wager, balance, ordered_amount}
use Rattle.gd_base.specs.Histories.Entry.{Entry}
use Rattle.gd_base.specs.Histories.History.{Origin, sum_over, latest}
use Rattle.gd_base.specs.Histories.Numbers.{meter_place}
use Rattle.gd_base.specs.Histories.Rounds.{posted_win}

abbrev pub meters : List Meter
meters =
    Meter.BillIn ∷ Meter.CoinIn ∷ Meter.VoucherIn ∷ Meter.Wagered ∷ Meter.Won ∷ Meter.VoucherOut ∷ Meter.CoinOut ∷ Meter.HandWin ∷ Meter.HandCancel
    ∷ Meter.GamesPlayed ∷ Meter.GamesWon ∷ Meter.PowerUps ∷ Meter.LogicOpen ∷ Meter.MainOpen ∷ Meter.CashboxOpen ∷ Meter.DropOpen ∷ []

abbrev pub door_meter : Door → Meter
door_meter Door.Logic = Meter.LogicOpen
door_meter Door.Main = Meter.MainOpen
door_meter Door.Cashbox = Meter.CashboxOpen
door_meter Door.Drop = Meter.DropOpen

-- ================ the open handpay: the latest that no attendant has confirmed

abbrev pub handpay_of_payment : Payment → Option (Option Handpay)
handpay_of_payment (ByHopper amount) = None
handpay_of_payment (ByPrinter amount) = None
handpay_of_payment (ByHand amount) = Some (Some (record { win = false; amount = amount }))

-- a posted win that the handpay limit keeps from the balance
abbrev pub handpay_of_win : Setup → ℕ → Option (Option Handpay)
handpay_of_win setup win = if nat_lt win setup.handpay_limit then None else Some (Some (record { win = true; amount = win }))

-- what a taken event says of the open handpay, by the balance before it and the win that it posts
abbrev pub says_handpay : Setup → ℕ → ℕ → Event → Option (Option Handpay)
says_handpay setup balance win Event.CashOut = handpay_of_payment (payment setup balance)
says_handpay setup balance win Event.HandpayDone = Some None
says_handpay setup balance win _ = handpay_of_win setup win

abbrev pub handpay_said : Origin → Entry → List Entry → Option (Option Handpay)
handpay_said o e past = says_handpay o.setup (balance o past) (posted_win o e past) e.event

abbrev pub open_handpay : Origin → List Entry → Option Handpay
open_handpay o past = latest (handpay_said o) o.opening.handpay past

abbrev pub handpay_amount : Option Handpay → ℕ
handpay_amount None = 0
handpay_amount (Some h) = h.amount

abbrev pub held_amount : Origin → List Entry → ℕ
held_amount o past = handpay_amount (open_handpay o past)

-- ================ what a taken entry adds to which meters

abbrev pub Addition : Type 0
Addition = Meter × ℕ

abbrev pub handpay_addition : Option Handpay → List Addition
handpay_addition None = []
handpay_addition (Some h) = (if h.win then Meter.HandWin else Meter.HandCancel, h.amount) ∷ []

abbrev pub event_additions : Origin → List Entry → Event → List Addition
event_additions o past (Event.Bill value) = (Meter.BillIn, value) ∷ []
event_additions o past (Event.Coin value) = (Meter.CoinIn, value) ∷ []
event_additions o past (Event.VoucherIn id value) = (Meter.VoucherIn, value) ∷ []
event_additions o past (Event.Printed order) = (Meter.VoucherOut, ordered_amount o past) ∷ []
event_additions o past (Event.CoinPaid order) = (Meter.CoinOut, o.setup.coin) ∷ []
event_additions o past (Event.Play game bet) = (Meter.Wagered, wager o.setup bet) ∷ (Meter.GamesPlayed, 1) ∷ []
event_additions o past Event.HandpayDone = handpay_addition (open_handpay o past)
event_additions o past (Event.DoorOpen door) = (door_meter door, 1) ∷ []
event_additions o past Event.Start = (Meter.PowerUps, 1) ∷ []
event_additions o past _ = []

abbrev pub win_additions : ℕ → List Addition
win_additions win = if win == 0 then [] else (Meter.Won, win) ∷ (Meter.GamesWon, 1) ∷ []

-- what a taken event adds, by the win that it posts
abbrev pub additions : Origin → List Entry → ℕ → Event → List Addition
additions o past win event = event_additions o past event ++ win_additions win

abbrev pub share : Meter → Addition → ℕ
share m a = if meter_place a.0 == meter_place m then a.1 else 0

abbrev pub meter_added : Origin → Meter → Entry → List Entry → ℕ
meter_added o m e past = sum_by (share m) (additions o past (posted_win o e past) e.event)

abbrev pub meter : Origin → Meter → List Entry → ℕ
meter o m past = sum_over (meter_added o m) (slice_index o.opening.totals (meter_place m)) past

-- totals in the order of the meters, with an amount more at one of them
abbrev pub with_one : Meter → ℕ → List ℕ → List ℕ
with_one m amount totals = slice_set totals (meter_place m) (slice_index totals (meter_place m) + amount)

-- and with some additions
abbrev pub with_additions : List Addition → List ℕ → List ℕ
with_additions [] totals = totals
with_additions (a ∷ others) totals = with_additions others (with_one a.0 a.1 totals)

-- a total as it is shown
abbrev pub shown_total : ℕ → ℕ
shown_total total = total % 10 ^ 10
