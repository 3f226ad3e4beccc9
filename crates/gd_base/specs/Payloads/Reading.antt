-- What stands at a place of a payload, read back.
use Rattle.std.specs.Prelude.{ℕ, zero, suc, ◌+◌, ◌-◌, ◌/◌, ◌%◌, ◌==◌, Bool, nat_lt, if◌then◌else◌, List, [], ◌∷◌, take, drop, slice_index, Option, Some, None}
use Rattle.std.specs.Int.{w16, w32, w64, from_be_bytes}
use Rattle.gd_base.specs.declared.condition.Condition.{Condition}
use Rattle.gd_base.specs.declared.game.Game.{Game}
use Rattle.gd_base.specs.declared.refusal.Refusal.{Refusal}
use Rattle.gd_base.specs.declared.refusal.Reply.{Reply}
use Rattle.gd_base.specs.declared.layout.TheConstants.{KEPT_LEN}
use Rattle.gd_base.specs.declared.payout.Handpay.{Handpay}
use Rattle.gd_base.specs.declared.payout.Order.{Order}
use Rattle.gd_base.specs.declared.payout.OrderKind.{OrderKind}
use Rattle.gd_base.specs.declared.play.PlayRecord.{PlayRecord}
use Rattle.gd_base.specs.declared.records.BillRecord.{BillRecord}
use Rattle.gd_base.specs.declared.records.EventRecord.{EventRecord}
use Rattle.gd_base.specs.declared.records.VoucherRecord.{VoucherRecord}

-- so many places of a payload, from a place on
abbrev pub part : ℕ → ℕ → List ℕ → List ℕ
part place size payload = take size (drop place payload)

-- the number in the eight bytes at a place
unfoldable pub number_at : ℕ → List ℕ → ℕ
number_at place payload = from_be_bytes w64 (take 8 (drop place payload))

-- and in the four bytes
unfoldable pub short_at : ℕ → List ℕ → ℕ
short_at place payload = from_be_bytes w32 (take 4 (drop place payload))

-- and in two
unfoldable pub two_at : ℕ → List ℕ → ℕ
two_at place payload = from_be_bytes w16 (take 2 (drop place payload))

-- sixteen numbers in a row
abbrev pub sixteen_at : ℕ → List ℕ → List ℕ
sixteen_at place payload =
    number_at place payload ∷ number_at (place + 8) payload ∷ number_at (place + 16) payload ∷ number_at (place + 24) payload
    ∷ number_at (place + 32) payload ∷ number_at (place + 40) payload ∷ number_at (place + 48) payload ∷ number_at (place + 56) payload
    ∷ number_at (place + 64) payload ∷ number_at (place + 72) payload ∷ number_at (place + 80) payload ∷ number_at (place + 88) payload
    ∷ number_at (place + 96) payload ∷ number_at (place + 104) payload ∷ number_at (place + 112) payload ∷ number_at (place + 120) payload ∷ []

-- the condition, the refusal and the reply of these numbers; a number that none has is read as some one
abbrev pub condition_of : ℕ → Condition
condition_of n =
    if n == 1 then Condition.LogicDoor
    else if n == 2 then Condition.MainDoor
    else if n == 3 then Condition.CashboxDoor
    else if n == 4 then Condition.DropDoor
    else if n == 5 then Condition.BillJam
    else if n == 6 then Condition.CoinJam
    else if n == 7 then Condition.StackerFull
    else if n == 8 then Condition.PaperOut
    else if n == 9 then Condition.PrintFail
    else if n == 10 then Condition.HopperEmpty
    else Condition.Handpay

abbrev pub refusal_of : ℕ → ℕ → Refusal
refusal_of n condition =
    if n == 1 then Refusal.LockedUp (condition_of condition)
    else if n == 2 then Refusal.CreditLimit
    else if n == 3 then Refusal.ValueNotEnabled
    else if n == 4 then Refusal.NoGame
    else if n == 5 then Refusal.BadWager
    else if n == 6 then Refusal.NoCredit
    else if n == 7 then Refusal.PlayOpen
    else if n == 8 then Refusal.NoPlay
    else if n == 9 then Refusal.BadChoice
    else if n == 10 then Refusal.OrderOpen
    else if n == 11 then Refusal.NothingToPay
    else if n == 12 then Refusal.NoSuchOrder
    else if n == 13 then Refusal.NoSuchTilt
    else if n == 14 then Refusal.NoHandpay
    else if n == 15 then Refusal.VoucherSeen
    else Refusal.DoorAlready

unfoldable pub reply_of : ℕ → ℕ → ℕ → Option Reply
reply_of kind refusal condition =
    if kind == 0 then None
    else if kind == 1 then Some Reply.Taken
    else Some (Reply.Refused (refusal_of refusal condition))

-- a device's last number and the reply to it, at a place
abbrev pub kept_read : ℕ → List ℕ → ℕ × Option Reply
kept_read place payload =
    (number_at place payload, reply_of (slice_index payload (place + 8)) (slice_index payload (place + 9)) (slice_index payload (place + 10)))

-- those of so many devices, one after the other
abbrev pub kept_reads : ℕ → ℕ → List ℕ → List (ℕ × Option Reply)
kept_reads zero place payload = []
kept_reads (suc n) place payload = kept_read place payload ∷ kept_reads n (place + KEPT_LEN) payload

-- ================ flags, the open handpay and the open order

-- so many bits of a number, the lowest first
abbrev pub flags_of : ℕ → ℕ → List Bool
flags_of zero bits = []
flags_of (suc n) bits = (bits % 2 == 1) ∷ flags_of n (bits / 2)

-- the open handpay, at a place; a kind that none has is read as some one
abbrev pub handpay_read : ℕ → List ℕ → Option Handpay
handpay_read place payload =
    if slice_index payload place == 0 then None
    else Some (record { win = slice_index payload place == 1; amount = number_at (place + 2) payload })

-- the open order of a kind, with its number and its amount; a kind that none has is read as some one
abbrev pub order_of : (kind number amount : ℕ) → Option Order
order_of kind number amount =
    if kind == 0 then None
    else Some (record { number = number; kind = if kind == 1 then OrderKind.Printer else OrderKind.Hopper; amount = amount })

-- ================ the record of a play

abbrev pub game_of : ℕ → Game
game_of n = if n == 1 then Game.Reels else Game.Poker

-- no choice is 0, a pick its door and a hold 32 and its mask
abbrev pub choice_of : ℕ → Option ℕ
choice_of n = if n == 0 then None else Some (if nat_lt n 32 then n else n - 32)

abbrev pub play_read : ℕ → List ℕ → PlayRecord
play_read place payload = record {
  number = number_at place payload;
  index = number_at (place + 8) payload;
  words = sixteen_at (place + 16) payload;
  game = game_of (slice_index payload (place + 144));
  bet = slice_index payload (place + 145);
  wager = short_at (place + 146) payload;
  choice = choice_of (slice_index payload (place + 150));
  turns = slice_index payload (place + 151);
  colours = slice_index payload (place + 152);
  win = number_at (place + 154) payload;
  before = number_at (place + 162) payload;
  after = number_at (place + 170) payload;
  place = number_at (place + 178) payload;
}

-- a play behind a byte that isn't 0, or none
abbrev pub open_read : ℕ → List ℕ → Option PlayRecord
open_read place payload = if slice_index payload place == 0 then None else Some (play_read (place + 1) payload)

-- ================ records of the lists, and so many of them

abbrev pub event_read : List ℕ → EventRecord
event_read bytes = record { place = number_at 0 bytes; code = slice_index bytes 8; detail = number_at 9 bytes }

abbrev pub bill_read : List ℕ → BillRecord
bill_read bytes = record { place = number_at 0 bytes; value = short_at 8 bytes }

abbrev pub voucher_read : List ℕ → VoucherRecord
voucher_read bytes = record { place = number_at 0 bytes; kind = slice_index bytes 8; id = number_at 9 bytes; value = short_at 17 bytes }

-- so many records of a size, one after the other
abbrev pub records_in : {A : Type 0} → (List ℕ → A) → ℕ → ℕ → List ℕ → List A
records_in read size zero row = []
records_in read size (suc n) row = read (take size row) ∷ records_in read size n (drop size row)
