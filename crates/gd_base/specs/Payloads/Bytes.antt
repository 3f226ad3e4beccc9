-- How a payload spells a view, in the draft layout: the fields in a row, each part filled up with zeros.
use Rattle.std.specs.Prelude.{ℕ, ◌+◌, ◌-◌, ◌*◌, Bool, if◌then◌else◌, List, [], ◌∷◌, ◌++◌, length, replicate, flat_map, Option, Some, None}
use Rattle.std.specs.Int.{w16, w32, w64, to_be_bytes}
use Rattle.gd_base.specs.declared.game.Game.{Game}
use Rattle.gd_base.specs.declared.refusal.Reply.{Reply}
use Rattle.gd_base.specs.declared.layout.TheConstants.{HEAD_LEN, OPEN_PLAY_LEN, PLAYS_LEN, EVENTS_LEN, BILLS_LEN, VOUCHERS_LEN, REST_LEN}
use Rattle.gd_base.specs.declared.records.BillRecord.{BillRecord}
use Rattle.gd_base.specs.declared.records.EventRecord.{EventRecord}
use Rattle.gd_base.specs.declared.payout.Handpay.{Handpay}
use Rattle.gd_base.specs.declared.payout.Order.{Order}
use Rattle.gd_base.specs.declared.play.PlayRecord.{PlayRecord}
use Rattle.gd_base.specs.declared.records.VoucherRecord.{VoucherRecord}
use Rattle.gd_base.specs.Histories.Credit.{order_amount}
use Rattle.gd_base.specs.Histories.Numbers.{game_number, kind_number, refusal_condition, refusal_number}
use Rattle.gd_base.specs.Histories.View.{View}

abbrev pub two : ℕ → List ℕ
two n = to_be_bytes w16 n

abbrev pub four : ℕ → List ℕ
four n = to_be_bytes w32 n

abbrev pub eight : ℕ → List ℕ
eight n = to_be_bytes w64 n

-- bytes filled up with zeros
abbrev pub filled_part : ℕ → List ℕ → List ℕ
filled_part size bytes = bytes ++ replicate (size - length bytes) 0

-- flags as the bits of a byte, the first being bit 0
abbrev pub flags : List Bool → ℕ
flags [] = 0
flags (b ∷ bs) = (if b then 1 else 0) + 2 * flags bs

-- ================ records

-- no choice is 0, a pick its door and a hold 32 and its mask
abbrev pub choice_code : Game → Option ℕ → ℕ
choice_code game None = 0
choice_code Game.Reels (Some door) = door
choice_code Game.Poker (Some mask) = 32 + mask

abbrev pub play_bytes : PlayRecord → List ℕ
play_bytes p =
    eight p.number ++ eight p.index ++ flat_map eight p.words ++ game_number p.game ∷ p.bet ∷ four p.wager
    ++ choice_code p.game p.choice ∷ p.turns ∷ p.colours ∷ 0 ∷ []
    ++ eight p.win ++ eight p.before ++ eight p.after ++ eight p.place

abbrev pub event_bytes : EventRecord → List ℕ
event_bytes e = eight e.place ++ e.code ∷ eight e.detail

abbrev pub bill_bytes : BillRecord → List ℕ
bill_bytes b = eight b.place ++ four b.value

abbrev pub voucher_bytes : VoucherRecord → List ℕ
voucher_bytes v = eight v.place ++ v.kind ∷ eight v.id ++ four v.value

-- ================ replies, orders, handpays

abbrev pub reply_kind : Option Reply → ℕ
reply_kind None = 0
reply_kind (Some Reply.Taken) = 1
reply_kind (Some (Reply.Refused why)) = 2

abbrev pub reply_refusal : Option Reply → ℕ
reply_refusal (Some (Reply.Refused why)) = refusal_number why
reply_refusal _ = 0

abbrev pub reply_condition : Option Reply → ℕ
reply_condition (Some (Reply.Refused why)) = refusal_condition why
reply_condition _ = 0

abbrev pub reply_bytes : Option Reply → List ℕ
reply_bytes reply = reply_kind reply ∷ reply_refusal reply ∷ reply_condition reply ∷ []

abbrev pub kept_bytes : ℕ × Option Reply → List ℕ
kept_bytes k = eight k.0 ++ reply_bytes k.1 ++ 0 ∷ []

abbrev pub handpay_bytes : Option Handpay → List ℕ
handpay_bytes None = 0 ∷ 0 ∷ eight 0
handpay_bytes (Some h) = (if h.win then 1 else 2) ∷ 0 ∷ eight h.amount

abbrev pub kind_code : Option Order → ℕ
kind_code None = 0
kind_code (Some o) = kind_number o.kind

-- the number of an open order is the number of orders so far
abbrev pub order_bytes : ℕ → Option Order → List ℕ
order_bytes orders order = kind_code order ∷ 0 ∷ 0 ∷ 0 ∷ eight orders ++ eight (order_amount order)

abbrev pub open_bytes : Option PlayRecord → List ℕ
open_bytes None = []
open_bytes (Some p) = 1 ∷ play_bytes p

-- ================ the payload

abbrev pub head_bytes : View → List ℕ
head_bytes v =
    v.digest ++ eight v.count ++ eight v.balance ++ flat_map eight v.totals ++ flags v.doors ∷ flags v.tilts ∷ handpay_bytes v.handpay
    ++ order_bytes v.orders v.order ++ flat_map kept_bytes v.kept
    ++ two (length v.plays) ++ two (length v.events) ++ two (length v.bills) ++ two (length v.vouchers)

-- the head, the open play, and the four lists in places of their own
abbrev pub payload_of : View → List ℕ
payload_of v =
    filled_part HEAD_LEN (head_bytes v) ++ filled_part OPEN_PLAY_LEN (open_bytes v.play)
    ++ filled_part PLAYS_LEN (flat_map play_bytes v.plays) ++ filled_part EVENTS_LEN (flat_map event_bytes v.events)
    ++ filled_part BILLS_LEN (flat_map bill_bytes v.bills) ++ filled_part (VOUCHERS_LEN + REST_LEN) (flat_map voucher_bytes v.vouchers)
