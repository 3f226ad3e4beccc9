-- What is recalled: the last plays, significant events, bills and vouchers, the newest first.
use Rattle.std.specs.Prelude.{ℕ, ◌+◌, if◌then◌else◌, List, ◌∷◌, take, Option, Some, None, option_map}
use Rattle.gd_base.specs.declared.records.TheConstants.{PLAYS_KEPT, EVENTS_KEPT, BILLS_KEPT, VOUCHERS_KEPT}
use Rattle.gd_base.specs.declared.event.Event.{Event}
use Rattle.gd_base.specs.declared.condition.Tilt.{Tilt}
use Rattle.gd_base.specs.declared.records.BillRecord.{BillRecord}
use Rattle.gd_base.specs.declared.records.EventRecord.{EventRecord}
use Rattle.gd_base.specs.declared.payout.Handpay.{Handpay}
use Rattle.gd_base.specs.declared.play.PlayRecord.{PlayRecord}
use Rattle.gd_base.specs.declared.meter.Meter.{Meter}
use Rattle.gd_base.specs.declared.records.VoucherRecord.{VoucherRecord}
use Rattle.gd_base.specs.declared.setup.Setup.{Setup}
use Rattle.gd_base.specs.Histories.Conditions.{raised_tilt}
use Rattle.gd_base.specs.Histories.Credit.{wager, balance, ordered_amount}
use Rattle.gd_base.specs.Histories.Entry.{Entry}
use Rattle.gd_base.specs.Histories.Numbers.{door_place, tilt_place}
use Rattle.gd_base.specs.Histories.History.{Origin, latest, notes_over, next_place}
use Rattle.gd_base.specs.Histories.Meters.{meter, says_handpay, held_amount}
use Rattle.gd_base.specs.Histories.Rounds.{Round, round_stage, ended_round, open_round, posted_win}

-- ================ plays

-- the number of a play and the balance before it, which its Play entry says
abbrev pub says_start : Origin → List Entry → Event → Option (ℕ × ℕ)
says_start o past (Event.Play game bet) = Some (meter o Meter.GamesPlayed past + 1, balance o past)
says_start o past _ = None

abbrev pub start_said : Origin → Entry → List Entry → Option (ℕ × ℕ)
start_said o e past = says_start o past e.event

abbrev pub play_start_of : Option PlayRecord → ℕ × ℕ
play_start_of None = (0, 0)
play_start_of (Some p) = (p.number, p.before)

abbrev pub play_start : Origin → List Entry → ℕ × ℕ
play_start o past = latest (start_said o) (play_start_of o.opening.play) past

abbrev pub play_record : Setup → ℕ × ℕ → ℕ → Round → PlayRecord
play_record setup start after r = record {
  number = start.0;
  index = r.index;
  words = r.words;
  game = r.game;
  bet = r.bet;
  wager = wager setup r.bet;
  choice = r.choices.choice;
  turns = r.choices.turns;
  colours = r.choices.colours;
  win = (round_stage setup r).win;
  before = start.1;
  after = after;
  place = r.place;
}

abbrev pub open_play : Origin → List Entry → Option PlayRecord
open_play o past = option_map (play_record o.setup (play_start o past) 0) (open_round o past)

-- the play that a taken entry ends, with the balance after the entry
abbrev pub ended_play : Origin → Entry → List Entry → Option PlayRecord
ended_play o e past = option_map (play_record o.setup (play_start o (e ∷ past)) (balance o (e ∷ past))) (ended_round o e past)

abbrev pub plays : Origin → List Entry → List PlayRecord
plays o past = take PLAYS_KEPT (notes_over (ended_play o) o.opening.plays past)

-- ================ significant events

abbrev pub event_record : ℕ → ℕ → ℕ → EventRecord
event_record place code detail = record { place = place; code = code; detail = detail }

abbrev pub tilt_event : Origin → List Entry → Option Tilt → Option EventRecord
tilt_event o past None = None
tilt_event o past (Some tilt) = Some (event_record (next_place o past) 4 (tilt_place tilt + 5))

abbrev pub handpay_code : Handpay → ℕ
handpay_code h = if h.win then 6 else 7

abbrev pub handpay_event : Origin → List Entry → Option (Option Handpay) → Option EventRecord
handpay_event o past None = None
handpay_event o past (Some None) = None
handpay_event o past (Some (Some h)) = Some (event_record (next_place o past) (handpay_code h) h.amount)

-- the significant event of a taken event, by the win that it posts
abbrev pub significant : Origin → List Entry → ℕ → Event → Option EventRecord
significant o past win Event.Start = Some (event_record (next_place o past) 1 0)
significant o past win (Event.DoorOpen door) = Some (event_record (next_place o past) 2 (door_place door + 1))
significant o past win (Event.DoorShut door) = Some (event_record (next_place o past) 3 (door_place door + 1))
significant o past win (Event.ClearTilt tilt) = Some (event_record (next_place o past) 5 (tilt_place tilt + 5))
significant o past win Event.HandpayDone = Some (event_record (next_place o past) 8 (held_amount o past))
significant o past win Event.BillJam = tilt_event o past (raised_tilt Event.BillJam)
significant o past win Event.CoinJam = tilt_event o past (raised_tilt Event.CoinJam)
significant o past win Event.StackerFull = tilt_event o past (raised_tilt Event.StackerFull)
significant o past win Event.PaperOut = tilt_event o past (raised_tilt Event.PaperOut)
significant o past win (Event.PrintFail order) = tilt_event o past (raised_tilt (Event.PrintFail order))
significant o past win (Event.HopperEmpty order) = tilt_event o past (raised_tilt (Event.HopperEmpty order))
significant o past win event = handpay_event o past (says_handpay o.setup (balance o past) win event)

abbrev pub event_noted : Origin → Entry → List Entry → Option EventRecord
event_noted o e past = significant o past (posted_win o e past) e.event

abbrev pub events : Origin → List Entry → List EventRecord
events o past = take EVENTS_KEPT (notes_over (event_noted o) o.opening.events past)

-- ================ bills and vouchers

abbrev pub bill_note : Origin → List Entry → Event → Option BillRecord
bill_note o past (Event.Bill value) = Some (record { place = next_place o past; value = value })
bill_note o past _ = None

abbrev pub bill_noted : Origin → Entry → List Entry → Option BillRecord
bill_noted o e past = bill_note o past e.event

abbrev pub bills : Origin → List Entry → List BillRecord
bills o past = take BILLS_KEPT (notes_over (bill_noted o) o.opening.bills past)

abbrev pub voucher_record : ℕ → ℕ → ℕ → ℕ → VoucherRecord
voucher_record place kind id value = record { place = place; kind = kind; id = id; value = value }

-- a voucher taken in is of kind 1, and one printed, whose id is the order's number, of kind 2
abbrev pub voucher_note : Origin → List Entry → Event → Option VoucherRecord
voucher_note o past (Event.VoucherIn id value) = Some (voucher_record (next_place o past) 1 id value)
voucher_note o past (Event.Printed order) = Some (voucher_record (next_place o past) 2 order (ordered_amount o past))
voucher_note o past _ = None

abbrev pub voucher_noted : Origin → Entry → List Entry → Option VoucherRecord
voucher_noted o e past = voucher_note o past e.event

abbrev pub vouchers : Origin → List Entry → List VoucherRecord
vouchers o past = take VOUCHERS_KEPT (notes_over (voucher_noted o) o.opening.vouchers past)
