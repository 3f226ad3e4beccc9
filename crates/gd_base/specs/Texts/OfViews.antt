-- The texts that are shown of a view.
use Rattle.std.specs.Prelude.{ℕ, zero, suc, ◌+◌, ◌-◌, ◌*◌, ◌==◌, ◌/◌, if◌then◌else◌, List, [], ◌∷◌, ◌++◌, length, map, replicate, codes, decimal, get_or, flat_map, Option, Some, None, unwrap_or}
use Rattle.gd_base.specs.declared.game.Colour.{Colour}
use Rattle.gd_base.specs.declared.condition.Condition.{Condition}
use Rattle.gd_base.specs.declared.game.Game.{Game}
use Rattle.gd_base.specs.declared.meter.Meter.{Meter}
use Rattle.gd_base.specs.declared.records.BillRecord.{BillRecord}
use Rattle.gd_base.specs.declared.records.EventRecord.{EventRecord}
use Rattle.gd_base.specs.declared.payout.Handpay.{Handpay}
use Rattle.gd_base.specs.declared.payout.Order.{Order}
use Rattle.gd_base.specs.declared.payout.OrderKind.{OrderKind}
use Rattle.gd_base.specs.declared.play.PlayRecord.{PlayRecord}
use Rattle.gd_base.specs.declared.play.Stage.{Stage}
use Rattle.gd_base.specs.declared.records.VoucherRecord.{VoucherRecord}
use Rattle.gd_base.specs.declared.setup.Setup.{Setup}
use Rattle.gd_base.specs.Games.Chance.{window, prize, hand, final_hand, rank, has_bit}
use Rattle.gd_base.specs.Histories.Conditions.{doors, lock, tilts}
use Rattle.gd_base.specs.Histories.Meters.{meters, shown_total}
use Rattle.gd_base.specs.Texts.Names.{meter_name, condition_name, door_name, tilt_name, game_name, colour_name, rank_name, stage_name, card_name}
use Rattle.gd_base.specs.Histories.Numbers.{condition_number}
use Rattle.gd_base.specs.Histories.Rounds.{choices_of}
use Rattle.gd_base.specs.Games.Stage.{base_win, gamble_card, win_after, stage}
use Rattle.gd_base.specs.Histories.View.{View}

-- each text behind a space
abbrev pub spaced_texts : List (List ℕ) → List ℕ
spaced_texts texts = flat_map (λ text. codes " " ++ text) texts

abbrev pub padded_digits : ℕ → List ℕ → List ℕ
padded_digits width digits = replicate (width - length digits) 48 ++ digits

-- ================ meters, order, state

abbrev pub meter_line : Meter → ℕ → List ℕ
meter_line m total = meter_name m ++ codes " " ++ padded_digits 10 (decimal (shown_total total)) ++ codes "\n"

abbrev pub meter_lines : List Meter → List ℕ → List ℕ
meter_lines [] totals = []
meter_lines (m ∷ ms) [] = []
meter_lines (m ∷ ms) (total ∷ totals) = meter_line m total ++ meter_lines ms totals

abbrev pub meters_text : View → List ℕ
meters_text v = meter_lines meters v.totals

abbrev pub kind_text : OrderKind → ℕ → ℕ → List ℕ
kind_text OrderKind.Printer amount coin = codes " printer "
kind_text OrderKind.Hopper amount coin = codes " hopper " ++ decimal (amount / coin) ++ codes " coins "

abbrev pub order_line : Setup → Option Order → List ℕ
order_line setup None = codes "order none\n"
order_line setup (Some o) = codes "order " ++ decimal o.number ++ kind_text o.kind o.amount setup.coin ++ decimal o.amount ++ codes "\n"

abbrev pub order_text : Setup → View → List ℕ
order_text setup v = order_line setup v.order

abbrev pub condition_text : Option Condition → List ℕ
condition_text None = codes "none"
condition_text (Some c) = condition_name c

abbrev pub handpay_text : Option Handpay → List ℕ
handpay_text None = codes "none"
handpay_text (Some h) = (if h.win then codes "win " else codes "cancel ") ++ decimal h.amount

-- ================ a play

abbrev pub pick_line : Setup → PlayRecord → Option ℕ → List ℕ
pick_line setup p None = []
pick_line setup p (Some door) = codes "pick " ++ decimal door ++ codes " prize " ++ decimal (prize setup p.words door * p.bet) ++ codes "\n"

abbrev pub bits : ℕ → ℕ → ℕ → List ℕ
bits mask i zero = []
bits mask i (suc n) = (if has_bit mask i then 49 else 48) ∷ bits mask (i + 1) n

abbrev pub held_line : PlayRecord → Option ℕ → List ℕ
held_line p None = []
held_line p (Some mask) =
    codes "held " ++ bits mask 0 5 ++ codes " final" ++ spaced_texts (map card_name (final_hand p.words mask))
    ++ codes " " ++ rank_name (rank (final_hand p.words mask)) ++ codes "\n"

abbrev pub game_lines : Setup → PlayRecord → Game → List ℕ
game_lines setup p Game.Reels = codes "window" ++ spaced_texts (window setup p.words) ++ codes "\n" ++ pick_line setup p p.choice
game_lines setup p Game.Poker = codes "dealt" ++ spaced_texts (map card_name (hand p.words)) ++ codes "\n" ++ held_line p p.choice

-- the colour chosen in turn t
abbrev pub turn_colour : ℕ → ℕ → Colour
turn_colour colours t = if has_bit colours (t - 1) then Colour.Black else Colour.Red

abbrev pub base_of : Setup → PlayRecord → ℕ
base_of setup p = unwrap_or (base_win setup p.game p.bet p.words p.choice) 0

abbrev pub turn_line : Setup → PlayRecord → ℕ → List ℕ
turn_line setup p t =
    codes "gamble " ++ colour_name (turn_colour p.colours t) ++ codes " " ++ card_name (gamble_card p.words t)
    ++ codes " win " ++ decimal (win_after p.words p.colours (base_of setup p) t) ++ codes "\n"

-- the lines of turns 1 to n
abbrev pub turn_lines : Setup → PlayRecord → ℕ → List ℕ
turn_lines setup p zero = []
turn_lines setup p (suc n) = turn_lines setup p n ++ turn_line setup p (suc n)

abbrev pub play_head : PlayRecord → List ℕ
play_head p =
    codes "play " ++ decimal p.number ++ codes " block " ++ decimal p.index ++ codes " " ++ game_name p.game
    ++ codes " bet " ++ decimal p.bet ++ codes " wager " ++ decimal p.wager ++ codes "\n"

abbrev pub play_body : Setup → PlayRecord → List ℕ
play_body setup p = play_head p ++ game_lines setup p p.game ++ turn_lines setup p p.turns

abbrev pub stage_line : Stage → List ℕ
stage_line s = codes "stage " ++ stage_name s.phase ++ codes " win " ++ decimal s.win ++ codes "\n"

abbrev pub open_lines : Setup → PlayRecord → List ℕ
open_lines setup p = play_body setup p ++ stage_line (stage setup p.game p.bet p.words (choices_of p))

abbrev pub ended_lines : Setup → PlayRecord → List ℕ
ended_lines setup p =
    play_body setup p ++ codes "win " ++ decimal p.win ++ codes " before " ++ decimal p.before ++ codes " after " ++ decimal p.after ++ codes "\n"

abbrev pub lines_of_open : Setup → List ℕ → Option PlayRecord → List ℕ
lines_of_open setup otherwise None = otherwise
lines_of_open setup otherwise (Some p) = open_lines setup p

abbrev pub state_text : Setup → View → List ℕ
state_text setup v =
    codes "credit " ++ decimal v.balance ++ codes "\n"
    ++ codes "condition " ++ condition_text (lock v) ++ codes "\n"
    ++ order_text setup v ++ codes "handpay " ++ handpay_text v.handpay ++ codes "\n" ++ lines_of_open setup (codes "play none\n") v.play

abbrev pub recall_text : Setup → View → List ℕ
recall_text setup v =
    codes "recall " ++ decimal (length v.plays) ++ codes "\n" ++ lines_of_open setup [] v.play ++ flat_map (ended_lines setup) v.plays

-- ================ events, bills, vouchers

-- a door, by its place counted from 1
abbrev pub door_text : ℕ → List ℕ
door_text n = get_or (map door_name doors) (n - 1) []

-- a tilt, by the number of its condition
abbrev pub tilt_text : ℕ → List ℕ
tilt_text n = get_or (map tilt_name tilts) (n - condition_number Condition.BillJam) []

-- what happened, by its code and detail
abbrev pub event_phrase : ℕ → ℕ → List ℕ
event_phrase code detail =
    if code == 1 then codes "start"
    else if code == 2 then codes "door-opened " ++ door_text detail
    else if code == 3 then codes "door-shut " ++ door_text detail
    else if code == 4 then codes "tilt-raised " ++ tilt_text detail
    else if code == 5 then codes "tilt-cleared " ++ tilt_text detail
    else if code == 6 then codes "handpay-win " ++ decimal detail
    else if code == 7 then codes "handpay-cancel " ++ decimal detail
    else codes "handpay-done " ++ decimal detail

abbrev pub event_line : EventRecord → List ℕ
event_line e = decimal e.place ++ codes " " ++ event_phrase e.code e.detail ++ codes "\n"

abbrev pub bill_line : BillRecord → List ℕ
bill_line b = decimal b.place ++ codes " " ++ decimal b.value ++ codes "\n"

abbrev pub voucher_line : VoucherRecord → List ℕ
voucher_line v = decimal v.place ++ (if v.kind == 1 then codes " in " else codes " out ") ++ decimal v.id ++ codes " " ++ decimal v.value ++ codes "\n"

abbrev pub events_text : View → List ℕ
events_text v =
    codes "events " ++ decimal (length v.events) ++ codes "\n" ++ flat_map event_line v.events
    ++ codes "bills " ++ decimal (length v.bills) ++ codes "\n" ++ flat_map bill_line v.bills
    ++ codes "vouchers " ++ decimal (length v.vouchers) ++ codes "\n" ++ flat_map voucher_line v.vouchers
