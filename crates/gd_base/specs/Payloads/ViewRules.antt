-- The rules of a view: those that no setup changes, and those that name the setup.
use Rattle.std.specs.Prelude.{ℕ, ◌+◌, ◌*◌, ◌%◌, ◌^◌, Bool, true, not, ◌&&◌, ◌||◌, ◌==◌, nat_le, nat_lt, is_some, is_none, if◌then◌else◌, List, [], ◌∷◌, length, map, sum, drop, slice_index, Option, Some, None}
use Rattle.std.specs.List.{list_all}
use Rattle.gd_base.specs.declared.limits.TheConstants.{MOST_AMOUNT, MOST_ENTRIES, MOST_HOLD, MOST_PICK, MOST_TURNS}
use Rattle.gd_base.specs.declared.records.TheConstants.{PLAYS_KEPT, EVENTS_KEPT, BILLS_KEPT, VOUCHERS_KEPT}
use Rattle.gd_base.specs.declared.game.Game.{Game}
use Rattle.gd_base.specs.declared.refusal.Reply.{Reply}
use Rattle.gd_base.specs.declared.records.BillRecord.{BillRecord}
use Rattle.gd_base.specs.declared.records.EventRecord.{EventRecord}
use Rattle.gd_base.specs.declared.payout.Handpay.{Handpay}
use Rattle.gd_base.specs.declared.payout.Order.{Order}
use Rattle.gd_base.specs.declared.payout.OrderKind.{OrderKind}
use Rattle.gd_base.specs.declared.play.PlayRecord.{PlayRecord}
use Rattle.gd_base.specs.declared.play.StageOpen.{StageOpen}
use Rattle.gd_base.specs.declared.records.VoucherRecord.{VoucherRecord}
use Rattle.gd_base.specs.declared.setup.Setup.{Setup}
use Rattle.gd_base.specs.Histories.Credit.{order_amount, wager}
use Rattle.gd_base.specs.Histories.Meters.{handpay_amount}
use Rattle.gd_base.specs.Histories.Rounds.{choices_of}
use Rattle.gd_base.specs.Games.Stage.{stage, is_bet, is_stage, are_choices}
use Rattle.gd_base.specs.Histories.View.{View}

-- ================ the sums

abbrev pub total : View → ℕ → ℕ
total v m = slice_index v.totals m

-- what came in and was won
abbrev pub income : View → ℕ
income v = total v 0 + total v 1 + total v 2 + total v 4

-- what there is, and what was wagered and paid out
abbrev pub outgo : View → ℕ
outgo v = v.balance + order_amount v.order + handpay_amount v.handpay + total v 3 + total v 5 + total v 6 + total v 7 + total v 8

-- nothing is lost or made
abbrev pub is_balanced : View → Bool
is_balanced v = (outgo v == income v) && nat_le (income v) (v.count * MOST_AMOUNT)

-- ================ rules that no setup changes

abbrev pub all_true : List Bool → Bool
all_true [] = true
all_true (b ∷ bs) = b && all_true bs

abbrev pub is_flagged_last : ℕ × Option Reply → Bool
is_flagged_last k = if k.0 == 0 then is_none k.1 else is_some k.1

-- the last numbers add up to the count, and each but 0 has a reply
abbrev pub are_numbered : View → Bool
are_numbered v = (sum (map (λ k. k.0) v.kept) == v.count) && list_all is_flagged_last v.kept

-- places fall from the newest record on, between 1 and a limit
abbrev pub fall_from : ℕ → List ℕ → Bool
fall_from limit [] = true
fall_from limit (place ∷ places) = nat_le 1 place && nat_lt place limit && fall_from place places

abbrev pub play_limit : View → Option PlayRecord → ℕ
play_limit v None = v.count + 1
play_limit v (Some p) = p.place

abbrev pub are_places : View → Bool
are_places v =
    fall_from (play_limit v v.play) (map (λ p. p.place) v.plays) && fall_from (v.count + 1) (map (λ e. e.place) v.events)
    && fall_from (v.count + 1) (map (λ b. b.place) v.bills) && fall_from (v.count + 1) (map (λ r. r.place) v.vouchers)

abbrev pub are_short : View → Bool
are_short v = nat_le (length v.plays) PLAYS_KEPT && nat_le (length v.events) EVENTS_KEPT && nat_le (length v.bills) BILLS_KEPT && nat_le (length v.vouchers) VOUCHERS_KEPT

-- an event's detail, by its code
abbrev pub is_event : EventRecord → Bool
is_event e =
    if e.code == 1 then e.detail == 0
    else if nat_lt e.code 4 then nat_le 2 e.code && nat_le 1 e.detail && nat_le e.detail 4
    else if nat_lt e.code 6 then nat_le 5 e.detail && nat_le e.detail 10
    else nat_le e.code 8 && nat_lt e.detail (2 ^ 64)

abbrev pub is_bill_record : BillRecord → Bool
is_bill_record b = nat_lt b.value (2 ^ 32)

abbrev pub is_voucher : VoucherRecord → Bool
is_voucher r = ((r.kind == 1) || (r.kind == 2)) && nat_lt r.id (2 ^ 64) && nat_lt r.value (2 ^ 32)

abbrev pub is_choice_value : Game → Option ℕ → Bool
is_choice_value game None = true
is_choice_value Game.Reels (Some door) = nat_le 1 door && nat_le door MOST_PICK
is_choice_value Game.Poker (Some mask) = nat_le mask MOST_HOLD

-- choices of the game, and numbers in their widths
abbrev pub record_rules : PlayRecord → List Bool
record_rules p =
    is_bet p.game p.bet ∷ is_choice_value p.game p.choice ∷ nat_le p.turns MOST_TURNS ∷ nat_lt p.colours (2 ^ p.turns) ∷ nat_lt p.number (2 ^ 64) ∷ nat_lt p.index (2 ^ 64)
    ∷ (length p.words == 16) ∷ list_all (λ w. nat_lt w (2 ^ 64)) p.words ∷ nat_lt p.wager (2 ^ 32) ∷ nat_lt p.win (2 ^ 64) ∷ nat_lt p.before (2 ^ 64) ∷ nat_lt p.after (2 ^ 64) ∷ []

abbrev pub is_play_record : PlayRecord → Bool
is_play_record p = all_true (record_rules p)

abbrev pub is_amount : OrderKind → ℕ → Bool
is_amount OrderKind.Printer amount = nat_le 1 amount && nat_le amount MOST_AMOUNT
is_amount OrderKind.Hopper amount = nat_le 1 amount

abbrev pub is_small_order : Option Order → Bool
is_small_order None = true
is_small_order (Some o) = is_amount o.kind o.amount

abbrev pub has_number : ℕ → Option Order → Bool
has_number orders None = true
has_number orders (Some o) = (o.number == orders) && nat_le 1 orders

abbrev pub is_some_handpay : Option Handpay → Bool
is_some_handpay None = true
is_some_handpay (Some h) = nat_le 1 h.amount

abbrev pub not_both : Bool → Bool → Bool
not_both a b = not (a && b)

-- of an order, a play and a handpay at most one is open
abbrev pub is_one_open : View → Bool
is_one_open v =
    not_both (is_some v.order) (is_some v.handpay) && not_both (is_some v.order) (is_some v.play) && not_both (is_some v.handpay) (is_some v.play)

abbrev pub is_open_as : (PlayRecord → Bool) → Option PlayRecord → Bool
is_open_as test None = true
is_open_as test (Some p) = test p

-- an open play has a place among so many entries, and no balance after it yet
abbrev pub is_placed : ℕ → PlayRecord → Bool
is_placed count p = nat_le 1 p.place && nat_le p.place count && (p.after == 0)

abbrev pub is_open_record : View → PlayRecord → Bool
is_open_record v p = is_placed v.count p

-- the rules of a view, whatever its setup
abbrev pub view_rules : View → List Bool
view_rules v =
    (length v.digest == 32) ∷ list_all (λ b. nat_lt b 256) v.digest ∷ (length v.totals == 16) ∷ (length v.doors == 4) ∷ (length v.tilts == 6) ∷ (length v.kept == 9)
    ∷ nat_le v.count MOST_ENTRIES ∷ are_numbered v ∷ is_balanced v ∷ list_all (λ n. nat_le n v.count) (drop 9 v.totals) ∷ nat_le v.orders v.count
    ∷ are_places v ∷ are_short v ∷ is_small_order v.order ∷ has_number v.orders v.order ∷ is_some_handpay v.handpay ∷ is_one_open v
    ∷ list_all is_event v.events ∷ list_all is_bill_record v.bills ∷ list_all is_voucher v.vouchers ∷ list_all is_play_record v.plays
    ∷ is_open_as is_play_record v.play ∷ is_open_as (is_open_record v) v.play ∷ []

abbrev pub is_possible : View → Bool
is_possible v = all_true (view_rules v)

-- ================ rules that name the setup

abbrev pub is_whole_coins : Setup → OrderKind → ℕ → Bool
is_whole_coins setup OrderKind.Printer amount = true
is_whole_coins setup OrderKind.Hopper amount = amount % setup.coin == 0

-- an order to the hopper is a number of coins
abbrev pub is_coins : Setup → Option Order → Bool
is_coins setup None = true
is_coins setup (Some o) = is_whole_coins setup o.kind o.amount

-- the wager of the bet, choices in order, and the win of these choices
abbrev pub is_played : Setup → PlayRecord → Bool
is_played setup p =
    (p.wager == wager setup p.bet) && are_choices setup p.game p.bet p.words (choices_of p)
    && (p.win == (stage setup p.game p.bet p.words (choices_of p)).win)

abbrev pub is_in : Setup → PlayRecord → StageOpen → Bool
is_in setup p phase = is_stage (stage setup p.game p.bet p.words (choices_of p)).phase phase

-- a finished play has ended, or was taken in its gamble stage
abbrev pub is_finished : Setup → PlayRecord → Bool
is_finished setup p = is_in setup p StageOpen.Ended || is_in setup p StageOpen.Gamble

abbrev pub setup_rules : Setup → View → List Bool
setup_rules setup v =
    is_coins setup v.order ∷ list_all (is_played setup) v.plays ∷ is_open_as (is_played setup) v.play
    ∷ list_all (is_finished setup) v.plays ∷ is_open_as (λ p. not (is_in setup p StageOpen.Ended)) v.play ∷ []

abbrev pub is_possible_under : Setup → View → Bool
is_possible_under setup v = all_true (setup_rules setup v)
