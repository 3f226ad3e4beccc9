-- How an event is judged: by the view of the history before it. The refusals of its kind are tried in order; else it is taken.
use Rattle.std.specs.Prelude.{ℕ, ◌+◌, Bool, true, false, ◌&&◌, ◌==◌, nat_le, nat_lt, is_some, List, [], ◌∷◌, take, Option, Some, None}
use Rattle.std.specs.List.{list_any}
use Rattle.gd_base.specs.declared.limits.TheConstants.{MOST_AMOUNT, MOST_HOLD, MOST_PICK}
use Rattle.gd_base.specs.declared.condition.Condition.{Condition}
use Rattle.gd_base.specs.declared.event.Event.{Event}
use Rattle.gd_base.specs.declared.game.Game.{Game}
use Rattle.gd_base.specs.declared.refusal.Refusal.{Refusal}
use Rattle.gd_base.specs.declared.refusal.Reply.{Reply}
use Rattle.gd_base.specs.declared.payout.Order.{Order}
use Rattle.gd_base.specs.declared.payout.OrderKind.{OrderKind}
use Rattle.gd_base.specs.declared.play.PlayRecord.{PlayRecord}
use Rattle.gd_base.specs.declared.play.StageOpen.{StageOpen}
use Rattle.gd_base.specs.declared.setup.Setup.{Setup}
use Rattle.gd_base.specs.Histories.Conditions.{lock, flag_at}
use Rattle.gd_base.specs.Histories.Credit.{wager}
use Rattle.gd_base.specs.Histories.Numbers.{door_place, tilt_place}
use Rattle.gd_base.specs.Histories.Rounds.{round_of, round_stage}
use Rattle.gd_base.specs.Games.Stage.{is_bet, is_stage}
use Rattle.gd_base.specs.Histories.View.{View}

abbrev pub refuse_if : Bool → Refusal → Option Refusal
refuse_if true why = Some why
refuse_if false why = None

abbrev pub locked_up : Option Condition → Option Refusal
locked_up None = None
locked_up (Some condition) = Some (Refusal.LockedUp condition)

abbrev pub while_locked : View → Option Refusal
while_locked v = locked_up (lock v)

abbrev pub while_ordered : View → Option Refusal
while_ordered v = refuse_if (is_some v.order) Refusal.OrderOpen

abbrev pub over_limit : Setup → View → ℕ → Option Refusal
over_limit setup v value = refuse_if (nat_lt setup.credit_limit (v.balance + value)) Refusal.CreditLimit

abbrev pub unless : Bool → Refusal → Option Refusal
unless true why = None
unless false why = Some why

abbrev pub is_bill : Setup → ℕ → Bool
is_bill setup value = list_any (λ b. b == value) (take setup.bill_count setup.bills)

abbrev pub is_enabled : Setup → Game → Bool
is_enabled setup Game.Reels = setup.reels_enabled
is_enabled setup Game.Poker = setup.poker_enabled

abbrev pub is_kind : OrderKind → OrderKind → Bool
is_kind OrderKind.Printer OrderKind.Printer = true
is_kind OrderKind.Hopper OrderKind.Hopper = true
is_kind _ _ = false

-- whether this order is the open one, of this kind
abbrev pub is_order : OrderKind → ℕ → Option Order → Bool
is_order kind number None = false
is_order kind number (Some order) = (order.number == number) && is_kind order.kind kind

abbrev pub unless_ordered : View → OrderKind → ℕ → Option Refusal
unless_ordered v kind number = unless (is_order kind number v.order) Refusal.NoSuchOrder

-- whether a voucher stands as taken in among the last ones
abbrev pub is_seen : View → ℕ → Bool
is_seen v id = list_any (λ r. (r.kind == 1) && (r.id == id)) v.vouchers

-- a choice asks for an open play in the right stage
abbrev pub is_at : Setup → StageOpen → Option PlayRecord → Bool
is_at setup phase None = false
is_at setup phase (Some p) = is_stage (round_stage setup (round_of p)).phase phase

abbrev pub choice_refusals : Setup → View → StageOpen → Bool → List (Option Refusal)
choice_refusals setup v phase is_good =
    while_locked v ∷ unless (is_some v.play) Refusal.NoPlay ∷ unless (is_at setup phase v.play && is_good) Refusal.BadChoice ∷ []

-- the refusals of an event, in the order in which they are tried
abbrev pub refusals : Setup → View → Event → List (Option Refusal)
refusals setup v (Event.Bill value) =
    while_locked v ∷ while_ordered v ∷ unless (is_bill setup value) Refusal.ValueNotEnabled ∷ over_limit setup v value ∷ []
refusals setup v Event.BillJam = []
refusals setup v Event.StackerFull = []
refusals setup v (Event.Coin value) =
    while_locked v ∷ while_ordered v ∷ unless (value == setup.coin) Refusal.ValueNotEnabled ∷ over_limit setup v value ∷ []
refusals setup v Event.CoinJam = []
refusals setup v (Event.VoucherIn id value) =
    while_locked v ∷ while_ordered v ∷ unless (nat_le 1 value && nat_le value MOST_AMOUNT) Refusal.ValueNotEnabled
    ∷ refuse_if (is_seen v id) Refusal.VoucherSeen ∷ over_limit setup v value ∷ []
refusals setup v (Event.Printed order) = unless_ordered v OrderKind.Printer order ∷ []
refusals setup v (Event.PrintFail order) = unless_ordered v OrderKind.Printer order ∷ []
refusals setup v Event.PaperOut = []
refusals setup v (Event.CoinPaid order) = unless_ordered v OrderKind.Hopper order ∷ []
refusals setup v (Event.HopperEmpty order) = unless_ordered v OrderKind.Hopper order ∷ []
refusals setup v (Event.DoorOpen door) = refuse_if (flag_at v.doors (door_place door)) Refusal.DoorAlready ∷ []
refusals setup v (Event.DoorShut door) = unless (flag_at v.doors (door_place door)) Refusal.DoorAlready ∷ []
refusals setup v (Event.Play game bet) =
    while_locked v ∷ while_ordered v ∷ refuse_if (is_some v.play) Refusal.PlayOpen
    ∷ unless (is_enabled setup game) Refusal.NoGame ∷ unless (is_bet game bet) Refusal.BadWager
    ∷ refuse_if (nat_lt (v.balance) (wager setup bet)) Refusal.NoCredit ∷ []
refusals setup v (Event.Pick door) = choice_refusals setup v StageOpen.Pick (nat_le 1 door && nat_le door MOST_PICK)
refusals setup v (Event.Hold mask) = choice_refusals setup v StageOpen.Hold (nat_le mask MOST_HOLD)
refusals setup v (Event.Gamble colour) = choice_refusals setup v StageOpen.Gamble true
refusals setup v Event.Take = choice_refusals setup v StageOpen.Gamble true
refusals setup v Event.CashOut =
    while_locked v ∷ while_ordered v ∷ refuse_if (is_some v.play) Refusal.PlayOpen
    ∷ refuse_if (v.balance == 0) Refusal.NothingToPay ∷ []
refusals setup v (Event.ClearTilt tilt) = unless (flag_at v.tilts (tilt_place tilt)) Refusal.NoSuchTilt ∷ []
refusals setup v Event.HandpayDone = unless (is_some v.handpay) Refusal.NoHandpay ∷ []
refusals setup v Event.Start = []

abbrev pub reply_by : List (Option Refusal) → Reply
reply_by [] = Reply.Taken
reply_by (None ∷ others) = reply_by others
reply_by (Some why ∷ others) = Reply.Refused why

abbrev pub rule : Setup → View → Event → Reply
rule setup v event = reply_by (refusals setup v event)
