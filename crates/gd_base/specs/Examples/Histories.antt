-- Worked rows as histories over the empty view, to be computed: replies, totals, counts and balances.
use Rattle.std.specs.Prelude.{◌≡◌, ℕ, zero, suc, ◌==◌, ◌&&◌, nat_le, IsTrue, if◌then◌else◌, List, [], ◌∷◌, ◌++◌, drop, map, reverse, replicate, refl}
use Rattle.gd_base.specs.declared.game.Colour.{Colour}
use Rattle.gd_base.specs.declared.condition.Condition.{Condition}
use Rattle.gd_base.specs.declared.condition.Door.{Door}
use Rattle.gd_base.specs.declared.event.Event.{Event}
use Rattle.gd_base.specs.declared.game.Game.{Game}
use Rattle.gd_base.specs.declared.refusal.Refusal.{Refusal}
use Rattle.gd_base.specs.declared.refusal.Reply.{Reply}
use Rattle.gd_base.specs.declared.condition.Tilt.{Tilt}
use Rattle.gd_base.specs.declared.setup.Setup.{Setup}
use Rattle.gd_base.specs.Setups.BuiltIn.{built_in_setup}
use Rattle.gd_base.specs.Examples.Chance.{pick_words, royal_words, ace_words, gamble_words}
use Rattle.gd_base.specs.Histories.Entry.{Entry}
use Rattle.gd_base.specs.Judging.Legal.{after_events}
use Rattle.gd_base.specs.Histories.Meters.{shown_total}
use Rattle.gd_base.specs.Payloads.Spelled.{Unreadable}
use Rattle.gd_base.specs.Judging.Product.{machine}
use Rattle.gd_base.specs.Histories.View.{View}
use Rattle.gd_base.specs.Histories.ViewOf.{view_after, from_empty}

-- ================ histories by their events

-- the legal history that events make over the empty view, the newest entry first, on the blocks of their indexes
abbrev pub history : Setup → (ℕ → List ℕ) → List Event → List Entry
history setup blocks events =
    let M = machine setup [] (λ payload. Unreadable) in
    after_events M (λ lap. blocks) 0 M.empty [] events

-- and what is seen after it
abbrev pub view_of_events : Setup → (ℕ → List ℕ) → List Event → View
view_of_events setup blocks events = view_after (from_empty setup []) (history setup blocks events)

-- the replies to events, the oldest first
abbrev pub replies : Setup → (ℕ → List ℕ) → List Event → List Reply
replies setup blocks events = map (λ e. e.reply) (reverse (history setup blocks events))

-- blocks of zeros
abbrev pub no_words : ℕ → List ℕ
no_words index = replicate 16 0

-- these words at one index, and else zeros
abbrev pub words_at : ℕ → List ℕ → ℕ → List ℕ
words_at place words index = if index == place then words else replicate 16 0

-- a list of events so many times
abbrev pub times : ℕ → List Event → List Event
times zero events = []
times (suc n) events = events ++ times n events

-- the built-in setup with another handpay limit, whose rule has to be shown
abbrev pub with_limit : (limit : ℕ) → IsTrue (nat_le 1 limit && nat_le limit 100000000) → Setup
with_limit limit h = record built_in_setup { handpay_limit = limit; has_handpay_limit = h }

-- ================ the views of the rows

abbrev pub first_bill : View
first_bill = view_of_events built_in_setup no_words (Event.Start ∷ Event.Bill 500 ∷ [])

abbrev pub open_pick : View
open_pick = view_of_events built_in_setup (words_at 1 pick_words) (Event.Start ∷ Event.Bill 500 ∷ Event.Play Game.Reels 9 ∷ Event.Start ∷ [])

abbrev pub picked : View
picked =
    view_of_events built_in_setup (words_at 1 pick_words)
    (Event.Start ∷ Event.Bill 500 ∷ Event.Play Game.Reels 9 ∷ Event.Start ∷ Event.Pick 2 ∷ Event.Take ∷ [])

abbrev pub voucher_events : List Event
voucher_events = Event.Start ∷ Event.VoucherIn 7 1000000 ∷ Event.VoucherIn 8 1 ∷ Event.VoucherIn 7 5 ∷ Event.Bill 300 ∷ []

abbrev pub royal_events : List Event
royal_events = Event.Start ∷ Event.Bill 500 ∷ Event.Play Game.Poker 5 ∷ Event.Hold 31 ∷ Event.Take ∷ []

abbrev pub after_royal : Setup → View
after_royal setup = view_of_events setup (words_at 1 royal_words) royal_events

abbrev pub confirmed_events : List Event
confirmed_events = royal_events ++ (Event.CashOut ∷ Event.HandpayDone ∷ [])

abbrev pub order_events : List Event
order_events = Event.Start ∷ Event.VoucherIn 1 1975 ∷ Event.CashOut ∷ []

abbrev pub open_coins : View
open_coins = view_of_events built_in_setup no_words order_events

abbrev pub empty_hopper : View
empty_hopper =
    view_of_events built_in_setup no_words
    (order_events ++ (Event.CoinPaid 1 ∷ Event.CoinPaid 1 ∷ Event.CoinPaid 1 ∷ Event.HopperEmpty 1 ∷ []))

abbrev pub ace_low : View
ace_low = view_of_events built_in_setup (words_at 1 ace_words) (Event.Start ∷ Event.Bill 500 ∷ Event.Play Game.Poker 5 ∷ Event.Hold 31 ∷ Event.Take ∷ [])

abbrev pub gambles : View
gambles =
    view_of_events built_in_setup (words_at 11 gamble_words)
    ((Event.Start ∷ Event.Bill 500 ∷ []) ++ times 11 (Event.Play Game.Reels 1 ∷ []) ++ times 5 (Event.Gamble Colour.Black ∷ []))

abbrev pub evening_events : List Event
evening_events =
    (Event.Start ∷ Event.Bill 2000 ∷ Event.Bill 1000 ∷ [])
    ++ times 20 (Event.Play Game.Reels 9 ∷ [])
    ++ times 20 (Event.Play Game.Poker 1 ∷ Event.Hold 31 ∷ Event.Take ∷ [])
    ++ (Event.DoorOpen Door.Main ∷ Event.DoorShut Door.Main ∷ Event.BillJam ∷ Event.ClearTilt Tilt.BillJam ∷ Event.Start ∷ Event.CashOut ∷ Event.Printed 1 ∷ [])

abbrev pub evening : View
evening = view_of_events built_in_setup no_words evening_events

abbrev pub cancel_events : List Event
cancel_events = Event.Start ∷ Event.VoucherIn 1 400000 ∷ Event.CashOut ∷ []

abbrev pub cancelled : View
cancelled = view_of_events built_in_setup no_words cancel_events

abbrev pub cancel_done : View
cancel_done = view_of_events built_in_setup no_words (cancel_events ++ (Event.HandpayDone ∷ []))

-- ================ the rows

-- one bill and a start
pub record OneBill : Type 0 where
  pub totals : first_bill.totals ≡ 500 ∷ 0 ∷ 0 ∷ 0 ∷ 0 ∷ 0 ∷ 0 ∷ 0 ∷ 0 ∷ 0 ∷ 0 ∷ 1 ∷ 0 ∷ 0 ∷ 0 ∷ 0 ∷ []
  pub balance : first_bill.balance ≡ 500

-- a meter rolls over in what is shown
pub record RollsOver : Type 0 where
  pub below : shown_total 9999999999 ≡ 9999999999
  pub at : shown_total 10000000000 ≡ 0

-- a pick that outlives a start
pub record Pick : Type 0 where
  pub count : picked.count ≡ 6
  pub balance : picked.balance ≡ 905

-- vouchers at the credit limit, seen again, and a bill that isn't enabled
pub record Vouchers : Type 0 where
  pub replies : replies built_in_setup no_words voucher_events
      ≡ Reply.Taken ∷ Reply.Taken ∷ Reply.Refused Refusal.CreditLimit ∷ Reply.Refused Refusal.VoucherSeen ∷ Reply.Refused Refusal.ValueNotEnabled ∷ []
  pub balance : (view_of_events built_in_setup no_words voucher_events).balance ≡ 1000000

-- a win just below the handpay limit is credited; at it, it is held until the attendant confirms it
pub record RoyalFlush : Type 0 where
  pub below_limit : (after_royal (with_limit 6251 refl)).balance ≡ 6725
  pub at_limit : (after_royal (with_limit 6250 refl)).balance ≡ 475
  pub replies : drop 5 (replies (with_limit 6250 refl) (words_at 1 royal_words) confirmed_events)
      ≡ Reply.Refused (Refusal.LockedUp Condition.Handpay) ∷ Reply.Taken ∷ []
  pub totals : (view_of_events (with_limit 6250 refl) (words_at 1 royal_words) confirmed_events).totals
      ≡ 500 ∷ 0 ∷ 0 ∷ 25 ∷ 6250 ∷ 0 ∷ 0 ∷ 6250 ∷ 0 ∷ 1 ∷ 1 ∷ 1 ∷ 0 ∷ 0 ∷ 0 ∷ 0 ∷ []

-- three coins are paid, and the rest comes back
pub record HopperRunsEmpty : Type 0 where
  pub totals : empty_hopper.totals ≡ 0 ∷ 0 ∷ 1975 ∷ 0 ∷ 0 ∷ 0 ∷ 75 ∷ 0 ∷ 0 ∷ 0 ∷ 0 ∷ 1 ∷ 0 ∷ 0 ∷ 0 ∷ 0 ∷ []
  pub balance : empty_hopper.balance ≡ 1900
  pub count : empty_hopper.count ≡ 7

-- the hand with the ace below the two
pub record AceLow : Type 0 where
  pub balance : ace_low.balance ≡ 1725

-- five gambles that are won
pub record Gambles : Type 0 where
  pub count : gambles.count ≡ 18
  pub balance : gambles.balance ≡ 1245

-- one evening of plays, a door, a jam, a start and a cash-out
pub record Evening : Type 0 where
  pub totals : evening.totals ≡ 3000 ∷ 0 ∷ 0 ∷ 1000 ∷ 5000 ∷ 7000 ∷ 0 ∷ 0 ∷ 0 ∷ 40 ∷ 20 ∷ 2 ∷ 0 ∷ 1 ∷ 0 ∷ 0 ∷ []
  pub count : evening.count ≡ 90
  pub balance : evening.balance ≡ 0

-- credit that no device may pay is paid by hand
pub record CancelledCredit : Type 0 where
  pub totals : cancel_done.totals ≡ 0 ∷ 0 ∷ 400000 ∷ 0 ∷ 0 ∷ 0 ∷ 0 ∷ 0 ∷ 400000 ∷ 0 ∷ 0 ∷ 1 ∷ 0 ∷ 0 ∷ 0 ∷ 0 ∷ []
  pub count : cancel_done.count ≡ 4
