-- What each definition is of a history with one entry more. With the newest entry first most of it is by computation.
use Rattle.std.specs.Prelude.{◌≡◌, ℕ, suc, ◌+◌, List, [], ◌∷◌, ◌++◌, take, Option, Some, None, refl}
use Rattle.std.proofs.Common.{ap, sym, arith}
use Rattle.std.proofs.lemmas.List.{reverse-append, take-take}
use Rattle.gd_base.specs.declared.records.TheConstants.{PLAYS_KEPT, EVENTS_KEPT, BILLS_KEPT, VOUCHERS_KEPT}
use Rattle.gd_base.specs.declared.device.Device.{Device}
use Rattle.gd_base.specs.declared.condition.Door.{Door}
use Rattle.gd_base.specs.declared.meter.Meter.{Meter}
use Rattle.gd_base.specs.declared.condition.Tilt.{Tilt}
use Rattle.gd_base.specs.declared.setup.Setup.{Setup}
use Rattle.gd_base.specs.Histories.Conditions.{is_open, has_tilt, says_door, says_tilt}
use Rattle.gd_base.specs.Histories.Credit.{balance, orders, open_order, balance_after, orders_after, order_after}
use Rattle.gd_base.specs.Histories.Devices.{last_number, kept_reply, one_for, reply_if}
use Rattle.gd_base.specs.Histories.Entry.{Entry}
use Rattle.gd_base.specs.Histories.History.{Origin, past_of, sum_over, added_amount, taken_statement, or_else, with_note, count, next_place}
use Rattle.gd_base.specs.Histories.Meters.{meter, meter_added, open_handpay, handpay_said}
use Rattle.gd_base.specs.Histories.Recall.{plays, events, bills, vouchers, ended_play, event_noted, bill_noted, voucher_noted}
use Rattle.gd_base.specs.Histories.Rounds.{posted_win, open_round, open_after}
use Rattle.gd_base.specs.Histories.View.{View}
use Rattle.gd_base.specs.Histories.ViewOf.{view_of, view_after}

-- ================ histories that are written from the first entry on

pub past_of-append : (entries : List Entry) (e : Entry) → past_of (entries ++ e ∷ []) ≡ e ∷ past_of entries
past_of-append entries e = reverse-append entries (e ∷ [])

pub view_of-append : (setup : Setup) (v : View) (entries : List Entry) (e : Entry)
    → view_of setup v (entries ++ e ∷ []) ≡ view_after (record { setup = setup; opening = v }) (e ∷ past_of entries)
view_of-append setup v entries e = ap (view_after (record { setup = setup; opening = v })) (past_of-append entries e)

-- ================ sums

pub sum_over-more : (amount : Entry → List Entry → ℕ) (first : ℕ) (e : Entry) (past : List Entry)
    → sum_over amount first (e ∷ past) ≡ sum_over amount first past + added_amount amount e past
sum_over-more amount first e past = refl

pub count-more : (o : Origin) (e : Entry) (past : List Entry) → count o (e ∷ past) ≡ count o past + 1
count-more o e past = refl

pub meter-more : (o : Origin) (m : Meter) (e : Entry) (past : List Entry) → meter o m (e ∷ past) ≡ meter o m past + added_amount (meter_added o m) e past
meter-more o m e past = refl

pub balance-more : (o : Origin) (e : Entry) (past : List Entry)
    → balance o (e ∷ past) ≡ balance_after o.setup e (posted_win o e past) (balance o past) (open_order o past)
balance-more o e past = refl

pub orders-more : (o : Origin) (e : Entry) (past : List Entry) → orders o (e ∷ past) ≡ orders_after o.setup e (balance o past) (orders o past)
orders-more o e past = refl

-- ================ the latest

pub open_order-more : (o : Origin) (e : Entry) (past : List Entry)
    → open_order o (e ∷ past) ≡ order_after o.setup e (balance o past) (orders o past) (open_order o past)
open_order-more o e past = refl

pub open_round-more : (o : Origin) (e : Entry) (past : List Entry) → open_round o (e ∷ past) ≡ open_after o.setup e (next_place o past) (open_round o past)
open_round-more o e past = refl

pub open_handpay-more : (o : Origin) (e : Entry) (past : List Entry) → open_handpay o (e ∷ past) ≡ or_else (taken_statement (handpay_said o) e past) (open_handpay o past)
open_handpay-more o e past = refl

pub is_open-more : (o : Origin) (d : Door) (e : Entry) (past : List Entry)
    → is_open o d (e ∷ past) ≡ or_else (taken_statement (λ e past. says_door d e.event) e past) (is_open o d past)
is_open-more o d e past = refl

pub has_tilt-more : (o : Origin) (t : Tilt) (e : Entry) (past : List Entry)
    → has_tilt o t (e ∷ past) ≡ or_else (taken_statement (λ e past. says_tilt t e.event) e past) (has_tilt o t past)
has_tilt-more o t e past = refl

pub last_number-more : (o : Origin) (d : Device) (e : Entry) (past : List Entry) → last_number o d (e ∷ past) ≡ last_number o d past + one_for d e
last_number-more o d e past = refl

pub kept_reply-more : (o : Origin) (d : Device) (e : Entry) (past : List Entry) → kept_reply o d (e ∷ past) ≡ reply_if d e (kept_reply o d past)
kept_reply-more o d e past = refl

-- ================ the last n

-- a note more, and the last n again: what a ring of n places does
pub take-with_note : {A : Type 0} (n : ℕ) (note : Option A) (notes : List A) → take (suc n) (with_note note notes) ≡ take (suc n) (with_note note (take (suc n) notes))
take-with_note n None notes = sym (take-take (suc n) (suc n) notes (omega arith))
take-with_note n (Some a) notes = ap (λ l. a ∷ l) (sym (take-take n (suc n) notes (omega arith)))

pub plays-more : (o : Origin) (e : Entry) (past : List Entry) → plays o (e ∷ past) ≡ take PLAYS_KEPT (with_note (taken_statement (ended_play o) e past) (plays o past))
plays-more o e past = take-with_note 9 _ _

pub events-more : (o : Origin) (e : Entry) (past : List Entry)
    → events o (e ∷ past) ≡ take EVENTS_KEPT (with_note (taken_statement (event_noted o) e past) (events o past))
events-more o e past = take-with_note 99 _ _

pub bills-more : (o : Origin) (e : Entry) (past : List Entry)
    → bills o (e ∷ past) ≡ take BILLS_KEPT (with_note (taken_statement (bill_noted o) e past) (bills o past))
bills-more o e past = take-with_note 4 _ _

pub vouchers-more : (o : Origin) (e : Entry) (past : List Entry)
    → vouchers o (e ∷ past) ≡ take VOUCHERS_KEPT (with_note (taken_statement (voucher_noted o) e past) (vouchers o past))
vouchers-more o e past = take-with_note 34 _ _
