-- Rules of a view that one entry more keeps, further: the records of events, bills and vouchers keep their own.
use Rattle.std.specs.Prelude.{◌≡◌, ℕ, ◌+◌, ◌<◌, ◌≤◌, ◌^◌, ◌==◌, ◌&&◌, nat_le, nat_lt, Bool, true, false, if◌then◌else◌, List, [], take, Option, Some, None, refl}
use Rattle.std.specs.List.{list_all}
use Rattle.std.proofs.Common.{sym, ◌∙◌, arith}
use Rattle.gd_base.specs.declared.condition.Door.{Door}
use Rattle.gd_base.specs.declared.condition.Tilt.{Tilt}
use Rattle.gd_base.specs.declared.event.Event.{Event}
use Rattle.gd_base.specs.declared.limits.TheConstants.{MOST_AMOUNT}
use Rattle.gd_base.specs.declared.payout.Handpay.{Handpay}
use Rattle.gd_base.specs.declared.payout.Order.{Order}
use Rattle.gd_base.specs.declared.payout.OrderKind.{OrderKind}
use Rattle.gd_base.specs.declared.records.TheConstants.{EVENTS_KEPT, BILLS_KEPT, VOUCHERS_KEPT}
use Rattle.gd_base.specs.declared.refusal.Refusal.{Refusal}
use Rattle.gd_base.specs.declared.refusal.Reply.{Reply}
use Rattle.gd_base.specs.declared.setup.Setup.{Setup}
use Rattle.gd_base.specs.Histories.Credit.{ByHopper, ByPrinter, ByHand, payment, order_amount}
use Rattle.gd_base.specs.Histories.Entry.{Entry, is_taken}
use Rattle.gd_base.specs.Histories.History.{with_note}
use Rattle.gd_base.specs.Histories.Meters.{handpay_amount, handpay_of_payment, says_handpay}
use Rattle.gd_base.specs.Histories.Numbers.{door_place, tilt_place}
use Rattle.gd_base.specs.Histories.Recall.{event_record, handpay_event, significant, bill_note, voucher_note}
use Rattle.gd_base.specs.Histories.View.{View}
use Rattle.gd_base.specs.Histories.ViewOf.{from_view, with_entry}
use Rattle.gd_base.specs.Judging.Product.{both_hold}
use Rattle.gd_base.specs.Judging.Rule.{rule, refusals, is_bill, is_kind, is_order}
use Rattle.gd_base.specs.Laws.Preserved.{HasWidths}
use Rattle.gd_base.specs.Payloads.ViewRules.{is_event, is_bill_record, is_voucher, is_amount, is_small_order, has_number}
use Rattle.gd_base.proofs.BooksLemmas.Books.{win_by}
use Rattle.gd_base.proofs.BooksLemmas.Enabled.{bill_small}
use Rattle.gd_base.proofs.BooksLemmas.LegalBooks.{AreNone, told, is_so}
use Rattle.gd_base.proofs.BoolTests.{at_most, both, is_below, is_so as is_number}
use Rattle.gd_base.proofs.PreservedLemmas.Bounds.{amounts}
use Rattle.gd_base.proofs.PreservedLemmas.Plays.{all_take}
use Rattle.gd_base.proofs.ViewFacts.{Possible}

-- ================ a note that passes a test, if any

abbrev pub Passes : {A : Type 0} → (A → Bool) → Option A → Type 0
Passes test None = Unit {0}
Passes test (Some a) = test a ≡ true

noted_if : {A : Type 0} (test : A → Bool) (note : Option A) (xs : List A) → Passes test note → list_all test xs ≡ true → list_all test (with_note note xs) ≡ true
noted_if test None xs p h = h
noted_if test (Some a) xs p h = both_hold (test a) (list_all test xs) p h

noted : {A : Type 0} (test : A → Bool) (n : ℕ) (note : Option A) (xs : List A) → Passes test note → list_all test xs ≡ true → list_all test (take n (with_note note xs)) ≡ true
noted test n note xs p h = all_take test n (with_note note xs) (noted_if test note xs p h)

if_taken : {A : Type 0} (test : A → Bool) (reply : Reply) (made : Option A) → (reply ≡ Reply.Taken → Passes test made) → Passes test (if is_taken reply then made else None)
if_taken test Reply.Taken made p = p refl
if_taken test (Reply.Refused why) made p = tt

-- ================ events

-- an amount that is held
abbrev IsHeldShort : Option (Option Handpay) → Type 0
IsHeldShort None = Unit {0}
IsHeldShort (Some None) = Unit {0}
IsHeldShort (Some (Some h)) = h.amount < 2 ^ 64

held_code : (is_win : Bool) (place amount : ℕ) → amount < 2 ^ 64 → is_event (event_record place (if is_win then 6 else 7) amount) ≡ true
held_code true place amount short = is_below amount (2 ^ 64) short
held_code false place amount short = is_below amount (2 ^ 64) short

held_event : (setup : Setup) (v : View) (x : Option (Option Handpay)) → IsHeldShort x → Passes is_event (handpay_event (from_view setup v) [] x)
held_event setup v None short = tt
held_event setup v (Some None) short = tt
held_event setup v (Some (Some h)) short = held_code h.win (v.count + 1) h.amount short

held_win : (is_small : Bool) (win : ℕ) → win < 2 ^ 64 → IsHeldShort (if is_small then None else Some (Some (record { win = true; amount = win })))
held_win true win short = tt
held_win false win short = short

held_payment : (by_hopper by_printer : Bool) (a b : ℕ) → b < 2 ^ 64 → IsHeldShort (handpay_of_payment (if by_hopper then ByHopper a else if by_printer then ByPrinter b else ByHand b))
held_payment true by_printer a b short = tt
held_payment false true a b short = tt
held_payment false false a b short = short

door_detail : (d : Door) → nat_le 1 (door_place d + 1) && nat_le (door_place d + 1) 4 ≡ true
door_detail Door.Logic = refl
door_detail _ = refl

tilt_detail : (t : Tilt) → nat_le 5 (tilt_place t + 5) && nat_le (tilt_place t + 5) 10 ≡ true
tilt_detail Tilt.BillJam = refl
tilt_detail _ = refl

significant_passes : (setup : Setup) (v : View) (win : ℕ) (event : Event) → Possible v → win < 2 ^ 64 → Passes is_event (significant (from_view setup v) [] win event)
significant_passes setup v win Event.Start r short = refl
significant_passes setup v win (Event.DoorOpen door) r short = door_detail door
significant_passes setup v win (Event.DoorShut door) r short = door_detail door
significant_passes setup v win (Event.ClearTilt tilt) r short = tilt_detail tilt
significant_passes setup v win Event.HandpayDone r short = is_below (handpay_amount v.handpay) (2 ^ 64) (amounts v r).held
significant_passes setup v win Event.BillJam r short = refl
significant_passes setup v win Event.CoinJam r short = refl
significant_passes setup v win Event.StackerFull r short = refl
significant_passes setup v win Event.PaperOut r short = refl
significant_passes setup v win (Event.PrintFail order) r short = refl
significant_passes setup v win (Event.HopperEmpty order) r short = refl
significant_passes setup v win Event.CashOut r short = held_event setup v (handpay_of_payment (payment setup v.balance)) (held_payment _ _ _ v.balance (amounts v r).balance)
significant_passes setup v win event r short = held_event setup v (says_handpay setup v.balance win event) (held_win (nat_lt win setup.handpay_limit) win short)

-- ================ bills

bill_passes : (setup : Setup) (v : View) (event : Event) → rule setup v event ≡ Reply.Taken → Passes is_bill_record (bill_note (from_view setup v) [] event)
bill_passes setup v (Event.Bill value) h =
    let t : AreNone (refusals setup v (Event.Bill value)) = told setup v (Event.Bill value) h in
    let small = bill_small setup value (is_so (is_bill setup value) Refusal.ValueNotEnabled t.1.1.0) in
    is_below value (2 ^ 32) (omega (arith, small))
bill_passes setup v _ h = tt

-- ================ vouchers

-- the printed order is the open one, of an amount that is printed
record IsPrinted (order : ℕ) (orders amount : ℕ) : Type 0 where
  number : order ≡ orders
  small : amount ≤ MOST_AMOUNT

printed_kind : (kind : OrderKind) (amount : ℕ) (is_own : Bool) → is_own && is_kind kind OrderKind.Printer ≡ true → is_amount kind amount ≡ true → (is_own ≡ true) × (amount ≤ MOST_AMOUNT)
printed_kind OrderKind.Printer amount true h k = (refl, at_most amount MOST_AMOUNT (both (nat_le 1 amount) (nat_le amount MOST_AMOUNT) k).1)
printed_kind OrderKind.Printer amount false h k = absurd (cc h)
printed_kind OrderKind.Hopper amount true h k = absurd (cc h)
printed_kind OrderKind.Hopper amount false h k = absurd (cc h)

printed : (order orders : ℕ) (x : Option Order) → is_order OrderKind.Printer order x ≡ true → is_small_order x ≡ true → has_number orders x ≡ true → IsPrinted order orders (order_amount x)
printed order orders None h k n = absurd (cc h)
printed order orders (Some o) h k n =
    let t = printed_kind o.kind o.amount (o.number == order) h k in
    let own = is_number o.number order t.0 in
    let last = is_number o.number orders (both (o.number == orders) (nat_le 1 orders) n).0 in
    record { number = omega (arith, own, last); small = t.1 }

voucher_passes : (setup : Setup) (v : View) (event : Event) → Possible v → HasWidths event → rule setup v event ≡ Reply.Taken → Passes is_voucher (voucher_note (from_view setup v) [] event)
voucher_passes setup v (Event.VoucherIn id value) r wide h =
    let t : AreNone (refusals setup v (Event.VoucherIn id value)) = told setup v (Event.VoucherIn id value) h in
    let small = at_most value MOST_AMOUNT (both (nat_le 1 value) (nat_le value MOST_AMOUNT) (is_so (nat_le 1 value && nat_le value MOST_AMOUNT) Refusal.ValueNotEnabled t.1.1.0)).1 in
    both_hold (nat_lt id (2 ^ 64)) (nat_lt value (2 ^ 32)) (is_below id (2 ^ 64) wide) (is_below value (2 ^ 32) (omega (arith, small)))
voucher_passes setup v (Event.Printed order) r wide h =
    let p = printed order v.orders v.order (is_so (is_order OrderKind.Printer order v.order) Refusal.NoSuchOrder (told setup v (Event.Printed order) h).0) r.small_order r.order_number in
    let room = r.count in
    let few = r.orders in
    let number = p.number in
    let small = p.small in
    both_hold (nat_lt order (2 ^ 64)) (nat_lt (order_amount v.order) (2 ^ 32)) (is_below order (2 ^ 64) (omega (arith, number, few, room))) (is_below (order_amount v.order) (2 ^ 32) (omega (arith, small)))
voucher_passes setup v _ r wide h = tt

-- ================ one entry more

pub events_pass : (setup : Setup) (v : View) (e : Entry) → Possible v → (e.reply ≡ Reply.Taken → win_by (from_view setup v) e.number e.event e.draw [] < 2 ^ 64)
    → list_all is_event (with_entry setup v e).events ≡ true
events_pass setup v e r short =
    let win = win_by (from_view setup v) e.number e.event e.draw [] in
    noted is_event EVENTS_KEPT _ v.events (if_taken is_event e.reply (significant (from_view setup v) [] win e.event) (λ taken. significant_passes setup v win e.event r (short taken))) r.events

pub bills_pass : (setup : Setup) (v : View) (e : Entry) → Possible v → e.reply ≡ rule setup v e.event → list_all is_bill_record (with_entry setup v e).bills ≡ true
bills_pass setup v e r h =
    noted is_bill_record BILLS_KEPT _ v.bills (if_taken is_bill_record e.reply (bill_note (from_view setup v) [] e.event) (λ taken. bill_passes setup v e.event (sym h ∙ taken))) r.bills

pub vouchers_pass : (setup : Setup) (v : View) (e : Entry) → Possible v → HasWidths e.event → e.reply ≡ rule setup v e.event → list_all is_voucher (with_entry setup v e).vouchers ≡ true
vouchers_pass setup v e r wide h =
    noted is_voucher VOUCHERS_KEPT _ v.vouchers (if_taken is_voucher e.reply (voucher_note (from_view setup v) [] e.event) (λ taken. voucher_passes setup v e.event r wide (sym h ∙ taken))) r.vouchers
