-- Rules of a view that one entry more keeps, further: the places of events, bills and vouchers fall.
use Rattle.std.specs.Prelude.{◌≡◌, ℕ, zero, suc, ◌+◌, ◌≤◌, true, ◌&&◌, nat_le, nat_lt, if◌then◌else◌, List, [], ◌∷◌, map, take, Option, Some, None, refl}
use Rattle.std.proofs.Common.{ap, ◌∙◌, arith}
use Rattle.std.proofs.lemmas.Bool.Decides.{nat_tests}
use Rattle.gd_base.specs.declared.records.TheConstants.{EVENTS_KEPT, BILLS_KEPT, VOUCHERS_KEPT}
use Rattle.gd_base.specs.declared.event.Event.{Event}
use Rattle.gd_base.specs.declared.refusal.Reply.{Reply}
use Rattle.gd_base.specs.declared.records.BillRecord.{BillRecord}
use Rattle.gd_base.specs.declared.records.EventRecord.{EventRecord}
use Rattle.gd_base.specs.declared.payout.Handpay.{Handpay}
use Rattle.gd_base.specs.declared.records.VoucherRecord.{VoucherRecord}
use Rattle.gd_base.specs.declared.setup.Setup.{Setup}
use Rattle.gd_base.specs.Histories.Credit.{balance}
use Rattle.gd_base.specs.Histories.Entry.{Entry, is_taken}
use Rattle.gd_base.specs.Histories.History.{Origin, taken_statement, with_note, next_place}
use Rattle.gd_base.specs.Histories.Meters.{says_handpay}
use Rattle.gd_base.specs.Histories.Recall.{significant, handpay_event, bill_note, voucher_note, event_noted, bill_noted, voucher_noted}
use Rattle.gd_base.specs.Histories.Rounds.{posted_win}
use Rattle.gd_base.specs.Payloads.ViewRules.{fall_from}
use Rattle.gd_base.specs.Histories.View.{View}
use Rattle.gd_base.specs.Histories.ViewOf.{with_entry, from_view}
use Rattle.gd_base.proofs.BoolTests.{both}
use Rattle.gd_base.specs.Judging.Product.{both_hold}

-- under a greater limit, and with the last ones gone
pub fall_more : (m n : ℕ) (xs : List ℕ) → m ≤ n → fall_from m xs ≡ true → fall_from n xs ≡ true
fall_more m n [] le h = refl
fall_more m n (x ∷ xs) le h =
    let t = both (nat_le 1 x && nat_lt x m) (fall_from x xs) h in
    let u = both (nat_le 1 x) (nat_lt x m) t.0 in
    let below : nat_lt x n ≡ true = grind (arith, nat_tests, u.1, le) in
    both_hold (nat_le 1 x && nat_lt x n) (fall_from x xs) (both_hold (nat_le 1 x) (nat_lt x n) u.0 below) t.1

pub fall_take : {A : Type 0} (place : A → ℕ) (n limit : ℕ) (xs : List A) → fall_from limit (map place xs) ≡ true → fall_from limit (map place (take n xs)) ≡ true
fall_take place zero limit [] h = refl
fall_take place zero limit (x ∷ xs) h = refl
fall_take place (suc n) limit [] h = refl
fall_take place (suc n) limit (x ∷ xs) h =
    let t = both (nat_le 1 (place x) && nat_lt (place x) limit) (fall_from (place x) (map place xs)) h in
    both_hold (nat_le 1 (place x) && nat_lt (place x) limit) (fall_from (place x) (map place (take n xs))) t.0 (fall_take place n (place x) xs t.1)

-- a note at the next place, if any
abbrev pub IsAt : {A : Type 0} → (A → ℕ) → ℕ → Option A → Type 0
IsAt place n None = Unit {0}
IsAt place n (Some a) = place a ≡ n

fall_note : {A : Type 0} (place : A → ℕ) (count : ℕ) (note : Option A) (xs : List A) → IsAt place (count + 1) note → fall_from (count + 1) (map place xs) ≡ true
    → fall_from (count + 1 + 1) (map place (with_note note xs)) ≡ true
fall_note place count None xs at h = fall_more (count + 1) (count + 1 + 1) (map place xs) (omega arith) h
fall_note place count (Some a) xs at h =
    let some : nat_le 1 (place a) ≡ true = grind (arith, nat_tests, at) in
    let below : nat_lt (place a) (count + 1 + 1) ≡ true = grind (arith, nat_tests, at) in
    both_hold (nat_le 1 (place a) && nat_lt (place a) (count + 1 + 1)) (fall_from (place a) (map place xs)) (both_hold (nat_le 1 (place a)) (nat_lt (place a) (count + 1 + 1)) some below)
    (ap (λ (n : ℕ). fall_from n (map place xs)) at ∙ h)

pub noted_fall : {A : Type 0} (place : A → ℕ) (n count : ℕ) (note : Option A) (xs : List A) → IsAt place (count + 1) note → fall_from (count + 1) (map place xs) ≡ true
    → fall_from (count + 1 + 1) (map place (take n (with_note note xs))) ≡ true
noted_fall place n count note xs at h = fall_take place n (count + 1 + 1) (with_note note xs) (fall_note place count note xs at h)

-- ================ the place of each note

if_taken : {A : Type 0} (place : A → ℕ) (n : ℕ) (reply : Reply) (made : Option A) → IsAt place n made → IsAt place n (if is_taken reply then made else None)
if_taken place n Reply.Taken made at = at
if_taken place n (Reply.Refused why) made at = tt

handpay_at : (o : Origin) (past : List Entry) (x : Option (Option Handpay)) → IsAt (λ (r : EventRecord). r.place) (next_place o past) (handpay_event o past x)
handpay_at o past None = tt
handpay_at o past (Some None) = tt
handpay_at o past (Some (Some h)) = refl

significant_at : (o : Origin) (past : List Entry) (win : ℕ) (event : Event) → IsAt (λ (r : EventRecord). r.place) (next_place o past) (significant o past win event)
significant_at o past win Event.Start = refl
significant_at o past win (Event.DoorOpen door) = refl
significant_at o past win (Event.DoorShut door) = refl
significant_at o past win (Event.ClearTilt tilt) = refl
significant_at o past win Event.HandpayDone = refl
significant_at o past win Event.BillJam = refl
significant_at o past win Event.CoinJam = refl
significant_at o past win Event.StackerFull = refl
significant_at o past win Event.PaperOut = refl
significant_at o past win (Event.PrintFail order) = refl
significant_at o past win (Event.HopperEmpty order) = refl
significant_at o past win event = handpay_at o past (says_handpay o.setup (balance o past) win event)

bill_at : (o : Origin) (past : List Entry) (event : Event) → IsAt (λ (r : BillRecord). r.place) (next_place o past) (bill_note o past event)
bill_at o past (Event.Bill value) = refl
bill_at o past _ = tt

voucher_at : (o : Origin) (past : List Entry) (event : Event) → IsAt (λ (r : VoucherRecord). r.place) (next_place o past) (voucher_note o past event)
voucher_at o past (Event.VoucherIn id value) = refl
voucher_at o past (Event.Printed order) = refl
voucher_at o past _ = tt

-- ================ one entry more

pub events_fall : (setup : Setup) (v : View) (e : Entry) → fall_from (v.count + 1) (map (λ r. r.place) v.events) ≡ true
    → fall_from ((with_entry setup v e).count + 1) (map (λ r. r.place) (with_entry setup v e).events) ≡ true
events_fall setup v e h =
    let o = from_view setup v in
    noted_fall (λ (r : EventRecord). r.place) EVENTS_KEPT v.count (taken_statement (event_noted o) e []) v.events
    (if_taken (λ (r : EventRecord). r.place) (v.count + 1) e.reply (significant o [] (posted_win o e []) e.event) (significant_at o [] (posted_win o e []) e.event)) h

pub bills_fall : (setup : Setup) (v : View) (e : Entry) → fall_from (v.count + 1) (map (λ r. r.place) v.bills) ≡ true
    → fall_from ((with_entry setup v e).count + 1) (map (λ r. r.place) (with_entry setup v e).bills) ≡ true
bills_fall setup v e h =
    let o = from_view setup v in
    noted_fall (λ (r : BillRecord). r.place) BILLS_KEPT v.count (taken_statement (bill_noted o) e []) v.bills
    (if_taken (λ (r : BillRecord). r.place) (v.count + 1) e.reply (bill_note o [] e.event) (bill_at o [] e.event)) h

pub vouchers_fall : (setup : Setup) (v : View) (e : Entry) → fall_from (v.count + 1) (map (λ r. r.place) v.vouchers) ≡ true
    → fall_from ((with_entry setup v e).count + 1) (map (λ r. r.place) (with_entry setup v e).vouchers) ≡ true
vouchers_fall setup v e h =
    let o = from_view setup v in
    noted_fall (λ (r : VoucherRecord). r.place) VOUCHERS_KEPT v.count (taken_statement (voucher_noted o) e []) v.vouchers
    (if_taken (λ (r : VoucherRecord). r.place) (v.count + 1) e.reply (voucher_note o [] e.event) (voucher_at o [] e.event)) h
