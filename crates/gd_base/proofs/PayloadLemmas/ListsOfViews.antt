-- The payload of a view that keeps the rules of a view has the view's lists.
use Rattle.std.proofs.Common.{◌≡◌, ◌∙◌, ap, refl, ℕ, ◌+◌, ◌-◌, ◌*◌, ◌<◌, ◌≤◌, ◌^◌, ◌==◌, nat_le, nat_lt, List, [], ◌∷◌, ◌++◌, Bool, true, false, ◌&&◌, if◌then◌else◌, length, map, replicate, drop, arith, append_assoc, length-append, Option, Some, None}
use Rattle.std.specs.List.{list_all, flat_map}
use Rattle.std.proofs.lemmas.Bool.Decides.{nat_tests}
use Rattle.gd_base.specs.declared.layout.TheConstants.{HEAD_LEN, LISTS_AT, LISTS_LEN, OPEN_PLAY_LEN, PLAY_LEN, EVENT_LEN, BILL_LEN, VOUCHER_LEN, PLAYS_AT, PLAYS_LEN, EVENTS_AT, EVENTS_LEN, BILLS_AT, BILLS_LEN, VOUCHERS_AT, VOUCHERS_LEN, REST_LEN, KEPT_LEN, PAYLOAD_LEN}
use Rattle.gd_base.specs.declared.records.TheConstants.{PLAYS_KEPT, EVENTS_KEPT, BILLS_KEPT, VOUCHERS_KEPT}
use Rattle.gd_base.specs.declared.refusal.Reply.{Reply}
use Rattle.gd_base.specs.declared.payout.Handpay.{Handpay}
use Rattle.gd_base.specs.declared.play.PlayRecord.{PlayRecord}
use Rattle.gd_base.specs.declared.records.EventRecord.{EventRecord}
use Rattle.gd_base.specs.Histories.View.{View}
use Rattle.gd_base.specs.Judging.Product.{both_hold}
use Rattle.gd_base.specs.Payloads.Bytes.{two, eight, filled_part, flags, play_bytes, event_bytes, bill_bytes, voucher_bytes, kept_bytes, handpay_bytes, order_bytes, open_bytes, head_bytes, payload_of}
use Rattle.gd_base.specs.Payloads.ViewRules.{is_possible, is_event, is_bill_record, is_voucher, is_play_record, fall_from, play_limit}
use Rattle.gd_base.proofs.BoolTests.{at_most, both, is_so, is_below, is_within}
use Rattle.gd_base.proofs.PayloadLemmas.Fields.{Each}
use Rattle.gd_base.proofs.ViewFacts.{rules_of}
use Rattle.gd_base.proofs.PayloadLemmas.OneView.{Open, Widths, widths}
use Rattle.gd_base.proofs.PayloadLemmas.Records.{Placed}
use Rattle.gd_base.specs.Payloads.ListsIn.{row_of, numbers_of, HasLists}
use Rattle.gd_base.specs.Payloads.Reading.{part}
use Rattle.gd_base.specs.Payloads.Lists.{lists_of}
use Rattle.gd_base.specs.Payloads.Recorded.{is_recorded_play, is_recorded_event, are_listed, are_recorded}
use Rattle.gd_base.proofs.PayloadLemmas.Parts.{head_long, numbers_part, plays_part, events_part, bills_part, vouchers_part}
use Rattle.gd_base.proofs.PayloadLemmas.Lengths.{row_length, row_long, eight_long, filled_long}
use Rattle.gd_base.proofs.PayloadLemmas.RecordsBack.{play_kept, play_long}

-- ================ the rules of its lists

each_other : {A : Type 0} (p q : A → Bool) → ((x : A) → p x ≡ true → q x ≡ true) → (xs : List A) → list_all p xs ≡ true → list_all q xs ≡ true
each_other p q from [] h = refl
each_other p q from (x ∷ xs) h = let t = both (p x) (list_all p xs) h in both_hold (q x) (list_all q xs) (from x t.0) (each_other p q from xs t.1)

fall_again : {A : Type 0} (place : A → ℕ) (test : A → Bool) (limit : ℕ) (xs : List A) → Each (Placed place test) xs → fall_from limit (map place xs) ≡ true → fall_from (2 ^ 64) (map place xs) ≡ true
fall_again place test limit [] each h = refl
fall_again place test limit (x ∷ xs) each h =
    let t = both (nat_le 1 (place x) && nat_lt (place x) limit) (fall_from (place x) (map place xs)) h in
    let u = both (nat_le 1 (place x)) (nat_lt (place x) limit) t.0 in
    let first = both_hold (nat_le 1 (place x)) (nat_lt (place x) (2 ^ 64)) u.0 (is_below (place x) (2 ^ 64) each.0.1) in
    both_hold (nat_le 1 (place x) && nat_lt (place x) (2 ^ 64)) (fall_from (place x) (map place xs)) first t.1

code_tests : (code detail : ℕ) → 1 ≤ code → code ≤ 8 → detail < 2 ^ 64 → nat_le 1 code && nat_le code 8 && nat_lt detail (2 ^ 64) ≡ true
code_tests code detail a b c =
    both_hold (nat_le 1 code && nat_le code 8) (nat_lt detail (2 ^ 64)) (both_hold (nat_le 1 code) (nat_le code 8) (is_within 1 code a) (is_within code 8 b)) (is_below detail (2 ^ 64) c)

event_by : (a b c : Bool) (code detail : ℕ) → (code == 1) ≡ a → nat_lt code 4 ≡ b → nat_lt code 6 ≡ c
    → (if a then detail == 0 else if b then nat_le 2 code && nat_le 1 detail && nat_le detail 4 else if c then nat_le 5 detail && nat_le detail 10 else nat_le code 8 && nat_lt detail (2 ^ 64)) ≡ true
    → nat_le 1 code && nat_le code 8 && nat_lt detail (2 ^ 64) ≡ true
event_by true b c code detail p q r h = let one = is_so code 1 p in let none = is_so detail 0 h in code_tests code detail (omega (arith, one)) (omega (arith, one)) (omega (arith, none))
event_by false true c code detail p q r h =
    let t = both (nat_le 2 code && nat_le 1 detail) (nat_le detail 4) h in
    let u = both (nat_le 2 code) (nat_le 1 detail) t.0 in
    let low = at_most 2 code u.0 in
    let high : code < 4 = grind (arith, nat_tests, q) in
    let few = at_most detail 4 t.1 in
    code_tests code detail (omega (arith, low)) (omega (arith, high)) (omega (arith, few))
event_by false false true code detail p q r h =
    let t = both (nat_le 5 detail) (nat_le detail 10) h in
    let low : 4 ≤ code = grind (arith, nat_tests, q) in
    let high : code < 6 = grind (arith, nat_tests, r) in
    let few = at_most detail 10 t.1 in
    code_tests code detail (omega (arith, low)) (omega (arith, high)) (omega (arith, few))
event_by false false false code detail p q r h =
    let t = both (nat_le code 8) (nat_lt detail (2 ^ 64)) h in
    let low : 6 ≤ code = grind (arith, nat_tests, r) in
    let high = at_most code 8 t.0 in
    let few : detail < 2 ^ 64 = grind (arith, nat_tests, t.1) in
    code_tests code detail (omega (arith, low)) high few

event_kept : (e : EventRecord) → is_event e ≡ true → is_recorded_event e ≡ true
event_kept e h = event_by (e.code == 1) (nat_lt e.code 4) (nat_lt e.code 6) e.code e.detail refl refl refl h

record Listed (v : View) : Type 0 where
  pub plays : are_listed is_recorded_play (λ p. p.place) v.plays ≡ true
  pub events : are_listed is_recorded_event (λ e. e.place) v.events ≡ true
  pub bills : are_listed is_bill_record (λ b. b.place) v.bills ≡ true
  pub vouchers : are_listed is_voucher (λ r. r.place) v.vouchers ≡ true
  pub plays_kept : length v.plays ≤ PLAYS_KEPT
  pub events_kept : length v.events ≤ EVENTS_KEPT
  pub bills_kept : length v.bills ≤ BILLS_KEPT
  pub vouchers_kept : length v.vouchers ≤ VOUCHERS_KEPT

listed : (v : View) → is_possible v ≡ true → Listed v
listed v h =
    let w = widths v h in
    let r = rules_of v h in
    record {
      plays = both_hold (list_all is_recorded_play v.plays) (fall_from (2 ^ 64) (map (λ p. p.place) v.plays)) (each_other is_play_record is_recorded_play play_kept v.plays r.plays)
          (fall_again (λ p. p.place) is_play_record (play_limit v v.play) v.plays w.plays r.plays_fall);
      events = both_hold (list_all is_recorded_event v.events) (fall_from (2 ^ 64) (map (λ e. e.place) v.events)) (each_other is_event is_recorded_event event_kept v.events r.events)
          (fall_again (λ e. e.place) is_event (v.count + 1) v.events w.events r.events_fall);
      bills = both_hold (list_all is_bill_record v.bills) (fall_from (2 ^ 64) (map (λ b. b.place) v.bills)) r.bills
          (fall_again (λ b. b.place) is_bill_record (v.count + 1) v.bills w.bills r.bills_fall);
      vouchers = both_hold (list_all is_voucher v.vouchers) (fall_from (2 ^ 64) (map (λ r. r.place) v.vouchers)) r.vouchers
          (fall_again (λ r. r.place) is_voucher (v.count + 1) v.vouchers w.vouchers r.vouchers_fall);
      plays_kept = r.plays_short;
      events_kept = r.events_short;
      bills_kept = r.bills_short;
      vouchers_kept = r.vouchers_short;
    }

pub recorded_of : (v : View) → is_possible v ≡ true → are_recorded (lists_of v) ≡ true
recorded_of v h =
    let t = listed v h in
    let plays = are_listed is_recorded_play (λ p. p.place) v.plays in
    let events = are_listed is_recorded_event (λ e. e.place) v.events in
    let bills = are_listed is_bill_record (λ b. b.place) v.bills in
    let vouchers = are_listed is_voucher (λ r. r.place) v.vouchers in
    both_hold (plays && events && bills) vouchers (both_hold (plays && events) bills (both_hold plays events t.plays t.events) t.bills) t.vouchers

-- ================ lengths of its parts

handpay_long : (h : Option Handpay) → length (handpay_bytes h) ≡ 10
handpay_long None = refl
handpay_long (Some h) = refl

kept_long : (k : ℕ × Option Reply) → length (kept_bytes k) ≡ KEPT_LEN
kept_long k = refl

whole_play_long : (p : PlayRecord) → Placed (λ r. r.place) is_play_record p → length (play_bytes p) ≡ PLAY_LEN
whole_play_long p ok = play_long p (play_kept p ok.0, ok.1)

open_few : (x : Option PlayRecord) → Open x → length (open_bytes x) ≤ OPEN_PLAY_LEN
open_few None ok = omega arith
open_few (Some p) ok = let long = whole_play_long p ok in omega (arith, long)

-- ================ its payload

abbrev before_lists : View → List ℕ
before_lists v =
    v.digest ++ eight v.count ++ eight v.balance ++ flat_map eight v.totals ++ flags v.doors ∷ flags v.tilts ∷ handpay_bytes v.handpay
    ++ order_bytes v.orders v.order ++ flat_map kept_bytes v.kept

before_long : (v : View) → Widths v → length (before_lists v) ≡ LISTS_AT
before_long v w =
    let a = v.digest ++ eight v.count in
    let b = a ++ eight v.balance in
    let c = b ++ flat_map eight v.totals in
    let d = c ++ flags v.doors ∷ flags v.tilts ∷ handpay_bytes v.handpay in
    let e = d ++ order_bytes v.orders v.order in
    let totals : length (flat_map eight v.totals) ≡ 128 = row_length eight 8 eight_long v.totals ∙ ap (λ (n : ℕ). 8 * n) w.totals_len in
    let kept : length (flat_map kept_bytes v.kept) ≡ 108 = row_length kept_bytes KEPT_LEN kept_long v.kept ∙ ap (λ (n : ℕ). KEPT_LEN * n) w.kept_len in
    omega (
      arith,
      w.digest,
      totals,
      kept,
      handpay_long v.handpay,
      length-append v.digest (eight v.count),
      length-append a (eight v.balance),
      length-append b (flat_map eight v.totals),
      length-append c (flags v.doors ∷ flags v.tilts ∷ handpay_bytes v.handpay),
      length-append d (order_bytes v.orders v.order),
      length-append e (flat_map kept_bytes v.kept),
    )

numbers_grouped : (a b c d e y z : List ℕ) → (a ++ b ++ c ++ d ++ e) ++ (y ++ z) ≡ a ++ ((b ++ c ++ d ++ e ++ y) ++ z)
numbers_grouped a b c d e y z = simp append_assoc

abbrev zeros : ℕ → List ℕ
zeros n = replicate n 0

pub head_bytes_long : (v : View) → Widths v → length (head_bytes v) ≡ 324
head_bytes_long v w =
    let a = before_lists v in
    let p = two (length v.plays) in
    let e = two (length v.events) in
    let b = two (length v.bills) in
    let r = two (length v.vouchers) in
    omega (
      arith,
      before_long v w,
      length-append a p,
      length-append (a ++ p) e,
      length-append (a ++ p ++ e) b,
      length-append (a ++ p ++ e ++ b) r,
    )

head_is : (v : View) → Widths v → filled_part HEAD_LEN (head_bytes v) ≡ before_lists v ++ (numbers_of (lists_of v) ++ zeros 168)
head_is v w =
    let a = before_lists v in
    let p = two (length v.plays) in
    let e = two (length v.events) in
    let b = two (length v.bills) in
    let r = two (length v.vouchers) in
    ap (λ (n : ℕ). head_bytes v ++ zeros (HEAD_LEN - n)) (head_bytes_long v w) ∙ numbers_grouped a p e b r (zeros 20) (zeros 168)

six : (a b c d e f : List ℕ) → a ++ b ++ c ++ d ++ e ++ f ≡ a ++ (b ++ (c ++ (d ++ (e ++ f))))
six a b c d e f = simp append_assoc

moved_open : (a n z f r : List ℕ) → (a ++ (n ++ z)) ++ (f ++ r) ≡ (a ++ (n ++ (z ++ f))) ++ r
moved_open a n z f r = simp append_assoc

abbrev open_part : View → List ℕ
open_part v = zeros 168 ++ filled_part OPEN_PLAY_LEN (open_bytes v.play)

abbrev plays_row : View → List ℕ
plays_row v = row_of play_bytes PLAYS_LEN v.plays

abbrev events_row : View → List ℕ
events_row v = row_of event_bytes EVENTS_LEN v.events

abbrev bills_row : View → List ℕ
bills_row v = row_of bill_bytes BILLS_LEN v.bills

abbrev vouchers_row : View → List ℕ
vouchers_row v = row_of voucher_bytes (VOUCHERS_LEN + REST_LEN) v.vouchers

abbrev head_of : View → List ℕ
head_of v = before_lists v ++ (numbers_of (lists_of v) ++ open_part v)

abbrev rows_of : View → List ℕ
rows_of v = plays_row v ++ (events_row v ++ (bills_row v ++ vouchers_row v))

-- a payload and the lengths of its parts
record InParts (v : View) : Type 0 where
  pub whole : payload_of v ≡ head_of v ++ rows_of v
  pub before : length (before_lists v) ≡ LISTS_AT
  pub opened : length (open_part v) ≡ 3752
  pub head : length (head_of v) ≡ PLAYS_AT
  pub plays : length (plays_row v) ≡ PLAYS_LEN
  pub events : length (events_row v) ≡ EVENTS_LEN
  pub bills : length (bills_row v) ≡ BILLS_LEN
  pub vouchers : length (vouchers_row v) ≡ VOUCHERS_LEN + REST_LEN

in_parts : (v : View) → Widths v → Listed v → InParts v
in_parts v w t =
    let f = filled_part OPEN_PLAY_LEN (open_bytes v.play) in
    let n = numbers_of (lists_of v) in
    let before = before_long v w in
    let is_open : length f ≡ OPEN_PLAY_LEN = filled_long OPEN_PLAY_LEN (open_bytes v.play) (open_few v.play w.play) in
    let opened : length (open_part v) ≡ 3752 = omega (arith, is_open, length-append (zeros 168) f) in
    let plays = row_long play_bytes (Placed (λ r. r.place) is_play_record) PLAY_LEN whole_play_long v.plays w.plays in
    let events = row_length event_bytes EVENT_LEN (λ x. refl) v.events in
    let bills = row_length bill_bytes BILL_LEN (λ x. refl) v.bills in
    let vouchers = row_length voucher_bytes VOUCHER_LEN (λ x. refl) v.vouchers in
    record {
      whole = six (filled_part HEAD_LEN (head_bytes v)) f (plays_row v) (events_row v) (bills_row v) (vouchers_row v)
          ∙ ap (λ (x : List ℕ). x ++ (f ++ rows_of v)) (head_is v w) ∙ moved_open (before_lists v) n (zeros 168) f (rows_of v);
      before = before;
      opened = opened;
      head = head_long (before_lists v) n (open_part v) (rows_of v) before refl opened;
      plays = filled_long PLAYS_LEN (flat_map play_bytes v.plays) (omega (arith, plays, t.plays_kept));
      events = filled_long EVENTS_LEN (flat_map event_bytes v.events) (omega (arith, events, t.events_kept));
      bills = filled_long BILLS_LEN (flat_map bill_bytes v.bills) (omega (arith, bills, t.bills_kept));
      vouchers = filled_long (VOUCHERS_LEN + REST_LEN) (flat_map voucher_bytes v.vouchers) (omega (arith, vouchers, t.vouchers_kept));
    }

pub has_its_lists : (v : View) → is_possible v ≡ true → HasLists (payload_of v) (lists_of v)
has_its_lists v h =
    let t = listed v h in
    let i = in_parts v (widths v h) t in
    let n = numbers_of (lists_of v) in
    let p = plays_row v in
    let e = events_row v in
    let b = bills_row v in
    let r = vouchers_row v in
    record {
      recorded = recorded_of v h;
      plays_kept = t.plays_kept;
      events_kept = t.events_kept;
      bills_kept = t.bills_kept;
      vouchers_kept = t.vouchers_kept;
      stand = record {
        numbers = ap (part LISTS_AT LISTS_LEN) i.whole ∙ numbers_part (before_lists v) n (open_part v) (rows_of v) i.before refl i.opened;
        plays = ap (part PLAYS_AT PLAYS_LEN) i.whole ∙ plays_part (head_of v) p e b r i.head i.plays i.events i.bills;
        events = ap (part EVENTS_AT EVENTS_LEN) i.whole ∙ events_part (head_of v) p e b r i.head i.plays i.events i.bills;
        bills = ap (part BILLS_AT BILLS_LEN) i.whole ∙ bills_part (head_of v) p e b r i.head i.plays i.events i.bills;
        vouchers = ap (drop VOUCHERS_AT) i.whole ∙ vouchers_part (head_of v) p e b r i.head i.plays i.events i.bills;
      };
    }

pub payload_long : (v : View) → is_possible v ≡ true → length (payload_of v) ≡ PAYLOAD_LEN
payload_long v h =
    let i = in_parts v (widths v h) (listed v h) in
    omega (
      arith,
      ap length i.whole,
      i.head,
      i.plays,
      i.events,
      i.bills,
      i.vouchers,
      length-append (head_of v) (rows_of v),
      length-append (plays_row v) (events_row v ++ (bills_row v ++ vouchers_row v)),
      length-append (events_row v) (bills_row v ++ vouchers_row v),
      length-append (bills_row v) (vouchers_row v),
    )
