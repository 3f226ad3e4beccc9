-- Which lists a payload has, by the test on what is read of it.
use Rattle.std.proofs.Common.{◌≡◌, ◌∙◌, ap, sym, subst, refl, ℕ, zero, suc, ◌≤◌, ◌+◌, List, Bool, true, false, ◌&&◌, if◌then◌else◌, min, length, drop, Option, Some, None, unwrap_or, arith}
use Rattle.std.proofs.Math.Nat.{min-le_right}
use Rattle.gd_base.specs.declared.layout.TheConstants.{LISTS_AT, LISTS_LEN, PLAY_LEN, EVENT_LEN, BILL_LEN, VOUCHER_LEN, PLAYS_AT, PLAYS_LEN, EVENTS_AT, EVENTS_LEN, BILLS_AT, BILLS_LEN, VOUCHERS_AT, VOUCHERS_LEN, REST_LEN}
use Rattle.gd_base.specs.declared.records.TheConstants.{PLAYS_KEPT, EVENTS_KEPT, BILLS_KEPT, VOUCHERS_KEPT}
use Rattle.gd_base.specs.Judging.Product.{same_numbers, numbers_themselves, both_hold}
use Rattle.gd_base.specs.Payloads.Bytes.{play_bytes, event_bytes, bill_bytes, voucher_bytes}
use Rattle.gd_base.proofs.BoolTests.{AllTrue, all_hold, all_told, both}
use Rattle.gd_base.proofs.PayloadLemmas.Same.{numbers_one}
use Rattle.gd_base.specs.Payloads.ListsIn.{row_of, numbers_of, lists_read, lists_in, stand_tests, stand_in, StandIn, HasLists}
use Rattle.gd_base.specs.Payloads.Reading.{play_read, part, two_at, event_read, bill_read, voucher_read, records_in}
use Rattle.gd_base.specs.Payloads.Lists.{Lists}
use Rattle.gd_base.specs.Payloads.Recorded.{are_recorded}
use Rattle.gd_base.proofs.PayloadLemmas.ListsBack.{lists_back}

-- ================ what is read of a payload

abbrev is_had : List ℕ → Lists → Bool
is_had payload l = are_recorded l && stand_in payload l

pub told : (payload : List ℕ) (l : Lists) (b : Bool) → l ≡ lists_read payload → is_had payload l ≡ b → lists_in payload ≡ (if b then Some l else None)
unfolding lists_in
told payload l b is h =
    ap (λ (m : Lists). if is_had payload m then Some m else None) (sym is) ∙ ap (λ (x : Bool). if x then Some l else None) h

same : (a b : List ℕ) → a ≡ b → same_numbers a b ≡ true
same a b e = ap (λ (x : List ℕ). same_numbers x b) e ∙ numbers_themselves b

pub stands : (payload : List ℕ) (l : Lists) → StandIn payload l → stand_in payload l ≡ true
stands payload l s =
    let vouchers = same (drop VOUCHERS_AT payload) (row_of voucher_bytes (VOUCHERS_LEN + REST_LEN) l.vouchers) s.vouchers in
    let all : AllTrue (stand_tests payload l) = (
      same (part LISTS_AT LISTS_LEN payload) (numbers_of l) s.numbers,
      (
        same (part PLAYS_AT PLAYS_LEN payload) (row_of play_bytes PLAYS_LEN l.plays) s.plays,
        (
          same (part EVENTS_AT EVENTS_LEN payload) (row_of event_bytes EVENTS_LEN l.events) s.events,
          (same (part BILLS_AT BILLS_LEN payload) (row_of bill_bytes BILLS_LEN l.bills) s.bills, (vouchers, tt)),
        ),
      ),
    ) in
    all_hold (stand_tests payload l) all

pub has_them : (payload : List ℕ) (l : Lists) → HasLists payload l → lists_in payload ≡ Some l
has_them payload l has = told payload l true (sym (lists_back payload l has)) (both_hold (are_recorded l) (stand_in payload l) has.recorded (stands payload l has.stand))

-- ================ and the other way

told_stands : (payload : List ℕ) (l : Lists) → stand_in payload l ≡ true → StandIn payload l
told_stands payload l h =
    let t = all_told (stand_tests payload l) h in
    record {
      numbers = numbers_one (part LISTS_AT LISTS_LEN payload) (numbers_of l) t.0;
      plays = numbers_one (part PLAYS_AT PLAYS_LEN payload) (row_of play_bytes PLAYS_LEN l.plays) t.1.0;
      events = numbers_one (part EVENTS_AT EVENTS_LEN payload) (row_of event_bytes EVENTS_LEN l.events) t.1.1.0;
      bills = numbers_one (part BILLS_AT BILLS_LEN payload) (row_of bill_bytes BILLS_LEN l.bills) t.1.1.1.0;
      vouchers = numbers_one (drop VOUCHERS_AT payload) (row_of voucher_bytes (VOUCHERS_LEN + REST_LEN) l.vouchers) t.1.1.1.1.0;
    }

so_many : {A : Type 0} (read : List ℕ → A) (size n : ℕ) (row : List ℕ) → length (records_in read size n row) ≡ n
so_many read size zero row = refl
so_many read size (suc n) row = let more = so_many read size n (drop size row) in λ i. suc (more i)

no_more : {A : Type 0} (read : List ℕ → A) (size n kept : ℕ) (row : List ℕ) → length (records_in read size (min n kept) row) ≤ kept
no_more read size n kept row = omega (arith, so_many read size (min n kept) row, min-le_right n kept)

by_test : (payload : List ℕ) (m l : Lists) (b : Bool) → is_had payload m ≡ b → (if b then Some m else None) ≡ Some l → (is_had payload m ≡ true) × (m ≡ l)
by_test payload m l true h e = (h, ap (λ (o : Option Lists). unwrap_or o m) e)
by_test payload m l false h e = absurd (cc e)

read_had : (payload : List ℕ) → is_had payload (lists_read payload) ≡ true → HasLists payload (lists_read payload)
read_had payload h =
    let l = lists_read payload in
    let t = both (are_recorded l) (stand_in payload l) h in
    let numbers = part LISTS_AT LISTS_LEN payload in
    record {
      recorded = t.0;
      plays_kept = no_more (play_read 0) PLAY_LEN (two_at 0 numbers) PLAYS_KEPT (part PLAYS_AT PLAYS_LEN payload);
      events_kept = no_more event_read EVENT_LEN (two_at 2 numbers) EVENTS_KEPT (part EVENTS_AT EVENTS_LEN payload);
      bills_kept = no_more bill_read BILL_LEN (two_at 4 numbers) BILLS_KEPT (part BILLS_AT BILLS_LEN payload);
      vouchers_kept = no_more voucher_read VOUCHER_LEN (two_at 6 numbers) VOUCHERS_KEPT (drop VOUCHERS_AT payload);
      stand = told_stands payload l t.1;
    }

pub had : (payload : List ℕ) (l : Lists) → lists_in payload ≡ Some l → HasLists payload l
unfolding lists_in
had payload l e =
    let m = lists_read payload in
    let t = by_test payload m l (is_had payload m) refl e in
    subst (HasLists payload) t.1 (read_had payload t.0)
