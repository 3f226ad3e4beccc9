-- What was written of lists that a payload can have is read as these lists.
use Rattle.std.proofs.Common.{◌≡◌, ◌∙◌, ap, refl, ℕ, ◌+◌, ◌-◌, ◌<◌, ◌≤◌, ◌^◌, min, List, [], ◌∷◌, ◌++◌, Bool, true, ◌&&◌, length, map, flat_map, replicate, take, drop, arith, append_assoc}
use Rattle.std.specs.List.{list_all}
use Rattle.std.proofs.Math.Nat.{min-eq_left}
use Rattle.std.proofs.lemmas.List.{take_at, drop_at}
use Rattle.std.proofs.lemmas.List.Concat.{flat_map-cons}
use Rattle.std.proofs.lemmas.Nat.{from_be_bytes-to_be_bytes_2}
use Rattle.gd_base.specs.declared.layout.TheConstants.{LISTS_AT, LISTS_LEN, PLAY_LEN, EVENT_LEN, BILL_LEN, VOUCHER_LEN, PLAYS_AT, PLAYS_LEN, EVENTS_AT, EVENTS_LEN, BILLS_AT, BILLS_LEN, VOUCHERS_AT, VOUCHERS_LEN, REST_LEN}
use Rattle.gd_base.specs.declared.records.TheConstants.{PLAYS_KEPT, EVENTS_KEPT, BILLS_KEPT, VOUCHERS_KEPT}
use Rattle.gd_base.specs.Payloads.Bytes.{two, filled_part, play_bytes, event_bytes, bill_bytes, voucher_bytes}
use Rattle.gd_base.specs.Payloads.ViewRules.{is_bill_record, is_voucher, fall_from}
use Rattle.gd_base.proofs.BoolTests.{both}
use Rattle.gd_base.proofs.PayloadLemmas.Fields.{Each, each_placed}
use Rattle.gd_base.proofs.PayloadLemmas.Records.{Placed}
use Rattle.gd_base.proofs.PayloadLemmas.RecordsBack.{play_long, play_back, event_back, bill_back, voucher_back}
use Rattle.gd_base.specs.Payloads.ListsIn.{lists_read, row_of, HasLists}
use Rattle.gd_base.specs.Payloads.Reading.{part, two_at, play_read, event_read, bill_read, voucher_read, records_in}
use Rattle.gd_base.specs.Payloads.Lists.{Lists}
use Rattle.gd_base.specs.Payloads.Recorded.{is_recorded_play, is_recorded_event, are_listed}

-- ================ records in a row

pub records_back : {A : Type 0} (read : List ℕ → A) (f : A → List ℕ) (ok : A → Type 0) (size : ℕ) → ((x : A) → ok x → length (f x) ≡ size) → ((x : A) → ok x → read (f x) ≡ x)
    → (xs : List A) (rest : List ℕ) → Each ok xs → records_in read size (length xs) (flat_map f xs ++ rest) ≡ xs
records_back read f ok size long back [] rest each = refl
records_back {A} read f ok size long back (x ∷ xs) rest each =
    let row : flat_map f (x ∷ xs) ++ rest ≡ f x ++ (flat_map f xs ++ rest) = ap (λ (t : List ℕ). t ++ rest) (flat_map-cons f x xs) ∙ append_assoc (f x) (flat_map f xs) rest in
    let first : read (take size (flat_map f (x ∷ xs) ++ rest)) ≡ x = ap (λ (t : List ℕ). read (take size t)) row ∙ ap read (take_at (f x) (flat_map f xs ++ rest) size (long x each.0)) ∙ back x each.0 in
    let behind : drop size (flat_map f (x ∷ xs) ++ rest) ≡ flat_map f xs ++ rest = ap (drop size) row ∙ drop_at (f x) (flat_map f xs ++ rest) size (long x each.0) in
    let others = ap (records_in read size (length xs)) behind ∙ records_back read f ok size long back xs rest each.1 in
    λ i. first i ∷ others i

-- ================ numbers of records

module _ (a b c d : ℕ) where
  abbrev four_numbers : List ℕ
  four_numbers = filled_part LISTS_LEN (two a ++ two b ++ two c ++ two d)

  first_back : a < 2 ^ 16 → two_at 0 four_numbers ≡ a
  unfolding two_at
  first_back lt = from_be_bytes-to_be_bytes_2 a lt

  second_back : b < 2 ^ 16 → two_at 2 four_numbers ≡ b
  unfolding two_at
  second_back lt = from_be_bytes-to_be_bytes_2 b lt

  third_back : c < 2 ^ 16 → two_at 4 four_numbers ≡ c
  unfolding two_at
  third_back lt = from_be_bytes-to_be_bytes_2 c lt

  fourth_back : d < 2 ^ 16 → two_at 6 four_numbers ≡ d
  unfolding two_at
  fourth_back lt = from_be_bytes-to_be_bytes_2 d lt

-- ================ one list

list_back : {A : Type 0} (read : List ℕ → A) (f : A → List ℕ) (place : A → ℕ) (test : A → Bool) (size : ℕ)
    → ((x : A) → Placed place test x → length (f x) ≡ size) → ((x : A) → Placed place test x → read (f x) ≡ x)
    → (xs : List A) (n kept room : ℕ) (row : List ℕ) → are_listed test place xs ≡ true → n ≡ length xs → length xs ≤ kept → row ≡ row_of f room xs
    → records_in read size (min n kept) row ≡ xs
list_back {A} read f place test size long back xs n kept room row listed number few is =
    let t = both (list_all test xs) (fall_from (2 ^ 64) (map place xs)) listed in
    let each = each_placed place test (2 ^ 64) xs t.0 t.1 (omega arith) in
    let least : min n kept ≡ length xs = ap (λ (k : ℕ). min k kept) number ∙ min-eq_left few in
    (λ i. records_in read size (least i) (is i)) ∙ records_back read f (Placed place test) size long back xs (replicate (room - length (flat_map f xs)) 0) each

-- ================ all four

pub lists_back : (payload : List ℕ) (l : Lists) → HasLists payload l → lists_read payload ≡ l
lists_back payload l has =
    let s = has.stand in
    let numbers = part LISTS_AT LISTS_LEN payload in
    let a = length l.plays in
    let b = length l.events in
    let c = length l.bills in
    let d = length l.vouchers in
    let plays_listed = are_listed is_recorded_play (λ p. p.place) l.plays in
    let events_listed = are_listed is_recorded_event (λ e. e.place) l.events in
    let bills_listed = are_listed is_bill_record (λ b. b.place) l.bills in
    let vouchers_listed = are_listed is_voucher (λ v. v.place) l.vouchers in
    let r3 = both (plays_listed && events_listed && bills_listed) vouchers_listed has.recorded in
    let r2 = both (plays_listed && events_listed) bills_listed r3.0 in
    let r1 = both plays_listed events_listed r2.0 in
    let plays = list_back (play_read 0) play_bytes (λ p. p.place) is_recorded_play PLAY_LEN play_long play_back l.plays (two_at 0 numbers) PLAYS_KEPT PLAYS_LEN (part PLAYS_AT PLAYS_LEN payload) r1.0
    (ap (two_at 0) s.numbers ∙ first_back a b c d (omega (arith, has.plays_kept))) has.plays_kept s.plays in
    let events = list_back event_read event_bytes (λ e. e.place) is_recorded_event EVENT_LEN (λ e ok. refl) event_back l.events (two_at 2 numbers) EVENTS_KEPT EVENTS_LEN (part EVENTS_AT EVENTS_LEN payload) r1.1
    (ap (two_at 2) s.numbers ∙ second_back a b c d (omega (arith, has.events_kept))) has.events_kept s.events in
    let bills = list_back bill_read bill_bytes (λ b. b.place) is_bill_record BILL_LEN (λ b ok. refl) bill_back l.bills (two_at 4 numbers) BILLS_KEPT BILLS_LEN (part BILLS_AT BILLS_LEN payload) r2.1
    (ap (two_at 4) s.numbers ∙ third_back a b c d (omega (arith, has.bills_kept))) has.bills_kept s.bills in
    let vouchers = list_back voucher_read voucher_bytes (λ v. v.place) is_voucher VOUCHER_LEN (λ v ok. refl) voucher_back l.vouchers (two_at 6 numbers) VOUCHERS_KEPT (VOUCHERS_LEN + REST_LEN) (drop VOUCHERS_AT payload) r3.1
    (ap (two_at 6) s.numbers ∙ fourth_back a b c d (omega (arith, has.vouchers_kept))) has.vouchers_kept s.vouchers in
    λ i. record { plays = plays i; events = events i; bills = bills i; vouchers = vouchers i }
