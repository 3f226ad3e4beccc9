-- Tests in a row, and tests on each record of a list.
use Rattle.std.proofs.Common.{◌≡◌, ◌∙◌, ap, sym, refl, ℕ, zero, suc, ◌+◌, ◌<◌, ◌≤◌, ◌^◌, ◌&&◌, nat_le, nat_lt, Bool, true, false, List, [], ◌∷◌, length, take, drop, map, get_or, arith, Some, None, option_map}
use Rattle.std.specs.Prelude.{slice_get}
use Rattle.std.specs.List.{list_all}
use Rattle.gd_base.specs.declared.records.TheConstants.{BILLS_KEPT, EVENTS_KEPT, PLAYS_KEPT, VOUCHERS_KEPT}
use Rattle.gd_base.specs.Judging.Product.{both_hold}
use Rattle.gd_base.specs.Payloads.Lists.{Lists}
use Rattle.gd_base.specs.Payloads.Recorded.{are_listed, are_recorded, is_recorded_event, is_recorded_play}
use Rattle.gd_base.specs.Payloads.ViewRules.{all_true, fall_from, is_bill_record, is_voucher}
use Rattle.gd_base.proofs.BoolTests.{both, is_below, is_within}
use Rattle.gd_image.specs.Places.{is_newest_below}

pub all_true_is : (bs : List Bool) → list_all (λ b. b) bs ≡ all_true bs
all_true_is [] = refl
all_true_is (b ∷ bs) = ap (λ (x : Bool). b && x) (all_true_is bs)

pub last_true : (a : Bool) → (a && true) ≡ a
last_true true = refl
last_true false = refl

pub two_hold : (a b : Bool) → list_all (λ x. x) (a ∷ b ∷ []) ≡ (a && b)
two_hold a b = ap (λ (x : Bool). a && x) (last_true b)

pub four_hold : (a b c d : Bool) → list_all (λ x. x) (a ∷ b ∷ c ∷ d ∷ []) ≡ (a && b && c && d)
four_hold true true c d = two_hold c d
four_hold true false c d = refl
four_hold false b c d = refl

-- each of a list of bytes is below 256, as a test
pub each_byte : (xs : List ℕ) → ((i : ℕ) → get_or xs i 0 < 256) → list_all (λ b. nat_lt b 256) xs ≡ true
each_byte [] f = refl
each_byte (x ∷ xs) f = both_hold (nat_lt x 256) (list_all (λ b. nat_lt b 256) xs) (is_below x 256 (f 0)) (each_byte xs (λ i. f (suc i)))

-- the last seven of sixteen
pub last_seven : (xs : List ℕ) → length xs ≡ 16 → take 7 (drop 9 xs) ≡ drop 9 xs
last_seven (a ∷ b ∷ c ∷ d ∷ e ∷ f ∷ g ∷ h ∷ i ∷ j ∷ k ∷ l ∷ m ∷ n ∷ o ∷ p ∷ []) len = refl
last_seven _ len = absurd (omega (arith, len))

-- ================ each record of a list

module _ {A : Type 0} (test : A → Bool) where
  at_place : (xs : List A) (i : ℕ) (x : A) → slice_get xs i ≡ Some x → list_all test (drop i xs) ≡ (test x && list_all test (drop (i + 1) xs))
  at_place [] i x h = absurd (cc h)
  at_place (y ∷ ys) zero x h = let is : y ≡ x = cc h in ap (λ (z : A). test z && list_all test ys) is
  at_place (y ∷ ys) (suc i) x h = let more : suc i + 1 ≡ suc (i + 1) = omega arith in at_place ys i x h ∙ ap (λ (k : ℕ). test x && list_all test (drop k (y ∷ ys))) (sym more)

  -- the records that are left decide
  pub decides : (xs : List A) (i : ℕ) (x : A) → slice_get xs i ≡ Some x → test x ≡ true → list_all test (drop i xs) ≡ list_all test xs → list_all test (drop (i + 1) xs) ≡ list_all test xs
  decides xs i x at holds so = ap (λ (b : Bool). b && list_all test (drop (i + 1) xs)) (sym holds) ∙ sym (at_place xs i x at) ∙ so

  pub broken : (xs : List A) (i : ℕ) (x : A) → slice_get xs i ≡ Some x → test x ≡ false → list_all test (drop i xs) ≡ list_all test xs → false ≡ list_all test xs
  broken xs i x at not_so so = ap (λ (b : Bool). b && list_all test (drop (i + 1) xs)) (sym not_so) ∙ sym (at_place xs i x at) ∙ so

  behind : (xs : List A) (i : ℕ) → slice_get xs i ≡ None → true ≡ list_all test (drop i xs)
  behind [] zero h = refl
  behind [] (suc i) h = refl
  behind (y ∷ ys) zero h = absurd (cc h)
  behind (y ∷ ys) (suc i) h = behind ys i h

  pub none_left : (xs : List A) (i : ℕ) → slice_get xs i ≡ None → list_all test (drop i xs) ≡ list_all test xs → true ≡ list_all test xs
  none_left xs i h so = behind xs i h ∙ so

  all_done : (xs : List A) → true ≡ list_all test (drop (length xs) xs)
  all_done [] = refl
  all_done (y ∷ ys) = all_done ys

  pub at_end : (xs : List A) (i : ℕ) → i ≡ length xs → list_all test (drop i xs) ≡ list_all test xs → true ≡ list_all test xs
  at_end xs i e so = all_done xs ∙ ap (λ (k : ℕ). list_all test (drop k xs)) (sym e) ∙ so

-- one of them, where each passes
pub passed_at : {A : Type 0} (test : A → Bool) (xs : List A) (i : ℕ) (x : A) → slice_get xs i ≡ Some x → list_all test xs ≡ true → test x ≡ true
passed_at test [] i x at all = absurd (cc at)
passed_at test (y ∷ ys) zero x at all = ap test (sym (cc at)) ∙ (both (test y) (list_all test ys) all).0
passed_at test (y ∷ ys) (suc i) x at all = passed_at test ys i x at (both (test y) (list_all test ys) all).1

-- ================ places that fall

middle : (a b c : Bool) → a ≡ true → c ≡ true → b ≡ (a && b && c)
middle a b c p q = sym (last_true b) ∙ (λ i. sym p i && b && sym q i)

-- where places fall, the newest alone decides whether they fall from a limit
pub newest_decides : {A : Type 0} (place : A → ℕ) (limit : ℕ) (xs : List A) → fall_from (2 ^ 64) (map place xs) ≡ true
    → is_newest_below limit (option_map place (slice_get xs 0)) ≡ fall_from limit (map place xs)
newest_decides place limit [] h = refl
newest_decides place limit (x ∷ xs) h =
    let t = both (nat_le 1 (place x) && nat_lt (place x) (2 ^ 64)) (fall_from (place x) (map place xs)) h in
    let u = both (nat_le 1 (place x)) (nat_lt (place x) (2 ^ 64)) t.0 in
    middle (nat_le 1 (place x)) (nat_lt (place x) limit) (fall_from (place x) (map place xs)) u.0 t.1

-- ================ lists that can be recorded

pub record Falling (l : Lists) : Type 0 where
  pub plays : fall_from (2 ^ 64) (map (λ p. p.place) l.plays) ≡ true
  pub events : fall_from (2 ^ 64) (map (λ e. e.place) l.events) ≡ true
  pub bills : fall_from (2 ^ 64) (map (λ b. b.place) l.bills) ≡ true
  pub vouchers : fall_from (2 ^ 64) (map (λ r. r.place) l.vouchers) ≡ true
  pub each_bill : list_all is_bill_record l.bills ≡ true
  pub each_voucher : list_all is_voucher l.vouchers ≡ true

pub falling : (l : Lists) → are_recorded l ≡ true → Falling l
falling l h =
    let plays = are_listed is_recorded_play (λ p. p.place) l.plays in
    let events = are_listed is_recorded_event (λ e. e.place) l.events in
    let bills = are_listed is_bill_record (λ b. b.place) l.bills in
    let vouchers = are_listed is_voucher (λ r. r.place) l.vouchers in
    let three = both (plays && events && bills) vouchers h in
    let two = both (plays && events) bills three.0 in
    let one = both plays events two.0 in
    let bill = both (list_all is_bill_record l.bills) (fall_from (2 ^ 64) (map (λ b. b.place) l.bills)) two.1 in
    let voucher = both (list_all is_voucher l.vouchers) (fall_from (2 ^ 64) (map (λ r. r.place) l.vouchers)) three.1 in
    record {
      plays = (both (list_all is_recorded_play l.plays) (fall_from (2 ^ 64) (map (λ p. p.place) l.plays)) one.0).1;
      events = (both (list_all is_recorded_event l.events) (fall_from (2 ^ 64) (map (λ e. e.place) l.events)) one.1).1;
      bills = bill.1;
      vouchers = voucher.1;
      each_bill = bill.0;
      each_voucher = voucher.0;
    }

-- lists that have room are short
pub all_short : (l : Lists) → length l.plays ≤ PLAYS_KEPT → length l.events ≤ EVENTS_KEPT → length l.bills ≤ BILLS_KEPT → length l.vouchers ≤ VOUCHERS_KEPT
    → (nat_le (length l.plays) PLAYS_KEPT && nat_le (length l.events) EVENTS_KEPT && nat_le (length l.bills) BILLS_KEPT && nat_le (length l.vouchers) VOUCHERS_KEPT) ≡ true
all_short l p e b v =
    let plays = is_within (length l.plays) PLAYS_KEPT p in
    let events = is_within (length l.events) EVENTS_KEPT e in
    let bills = is_within (length l.bills) BILLS_KEPT b in
    let vouchers = is_within (length l.vouchers) VOUCHERS_KEPT v in
    both_hold _ _ (both_hold _ _ (both_hold _ _ plays events) bills) vouchers
