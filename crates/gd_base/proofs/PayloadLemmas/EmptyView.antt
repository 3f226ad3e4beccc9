-- A view with no entry that keeps the rules of a view is the empty one, but for its digest, its doors and its tilts.
use Rattle.std.specs.Prelude.{◌≡◌, ℕ, zero, suc, ◌+◌, ◌-◌, ◌*◌, ◌<◌, ◌≤◌, ◌==◌, true, ◌&&◌, nat_le, nat_lt, sum, map, List, [], ◌∷◌, length, drop, replicate, slice_index, Option, Some, None, refl}
use Rattle.std.specs.List.{list_all}
use Rattle.std.proofs.Common.{ap, sym, ◌∙◌, arith, ⊎_elim}
use Rattle.std.proofs.lemmas.Bool.{cases_lt}
use Rattle.std.proofs.lemmas.Bool.Decides.{nat_tests}
use Rattle.std.proofs.lemmas.List.{get_or-drop}
use Rattle.std.proofs.lemmas.List.Sums.{sum_by-cons}
use Rattle.gd_base.specs.declared.refusal.Reply.{Reply}
use Rattle.gd_base.specs.declared.records.BillRecord.{BillRecord}
use Rattle.gd_base.specs.declared.records.EventRecord.{EventRecord}
use Rattle.gd_base.specs.declared.payout.Handpay.{Handpay}
use Rattle.gd_base.specs.declared.payout.Order.{Order}
use Rattle.gd_base.specs.declared.play.PlayRecord.{PlayRecord}
use Rattle.gd_base.specs.declared.records.VoucherRecord.{VoucherRecord}
use Rattle.gd_base.specs.Payloads.ViewRules.{is_possible, total, income, outgo, is_flagged_last, fall_from, play_limit, has_number, is_some_handpay, is_open_as, is_open_record}
use Rattle.gd_base.specs.Histories.Meters.{handpay_amount}
use Rattle.gd_base.specs.Histories.View.{View}
use Rattle.gd_base.specs.Histories.ViewOf.{nothing_kept}
use Rattle.gd_base.proofs.PayloadLemmas.Itself.{numbers_by, by_places}
use Rattle.gd_base.proofs.BoolTests.{at_most, both, is_so}
use Rattle.gd_base.proofs.ViewFacts.{rules_of}

-- ================ numbers

-- none of these numbers is above 0
none_above : (c : ℕ) (xs : List ℕ) (i : ℕ) → c ≡ 0 → list_all (λ n. nat_le n c) xs ≡ true → slice_index xs i ≡ 0
none_above c [] i e h = refl
none_above c (x ∷ xs) zero e h = let t = both (nat_le x c) (list_all (λ n. nat_le n c) xs) h in let le : x ≤ c = at_most x c t.0 in omega (arith, e, le)
none_above c (x ∷ xs) (suc i) e h = none_above c xs i e (both (nat_le x c) (list_all (λ n. nat_le n c) xs) h).1

zeros_at : (n : ℕ) (f : ℕ → ℕ) → ((i : ℕ) → i < n → f i ≡ 0) → numbers_by n f ≡ replicate n 0
zeros_at zero f h = refl
zeros_at (suc n) f h =
    let first : f 0 ≡ 0 = h 0 (omega arith) in
    let rest = zeros_at n (λ i. f (suc i)) (λ i lt. h (suc i) (omega (arith, lt))) in
    λ k. first k ∷ rest k

-- ================ totals

-- the nine amounts, one by one
pub record AreZero (v : View) : Type 0 where
  pub at_0 : total v 0 ≡ 0
  pub at_1 : total v 1 ≡ 0
  pub at_2 : total v 2 ≡ 0
  pub at_3 : total v 3 ≡ 0
  pub at_4 : total v 4 ≡ 0
  pub at_5 : total v 5 ≡ 0
  pub at_6 : total v 6 ≡ 0
  pub at_7 : total v 7 ≡ 0
  pub at_8 : total v 8 ≡ 0

are_zero : (v : View) → outgo v ≡ income v → income v ≤ v.count * 100000000 → v.count ≡ 0 → AreZero v
are_zero v same most e = record {
  at_0 = omega (arith, most, e);
  at_1 = omega (arith, most, e);
  at_2 = omega (arith, most, e);
  at_3 = omega (arith, same, most, e);
  at_4 = omega (arith, most, e);
  at_5 = omega (arith, same, most, e);
  at_6 = omega (arith, same, most, e);
  at_7 = omega (arith, same, most, e);
  at_8 = omega (arith, same, most, e);
}

first_nine : (v : View) → AreZero v → (i : ℕ) → i < 9 → slice_index v.totals i ≡ 0
first_nine v z zero lt = z.at_0
first_nine v z (suc zero) lt = z.at_1
first_nine v z (suc (suc zero)) lt = z.at_2
first_nine v z (suc (suc (suc zero))) lt = z.at_3
first_nine v z (suc (suc (suc (suc zero)))) lt = z.at_4
first_nine v z (suc (suc (suc (suc (suc zero))))) lt = z.at_5
first_nine v z (suc (suc (suc (suc (suc (suc zero)))))) lt = z.at_6
first_nine v z (suc (suc (suc (suc (suc (suc (suc zero))))))) lt = z.at_7
first_nine v z (suc (suc (suc (suc (suc (suc (suc (suc zero)))))))) lt = z.at_8
first_nine v z (suc (suc (suc (suc (suc (suc (suc (suc (suc i))))))))) lt = absurd (omega (arith, lt))

total_none : (v : View) → outgo v ≡ income v → income v ≤ v.count * 100000000 → list_all (λ n. nat_le n v.count) (drop 9 v.totals) ≡ true → v.count ≡ 0
    → (i : ℕ) → slice_index v.totals i ≡ 0
total_none v same most counts e i = ⊎_elim (first_nine v (are_zero v same most e) i)
    (λ le. let sums : 9 + (i - 9) ≡ i = omega (arith, le) in
    ap (λ (k : ℕ). slice_index v.totals k) (sym sums) ∙ sym (get_or-drop 9 v.totals (i - 9) 0) ∙ none_above v.count (drop 9 v.totals) (i - 9) e counts)
    (cases_lt i 9)

-- ================ what is kept of the devices

last_none : (k : ℕ × Option Reply) → k.0 ≡ 0 → is_flagged_last k ≡ true → k ≡ nothing_kept
last_none (zero, None) e h = refl
last_none (zero, Some r) e h = absurd (cc h)
last_none (suc n, r) e h = absurd (omega (arith, e))

kept_none : (ks : List (ℕ × Option Reply)) → sum (map (λ k. k.0) ks) ≡ 0 → list_all is_flagged_last ks ≡ true → ks ≡ replicate (length ks) nothing_kept
kept_none [] s h = refl
kept_none (k ∷ ks) s h =
    let sums = sum_by-cons (λ (n : ℕ). n) k.0 (map (λ (x : ℕ × Option Reply). x.0) ks) in
    let t = both (is_flagged_last k) (list_all is_flagged_last ks) h in
    let first : k ≡ nothing_kept = last_none k (omega (arith, s, sums)) t.0 in
    let rest = kept_none ks (omega (arith, s, sums)) t.1 in
    λ i. first i ∷ rest i

-- ================ what is open, and the lists

order_none : (orders : ℕ) (o : Option Order) → orders ≡ 0 → has_number orders o ≡ true → o ≡ None
order_none orders None e h = refl
order_none orders (Some o) e h = let le : 1 ≤ orders = at_most 1 orders (both (o.number == orders) (nat_le 1 orders) h).1 in absurd (omega (arith, e, le))

handpay_none : (h : Option Handpay) → handpay_amount h ≡ 0 → is_some_handpay h ≡ true → h ≡ None
handpay_none None e t = refl
handpay_none (Some h) e t = let le : 1 ≤ h.amount = at_most 1 h.amount t in absurd (omega (arith, e, le))

play_none : (v : View) (p : Option PlayRecord) → v.count ≡ 0 → is_open_as (is_open_record v) p ≡ true → p ≡ None
play_none v None e h = refl
play_none v (Some p) e h =
    let t = both (nat_le 1 p.place && nat_le p.place v.count) (p.after == 0) h in
    let places = both (nat_le 1 p.place) (nat_le p.place v.count) t.0 in
    let low : 1 ≤ p.place = at_most 1 p.place places.0 in
    let high : p.place ≤ v.count = at_most p.place v.count places.1 in
    absurd (omega (arith, e, low, high))

below : (m n : ℕ) → nat_lt m n ≡ true → m < n
below m n h = grind (arith, nat_tests, h)

places_none : {A : Type 0} (place : A → ℕ) (limit : ℕ) (xs : List A) → limit ≤ 1 → fall_from limit (map place xs) ≡ true → xs ≡ []
places_none place limit [] le h = refl
places_none place limit (x ∷ xs) le h =
    let t = both (nat_le 1 (place x) && nat_lt (place x) limit) (fall_from (place x) (map place xs)) h in
    let u = both (nat_le 1 (place x)) (nat_lt (place x) limit) t.0 in
    let low : 1 ≤ place x = at_most 1 (place x) u.0 in
    let high : place x < limit = below (place x) limit u.1 in
    absurd (omega (arith, le, low, high))

-- ================ the view

-- it shows nothing but a digest, doors and tilts
pub record IsBare (v : View) : Type 0 where
  pub balance : v.balance ≡ 0
  pub totals : v.totals ≡ replicate 16 0
  pub play : v.play ≡ None
  pub orders : v.orders ≡ 0
  pub order : v.order ≡ None
  pub handpay : v.handpay ≡ None
  pub kept : v.kept ≡ replicate 9 nothing_kept
  pub plays : v.plays ≡ []
  pub events : v.events ≡ []
  pub bills : v.bills ≡ []
  pub vouchers : v.vouchers ≡ []

pub bare : (v : View) → is_possible v ≡ true → v.count ≡ 0 → IsBare v
bare v h e =
    let r = rules_of v h in
    let same = r.books in
    let most = r.bound in
    let are_all = both (sum (map (λ k. k.0) v.kept) == v.count) (list_all is_flagged_last v.kept) r.numbered in
    let orders : v.orders ≡ 0 = (let le = r.orders in omega (arith, le, e)) in
    let play : v.play ≡ None = play_none v v.play e r.play_placed in
    let limit : play_limit v v.play ≤ 1 = (let is : play_limit v v.play ≡ v.count + 1 = ap (play_limit v) play in omega (arith, is, e)) in
    let more : v.count + 1 ≤ 1 = omega (arith, e) in
    record {
      balance = omega (arith, same, most, e);
      totals = sym (by_places 16 v.totals r.meters) ∙ zeros_at 16 (slice_index v.totals) (λ i lt. total_none v same most r.counts e i);
      play = play;
      orders = orders;
      order = order_none v.orders v.order orders r.order_number;
      handpay = handpay_none v.handpay (omega (arith, same, most, e)) r.some_handpay;
      kept = kept_none v.kept (is_so _ v.count are_all.0 ∙ e) are_all.1 ∙ ap (λ (n : ℕ). replicate n nothing_kept) r.devices;
      plays = places_none (λ (p : PlayRecord). p.place) (play_limit v v.play) v.plays limit r.plays_fall;
      events = places_none (λ (x : EventRecord). x.place) (v.count + 1) v.events more r.events_fall;
      bills = places_none (λ (x : BillRecord). x.place) (v.count + 1) v.bills more r.bills_fall;
      vouchers = places_none (λ (x : VoucherRecord). x.place) (v.count + 1) v.vouchers more r.vouchers_fall;
    }
