-- In the draft layout two views that keep the rules of a view and have one payload are one.
use Rattle.std.specs.Prelude.{◌≡◌, ℕ, zero, suc, ◌+◌, ◌-◌, ◌<◌, ◌≤◌, ◌^◌, ◌==◌, true, ◌&&◌, nat_le, List, [], ◌∷◌, ◌++◌, length, map, flat_map, drop, sum, slice_index, replicate, Option, Some, None, refl}
use Rattle.std.specs.List.{list_all}
use Rattle.std.proofs.Common.{ap, sym, ◌∙◌, arith, append_assoc}
use Rattle.std.proofs.lemmas.List.Sums.{sum_by-cons}
use Rattle.gd_base.specs.declared.layout.TheConstants.{HEAD_LEN, OPEN_PLAY_LEN, PLAYS_LEN, EVENTS_LEN, BILLS_LEN, VOUCHERS_LEN, REST_LEN}
use Rattle.gd_base.specs.declared.refusal.Reply.{Reply}
use Rattle.gd_base.specs.declared.payout.Handpay.{Handpay}
use Rattle.gd_base.specs.declared.payout.Order.{Order}
use Rattle.gd_base.specs.declared.play.PlayRecord.{PlayRecord}
use Rattle.gd_base.specs.Payloads.Bytes.{two, eight, filled_part, flags, play_bytes, event_bytes, bill_bytes, voucher_bytes, kept_bytes, handpay_bytes, kind_code, order_bytes, open_bytes, head_bytes, payload_of}
use Rattle.gd_base.specs.Histories.Credit.{order_amount}
use Rattle.gd_base.specs.Payloads.ViewRules.{is_possible, is_event, is_bill_record, is_voucher, is_play_record, is_open_record, is_open_as, play_limit, has_number, is_flagged_last}
use Rattle.gd_base.specs.Payloads.Spelling.{Spells}
use Rattle.gd_base.specs.Histories.Meters.{handpay_amount}
use Rattle.gd_base.specs.Histories.View.{View}
use Rattle.gd_base.proofs.PayloadLemmas.Fields.{Reads, Each, cons_reads, split, cancel, eight_reads, two_reads, list_reads, filled_list_reads, zeros_after, each_placed, each_passed, flags_one}
use Rattle.gd_base.proofs.PayloadLemmas.Records.{Placed, bill_reads, voucher_reads, event_reads, play_reads, kept_reads, handpay_reads, IsAmount, IsNumbered, order_one}
use Rattle.gd_base.proofs.BoolTests.{at_most, both, is_so}
use Rattle.gd_base.proofs.ViewFacts.{rules_of}

-- ================ widths, from the rules

abbrev Short : ℕ → Type 0
Short n = n < 2 ^ 64

abbrev pub Open : Option PlayRecord → Type 0
Open None = Unit {0}
Open (Some p) = Placed (λ q. q.place) is_play_record p

pub record Widths (v : View) : Type 0 where
  pub digest : length v.digest ≡ 32
  pub count : Short v.count
  pub balance : Short v.balance
  pub totals_len : length v.totals ≡ 16
  pub totals : Each Short v.totals
  pub doors : length v.doors ≡ 4
  pub tilts : length v.tilts ≡ 6
  pub handpay : IsAmount v.handpay
  pub orders : Short v.orders
  pub order : Short (order_amount v.order)
  pub numbered : IsNumbered v.orders v.order
  pub kept_len : length v.kept ≡ 9
  pub kept : Each (λ k. Short k.0) v.kept
  pub plays_len : length v.plays < 2 ^ 16
  pub events_len : length v.events < 2 ^ 16
  pub bills_len : length v.bills < 2 ^ 16
  pub vouchers_len : length v.vouchers < 2 ^ 16
  pub play : Open v.play
  pub plays : Each (Placed (λ r. r.place) is_play_record) v.plays
  pub events : Each (Placed (λ r. r.place) is_event) v.events
  pub bills : Each (Placed (λ r. r.place) is_bill_record) v.bills
  pub vouchers : Each (Placed (λ r. r.place) is_voucher) v.vouchers

-- the first n of a list one by one, and the others
each_from : (n : ℕ) (xs : List ℕ) → ((i : ℕ) → i < n → Short (slice_index xs i)) → Each Short (drop n xs) → Each Short xs
each_from zero xs f others = others
each_from (suc n) [] f others = tt
each_from (suc n) (x ∷ xs) f others = (f 0 (omega arith), each_from n xs (λ i lt. f (suc i) (omega (arith, lt))) others)

abbrev Nine : List ℕ → Type 0
Nine xs =
    Short (slice_index xs 0) × Short (slice_index xs 1) × Short (slice_index xs 2) × Short (slice_index xs 3) × Short (slice_index xs 4)
    × Short (slice_index xs 5) × Short (slice_index xs 6) × Short (slice_index xs 7) × Short (slice_index xs 8)

nine : (xs : List ℕ) → Nine xs → (i : ℕ) → i < 9 → Short (slice_index xs i)
nine xs b zero lt = b.0
nine xs b (suc zero) lt = b.1
nine xs b (suc (suc zero)) lt = b.2
nine xs b (suc (suc (suc zero))) lt = b.3
nine xs b (suc (suc (suc (suc zero)))) lt = b.4
nine xs b (suc (suc (suc (suc (suc zero))))) lt = b.5
nine xs b (suc (suc (suc (suc (suc (suc zero)))))) lt = b.6
nine xs b (suc (suc (suc (suc (suc (suc (suc zero))))))) lt = b.7
nine xs b (suc (suc (suc (suc (suc (suc (suc (suc zero)))))))) lt = b.8
nine xs b (suc (suc (suc (suc (suc (suc (suc (suc (suc i))))))))) lt = absurd (omega (arith, lt))

each_kept : (ks : List (ℕ × Option Reply)) (limit : ℕ) → sum (map (λ k. k.0) ks) ≤ limit → Short limit → Each (λ k. Short k.0) ks
each_kept [] limit le short = tt
each_kept (k ∷ ks) limit le short =
    let split : sum (map (λ k. k.0) (k ∷ ks)) ≡ k.0 + sum (map (λ k. k.0) ks) = sum_by-cons (λ (n : ℕ). n) k.0 (map (λ (j : ℕ × Option Reply). j.0) ks) in
    (omega (arith, le, split, short), each_kept ks limit (omega (arith, le, split)) short)

amount_of : (h : Option Handpay) → Short (handpay_amount h) → IsAmount h
amount_of None short = tt
amount_of (Some h) short = short

number_of : (n : ℕ) (x : Option Order) → has_number n x ≡ true → IsNumbered n x
number_of n None h = tt
number_of n (Some o) h = is_so o.number n (both (o.number == n) (nat_le 1 n) h).0

limit_of : (v : View) (x : Option PlayRecord) → v.count ≤ 2 ^ 36 → is_open_as (is_open_record v) x ≡ true → play_limit v x ≤ 2 ^ 64
limit_of v None le h = omega (arith, le)
limit_of v (Some p) le h =
    let place = at_most p.place v.count (both (nat_le 1 p.place) (nat_le p.place v.count) (both (nat_le 1 p.place && nat_le p.place v.count) (p.after == 0) h).0).1 in
    omega (arith, le, place)

open_of : (v : View) (x : Option PlayRecord) → v.count ≤ 2 ^ 36 → is_open_as is_play_record x ≡ true → is_open_as (is_open_record v) x ≡ true → Open x
open_of v None le r h = tt
open_of v (Some p) le r h =
    let place = at_most p.place v.count (both (nat_le 1 p.place) (nat_le p.place v.count) (both (nat_le 1 p.place && nat_le p.place v.count) (p.after == 0) h).0).1 in
    (r, omega (arith, le, place))

pub widths : (v : View) → is_possible v ≡ true → Widths v
widths v h =
    let r = rules_of v h in
    let count = r.count in
    let same = r.books in
    let within = r.bound in
    let kept = both (sum (map (λ k. k.0) v.kept) == v.count) (list_all is_flagged_last v.kept) r.numbered in
    let counts = each_passed (λ n. nat_le n v.count) Short (λ n k. omega (arith, at_most n v.count k, count)) (drop 9 v.totals) r.counts in
    let top : v.count + 1 ≤ 2 ^ 64 = omega (arith, count) in
    record {
      digest = r.digest_length;
      count = omega (arith, count);
      balance = omega (arith, count, same, within);
      totals_len = r.meters;
      totals = each_from 9 v.totals (nine v.totals (
        omega (arith, count, same, within),
        omega (arith, count, same, within),
        omega (arith, count, same, within),
        omega (arith, count, same, within),
        omega (arith, count, same, within),
        omega (arith, count, same, within),
        omega (arith, count, same, within),
        omega (arith, count, same, within),
        omega (arith, count, same, within),
      )) counts;
      doors = r.doors;
      tilts = r.tilts;
      handpay = amount_of v.handpay (omega (arith, count, same, within));
      orders = (let few = r.orders in omega (arith, count, few));
      order = omega (arith, count, same, within);
      numbered = number_of v.orders v.order r.order_number;
      kept_len = r.devices;
      kept = each_kept v.kept v.count (omega (arith, is_so (sum (map (λ k. k.0) v.kept)) v.count kept.0)) (omega (arith, count));
      plays_len = (let few = r.plays_short in omega (arith, few));
      events_len = (let few = r.events_short in omega (arith, few));
      bills_len = (let few = r.bills_short in omega (arith, few));
      vouchers_len = (let few = r.vouchers_short in omega (arith, few));
      play = open_of v v.play count r.play r.play_placed;
      plays = each_placed (λ r. r.place) is_play_record (play_limit v v.play) v.plays r.plays r.plays_fall (limit_of v v.play count r.play_placed);
      events = each_placed (λ r. r.place) is_event (v.count + 1) v.events r.events r.events_fall top;
      bills = each_placed (λ r. r.place) is_bill_record (v.count + 1) v.bills r.bills r.bills_fall top;
      vouchers = each_placed (λ r. r.place) is_voucher (v.count + 1) v.vouchers r.vouchers r.vouchers_fall top;
    }

-- ================ the payload in a row

six : (a b c d e f : List ℕ) → a ++ b ++ c ++ d ++ e ++ f ≡ a ++ (b ++ (c ++ (d ++ (e ++ f))))
six a b c d e f = simp append_assoc

eleven : (a b c d e f g h i j k x : List ℕ) → a ++ b ++ c ++ d ++ e ++ f ++ g ++ h ++ i ++ j ++ k ++ x ≡ a ++ (b ++ (c ++ (d ++ (e ++ (f ++ (g ++ (h ++ (i ++ (j ++ (k ++ x))))))))))
eleven a b c d e f g h i j k x = simp append_assoc

-- behind the head
abbrev pub records_row : View → List ℕ
records_row v =
    filled_part OPEN_PLAY_LEN (open_bytes v.play) ++ (filled_part PLAYS_LEN (flat_map play_bytes v.plays) ++ (filled_part EVENTS_LEN (flat_map event_bytes v.events)
    ++ (filled_part BILLS_LEN (flat_map bill_bytes v.bills) ++ filled_part (VOUCHERS_LEN + REST_LEN) (flat_map voucher_bytes v.vouchers))))

abbrev pub zeros_row : View → List ℕ
zeros_row v = replicate (HEAD_LEN - length (head_bytes v)) 0 ++ records_row v

abbrev pub lengths_row : View → List ℕ → List ℕ
lengths_row v x = two (length v.plays) ++ (two (length v.events) ++ (two (length v.bills) ++ (two (length v.vouchers) ++ x)))

abbrev pub flags_row : View → List ℕ → List ℕ
flags_row v x = flags v.doors ∷ flags v.tilts ∷ (handpay_bytes v.handpay ++ (order_bytes v.orders v.order ++ (flat_map kept_bytes v.kept ++ lengths_row v x)))

abbrev pub head_row : View → List ℕ → List ℕ
head_row v x = v.digest ++ (eight v.count ++ (eight v.balance ++ (flat_map eight v.totals ++ flags_row v x)))

pub payload_row : (v : View) → payload_of v ≡ head_row v (zeros_row v)
payload_row v =
    six (filled_part HEAD_LEN (head_bytes v)) (filled_part OPEN_PLAY_LEN (open_bytes v.play)) (filled_part PLAYS_LEN (flat_map play_bytes v.plays)) (filled_part EVENTS_LEN (flat_map event_bytes v.events))
    (filled_part BILLS_LEN (flat_map bill_bytes v.bills)) (filled_part (VOUCHERS_LEN + REST_LEN) (flat_map voucher_bytes v.vouchers))
    ∙ append_assoc (head_bytes v) (replicate (HEAD_LEN - length (head_bytes v)) 0) (records_row v)
    ∙ eleven v.digest (eight v.count) (eight v.balance) (flat_map eight v.totals) (flags v.doors ∷ flags v.tilts ∷ handpay_bytes v.handpay) (order_bytes v.orders v.order)
    (flat_map kept_bytes v.kept) (two (length v.plays)) (two (length v.events)) (two (length v.bills)) (two (length v.vouchers)) (zeros_row v)

-- the open play, and zeros after it
open_reads : (x y : Option PlayRecord) (c d : List ℕ) → Open x → Open y → filled_part OPEN_PLAY_LEN (open_bytes x) ++ c ≡ filled_part OPEN_PLAY_LEN (open_bytes y) ++ d → (x ≡ y) × (c ≡ d)
open_reads None None c d p q e = (refl, cancel (replicate OPEN_PLAY_LEN 0) c d e)
open_reads None (Some r) c d p q e = absurd (omega (arith, (cons_reads 0 1 _ _ e).0))
open_reads (Some r) None c d p q e = absurd (omega (arith, (cons_reads 1 0 _ _ e).0))
open_reads (Some r) (Some s) c d p q e =
    let zr = replicate (OPEN_PLAY_LEN - length (1 ∷ play_bytes r)) 0 in
    let zs = replicate (OPEN_PLAY_LEN - length (1 ∷ play_bytes s)) 0 in
    let one = cons_reads 1 1 (play_bytes r ++ (zr ++ c)) (play_bytes s ++ (zs ++ d)) (sym (append_assoc (1 ∷ play_bytes r) zr c) ∙ e ∙ append_assoc (1 ∷ play_bytes s) zs d) in
    let t = play_reads r s (zr ++ c) (zs ++ d) p q one.1 in
    ((λ i. Some (t.0 i)), zeros_after OPEN_PLAY_LEN (1 ∷ play_bytes r) (1 ∷ play_bytes s) c d (λ i. 1 ∷ play_bytes (t.0 i)) t.1)

last_reads : {A : Type 0} (size : ℕ) (f : A → List ℕ) (ok : A → Type 0) → Reads f ok → (xs ys : List A) → Each ok xs → Each ok ys → length xs ≡ length ys
    → filled_part size (flat_map f xs) ≡ filled_part size (flat_map f ys) → xs ≡ ys
last_reads size f ok reads xs ys p q l e =
    (filled_list_reads size f ok reads xs ys [] [] p q l (ap (λ (t : List ℕ). t ++ []) e)).0

-- ================ one view

one_by_widths : (v w : View) → Widths v → Widths w → payload_of v ≡ payload_of w → v ≡ w
one_by_widths v w p q e =
    let digest = split v.digest w.digest _ _ (p.digest ∙ sym q.digest) (sym (payload_row v) ∙ e ∙ payload_row w) in
    let count = eight_reads v.count w.count _ _ p.count q.count digest.1 in
    let balance = eight_reads v.balance w.balance _ _ p.balance q.balance count.1 in
    let totals = list_reads eight Short eight_reads v.totals w.totals (flags_row v (zeros_row v)) (flags_row w (zeros_row w)) p.totals q.totals (p.totals_len ∙ sym q.totals_len) balance.1 in
    let doors = cons_reads (flags v.doors) (flags w.doors) _ _ totals.1 in
    let tilts = cons_reads (flags v.tilts) (flags w.tilts) _ _ doors.1 in
    let handpay = handpay_reads v.handpay w.handpay (order_bytes v.orders v.order ++ (flat_map kept_bytes v.kept ++ lengths_row v (zeros_row v)))
    (order_bytes w.orders w.order ++ (flat_map kept_bytes w.kept ++ lengths_row w (zeros_row w))) p.handpay q.handpay tilts.1 in
    let kind = cons_reads (kind_code v.order) (kind_code w.order) _ _ handpay.1 in
    let orders = eight_reads v.orders w.orders _ _ p.orders q.orders (cons_reads 0 0 _ _ (cons_reads 0 0 _ _ (cons_reads 0 0 _ _ kind.1).1).1).1 in
    let left = eight_reads (order_amount v.order) (order_amount w.order) (flat_map kept_bytes v.kept ++ lengths_row v (zeros_row v)) (flat_map kept_bytes w.kept ++ lengths_row w (zeros_row w)) p.order q.order orders.1 in
    let order = order_one v.orders w.orders v.order w.order p.numbered q.numbered orders.0 kind.0 left.0 in
    let kept = list_reads kept_bytes (λ k. Short k.0) kept_reads v.kept w.kept (lengths_row v (zeros_row v)) (lengths_row w (zeros_row w)) p.kept q.kept (p.kept_len ∙ sym q.kept_len) left.1 in
    let plays_len = two_reads (length v.plays) (length w.plays) _ _ p.plays_len q.plays_len kept.1 in
    let events_len = two_reads (length v.events) (length w.events) _ _ p.events_len q.events_len plays_len.1 in
    let bills_len = two_reads (length v.bills) (length w.bills) _ _ p.bills_len q.bills_len events_len.1 in
    let vouchers_len = two_reads (length v.vouchers) (length w.vouchers) (zeros_row v) (zeros_row w) p.vouchers_len q.vouchers_len bills_len.1 in
    let heads : head_bytes v ≡ head_bytes w = λ i.
    digest.0 i ++ eight (count.0 i) ++ eight (balance.0 i) ++ flat_map eight (totals.0 i) ++ doors.0 i ∷ tilts.0 i ∷ handpay_bytes (handpay.0 i)
    ++ order_bytes (orders.0 i) (order i) ++ flat_map kept_bytes (kept.0 i)
    ++ two (plays_len.0 i) ++ two (events_len.0 i) ++ two (bills_len.0 i) ++ two (vouchers_len.0 i) in
    let rows = zeros_after HEAD_LEN (head_bytes v) (head_bytes w) (records_row v) (records_row w) heads vouchers_len.1 in
    let play = open_reads v.play w.play _ _ p.play q.play rows in
    let plays = filled_list_reads PLAYS_LEN play_bytes (Placed (λ r. r.place) is_play_record) play_reads v.plays w.plays _ _ p.plays q.plays plays_len.0 play.1 in
    let events = filled_list_reads EVENTS_LEN event_bytes (Placed (λ r. r.place) is_event) event_reads v.events w.events _ _ p.events q.events events_len.0 plays.1 in
    let bills = filled_list_reads BILLS_LEN bill_bytes (Placed (λ r. r.place) is_bill_record) bill_reads v.bills w.bills _ _ p.bills q.bills bills_len.0 events.1 in
    let vouchers = last_reads (VOUCHERS_LEN + REST_LEN) voucher_bytes (Placed (λ r. r.place) is_voucher) voucher_reads v.vouchers w.vouchers p.vouchers q.vouchers vouchers_len.0 bills.1 in
    let are_doors = flags_one v.doors w.doors (p.doors ∙ sym q.doors) doors.0 in
    let are_tilts = flags_one v.tilts w.tilts (p.tilts ∙ sym q.tilts) tilts.0 in
    λ i. record {
      digest = digest.0 i;
      count = count.0 i;
      balance = balance.0 i;
      totals = totals.0 i;
      doors = are_doors i;
      tilts = are_tilts i;
      play = play.0 i;
      orders = orders.0 i;
      order = order i;
      handpay = handpay.0 i;
      kept = kept.0 i;
      plays = plays.0 i;
      events = events.0 i;
      bills = bills.0 i;
      vouchers = vouchers i;
    }

-- two views that keep the rules of a view and have one payload are one
pub one_view : (v w : View) → is_possible v ≡ true → is_possible w ≡ true → payload_of v ≡ payload_of w → v ≡ w
one_view v w p q e = one_by_widths v w (widths v p) (widths w q) e

-- so a payload spells at most one view
pub spells_one : (payload : List ℕ) (v w : View) → Spells payload v → Spells payload w → v ≡ w
spells_one payload v w p q = one_view v w p.0 q.0 (sym p.1 ∙ q.1)
