-- A view that keeps the rules of a view is read from its payload.
use Rattle.std.proofs.Common.{◌≡◌, ◌∙◌, ap, sym, subst, ℕ, ◌+◌, arith, List, ◌∷◌, ◌++◌, Bool, length, append_assoc}
use Rattle.gd_base.specs.declared.layout.TheConstants.{HEAD_LEN, OPEN_AT, OPEN_PLAY_LEN, PLAYS_LEN, EVENTS_LEN, BILLS_LEN, VOUCHERS_LEN, REST_LEN}
use Rattle.gd_base.specs.Histories.Credit.{order_amount}
use Rattle.gd_base.specs.Histories.View.{View}
use Rattle.gd_base.specs.Laws.Spelling.{ReadsBack}
use Rattle.gd_base.specs.Payloads.Bytes.{eight, flags, filled_part, order_bytes, kept_bytes, kind_code, open_bytes, play_bytes, event_bytes, bill_bytes, voucher_bytes, head_bytes, payload_of}
use Rattle.gd_base.specs.Payloads.Lists.{lists_of}
use Rattle.gd_base.specs.Payloads.Reading.{flags_of, order_of, open_read}
use Rattle.std.specs.List.{flat_map}
use Rattle.gd_base.proofs.PayloadLemmas.FieldsBack.{flags_back, kind_in, amount_in, handpay_row, handpay_back, short_amount, order_back}
use Rattle.gd_base.proofs.PayloadLemmas.HeadBack.{Numbers, AreShort, HeadBack, head_back, behind_digest}
use Rattle.gd_base.proofs.PayloadLemmas.Lengths.{filled_long}
use Rattle.gd_base.proofs.PayloadLemmas.ListsBack.{lists_back}
use Rattle.gd_base.proofs.PayloadLemmas.ListsOfViews.{has_its_lists, head_bytes_long}
use Rattle.gd_base.proofs.PayloadLemmas.OneView.{Widths, widths, payload_row, zeros_row, lengths_row}
use Rattle.gd_base.proofs.PayloadLemmas.OpenBack.{open_back}

-- ================ the head

abbrev numbers_in : View → Numbers
numbers_in v = record {
  count = v.count;
  balance = v.balance;
  doors = flags v.doors;
  tilts = flags v.tilts;
  handpay_kind = kind_in v.handpay;
  handpay_amount = amount_in v.handpay;
  order_kind = kind_code v.order;
  orders = v.orders;
  order_amount = order_amount v.order;
}

-- the bytes of a head, by those of the handpay
abbrev row_by : View → List ℕ → List ℕ → List ℕ
row_by v handpay rest =
    v.digest ++ (eight v.count ++ (eight v.balance ++ (flat_map eight v.totals ++ (flags v.doors ∷ flags v.tilts ∷ (handpay
    ++ (order_bytes v.orders v.order ++ (flat_map kept_bytes v.kept ++ rest)))))))

head_of_view : (v : View) → Widths v → HeadBack v.digest (numbers_in v) v.totals v.kept (payload_of v)
head_of_view v w =
    let rest = lengths_row v (zeros_row v) in
    let is : payload_of v ≡ v.digest ++ behind_digest (numbers_in v) v.totals v.kept rest = payload_row v ∙ ap (λ (x : List ℕ). row_by v x rest) (handpay_row v.handpay) in
    let short : AreShort (numbers_in v) = record { count = w.count; balance = w.balance; handpay_amount = short_amount v.handpay w.handpay; orders = w.orders; order_amount = w.order } in
    subst (HeadBack v.digest (numbers_in v) v.totals v.kept) (sym is) (head_back v.digest (numbers_in v) v.totals v.kept rest w.digest short w.totals_len w.kept_len w.totals w.kept)

-- ================ the open play

six : (a b c d e f : List ℕ) → a ++ b ++ c ++ d ++ e ++ f ≡ a ++ (b ++ (c ++ (d ++ (e ++ f))))
six a b c d e f = simp append_assoc

open_of_view : (v : View) → Widths v → open_read OPEN_AT (payload_of v) ≡ v.play
open_of_view v w =
    let head = filled_part HEAD_LEN (head_bytes v) in
    let plays = filled_part PLAYS_LEN (flat_map play_bytes v.plays) in
    let events = filled_part EVENTS_LEN (flat_map event_bytes v.events) in
    let bills = filled_part BILLS_LEN (flat_map bill_bytes v.bills) in
    let vouchers = filled_part (VOUCHERS_LEN + REST_LEN) (flat_map voucher_bytes v.vouchers) in
    let long : length head ≡ OPEN_AT = filled_long HEAD_LEN (head_bytes v) (omega (arith, head_bytes_long v w)) in
    ap (open_read OPEN_AT) (six head (filled_part OPEN_PLAY_LEN (open_bytes v.play)) plays events bills vouchers)
    ∙ open_back head v.play (plays ++ (events ++ (bills ++ vouchers))) long w.play

-- ================ the view

flags_from : (n bits : ℕ) (bs : List Bool) → bits ≡ flags bs → length bs ≡ n → flags_of n bits ≡ bs
flags_from n bits bs is long = ap (flags_of n) is ∙ ap (λ (m : ℕ). flags_of m (flags bs)) (sym long) ∙ flags_back bs

pub view_back : ReadsBack
view_back v h =
    let w = widths v h in
    let b = head_of_view v w in
    let doors = flags_from 4 _ v.doors b.are_doors w.doors in
    let tilts = flags_from 6 _ v.tilts b.are_tilts w.tilts in
    let order = (λ i. order_of (b.is_kind i) (b.are_orders i) (b.is_left i)) ∙ order_back v.orders v.order w.numbered in
    let handpay = b.is_handpay ∙ handpay_back v.handpay in
    let play = open_of_view v w in
    let lists = lists_back (payload_of v) (lists_of v) (has_its_lists v h) in
    λ i. record {
      digest = b.is_digest i;
      count = b.is_count i;
      balance = b.is_balance i;
      totals = b.are_totals i;
      doors = doors i;
      tilts = tilts i;
      play = play i;
      orders = b.are_orders i;
      order = order i;
      handpay = handpay i;
      kept = b.are_kept i;
      plays = (lists i).plays;
      events = (lists i).events;
      bills = (lists i).bills;
      vouchers = (lists i).vouchers;
    }
