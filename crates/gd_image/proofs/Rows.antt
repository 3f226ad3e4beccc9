-- The bytes of the head, as they are written one piece behind the other, and where they stand in a payload.
use Rattle.std.proofs.Common.{◌≡◌, ◌∙◌, ap, refl, ℕ, ◌+◌, ◌*◌, ◌≤◌, List, [], ◌∷◌, ◌++◌, length, drop, append-nil, arith, append_assoc, length-append, Option, Some, None}
use Rattle.std.specs.List.{flat_map}
use Rattle.gd_base.specs.declared.layout.TheConstants.{BALANCE_AT, COUNT_AT, DOORS_AT, HANDPAY_AT, KEPT_AT, KEPT_LEN, LISTS_AT, ORDER_AT, TOTALS_AT}
use Rattle.gd_base.specs.declared.payout.Handpay.{Handpay}
use Rattle.gd_base.specs.declared.refusal.Reply.{Reply}
use Rattle.gd_base.specs.Histories.View.{View}
use Rattle.gd_base.specs.Payloads.Bytes.{eight, flags, handpay_bytes, order_bytes, kept_bytes}
use Rattle.gd_base.proofs.PayloadLemmas.Lengths.{eight_long, row_length}
use Rattle.gd_recall.proofs.PutPieces.{put_behind}
use Rattle.gd_recall.specs.Pieces.{put_at}
use Rattle.gd_image.specs.Outside.{fields_bytes}

pub kept_long : (k : ℕ × Option Reply) → length (kept_bytes k) ≡ KEPT_LEN
kept_long k = refl

handpay_long : (h : Option Handpay) → length (handpay_bytes h) ≡ 10
handpay_long None = refl
handpay_long (Some h) = refl

-- ================ the fields of the head

module _ (v : View) (is_digest : length v.digest ≡ 32) (are_totals : length v.totals ≡ 16) (are_kept : length v.kept ≡ 9) where
  abbrev a : List ℕ
  a = v.digest ++ eight v.count

  abbrev b : List ℕ
  b = a ++ eight v.balance

  abbrev c : List ℕ
  c = b ++ flat_map eight v.totals

  abbrev d : List ℕ
  d = c ++ flags v.doors ∷ flags v.tilts ∷ handpay_bytes v.handpay

  abbrev e : List ℕ
  e = d ++ order_bytes v.orders v.order

  totals_long : length (flat_map eight v.totals) ≡ 128
  totals_long = row_length eight 8 eight_long v.totals ∙ ap (λ (n : ℕ). 8 * n) are_totals

  all_kept_long : length (flat_map kept_bytes v.kept) ≡ 108
  all_kept_long = row_length kept_bytes KEPT_LEN kept_long v.kept ∙ ap (λ (n : ℕ). KEPT_LEN * n) are_kept

  a_long : length a ≡ BALANCE_AT
  a_long = omega (arith, is_digest, length-append v.digest (eight v.count))

  b_long : length b ≡ TOTALS_AT
  b_long = omega (arith, a_long, length-append a (eight v.balance))

  c_long : length c ≡ DOORS_AT
  c_long = omega (arith, b_long, totals_long, length-append b (flat_map eight v.totals))

  c_more : length (c ++ flags v.doors ∷ flags v.tilts ∷ []) ≡ HANDPAY_AT
  c_more = omega (arith, c_long, length-append c (flags v.doors ∷ flags v.tilts ∷ []))

  d_long : length d ≡ ORDER_AT
  d_long = omega (arith, c_long, handpay_long v.handpay, length-append c (flags v.doors ∷ flags v.tilts ∷ handpay_bytes v.handpay))

  e_long : length e ≡ KEPT_AT
  e_long = omega (arith, d_long, length-append d (order_bytes v.orders v.order))

  pub fields_long : length (fields_bytes v) ≡ LISTS_AT
  fields_long = omega (arith, e_long, all_kept_long, length-append e (flat_map kept_bytes v.kept))

  module _ (head : List ℕ) (long : length head ≡ LISTS_AT) where
    next : (place : ℕ) (xs ys bytes : List ℕ) → length xs ≡ place → place + length ys ≤ LISTS_AT → bytes ≡ put_at 0 xs head → put_at place ys bytes ≡ put_at 0 (xs ++ ys) head
    next place xs ys bytes is fits so =
        let at : place ≡ 0 + place = omega arith in
        (λ i. put_at (at i) ys (so i)) ∙ put_behind 0 place xs ys head is (omega (arith, fits, long))

    whole : (xs : List ℕ) → length xs ≡ LISTS_AT → put_at 0 xs head ≡ xs
    whole xs is =
        let none : drop (0 + length xs) head ≡ [] = ap (λ (k : ℕ). drop k head) (omega (arith, is, long)) ∙ nothing head in
        ap (λ (t : List ℕ). xs ++ t) none ∙ append-nil xs
      where
        nothing : (ys : List ℕ) → drop (length ys) ys ≡ []
        nothing [] = refl
        nothing (y ∷ ys) = nothing ys

    pub fields_written : put_at KEPT_AT (flat_map kept_bytes v.kept) (put_at ORDER_AT (order_bytes v.orders v.order) (put_at HANDPAY_AT (handpay_bytes v.handpay)
        (put_at DOORS_AT (flags v.doors ∷ flags v.tilts ∷ []) (put_at TOTALS_AT (flat_map eight v.totals) (put_at BALANCE_AT (eight v.balance)
        (put_at COUNT_AT (eight v.count) (put_at 0 v.digest head)))))))
        ≡ fields_bytes v
    fields_written =
        let s1 = next COUNT_AT v.digest (eight v.count) _ is_digest (omega arith) refl in
        let s2 = next BALANCE_AT a (eight v.balance) _ a_long (omega arith) s1 in
        let s3 = next TOTALS_AT b (flat_map eight v.totals) _ b_long (omega (arith, totals_long)) s2 in
        let s4 = next DOORS_AT c (flags v.doors ∷ flags v.tilts ∷ []) _ c_long (omega arith) s3 in
        let s5 = next HANDPAY_AT (c ++ flags v.doors ∷ flags v.tilts ∷ []) (handpay_bytes v.handpay) _ c_more (omega (arith, handpay_long v.handpay)) s4 in
        let both : put_at 0 ((c ++ flags v.doors ∷ flags v.tilts ∷ []) ++ handpay_bytes v.handpay) head ≡ put_at 0 d head =
        ap (λ (t : List ℕ). put_at 0 t head) (append_assoc c (flags v.doors ∷ flags v.tilts ∷ []) (handpay_bytes v.handpay)) in
        let s6 = next ORDER_AT d (order_bytes v.orders v.order) _ d_long (omega arith) (s5 ∙ both) in
        next KEPT_AT e (flat_map kept_bytes v.kept) _ e_long (omega (arith, all_kept_long)) s6 ∙ whole (fields_bytes v) fields_long

-- ================ a payload

pub five_grouped : (a n z o r : List ℕ) → a ++ (n ++ (z ++ (o ++ r))) ≡ (a ++ (n ++ (z ++ o))) ++ r
five_grouped a n z o r = simp append_assoc
