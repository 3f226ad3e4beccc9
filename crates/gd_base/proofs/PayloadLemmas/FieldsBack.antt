-- Flags, a handpay and an order are read from their numbers.
use Rattle.std.proofs.Common.{◌≡◌, ◌∙◌, ap, sym, refl, ℕ, ◌+◌, ◌*◌, ◌/◌, ◌%◌, ◌<◌, ◌^◌, ◌==◌, List, [], ◌∷◌, Bool, true, false, if◌then◌else◌, length, arith, Option, Some, None}
use Rattle.gd_base.specs.declared.payout.Handpay.{Handpay}
use Rattle.gd_base.specs.declared.payout.Order.{Order}
use Rattle.gd_base.specs.declared.payout.OrderKind.{OrderKind}
use Rattle.gd_base.specs.Histories.Credit.{order_amount}
use Rattle.gd_base.specs.Histories.Numbers.{kind_number}
use Rattle.gd_base.specs.Payloads.Bytes.{eight, flags, handpay_bytes, kind_code}
use Rattle.gd_base.specs.Payloads.Reading.{flags_of, order_of}
use Rattle.gd_base.proofs.BoolTests.{is_equal}
use Rattle.gd_base.proofs.PayloadLemmas.Records.{IsAmount, IsNumbered}

-- ================ flags

bit_back : (b : Bool) (m : ℕ) → (((if b then 1 else 0) + 2 * m) % 2 == 1) ≡ b
bit_back true m = let one : (1 + 2 * m) % 2 ≡ 1 = omega arith in is_equal ((1 + 2 * m) % 2) 1 one
bit_back false m = let none : (0 + 2 * m) % 2 ≡ 0 = omega arith in ap (λ (n : ℕ). n == 1) none

half_back : (b : Bool) (m : ℕ) → ((if b then 1 else 0) + 2 * m) / 2 ≡ m
half_back true m = omega arith
half_back false m = omega arith

pub flags_back : (bs : List Bool) → flags_of (length bs) (flags bs) ≡ bs
flags_back [] = refl
flags_back (b ∷ bs) =
    let bit = bit_back b (flags bs) in
    let others = ap (flags_of (length bs)) (half_back b (flags bs)) ∙ flags_back bs in
    λ i. bit i ∷ others i

-- ================ the handpay

-- its two numbers, 0 where there is none
abbrev pub kind_in : Option Handpay → ℕ
kind_in None = 0
kind_in (Some h) = if h.win then 1 else 2

abbrev pub amount_in : Option Handpay → ℕ
amount_in None = 0
amount_in (Some h) = h.amount

-- and the handpay of these
abbrev pub handpay_by : ℕ → ℕ → Option Handpay
handpay_by kind amount = if kind == 0 then None else Some (record { win = kind == 1; amount = amount })

pub handpay_row : (h : Option Handpay) → handpay_bytes h ≡ kind_in h ∷ 0 ∷ eight (amount_in h)
handpay_row None = refl
handpay_row (Some h) = refl

handpay_of : (win : Bool) (amount : ℕ) → handpay_by (if win then 1 else 2) amount ≡ Some (record { win = win; amount = amount })
handpay_of true amount = refl
handpay_of false amount = refl

pub handpay_back : (h : Option Handpay) → handpay_by (kind_in h) (amount_in h) ≡ h
handpay_back None = refl
handpay_back (Some h) = handpay_of h.win h.amount

pub short_amount : (h : Option Handpay) → IsAmount h → amount_in h < 2 ^ 64
short_amount None short = omega arith
short_amount (Some h) short = short

-- ================ the order

order_by : (kind : OrderKind) (number orders amount : ℕ) → number ≡ orders → order_of (kind_number kind) orders amount ≡ Some (record { number = number; kind = kind; amount = amount })
order_by OrderKind.Printer number orders amount is = λ i. Some (record { number = sym is i; kind = OrderKind.Printer; amount = amount })
order_by OrderKind.Hopper number orders amount is = λ i. Some (record { number = sym is i; kind = OrderKind.Hopper; amount = amount })

pub order_back : (orders : ℕ) (o : Option Order) → IsNumbered orders o → order_of (kind_code o) orders (order_amount o) ≡ o
order_back orders None is = refl
order_back orders (Some o) is = order_by o.kind o.number orders o.amount is
