-- What is to be paid out: orders and handpays, which are three fields of a view.
use Rattle.std.specs.Prelude.{ℕ, ◌+◌, ◌==◌, true, is_some, [], ◌∷◌, Option, Some, None}
use Rattle.gd_base.specs.declared.payout.Handpay.{Handpay}
use Rattle.gd_base.specs.declared.payout.Order.{Order}
use Rattle.gd_base.specs.declared.payout.OrderKind.{OrderKind}
use Rattle.gd_base.specs.declared.refusal.Refusal.{Refusal}
use Rattle.gd_base.specs.declared.setup.Setup.{Setup}
use Rattle.gd_base.specs.Histories.Credit.{payment, one_for_order, order_by, less_coin}
use Rattle.gd_base.specs.Histories.History.{or_else}
use Rattle.gd_base.specs.Histories.Meters.{handpay_of_payment}
use Rattle.gd_base.specs.Judging.Rule.{refuse_if, unless, is_order}
use Rattle.gd_account.specs.Judging.{first_refusal}

pub record Payouts : Type 0 where
  pub orders : ℕ  -- so far; the latest has this number
  pub order : Option Order  -- the open one, with what remains
  pub handpay : Option Handpay  -- the open one

-- after a cash-out of a balance: by the hopper or the printer it opens the next order, and by hand a handpay
abbrev pub with_cash_out : Setup → ℕ → Payouts → Payouts
with_cash_out setup balance p = record {
  orders = p.orders + one_for_order (payment setup balance);
  order = order_by (p.orders + 1) (payment setup balance);
  handpay = or_else (handpay_of_payment (payment setup balance)) p.handpay;
}

-- after the open order was closed
abbrev pub without_order : Payouts → Payouts
without_order p = record p { order = None }

-- after a coin of the open order was paid, which closes it where nothing remains
abbrev pub with_coin_paid : ℕ → Payouts → Payouts
with_coin_paid coin p = record p { order = less_coin coin p.order }

-- with a handpay over a win
abbrev pub with_held_win : ℕ → Payouts → Payouts
with_held_win cents p = record p { handpay = Some (record { win = true; amount = cents }) }

-- after the open handpay was closed
abbrev pub without_handpay : Payouts → Payouts
without_handpay p = record p { handpay = None }

-- a cash-out is refused while an order is open, and then where there is nothing to pay
abbrev pub cash_refusal : Option Order → ℕ → Option Refusal
cash_refusal order balance =
    first_refusal (refuse_if (is_some order) Refusal.OrderOpen ∷ refuse_if (balance == 0) Refusal.NothingToPay ∷ [])

-- what a device tells of an order is refused unless the open order has this number and this kind
abbrev pub order_refusal : OrderKind → ℕ → Option Order → Option Refusal
order_refusal kind number order = unless (is_order kind number order) Refusal.NoSuchOrder

-- a confirmed handpay is refused unless one is open
abbrev pub handpay_refusal : Option Handpay → Option Refusal
handpay_refusal handpay = unless (is_some handpay) Refusal.NoHandpay
