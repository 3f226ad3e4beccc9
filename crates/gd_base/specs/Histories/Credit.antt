-- The balance and the orders. A cash-out moves what the balance is before it, so they are defined together.
use Rattle.std.specs.Prelude.{ℕ, ◌+◌, ◌-◌, ◌*◌, ◌/◌, ◌&&◌, ◌==◌, nat_le, nat_lt, if◌then◌else◌, List, [], ◌∷◌, Option, Some, None}
use Rattle.gd_base.specs.declared.event.Event.{Event}
use Rattle.gd_base.specs.declared.payout.Order.{Order}
use Rattle.gd_base.specs.declared.payout.OrderKind.{OrderKind}
use Rattle.gd_base.specs.declared.setup.Setup.{Setup}
use Rattle.gd_base.specs.Histories.Entry.{Entry, is_taken}
use Rattle.gd_base.specs.Histories.History.{Origin}
use Rattle.gd_base.specs.Histories.Rounds.{posted_win}

-- how a cash-out pays
pub data Payment : Type 0 where
  ByHopper : (amount : ℕ) → Payment
  ByPrinter : (amount : ℕ) → Payment
  ByHand : (amount : ℕ) → Payment

-- whole coins by the hopper, else all by the printer, else all by hand
abbrev pub payment : Setup → ℕ → Payment
payment setup balance =
    if setup.hopper && nat_le setup.coin balance && nat_lt balance setup.hopper_limit then ByHopper (balance / setup.coin * setup.coin)
    else if nat_le balance setup.voucher_limit then ByPrinter balance
    else ByHand balance

abbrev pub amount_of : Payment → ℕ
amount_of (ByHopper amount) = amount
amount_of (ByPrinter amount) = amount
amount_of (ByHand amount) = amount

abbrev pub wager : Setup → ℕ → ℕ
wager setup bet = bet * setup.denom

-- a posted win below the handpay limit goes to the balance
abbrev pub credited_win : Setup → ℕ → ℕ
credited_win setup win = if nat_lt win setup.handpay_limit then win else 0

-- ================ what a taken event does, by what was before it

-- what it adds to the balance, and takes from it
abbrev pub credit_by : ℕ → Event → ℕ
credit_by ordered_amount (Event.Bill value) = value
credit_by ordered_amount (Event.Coin value) = value
credit_by ordered_amount (Event.VoucherIn id value) = value
credit_by ordered_amount (Event.PrintFail order) = ordered_amount
credit_by ordered_amount (Event.HopperEmpty order) = ordered_amount
credit_by ordered_amount _ = 0

abbrev pub debit_by : Setup → ℕ → Event → ℕ
debit_by setup balance (Event.Play game bet) = wager setup bet
debit_by setup balance Event.CashOut = amount_of (payment setup balance)
debit_by setup balance _ = 0

-- a payment by the hopper or the printer is an order
abbrev pub order_by : ℕ → Payment → Option Order
order_by number (ByHopper amount) = Some (record { number = number; kind = OrderKind.Hopper; amount = amount })
order_by number (ByPrinter amount) = Some (record { number = number; kind = OrderKind.Printer; amount = amount })
order_by number (ByHand amount) = None

abbrev pub one_for_order : Payment → ℕ
one_for_order (ByHopper amount) = 1
one_for_order (ByPrinter amount) = 1
one_for_order (ByHand amount) = 0

abbrev pub orders_by : Setup → ℕ → Event → ℕ
orders_by setup balance Event.CashOut = one_for_order (payment setup balance)
orders_by setup balance _ = 0

-- an order with a coin less: at 0 it is closed
abbrev pub less_coin : ℕ → Option Order → Option Order
less_coin coin None = None
less_coin coin (Some order) = if order.amount - coin == 0 then None else Some (record order { amount = order.amount - coin })

abbrev pub open_order_by : Setup → ℕ → ℕ → Option Order → Event → Option Order
open_order_by setup balance orders before Event.CashOut = order_by (orders + 1) (payment setup balance)
open_order_by setup balance orders before (Event.CoinPaid order) = less_coin setup.coin before
open_order_by setup balance orders before (Event.Printed order) = None
open_order_by setup balance orders before (Event.PrintFail order) = None
open_order_by setup balance orders before (Event.HopperEmpty order) = None
open_order_by setup balance orders before _ = before

-- what is ordered: the amount of the open order, with the coins that were paid taken off
abbrev pub order_amount : Option Order → ℕ
order_amount None = 0
order_amount (Some order) = order.amount

-- ================ after an entry

abbrev pub balance_after : Setup → Entry → ℕ → ℕ → Option Order → ℕ
balance_after setup e win balance order =
    if is_taken e.reply then balance + credit_by (order_amount order) e.event + credited_win setup win - debit_by setup balance e.event else balance

abbrev pub orders_after : Setup → Entry → ℕ → ℕ → ℕ
orders_after setup e balance orders = if is_taken e.reply then orders + orders_by setup balance e.event else orders

abbrev pub order_after : Setup → Entry → ℕ → ℕ → Option Order → Option Order
order_after setup e balance orders order = if is_taken e.reply then open_order_by setup balance orders order e.event else order

abbrev mutual
  pub balance : Origin → List Entry → ℕ
  balance o [] = o.opening.balance
  balance o (e ∷ past) = balance_after o.setup e (posted_win o e past) (balance o past) (open_order o past)

  -- how many orders so far; the latest has this number
  pub orders : Origin → List Entry → ℕ
  orders o [] = o.opening.orders
  orders o (e ∷ past) = orders_after o.setup e (balance o past) (orders o past)

  -- the latest order that nothing has closed
  pub open_order : Origin → List Entry → Option Order
  open_order o [] = o.opening.order
  open_order o (e ∷ past) = order_after o.setup e (balance o past) (orders o past) (open_order o past)

abbrev pub ordered_amount : Origin → List Entry → ℕ
ordered_amount o past = order_amount (open_order o past)
