-- Rules of a view that one entry more keeps, further: the open order has its number and an amount within its limits.
use Rattle.std.specs.Prelude.{◌≡◌, ℕ, zero, suc, ◌+◌, ◌-◌, ◌*◌, ◌/◌, ◌≤◌, ◌==◌, Bool, true, false, cond, ◌&&◌, nat_le, nat_lt, List, Option, Some, None, refl}
use Rattle.std.proofs.Common.{ap, sym, ◌∙◌, arith}
use Rattle.std.proofs.lemmas.Bool.Decides.{nat_tests}
use Rattle.gd_base.specs.declared.event.Event.{Event}
use Rattle.gd_base.specs.declared.refusal.Refusal.{Refusal}
use Rattle.gd_base.specs.declared.refusal.Reply.{Reply}
use Rattle.gd_base.specs.declared.payout.Order.{Order}
use Rattle.gd_base.specs.declared.payout.OrderKind.{OrderKind}
use Rattle.gd_base.specs.declared.setup.Setup.{Setup}
use Rattle.gd_base.specs.Histories.Credit.{ByHopper, ByPrinter, ByHand, payment, one_for_order, orders_by, orders_after, order_by, less_coin, open_order_by, order_after}
use Rattle.gd_base.specs.Histories.Entry.{Entry}
use Rattle.gd_base.specs.Judging.Rule.{rule, refusals}
use Rattle.gd_base.specs.Payloads.ViewRules.{is_amount, is_small_order, has_number}
use Rattle.gd_base.specs.Histories.View.{View}
use Rattle.gd_base.specs.Histories.ViewOf.{with_entry}
use Rattle.gd_base.proofs.BooksLemmas.LegalBooks.{AreNone, told, not_refused, enough}
use Rattle.gd_base.proofs.BoolTests.{both}
use Rattle.gd_base.specs.Judging.Product.{both_hold}

abbrev pub IsOrder : ℕ → Option Order → Type 0
IsOrder n x = (is_small_order x ≡ true) × (has_number n x ≡ true)

-- an order of a cash-out
new_number : (n : ℕ) → (n + 1 == n + 1) && nat_le 1 (n + 1) ≡ true
new_number n = both_hold (n + 1 == n + 1) (nat_le 1 (n + 1)) (grind (arith, nat_tests)) (grind (arith, nat_tests))

cash_order : (by_hopper by_printer : Bool) (n a b : ℕ) → (by_hopper ≡ true → 1 ≤ a) → 1 ≤ b → (by_printer ≡ true → b ≤ 100000000)
    → (let p = cond by_hopper (ByHopper a) (cond by_printer (ByPrinter b) (ByHand b)) in IsOrder (n + one_for_order p) (order_by (n + 1) p))
cash_order true by_printer n a b some more limit = (let le = some refl in grind (arith, nat_tests, le), new_number n)
cash_order false true n a b some more limit =
    (both_hold (nat_le 1 b) (nat_le b 100000000) (grind (arith, nat_tests, more)) (let le = limit refl in grind (arith, nat_tests, le)), new_number n)
cash_order false false n a b some more limit = (refl, refl)

some_coins : (q coin : ℕ) → 1 ≤ q → 1 ≤ coin → 1 ≤ q * coin
some_coins zero coin p c = absurd (omega (arith, p))
some_coins (suc k) coin p c = let e : suc k * coin ≡ k * coin + coin = grind arith in omega (arith, e, c)

paid_order : (setup : Setup) (balance n : ℕ) → 1 ≤ balance → IsOrder (n + one_for_order (payment setup balance)) (order_by (n + 1) (payment setup balance))
paid_order setup balance n some =
    let coin : 1 ≤ setup.coin = grind (arith, nat_tests, setup.has_coin) in
    cash_order (setup.hopper && nat_le setup.coin balance && nat_lt balance setup.hopper_limit) (nat_le balance setup.voucher_limit) n (balance / setup.coin * setup.coin) balance
    (λ h. some_coins (balance / setup.coin) setup.coin (enough setup balance h) coin) some (λ h. grind (arith, nat_tests, h, setup.has_payout))

-- an order with a coin less
less_amount : (kind : OrderKind) (amount coin : ℕ) → (amount - coin == 0) ≡ false → is_amount kind amount ≡ true → is_amount kind (amount - coin) ≡ true
less_amount OrderKind.Printer amount coin left h =
    let most : nat_le (amount - coin) 100000000 ≡ true = (let t = (both (nat_le 1 amount) (nat_le amount 100000000) h).1 in grind (arith, nat_tests, t)) in
    both_hold (nat_le 1 (amount - coin)) (nat_le (amount - coin) 100000000) (grind (arith, nat_tests, left)) most
less_amount OrderKind.Hopper amount coin left h = grind (arith, nat_tests, left)

less_if : (is_none : Bool) (n coin : ℕ) (o : Order) → ((o.amount - coin == 0) ≡ is_none) → is_amount o.kind o.amount ≡ true → has_number n (Some o) ≡ true
    → IsOrder n (cond is_none None (Some (record o { amount = o.amount - coin })))
less_if true n coin o left h k = (refl, refl)
less_if false n coin o left h k = (less_amount o.kind o.amount coin left h, k)

less_order : (coin n : ℕ) (x : Option Order) → IsOrder n x → IsOrder n (less_coin coin x)
less_order coin n None is = (refl, refl)
less_order coin n (Some o) is = less_if (o.amount - coin == 0) n coin o refl is.0 is.1

-- ================ one entry more

same_number : (n : ℕ) (x : Option Order) → IsOrder n x → IsOrder (n + 0) x
same_number n x is = (is.0, ap (λ (m : ℕ). has_number m x) (let e : n + 0 ≡ n = omega arith in e) ∙ is.1)

has_balance : (n : ℕ) → (n == 0) ≡ false → 1 ≤ n
has_balance n h = grind (arith, nat_tests, h)

taken_order : (setup : Setup) (v : View) (event : Event) → rule setup v event ≡ Reply.Taken → IsOrder v.orders v.order
    → IsOrder (v.orders + orders_by setup v.balance event) (open_order_by setup v.balance v.orders v.order event)
taken_order setup v Event.CashOut h is =
    let r : AreNone (refusals setup v Event.CashOut) = told setup v Event.CashOut h in
    paid_order setup v.balance v.orders (has_balance v.balance (not_refused (v.balance == 0) Refusal.NothingToPay r.1.1.1.0))
taken_order setup v (Event.CoinPaid order) h is = same_number v.orders (less_coin setup.coin v.order) (less_order setup.coin v.orders v.order is)
taken_order setup v (Event.Printed order) h is = (refl, refl)
taken_order setup v (Event.PrintFail order) h is = (refl, refl)
taken_order setup v (Event.HopperEmpty order) h is = (refl, refl)
taken_order setup v _ h is = same_number v.orders v.order is

order_if : (setup : Setup) (v : View) (number : ℕ) (event : Event) (draw : Option (ℕ × List ℕ)) (reply : Reply) → reply ≡ rule setup v event → IsOrder v.orders v.order
    → (let e : Entry = record { number = number; event = event; draw = draw; reply = reply } in
    IsOrder (orders_after setup e v.balance v.orders) (order_after setup e v.balance v.orders v.order))
order_if setup v number event draw Reply.Taken h is = taken_order setup v event (sym h) is
order_if setup v number event draw (Reply.Refused why) h is = is

pub order_kept : (setup : Setup) (v : View) (e : Entry) → e.reply ≡ rule setup v e.event → IsOrder v.orders v.order → IsOrder (with_entry setup v e).orders (with_entry setup v e).order
order_kept setup v e h is = order_if setup v e.number e.event e.draw e.reply h is
