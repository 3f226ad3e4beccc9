-- The amount of an order to the printer is small.
use Rattle.std.proofs.Common.{◌≡◌, refl, ℕ, ◌≤◌, ◌==◌, nat_le, Bool, true, false, Option, Some, None, Ok}
use Rattle.gd_account.specs.Judging.{outcome}
use Rattle.gd_base.specs.declared.payout.Order.{Order}
use Rattle.gd_base.specs.declared.payout.OrderKind.{OrderKind}
use Rattle.gd_base.specs.declared.refusal.Refusal.{Refusal}
use Rattle.gd_base.specs.Histories.Credit.{order_amount}
use Rattle.gd_base.specs.Judging.Rule.{is_kind, is_order, unless}
use Rattle.gd_base.specs.Payloads.ViewRules.{is_amount, is_small_order}
use Rattle.gd_base.proofs.BoolTests.{at_most, both}

passed : (b : Bool) (why : Refusal) → outcome (unless b why) ≡ Ok tt → b ≡ true
passed true why h = refl
passed false why h = absurd (cc h)

small : (kind : OrderKind) (amount : ℕ) → is_kind kind OrderKind.Printer ≡ true → is_amount kind amount ≡ true → amount ≤ 100000000
small OrderKind.Printer amount k h = at_most amount 100000000 (both (nat_le 1 amount) (nat_le amount 100000000) h).1
small OrderKind.Hopper amount k h = absurd (cc k)

pub printed_small : (number : ℕ) (order : Option Order) (why : Refusal) → outcome (unless (is_order OrderKind.Printer number order) why) ≡ Ok tt → is_small_order order ≡ true
    → order_amount order ≤ 100000000
printed_small number None why h k = absurd (cc (passed false why h))
printed_small number (Some o) why h k =
    small o.kind o.amount (both (o.number == number) (is_kind o.kind OrderKind.Printer) (passed (is_order OrderKind.Printer number (Some o)) why h)).1 k
