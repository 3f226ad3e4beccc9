-- The books: nothing is lost or made.
use Rattle.std.specs.Prelude.{◌≡◌, ℕ, ◌+◌, IsTrue, List, []}
use Rattle.gd_base.specs.declared.meter.Meter.{Meter}
use Rattle.gd_base.specs.declared.setup.Setup.{Setup}
use Rattle.gd_base.specs.Histories.Credit.{balance, ordered_amount}
use Rattle.gd_base.specs.Histories.Entry.{Entry}
use Rattle.gd_base.specs.Histories.History.{Origin}
use Rattle.gd_base.specs.Judging.Legal.{IsLegal, view_over}
use Rattle.gd_base.specs.Judging.Machine.{Blocks}
use Rattle.gd_base.specs.Histories.Meters.{held_amount, meter}
use Rattle.gd_base.specs.Payloads.Spelled.{Spelled}
use Rattle.gd_base.specs.Payloads.ViewRules.{is_possible, is_possible_under, is_coins, is_small_order, income, outgo}
use Rattle.gd_base.specs.Judging.Product.{machine}
use Rattle.gd_base.specs.Histories.View.{View}
use Rattle.gd_base.specs.Histories.ViewOf.{from_view, IsItself}

-- what there is, was wagered and was paid out is what came in and was won, by whole totals
abbrev pub Balances : Origin → List Entry → Type 0
Balances o past =
    balance o past + ordered_amount o past + held_amount o past + meter o Meter.Wagered past + meter o Meter.VoucherOut past + meter o Meter.CoinOut past
    + meter o Meter.HandWin past + meter o Meter.HandCancel past
    ≡ meter o Meter.BillIn past + meter o Meter.CoinIn past + meter o Meter.VoucherIn past + meter o Meter.Won past

-- a legal history balances over each view that does, where an open order to the hopper is some whole coins
abbrev pub KeepsBooks : Type 0
KeepsBooks =
    (setup : Setup) (digest : List ℕ) (spelled : List ℕ → Spelled View) (blocks : Blocks) (lap : ℕ) (opening : View) (past : List Entry)
    → IsItself setup opening → IsTrue (is_small_order opening.order) → IsTrue (is_coins setup opening.order)
    → Balances (from_view setup opening) [] → IsLegal (machine setup digest spelled) blocks lap opening past
    → Balances (from_view setup opening) past

-- so the view of a legal history over a view that keeps the rules of a view is balanced
abbrev pub KeepsBooksOver : Type 0
KeepsBooksOver =
    (setup : Setup) (digest : List ℕ) (spelled : List ℕ → Spelled View) (blocks : Blocks) (lap : ℕ) (opening : View) (past : List Entry)
    → IsTrue (is_possible opening) → IsTrue (is_possible_under setup opening) → IsLegal (machine setup digest spelled) blocks lap opening past
    → outgo (view_over (machine setup digest spelled) opening past) ≡ income (view_over (machine setup digest spelled) opening past)
