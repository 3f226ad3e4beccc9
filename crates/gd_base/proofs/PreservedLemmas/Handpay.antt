-- Rules of a view that one entry more keeps, further: an open handpay has an amount.
use Rattle.std.specs.Prelude.{◌≡◌, ℕ, ◌*◌, ◌/◌, ◌≤◌, ◌==◌, Bool, true, false, cond, ◌&&◌, nat_le, nat_lt, [], Option, Some, None, refl}
use Rattle.std.proofs.Common.{sym, arith}
use Rattle.std.proofs.lemmas.Bool.Decides.{nat_tests}
use Rattle.gd_base.specs.declared.event.Event.{Event}
use Rattle.gd_base.specs.declared.refusal.Refusal.{Refusal}
use Rattle.gd_base.specs.declared.refusal.Reply.{Reply}
use Rattle.gd_base.specs.declared.payout.Handpay.{Handpay}
use Rattle.gd_base.specs.declared.setup.Setup.{Setup}
use Rattle.gd_base.specs.Histories.Credit.{ByHopper, ByPrinter, ByHand}
use Rattle.gd_base.specs.Histories.Entry.{Entry, is_taken}
use Rattle.gd_base.specs.Histories.History.{or_else}
use Rattle.gd_base.specs.Histories.Meters.{handpay_of_payment, says_handpay}
use Rattle.gd_base.specs.Histories.Rounds.{posted_win}
use Rattle.gd_base.specs.Judging.Rule.{rule, refusals}
use Rattle.gd_base.specs.Payloads.ViewRules.{is_some_handpay}
use Rattle.gd_base.specs.Histories.View.{View}
use Rattle.gd_base.specs.Histories.ViewOf.{with_entry, from_view}
use Rattle.gd_base.proofs.BooksLemmas.LegalBooks.{AreNone, told, not_refused}

abbrev IsHeld : Option Handpay → Type 0
IsHeld h = is_some_handpay h ≡ true

won : (is_small : Bool) (win : ℕ) (h : Option Handpay) → (is_small ≡ false → 1 ≤ win) → IsHeld h
    → IsHeld (or_else (cond is_small None (Some (Some (record { win = true; amount = win })))) h)
won true win h some is = is
won false win h some is = let le = some refl in grind (arith, nat_tests, le)

cashed : (by_hopper by_printer : Bool) (a b : ℕ) (h : Option Handpay) → 1 ≤ b → IsHeld h
    → IsHeld (or_else (handpay_of_payment (cond by_hopper (ByHopper a) (cond by_printer (ByPrinter b) (ByHand b)))) h)
cashed true by_printer a b h some is = is
cashed false true a b h some is = is
cashed false false a b h some is = grind (arith, nat_tests, some)

some_win : (setup : Setup) (win : ℕ) → nat_lt win setup.handpay_limit ≡ false → 1 ≤ win
some_win setup win h = grind (arith, nat_tests, h, setup.has_handpay_limit)

some_balance : (n : ℕ) → (n == 0) ≡ false → 1 ≤ n
some_balance n h = grind (arith, nat_tests, h)

taken_handpay : (setup : Setup) (v : View) (win : ℕ) (event : Event) → rule setup v event ≡ Reply.Taken → IsHeld v.handpay → IsHeld (or_else (says_handpay setup v.balance win event) v.handpay)
taken_handpay setup v win Event.CashOut h is =
    let r : AreNone (refusals setup v Event.CashOut) = told setup v Event.CashOut h in
    cashed (setup.hopper && nat_le setup.coin v.balance && nat_lt v.balance setup.hopper_limit) (nat_le v.balance setup.voucher_limit) (v.balance / setup.coin * setup.coin) v.balance v.handpay
    (some_balance v.balance (not_refused (v.balance == 0) Refusal.NothingToPay r.1.1.1.0)) is
taken_handpay setup v win Event.HandpayDone h is = refl
taken_handpay setup v win _ h is = won (nat_lt win setup.handpay_limit) win v.handpay (λ small. some_win setup win small) is

handpay_if : (setup : Setup) (v : View) (win : ℕ) (event : Event) (reply : Reply) → reply ≡ rule setup v event → IsHeld v.handpay
    → IsHeld (or_else (cond (is_taken reply) (says_handpay setup v.balance win event) None) v.handpay)
handpay_if setup v win event Reply.Taken h is = taken_handpay setup v win event (sym h) is
handpay_if setup v win event (Reply.Refused why) h is = is

pub handpay_kept : (setup : Setup) (v : View) (e : Entry) → e.reply ≡ rule setup v e.event → is_some_handpay v.handpay ≡ true → is_some_handpay (with_entry setup v e).handpay ≡ true
handpay_kept setup v e h is = handpay_if setup v (posted_win (from_view setup v) e []) e.event e.reply h is
