-- Rules of a view that one entry more keeps, further: what there is and went out is what came in and was won.
use Rattle.std.specs.Prelude.{◌≡◌, ℕ, zero, suc, ◌+◌, ◌*◌, ◌/◌, ◌%◌, ◌≤◌, true, nat_le, List, [], ◌∷◌, Option, Some, None, refl}
use Rattle.std.proofs.Common.{ap, arith, sym, subst, ◌∙◌}
use Rattle.std.proofs.lemmas.Bool.Decides.{nat_tests}
use Rattle.std.proofs.Math.Nat.{div-add-mod, mul-mod_left}
use Rattle.gd_base.specs.declared.payout.Handpay.{Handpay}
use Rattle.gd_base.specs.declared.payout.Order.{Order}
use Rattle.gd_base.specs.declared.payout.OrderKind.{OrderKind}
use Rattle.gd_base.specs.declared.setup.Setup.{Setup}
use Rattle.gd_base.specs.Laws.Books.{Balances, KeepsBooks, KeepsBooksOver}
use Rattle.gd_base.specs.Histories.Credit.{order_amount}
use Rattle.gd_base.specs.Histories.Entry.{Entry}
use Rattle.gd_base.specs.Judging.Legal.{IsLegal}
use Rattle.gd_base.specs.Judging.Rule.{rule}
use Rattle.gd_base.specs.Judging.Machine.{Blocks}
use Rattle.gd_base.specs.Histories.Meters.{handpay_amount}
use Rattle.gd_base.specs.Histories.Credit.{order_amount}
use Rattle.gd_base.specs.Payloads.ViewRules.{is_possible, is_possible_under, is_coins, is_whole_coins, is_amount, is_small_order, income, outgo}
use Rattle.gd_base.specs.Histories.Meters.{handpay_amount}
use Rattle.gd_base.specs.Payloads.Spelled.{Spelled}
use Rattle.gd_base.specs.Judging.Product.{machine}
use Rattle.gd_base.specs.Histories.View.{View}
use Rattle.gd_base.specs.Histories.ViewOf.{with_entry, view_after, from_view}
use Rattle.gd_base.proofs.BooksLemmas.LegalBooks.{AreCoins, IsWhole, Balances-legal, Balances-more, coins_more}
use Rattle.gd_base.proofs.PayloadLemmas.Itself.{possible-itself}
use Rattle.gd_base.proofs.BoolTests.{is_equal, is_so}
use Rattle.gd_base.proofs.ViewFacts.{rules_of, fitting_of}
use Rattle.gd_base.proofs.HistoryLemmas.ViewOver.{view_over-is}

-- an order to the hopper that keeps the rules is a number of coins, at least one
from_quotient : (q coin amount rest : ℕ) → coin * q + rest ≡ amount → rest ≡ 0 → 1 ≤ amount → IsWhole coin OrderKind.Hopper amount
from_quotient zero coin amount rest e none some = absurd (grind (arith, e, none, some))
from_quotient (suc k) coin amount rest e none some = (k, grind (arith, e, none))

at_least : (n : ℕ) → nat_le 1 n ≡ true → 1 ≤ n
at_least n h = grind (arith, nat_tests, h)

whole_of : (setup : Setup) (kind : OrderKind) (amount : ℕ) → is_whole_coins setup kind amount ≡ true → is_amount kind amount ≡ true → IsWhole setup.coin kind amount
whole_of setup OrderKind.Printer amount h k = tt
whole_of setup OrderKind.Hopper amount h k =
    from_quotient (amount / setup.coin) setup.coin amount (amount % setup.coin) (div-add-mod amount setup.coin) (is_so (amount % setup.coin) 0 h) (at_least amount k)

coins_of : (setup : Setup) (x : Option Order) → is_coins setup x ≡ true → is_small_order x ≡ true → AreCoins setup.coin x
coins_of setup None h k = tt
coins_of setup (Some o) h k = whole_of setup o.kind o.amount h k

left_is : (x : Option Order) → order_amount x ≡ order_amount x
left_is None = refl
left_is (Some o) = refl

held_is : (x : Option Handpay) → handpay_amount x ≡ handpay_amount x
held_is None = refl
held_is (Some h) = refl

-- over a view that keeps the rules of a view
first_balances : (setup : Setup) (v : View) → is_possible v ≡ true → Balances (from_view setup v) []
first_balances setup v h = let same = (rules_of v h).books in omega (arith, same, left_is v.order, held_is v.handpay)

first_coins : (setup : Setup) (v : View) → is_possible v ≡ true → is_possible_under setup v ≡ true → AreCoins setup.coin v.order
first_coins setup v h k = coins_of setup v.order (fitting_of setup v k).coins (rules_of v h).small_order

balances_over : (setup : Setup) (digest : List ℕ) (spelled : List ℕ → Spelled View) (blocks : Blocks) (lap : ℕ) (v : View) (past : List Entry) → is_possible v ≡ true → is_possible_under setup v ≡ true
    → IsLegal (machine setup digest spelled) blocks lap v past → Balances (from_view setup v) past
balances_over setup digest spelled blocks lap v past h k legal =
    Balances-legal (from_view setup v) digest spelled blocks lap past (possible-itself setup v h k) (first_coins setup v h k) (first_balances setup v h) legal

balanced_view : (setup : Setup) (v : View) (past : List Entry) → Balances (from_view setup v) past → outgo (view_after (from_view setup v) past) ≡ income (view_after (from_view setup v) past)
balanced_view setup v past after =
    let w = view_after (from_view setup v) past in
    omega (arith, after, left_is w.order, held_is w.handpay)

pub books_kept : (setup : Setup) (v : View) (e : Entry) → is_possible v ≡ true → is_possible_under setup v ≡ true → e.reply ≡ rule setup v e.event
    → outgo (with_entry setup v e) ≡ income (with_entry setup v e)
books_kept setup v e h k judged =
    let same = ap (λ (w : View). rule setup w e.event) (sym (possible-itself setup v h k)) in
    balanced_view setup v (e ∷ []) (Balances-more (from_view setup v) [] e.number e.event e.draw e.reply (first_coins setup v h k) (judged ∙ same) (first_balances setup v h))

-- ================ the open order

whole_coins : (coin k : ℕ) → (k * coin + coin) % coin ≡ 0
whole_coins coin k = let e : k * coin + coin ≡ (k + 1) * coin = grind arith in ap (λ (n : ℕ). n % coin) e ∙ mul-mod_left (k + 1) coin

is_whole : (setup : Setup) (kind : OrderKind) (amount : ℕ) → IsWhole setup.coin kind amount → is_whole_coins setup kind amount ≡ true
is_whole setup OrderKind.Printer amount whole = refl
is_whole setup OrderKind.Hopper amount whole = is_equal (amount % setup.coin) 0 (ap (λ (n : ℕ). n % setup.coin) whole.1 ∙ whole_coins setup.coin whole.0)

are_coins : (setup : Setup) (x : Option Order) → AreCoins setup.coin x → is_coins setup x ≡ true
are_coins setup None coins = refl
are_coins setup (Some o) coins = is_whole setup o.kind o.amount coins

pub coins_kept : (setup : Setup) (v : View) (e : Entry) → is_possible v ≡ true → is_possible_under setup v ≡ true → is_coins setup (with_entry setup v e).order ≡ true
coins_kept setup v e h k = are_coins setup (with_entry setup v e).order (coins_more (from_view setup v) [] e.number e.event e.draw e.reply (first_coins setup v h k))

-- ================ the laws

pub keeps_books : KeepsBooks
keeps_books setup digest spelled blocks lap opening past itself small coins first legal =
    Balances-legal (from_view setup opening) digest spelled blocks lap past itself (coins_of setup opening.order coins small) first legal

pub keeps_books_over : KeepsBooksOver
keeps_books_over setup digest spelled blocks lap opening past h k legal =
    subst (λ (w : View). outgo w ≡ income w) (sym (view_over-is setup digest spelled opening past (possible-itself setup opening h k)))
    (balanced_view setup opening past (balances_over setup digest spelled blocks lap opening past h k legal))
