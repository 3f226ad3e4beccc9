-- For callers: a legal history keeps the sums.
use Rattle.std.specs.Prelude.{◌≡◌, ℕ, zero, suc, ◌+◌, ◌-◌, ◌*◌, ◌/◌, ◌≤◌, ◌<◌, ◌==◌, Bool, true, false, cond, ◌&&◌, nat_lt, nat_le, is_some, List, [], ◌∷◌, Option, Some, None, refl}
use Rattle.std.specs.List.{find}
use Rattle.std.proofs.Common.{ap, sym, ◌∙◌, arith}
use Rattle.std.proofs.lemmas.Bool.Decides.{nat_tests}
use Rattle.gd_base.specs.declared.condition.Condition.{Condition}
use Rattle.gd_base.specs.declared.event.Event.{Event}
use Rattle.gd_base.specs.declared.refusal.Refusal.{Refusal}
use Rattle.gd_base.specs.declared.refusal.Reply.{Reply}
use Rattle.gd_base.specs.declared.payout.Handpay.{Handpay}
use Rattle.gd_base.specs.declared.payout.Order.{Order}
use Rattle.gd_base.specs.declared.payout.OrderKind.{OrderKind}
use Rattle.gd_base.specs.declared.setup.Setup.{Setup}
use Rattle.gd_base.specs.Histories.Conditions.{lock, holds, conditions}
use Rattle.std.proofs.Math.Nat.{le-div_iff_mul-le}
use Rattle.gd_base.specs.Histories.Credit.{ByHopper, ByPrinter, ByHand, order_by, less_coin, open_order_by, orders, order_amount, wager, open_order, balance}
use Rattle.gd_base.specs.Histories.History.{Origin}
use Rattle.gd_base.specs.Histories.Entry.{Entry}
use Rattle.gd_base.specs.Judging.Legal.{IsLegal}
use Rattle.gd_base.specs.Judging.Machine.{Blocks}
use Rattle.gd_base.specs.Histories.Meters.{handpay_amount}
use Rattle.gd_base.specs.Judging.Rule.{rule, refusals, reply_by, while_locked, locked_up, refuse_if, unless, is_kind, is_order}
use Rattle.gd_base.specs.Payloads.Spelled.{Spelled}
use Rattle.gd_base.specs.Judging.Product.{machine}
use Rattle.gd_base.specs.Histories.View.{View}
use Rattle.gd_base.specs.Histories.ViewOf.{view_after, IsItself}
use Rattle.gd_base.specs.Laws.Books.{Balances}
use Rattle.gd_base.proofs.BooksLemmas.Books.{Fits, win_by, Balances-taken}
use Rattle.gd_base.proofs.HistoryLemmas.ViewOver.{view_over-is}

-- ================ what a taken event tells

-- no refusal holds
abbrev pub AreNone : List (Option Refusal) → Type 0
AreNone [] = Unit {0}
AreNone (r ∷ rs) = (r ≡ None) × AreNone rs

are_none : (rs : List (Option Refusal)) → reply_by rs ≡ Reply.Taken → AreNone rs
are_none [] h = tt
are_none (None ∷ rs) h = (refl, are_none rs h)
are_none (Some why ∷ rs) h = absurd (cc h)

pub not_refused : (b : Bool) (why : Refusal) → refuse_if b why ≡ None → b ≡ false
not_refused true why h = absurd (cc h)
not_refused false why h = refl

none_of : (x : Option Condition) → locked_up x ≡ None → x ≡ None
none_of None h = refl
none_of (Some c) h = absurd (cc h)

first_none : (b : Bool) (c : Condition) (x : Option Condition) → cond b (Some c) x ≡ None → (b ≡ false) × (x ≡ None)
first_none true c x h = absurd (cc h)
first_none false c x h = (refl, h)

abbrev AllFalse : (Condition → Bool) → List Condition → Type 0
AllFalse p [] = Unit {0}
AllFalse p (c ∷ cs) = (p c ≡ false) × AllFalse p cs

all_false : (p : Condition → Bool) (cs : List Condition) → find p cs ≡ None → AllFalse p cs
all_false p [] h = tt
all_false p (c ∷ cs) h =
    let both : (p c ≡ false) × (find p cs ≡ None) = first_none (p c) c (find p cs) h in
    (both.0, all_false p cs both.1)

none_held : (h : Option Handpay) → is_some h ≡ false → handpay_amount h ≡ 0
none_held None h = refl
none_held (Some p) h = absurd (cc h)

pub not_held : (v : View) → while_locked v ≡ None → is_some v.handpay ≡ false
not_held v h = (all_false (holds v) conditions (none_of (lock v) h)).1.1.1.1.1.1.1.1.1.1.0

held_none : (v : View) → while_locked v ≡ None → handpay_amount v.handpay ≡ 0
held_none v h = none_held v.handpay (not_held v h)

ordered_none : (order : Option Order) → is_some order ≡ false → order_amount order ≡ 0
ordered_none None h = refl
ordered_none (Some order) h = absurd (cc h)

covered : (x y : ℕ) → nat_lt x y ≡ false → y ≤ x
covered x y h = grind (arith, nat_tests, h)

not_small : (setup : Setup) → nat_lt 0 setup.handpay_limit ≡ false → ⊥
not_small setup h = grind (arith, nat_tests, h, setup.has_handpay_limit)

pub told : (setup : Setup) (v : View) (event : Event) → rule setup v event ≡ Reply.Taken → AreNone (refusals setup v event)
told setup v event h = are_none (refusals setup v event) h

-- ================ orders to the hopper

-- an open order to the hopper is a number of coins, at least one
abbrev pub IsWhole : ℕ → OrderKind → ℕ → Type 0
IsWhole coin OrderKind.Printer amount = Unit {0}
IsWhole coin OrderKind.Hopper amount = (k : ℕ) × (amount ≡ k * coin + coin)

abbrev pub AreCoins : ℕ → Option Order → Type 0
AreCoins coin None = Unit {0}
AreCoins coin (Some order) = IsWhole coin order.kind order.amount

coin_of_kind : (coin : ℕ) (kind : OrderKind) (amount : ℕ) (is_number : Bool) → IsWhole coin kind amount → is_number && is_kind kind OrderKind.Hopper ≡ true → coin ≤ amount
coin_of_kind coin OrderKind.Printer amount true whole h = absurd (cc h)
coin_of_kind coin OrderKind.Printer amount false whole h = absurd (cc h)
coin_of_kind coin OrderKind.Hopper amount is_number whole h = omega (arith, whole.1)

coin_left : (coin number : ℕ) (order : Option Order) → AreCoins coin order → is_order OrderKind.Hopper number order ≡ true → coin ≤ order_amount order
coin_left coin number None coins h = absurd (cc h)
coin_left coin number (Some order) coins h = coin_of_kind coin order.kind order.amount (order.number == number) coins h

pub is_so : (b : Bool) (why : Refusal) → unless b why ≡ None → b ≡ true
is_so true why h = refl
is_so false why h = absurd (cc h)

-- ================ a taken event fits

fits : (o : Origin) (number : ℕ) (event : Event) (draw : Option (ℕ × List ℕ)) (past : List Entry) → AreCoins o.setup.coin (open_order o past)
    → rule o.setup (view_after o past) event ≡ Reply.Taken
    → Fits o past (win_by o number event draw past) (nat_lt (win_by o number event draw past) o.setup.handpay_limit) event
fits o number (Event.Play game bet) draw past coins h =
    let r : AreNone (refusals o.setup (view_after o past) (Event.Play game bet)) = told o.setup (view_after o past) (Event.Play game bet) h in
    (covered (balance o past) (wager o.setup bet) (not_refused (nat_lt (balance o past) (wager o.setup bet)) Refusal.NoCredit r.1.1.1.1.1.0), λ _. held_none (view_after o past) r.0)
fits o number (Event.Pick door) draw past coins h = λ _. held_none (view_after o past) (told o.setup (view_after o past) (Event.Pick door) h).0
fits o number (Event.Hold mask) draw past coins h = λ _. held_none (view_after o past) (told o.setup (view_after o past) (Event.Hold mask) h).0
fits o number (Event.Gamble colour) draw past coins h = λ _. held_none (view_after o past) (told o.setup (view_after o past) (Event.Gamble colour) h).0
fits o number Event.Take draw past coins h = λ _. held_none (view_after o past) (told o.setup (view_after o past) Event.Take h).0
fits o number Event.CashOut draw past coins h =
    let r : AreNone (refusals o.setup (view_after o past) Event.CashOut) = told o.setup (view_after o past) Event.CashOut h in
    (ordered_none (open_order o past) (not_refused (is_some (open_order o past)) Refusal.OrderOpen r.1.0), held_none (view_after o past) r.0, refl)
fits o number Event.HandpayDone draw past coins h = refl
fits o number (Event.CoinPaid order) draw past coins h = (
  coin_left o.setup.coin order (open_order o past) coins
      (is_so (is_order OrderKind.Hopper order (open_order o past)) Refusal.NoSuchOrder (told o.setup (view_after o past) (Event.CoinPaid order) h).0),
  λ small. absurd (not_small o.setup small),
)
fits o number _ draw past coins h = λ small. absurd (not_small o.setup small)

-- ================ orders stay whole coins

whole_times : (q coin : ℕ) → 1 ≤ q → IsWhole coin OrderKind.Hopper (q * coin)
whole_times zero coin le = absurd (omega (arith, le))
whole_times (suc k) coin le = (k, grind arith)

ordered_coins : (coin number : ℕ) (is_coins is_small : Bool) (a b : ℕ) → (is_coins ≡ true → IsWhole coin OrderKind.Hopper a)
    → AreCoins coin (order_by number (cond is_coins (ByHopper a) (cond is_small (ByPrinter b) (ByHand b))))
ordered_coins coin number true is_small a b whole = whole refl
ordered_coins coin number false true a b whole = tt
ordered_coins coin number false false a b whole = tt

pub enough : (setup : Setup) (b : ℕ) → (setup.hopper && nat_le setup.coin b && nat_lt b setup.hopper_limit) ≡ true → 1 ≤ b / setup.coin
enough setup b h =
    let some : 0 < setup.coin = grind (arith, nat_tests, setup.has_coin) in
    let le : 1 * setup.coin ≤ b = grind (arith, nat_tests, h) in
    (le-div_iff_mul-le some).1 le

less_whole : (coin number : ℕ) (kind : OrderKind) (amount : ℕ) (is_none : Bool) → (is_none ≡ false → amount - coin ≡ 0 → ⊥) → IsWhole coin kind amount
    → AreCoins coin (cond is_none None (Some (record { number = number; kind = kind; amount = amount - coin })))
less_whole coin number kind amount true none whole = tt
less_whole coin number OrderKind.Printer amount false none whole = tt
less_whole coin number OrderKind.Hopper amount false none whole = left whole.0 whole.1 where
  left : (k : ℕ) → amount ≡ k * coin + coin → IsWhole coin OrderKind.Hopper (amount - coin)
  left zero e = absurd (none refl (omega (arith, e)))
  left (suc j) e = (j, grind (arith, e))

not_zero : (n : ℕ) → (n == 0) ≡ false → n ≡ 0 → ⊥
not_zero n h e = grind (arith, nat_tests, h, e)

less_coins : (coin : ℕ) (order : Option Order) → AreCoins coin order → AreCoins coin (less_coin coin order)
less_coins coin None coins = tt
less_coins coin (Some order) coins = less_whole coin order.number order.kind order.amount (order.amount - coin == 0) (not_zero (order.amount - coin)) coins

coins_by : (setup : Setup) (b n : ℕ) (order : Option Order) (event : Event) → AreCoins setup.coin order → AreCoins setup.coin (open_order_by setup b n order event)
coins_by setup b n order Event.CashOut coins =
    ordered_coins setup.coin (n + 1) (setup.hopper && nat_le setup.coin b && nat_lt b setup.hopper_limit) (nat_le b setup.voucher_limit) (b / setup.coin * setup.coin) b
    (λ h. whole_times (b / setup.coin) setup.coin (enough setup b h))
coins_by setup b n order (Event.CoinPaid number) coins = less_coins setup.coin order coins
coins_by setup b n order (Event.Printed number) coins = tt
coins_by setup b n order (Event.PrintFail number) coins = tt
coins_by setup b n order (Event.HopperEmpty number) coins = tt
coins_by setup b n order _ coins = coins

abbrev entry : ℕ → Event → Option (ℕ × List ℕ) → Reply → Entry
entry number event draw reply = record { number = number; event = event; draw = draw; reply = reply }

pub coins_more : (o : Origin) (past : List Entry) (number : ℕ) (event : Event) (draw : Option (ℕ × List ℕ)) (reply : Reply)
    → AreCoins o.setup.coin (open_order o past) → AreCoins o.setup.coin (open_order o (entry number event draw reply ∷ past))
coins_more o past number event draw Reply.Taken coins = coins_by o.setup (balance o past) (orders o past) (open_order o past) event coins
coins_more o past number event draw (Reply.Refused why) coins = coins

-- ================ a whole history

pub Balances-more : (o : Origin) (past : List Entry) (number : ℕ) (event : Event) (draw : Option (ℕ × List ℕ)) (reply : Reply)
    → AreCoins o.setup.coin (open_order o past) → reply ≡ rule o.setup (view_after o past) event
    → Balances o past → Balances o (entry number event draw reply ∷ past)
Balances-more o past number event draw Reply.Taken coins h before = Balances-taken o number event draw past (fits o number event draw past coins (sym h)) before
Balances-more o past number event draw (Reply.Refused why) coins h before = omega (arith, before)

legal_coins : (o : Origin) (past : List Entry) → AreCoins o.setup.coin o.opening.order → AreCoins o.setup.coin (open_order o past)
legal_coins o [] coins = coins
legal_coins o (e ∷ past) coins = coins_more o past e.number e.event e.draw e.reply (legal_coins o past coins)

-- In a legal history over a balanced view nothing is lost or made.
pub Balances-legal : (o : Origin) (digest : List ℕ) (spelled : List ℕ → Spelled View) (blocks : Blocks) (lap : ℕ) (past : List Entry) → IsItself o.setup o.opening → AreCoins o.setup.coin o.opening.order
    → Balances o [] → IsLegal (machine o.setup digest spelled) blocks lap o.opening past → Balances o past
Balances-legal o digest spelled blocks lap [] itself coins before legal = before
Balances-legal o digest spelled blocks lap (e ∷ past) itself coins before legal =
    Balances-more o past e.number e.event e.draw e.reply (legal_coins o past coins)
    (ap (λ x. x.reply) legal.0.made ∙ ap (λ v. rule o.setup v e.event) (view_over-is o.setup digest spelled o.opening past itself))
    (Balances-legal o digest spelled blocks lap past itself coins before legal.1)
