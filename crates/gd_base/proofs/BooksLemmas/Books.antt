-- Nothing is lost or made: an entry keeps the sums of what came in and of what there is and went out.
use Rattle.std.specs.Prelude.{◌≡◌, ℕ, ◌+◌, ◌-◌, ◌*◌, ◌/◌, ◌≤◌, ◌==◌, Bool, true, false, cond, nat_lt, sum_by, List, [], ◌∷◌, Option, Some, None, refl}
use Rattle.std.proofs.Common.{sym, ◌∙◌, arith, add-zero, zero-add}
use Rattle.std.proofs.lemmas.Bool.Decides.{nat_tests}
use Rattle.std.proofs.Math.Nat.{div-mul-le_self}
use Rattle.std.proofs.lemmas.List.Sums.{sum_by-append}
use Rattle.gd_base.specs.declared.condition.Door.{Door}
use Rattle.gd_base.specs.declared.event.Event.{Event}
use Rattle.gd_base.specs.declared.meter.Meter.{Meter}
use Rattle.gd_base.specs.declared.refusal.Reply.{Reply}
use Rattle.gd_base.specs.Histories.Rounds.{posted_win}
use Rattle.gd_base.specs.declared.payout.Handpay.{Handpay}
use Rattle.gd_base.specs.declared.payout.Order.{Order}
use Rattle.gd_base.specs.declared.setup.Setup.{Setup}
use Rattle.gd_base.specs.Laws.Books.{Balances}
use Rattle.gd_base.specs.Histories.Credit.{Payment, ByHopper, ByPrinter, ByHand, payment, amount_of, order_by, less_coin, order_amount, balance, ordered_amount, orders, open_order, credit_by, debit_by, open_order_by, wager}
use Rattle.gd_base.specs.Histories.Entry.{Entry}
use Rattle.gd_base.specs.Histories.History.{Origin, or_else}
use Rattle.gd_base.specs.Histories.Meters.{share, event_additions, additions, win_additions, handpay_of_payment, handpay_addition, handpay_amount, held_amount, open_handpay}

-- ================ what a win adds

is_zero : (n : ℕ) → (n == 0) ≡ true → n ≡ 0
is_zero n h = grind (arith, nat_tests, h)

won_if : (is_none : Bool) (win : ℕ) → (is_none ≡ true → win ≡ 0) → sum_by (share Meter.Won) (cond is_none [] ((Meter.Won, win) ∷ (Meter.GamesWon, 1) ∷ [])) ≡ win
won_if true win none = sym (none refl)
won_if false win none = add-zero (0 + win) ∙ zero-add win

won : (win : ℕ) → sum_by (share Meter.Won) (win_additions win) ≡ win
won win = won_if (win == 0) win (is_zero win)

-- a posted win goes to the balance, or is held where nothing else is
win_kept : (win : ℕ) (is_small : Bool) (h : Option Handpay) → (is_small ≡ false → handpay_amount h ≡ 0)
    → cond is_small win 0 + handpay_amount (or_else (cond is_small None (Some (Some (record { win = true; amount = win })))) h) ≡ win + handpay_amount h
win_kept win true h only = refl
win_kept win false h only = omega (arith, only refl)

-- ================ what an event moves

left_if : (is_none : Bool) (n : ℕ) (order : Order) → (is_none ≡ true → n ≡ 0) → order_amount (cond is_none None (Some (record order { amount = n }))) ≡ n
left_if true n order none = sym (none refl)
left_if false n order none = refl

coin_less : (coin : ℕ) (order : Option Order) → order_amount (less_coin coin order) ≡ order_amount order - coin
coin_less coin None = omega arith
coin_less coin (Some order) = left_if (order.amount - coin == 0) (order.amount - coin) order (is_zero (order.amount - coin))

paid : (n : ℕ) (p : Payment) (h : Option Handpay) → handpay_amount h ≡ 0 → order_amount (order_by n p) + handpay_amount (or_else (handpay_of_payment p) h) ≡ amount_of p
paid n (ByHopper amount) h none = omega (arith, none)
paid n (ByPrinter amount) h none = omega (arith, none)
paid n (ByHand amount) h none = omega arith

-- what a confirmed handpay adds to a meter
abbrev pub confirmed_to : Option Handpay → Meter → ℕ
confirmed_to h m = sum_by (share m) (handpay_addition h)

abbrev pub Confirmed : Option Handpay → Type 0
Confirmed h =
    (confirmed_to h Meter.Wagered + confirmed_to h Meter.VoucherOut + confirmed_to h Meter.CoinOut + confirmed_to h Meter.HandWin + confirmed_to h Meter.HandCancel ≡ handpay_amount h)
    × (confirmed_to h Meter.BillIn + confirmed_to h Meter.CoinIn + confirmed_to h Meter.VoucherIn ≡ 0)

confirmed_kind : (is_win : Bool) (amount : ℕ) → Confirmed (Some (record { win = is_win; amount = amount }))
confirmed_kind true amount = (omega arith, refl)
confirmed_kind false amount = (omega arith, refl)

pub confirmed : (h : Option Handpay) → Confirmed h
confirmed None = (refl, refl)
confirmed (Some h) = confirmed_kind h.win h.amount

payable_if : (is_coins is_small : Bool) (a b : ℕ) → a ≤ b → amount_of (cond is_coins (ByHopper a) (cond is_small (ByPrinter b) (ByHand b))) ≤ b
payable_if true is_small a b le = le
payable_if false true a b le = omega arith
payable_if false false a b le = omega arith

payable : (setup : Setup) (b : ℕ) → amount_of (payment setup b) ≤ b
payable setup b = payable_if _ _ (b / setup.coin * setup.coin) b (div-mul-le_self b setup.coin)

no_win : (c : Bool) (win : ℕ) → win ≡ 0 → cond c win 0 ≡ 0
no_win true win none = none
no_win false win none = refl

-- ================ one event

-- what the rule sees to: the wager is covered, a cash-out finds nothing ordered or held, a coin is still to be paid,
-- and a win that isn't small finds nothing held
abbrev pub Fits : Origin → List Entry → ℕ → Bool → Event → Type 0
Fits o past win is_small (Event.Play game bet) = (wager o.setup bet ≤ balance o past) × (is_small ≡ false → held_amount o past ≡ 0)
Fits o past win is_small Event.CashOut = (ordered_amount o past ≡ 0) × (held_amount o past ≡ 0) × (win ≡ 0)
Fits o past win is_small Event.HandpayDone = win ≡ 0
Fits o past win is_small (Event.CoinPaid order) = (o.setup.coin ≤ ordered_amount o past) × (is_small ≡ false → held_amount o past ≡ 0)
Fits o past win is_small _ = is_small ≡ false → held_amount o past ≡ 0

abbrev pub handpay_by : Origin → List Entry → ℕ → Bool → Event → Option (Option Handpay)
handpay_by o past win is_small Event.CashOut = handpay_of_payment (payment o.setup (balance o past))
handpay_by o past win is_small Event.HandpayDone = Some None
handpay_by o past win is_small _ = cond is_small None (Some (Some (record { win = true; amount = win })))

abbrev pub amount : Origin → List Entry → Event → Meter → ℕ
amount o past event m = sum_by (share m) (event_additions o past event)

event_kept : (o : Origin) (past : List Entry) (win : ℕ) (is_small : Bool) (event : Event) → Fits o past win is_small event
    → balance o past + credit_by (ordered_amount o past) event + cond is_small win 0 - debit_by o.setup (balance o past) event
    + order_amount (open_order_by o.setup (balance o past) (orders o past) (open_order o past) event)
    + handpay_amount (or_else (handpay_by o past win is_small event) (open_handpay o past))
    + amount o past event Meter.Wagered + amount o past event Meter.VoucherOut + amount o past event Meter.CoinOut
    + amount o past event Meter.HandWin + amount o past event Meter.HandCancel
    ≡ balance o past + ordered_amount o past + held_amount o past + amount o past event Meter.BillIn + amount o past event Meter.CoinIn + amount o past event Meter.VoucherIn + win
event_kept o past win is_small (Event.Play game bet) fits = omega (arith, fits.0, win_kept win is_small (open_handpay o past) fits.1)
event_kept o past win is_small Event.CashOut fits =
    omega (arith, fits.0, fits.1, fits.2, no_win is_small win fits.2, payable o.setup (balance o past), paid (orders o past + 1) (payment o.setup (balance o past)) (open_handpay o past) fits.1)
event_kept o past win is_small Event.HandpayDone fits =
    omega (arith, fits, no_win is_small win fits, (confirmed (open_handpay o past)).0, (confirmed (open_handpay o past)).1)
event_kept o past win is_small (Event.CoinPaid order) fits =
    omega (arith, fits.0, coin_less o.setup.coin (open_order o past), win_kept win is_small (open_handpay o past) fits.1)
event_kept o past win is_small (Event.DoorOpen Door.Logic) fits = omega (arith, win_kept win is_small (open_handpay o past) fits)
event_kept o past win is_small (Event.DoorOpen Door.Main) fits = omega (arith, win_kept win is_small (open_handpay o past) fits)
event_kept o past win is_small (Event.DoorOpen Door.Cashbox) fits = omega (arith, win_kept win is_small (open_handpay o past) fits)
event_kept o past win is_small (Event.DoorOpen Door.Drop) fits = omega (arith, win_kept win is_small (open_handpay o past) fits)
event_kept o past win is_small _ fits = omega (arith, win_kept win is_small (open_handpay o past) fits)

-- ================ a history

-- a win adds to no other amount
not_won_if : (m : Meter) (is_none : Bool) (win : ℕ) → share m (Meter.Won, win) ≡ 0 → share m (Meter.GamesWon, 1) ≡ 0
    → sum_by (share m) (cond is_none [] ((Meter.Won, win) ∷ (Meter.GamesWon, 1) ∷ [])) ≡ 0
not_won_if m true win p q = refl
not_won_if m false win p q = omega (arith, p, q)

not_won : (m : Meter) (win : ℕ) → share m (Meter.Won, win) ≡ 0 → share m (Meter.GamesWon, 1) ≡ 0 → sum_by (share m) (win_additions win) ≡ 0
not_won m win p q = not_won_if m (win == 0) win p q

-- what a taken event adds to a meter that no win adds to
pub plain : (o : Origin) (past : List Entry) (win : ℕ) (event : Event) (m : Meter) → share m (Meter.Won, win) ≡ 0 → share m (Meter.GamesWon, 1) ≡ 0
    → sum_by (share m) (additions o past win event) ≡ amount o past event m
plain o past win event m p q = omega (arith, sum_by-append (share m) (event_additions o past event) (win_additions win), not_won m win p q)

pub to_won : (o : Origin) (past : List Entry) (win : ℕ) (event : Event) → sum_by (share Meter.Won) (additions o past win event) ≡ amount o past event Meter.Won + win
to_won o past win event = omega (arith, sum_by-append (share Meter.Won) (event_additions o past event) (win_additions win), won win)

pub none_won : (o : Origin) (past : List Entry) (event : Event) → amount o past event Meter.Won ≡ 0
none_won o past Event.HandpayDone = of_handpay (open_handpay o past)
  where
    of_kind : (is_win : Bool) (amount : ℕ) → confirmed_to (Some (record { win = is_win; amount = amount })) Meter.Won ≡ 0
    of_kind true amount = refl
    of_kind false amount = refl

    of_handpay : (h : Option Handpay) → confirmed_to h Meter.Won ≡ 0
    of_handpay None = refl
    of_handpay (Some h) = of_kind h.win h.amount
none_won o past (Event.DoorOpen Door.Logic) = refl
none_won o past (Event.DoorOpen Door.Main) = refl
none_won o past (Event.DoorOpen Door.Cashbox) = refl
none_won o past (Event.DoorOpen Door.Drop) = refl
none_won o past _ = refl

abbrev pub with_taken : ℕ → Event → Option (ℕ × List ℕ) → Entry
with_taken number event draw = record { number = number; event = event; draw = draw; reply = Reply.Taken }

abbrev pub win_by : Origin → ℕ → Event → Option (ℕ × List ℕ) → List Entry → ℕ
win_by o number event draw past = posted_win o (with_taken number event draw) past

pub Balances-taken : (o : Origin) (number : ℕ) (event : Event) (draw : Option (ℕ × List ℕ)) (past : List Entry)
    → Fits o past (win_by o number event draw past) (nat_lt (win_by o number event draw past) o.setup.handpay_limit) event
    → Balances o past → Balances o (with_taken number event draw ∷ past)
Balances-taken o number event draw past fits before =
    let win = win_by o number event draw past in
    omega (
      arith,
      before,
      event_kept o past win (nat_lt win o.setup.handpay_limit) event fits,
      plain o past win event Meter.Wagered refl refl,
      plain o past win event Meter.VoucherOut refl refl,
      plain o past win event Meter.CoinOut refl refl,
      plain o past win event Meter.HandWin refl refl,
      plain o past win event Meter.HandCancel refl refl,
      plain o past win event Meter.BillIn refl refl,
      plain o past win event Meter.CoinIn refl refl,
      plain o past win event Meter.VoucherIn refl refl,
      to_won o past win event,
      none_won o past event,
    )
