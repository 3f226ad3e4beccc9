-- Rules of a view that one entry more keeps, further: of an order, a play and a handpay at most one is open.
use Rattle.std.specs.Prelude.{◌≡◌, ℕ, ◌-◌, ◌==◌, Bool, true, false, cond, ◌&&◌, nat_lt, is_some, if◌then◌else◌, List, [], ◌∷◌, Option, Some, None, option_map, refl}
use Rattle.std.proofs.Common.{ap, sym, ◌∙◌, subst, arith}
use Rattle.std.proofs.lemmas.Bool.Decides.{nat_tests}
use Rattle.gd_base.specs.declared.event.Event.{Event}
use Rattle.gd_base.specs.declared.refusal.Refusal.{Refusal}
use Rattle.gd_base.specs.declared.refusal.Reply.{Reply}
use Rattle.gd_base.specs.declared.payout.Handpay.{Handpay}
use Rattle.gd_base.specs.declared.payout.Order.{Order}
use Rattle.gd_base.specs.declared.play.StageOpen.{StageOpen}
use Rattle.gd_base.specs.declared.setup.Setup.{Setup}
use Rattle.gd_base.specs.Histories.Credit.{Payment, ByHopper, ByPrinter, ByHand, payment, order_by, less_coin, open_order_by}
use Rattle.gd_base.specs.Histories.Entry.{Entry}
use Rattle.gd_base.specs.Histories.History.{or_else}
use Rattle.gd_base.specs.Histories.Meters.{handpay_of_payment, handpay_of_win, says_handpay}
use Rattle.gd_base.specs.Histories.Rounds.{Round, round_of, moved_round, is_over, left_open, ended_by, open_round, win_of}
use Rattle.gd_base.specs.Judging.Rule.{rule, refusals, choice_refusals}
use Rattle.gd_base.specs.Payloads.ViewRules.{not_both, is_one_open}
use Rattle.gd_base.specs.Histories.View.{View}
use Rattle.gd_base.specs.Histories.ViewOf.{with_entry, from_view}
use Rattle.gd_base.proofs.BooksLemmas.LegalBooks.{AreNone, told, not_refused, not_held, is_so}

-- at most one of three
abbrev One : Bool → Bool → Bool → Type 0
One a b c = not_both a b && not_both a c && not_both b c ≡ true

less_first : (a b c : Bool) → One a b c → One false b c
less_first true true c h = absurd (cc h)
less_first true false c h = refl
less_first false b c h = h

less_second : (a b c : Bool) → One a b c → One a false c
less_second true true c h = absurd (cc h)
less_second true false c h = h
less_second false b c h = refl

first_closed : (a b c : Bool) → One a b c → c ≡ true → a ≡ false
first_closed true true true h is = absurd (cc h)
first_closed true false true h is = absurd (cc h)
first_closed true b false h is = absurd (cc is)
first_closed false b c h is = refl

first_alone : (b c : Bool) → b ≡ false → c ≡ false → One true b c
first_alone false false p q = refl
first_alone false true p q = absurd (cc q)
first_alone true c p q = absurd (cc p)

second_alone : (c : Bool) → c ≡ false → One false true c
second_alone false q = refl
second_alone true q = absurd (cc q)

not_with_none : (b : Bool) → not_both b false ≡ true
not_with_none true = refl
not_with_none false = refl

map_some : {A B : Type 0} (f : A → B) (x : Option A) → is_some (option_map f x) ≡ is_some x
map_some f None = refl
map_some f (Some a) = refl

-- ================ no win holds nothing

small_enough : (is_small : Bool) (x : Option (Option Handpay)) (h : Option Handpay) → is_small ≡ true → or_else (cond is_small None x) h ≡ h
small_enough true x h p = refl
small_enough false x h p = absurd (cc p)

pub no_win : (setup : Setup) (h : Option Handpay) → or_else (handpay_of_win setup 0) h ≡ h
no_win setup h = small_enough (nat_lt 0 setup.handpay_limit) _ h (grind (arith, nat_tests, setup.has_handpay_limit))

with_no_win : (setup : Setup) (a c : Bool) (h : Option Handpay) → One a (is_some h) c → One a (is_some (or_else (handpay_of_win setup 0) h)) c
with_no_win setup a c h one = subst (λ (x : Option Handpay). One a (is_some x) c) (sym (no_win setup h)) one

-- ================ a play moves on

still_none : (setup : Setup) (h : Option Handpay) (c : Bool) → is_some h ≡ false → not_both (is_some (or_else (handpay_of_win setup 0) h)) c ≡ true
still_none setup h c none = subst (λ (b : Bool). not_both b c ≡ true) (sym (ap (λ (x : Option Handpay). is_some x) (no_win setup h) ∙ none)) refl

over_step : (setup : Setup) (r : Round) (over : Bool) (h : Option Handpay) → is_some h ≡ false
    → not_both (is_some (or_else (handpay_of_win setup (win_of setup (if over then Some r else None))) h)) (is_some (if over then None else Some r)) ≡ true
over_step setup r true h none = not_with_none _
over_step setup r false h none = still_none setup h true none

play_step : (setup : Setup) (event : Event) (before m : Option Round) (h : Option Handpay) → is_some h ≡ false
    → not_both (is_some (or_else (handpay_of_win setup (win_of setup (ended_by setup event m))) h)) (is_some (left_open setup event before m)) ≡ true
play_step setup event before None h none = still_none setup h (is_some before) none
play_step setup event before (Some r) h none = over_step setup r (is_over setup event r) h none

-- over a view with no order and no handpay
player_step : (setup : Setup) (event : Event) (before m : Option Round) (order : Option Order) (h : Option Handpay) → is_some order ≡ false → is_some h ≡ false
    → One (is_some order) (is_some (or_else (handpay_of_win setup (win_of setup (ended_by setup event m))) h)) (is_some (left_open setup event before m))
player_step setup event before m order h no_order none =
    subst (λ (a : Bool). One a (is_some (or_else (handpay_of_win setup (win_of setup (ended_by setup event m))) h)) (is_some (left_open setup event before m)))
    (sym no_order) (play_step setup event before m h none)

choice_step : (setup : Setup) (v : View) (event : Event) (m : Option Round) (phase : StageOpen) (is_good : Bool) → AreNone (choice_refusals setup v phase is_good)
    → One (is_some v.order) (is_some v.handpay) (is_some (option_map round_of v.play))
    → One (is_some v.order) (is_some (or_else (handpay_of_win setup (win_of setup (ended_by setup event m))) v.handpay)) (is_some (left_open setup event (option_map round_of v.play) m))
choice_step setup v event m phase is_good r one =
    player_step setup event (option_map round_of v.play) m v.order v.handpay
    (first_closed (is_some v.order) (is_some v.handpay) (is_some (option_map round_of v.play)) one (map_some round_of v.play ∙ is_so (is_some v.play) Refusal.NoPlay r.1.0))
    (not_held v r.0)

-- ================ orders

coin_if : (is_none : Bool) (o : Order) (b c : Bool) → One true b c → One (is_some (cond is_none None (Some o))) b c
coin_if true o b c one = less_first true b c one
coin_if false o b c one = one

coin_step : (coin : ℕ) (x : Option Order) (b c : Bool) → One (is_some x) b c → One (is_some (less_coin coin x)) b c
coin_step coin None b c one = one
coin_step coin (Some o) b c one = coin_if (o.amount - coin == 0) (record o { amount = o.amount - coin }) b c one

cash_step : (n : ℕ) (p : Payment) (h : Option Handpay) (c : Bool) → is_some h ≡ false → c ≡ false → One (is_some (order_by n p)) (is_some (or_else (handpay_of_payment p) h)) c
cash_step n (ByHopper amount) h c none shut = first_alone (is_some h) c none shut
cash_step n (ByPrinter amount) h c none shut = first_alone (is_some h) c none shut
cash_step n (ByHand amount) h c none shut = second_alone c shut

-- ================ one entry more

abbrev After : Setup → View → ℕ → Option (ℕ × List ℕ) → Event → Type 0
After setup v place draw event =
    let before = option_map round_of v.play in
    let m = moved_round place draw before event in
    One (is_some (open_order_by setup v.balance v.orders v.order event))
    (is_some (or_else (says_handpay setup v.balance (win_of setup (ended_by setup event m)) event) v.handpay))
    (is_some (left_open setup event before m))

taken_open : (setup : Setup) (v : View) (place : ℕ) (draw : Option (ℕ × List ℕ)) (event : Event) → rule setup v event ≡ Reply.Taken
    → One (is_some v.order) (is_some v.handpay) (is_some (option_map round_of v.play)) → After setup v place draw event
taken_open setup v place draw (Event.Play game bet) h one =
    let r : AreNone (refusals setup v (Event.Play game bet)) = told setup v (Event.Play game bet) h in
    player_step setup (Event.Play game bet) (option_map round_of v.play) (moved_round place draw (option_map round_of v.play) (Event.Play game bet)) v.order v.handpay
    (not_refused (is_some v.order) Refusal.OrderOpen r.1.0) (not_held v r.0)
taken_open setup v place draw (Event.Pick door) h one =
    choice_step setup v (Event.Pick door) (moved_round place draw (option_map round_of v.play) (Event.Pick door)) _ _ (told setup v (Event.Pick door) h) one
taken_open setup v place draw (Event.Hold mask) h one =
    choice_step setup v (Event.Hold mask) (moved_round place draw (option_map round_of v.play) (Event.Hold mask)) _ _ (told setup v (Event.Hold mask) h) one
taken_open setup v place draw (Event.Gamble colour) h one =
    choice_step setup v (Event.Gamble colour) (moved_round place draw (option_map round_of v.play) (Event.Gamble colour)) _ _ (told setup v (Event.Gamble colour) h) one
taken_open setup v place draw Event.Take h one =
    choice_step setup v Event.Take (moved_round place draw (option_map round_of v.play) Event.Take) _ _ (told setup v Event.Take h) one
taken_open setup v place draw Event.CashOut h one =
    let r : AreNone (refusals setup v Event.CashOut) = told setup v Event.CashOut h in
    cash_step _ (payment setup v.balance) v.handpay (is_some (option_map round_of v.play)) (not_held v r.0)
    (map_some round_of v.play ∙ not_refused (is_some v.play) Refusal.PlayOpen r.1.1.0)
taken_open setup v place draw Event.HandpayDone h one = less_second (is_some v.order) (is_some v.handpay) (is_some (option_map round_of v.play)) one
taken_open setup v place draw (Event.CoinPaid order) h one =
    with_no_win setup _ (is_some (option_map round_of v.play)) v.handpay (coin_step setup.coin v.order (is_some v.handpay) (is_some (option_map round_of v.play)) one)
taken_open setup v place draw (Event.Printed order) h one =
    with_no_win setup false (is_some (option_map round_of v.play)) v.handpay (less_first (is_some v.order) (is_some v.handpay) (is_some (option_map round_of v.play)) one)
taken_open setup v place draw (Event.PrintFail order) h one =
    with_no_win setup false (is_some (option_map round_of v.play)) v.handpay (less_first (is_some v.order) (is_some v.handpay) (is_some (option_map round_of v.play)) one)
taken_open setup v place draw (Event.HopperEmpty order) h one =
    with_no_win setup false (is_some (option_map round_of v.play)) v.handpay (less_first (is_some v.order) (is_some v.handpay) (is_some (option_map round_of v.play)) one)
taken_open setup v place draw _ h one = with_no_win setup (is_some v.order) (is_some (option_map round_of v.play)) v.handpay one

open_if : (setup : Setup) (v : View) (number : ℕ) (event : Event) (draw : Option (ℕ × List ℕ)) (reply : Reply) → reply ≡ rule setup v event
    → One (is_some v.order) (is_some v.handpay) (is_some (option_map round_of v.play))
    → (let e : Entry = record { number = number; event = event; draw = draw; reply = reply } in
    One (is_some (with_entry setup v e).order) (is_some (with_entry setup v e).handpay) (is_some (open_round (from_view setup v) (e ∷ []))))
open_if setup v number event draw Reply.Taken h one = taken_open setup v _ draw event (sym h) one
open_if setup v number event draw (Reply.Refused why) h one = one

pub one_open_kept : (setup : Setup) (v : View) (e : Entry) → e.reply ≡ rule setup v e.event → is_one_open v ≡ true → is_one_open (with_entry setup v e) ≡ true
one_open_kept setup v e h one =
    let w = with_entry setup v e in
    let before : One (is_some v.order) (is_some v.handpay) (is_some (option_map round_of v.play)) =
    subst (λ (c : Bool). One (is_some v.order) (is_some v.handpay) c) (sym (map_some round_of v.play)) one in
    subst (λ (c : Bool). One (is_some w.order) (is_some w.handpay) c) (sym (map_some _ (open_round (from_view setup v) (e ∷ []))))
    (open_if setup v e.number e.event e.draw e.reply h before)
