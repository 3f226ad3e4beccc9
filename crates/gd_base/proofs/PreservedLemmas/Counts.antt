-- Rules of a view that one entry more keeps, further: each count is at most the count of entries.
use Rattle.std.specs.Prelude.{◌≡◌, ℕ, ◌+◌, ◌≤◌, ◌==◌, Bool, true, false, cond, nat_le, sum_by, List, [], ◌∷◌, drop, length, slice_index, Option, Some, None, if◌then◌else◌, refl}
use Rattle.std.specs.List.{list_all}
use Rattle.std.proofs.Common.{ap, ◌∙◌, arith}
use Rattle.std.proofs.lemmas.Bool.Decides.{nat_tests}
use Rattle.std.proofs.lemmas.List.Sums.{sum_by-append}
use Rattle.gd_base.specs.declared.condition.Door.{Door}
use Rattle.gd_base.specs.declared.event.Event.{Event}
use Rattle.gd_base.specs.declared.meter.Meter.{Meter}
use Rattle.gd_base.specs.declared.refusal.Reply.{Reply}
use Rattle.gd_base.specs.declared.payout.Handpay.{Handpay}
use Rattle.gd_base.specs.declared.setup.Setup.{Setup}
use Rattle.gd_base.specs.Histories.Entry.{Entry, is_taken}
use Rattle.gd_base.specs.Histories.History.{Origin}
use Rattle.gd_base.specs.Histories.Meters.{share, event_additions, win_additions, handpay_addition, meter_added, open_handpay, door_meter}
use Rattle.gd_base.specs.Histories.Rounds.{posted_win}
use Rattle.gd_base.specs.Histories.View.{View}
use Rattle.gd_base.specs.Histories.ViewOf.{with_entry, from_view}
use Rattle.gd_base.proofs.BooksLemmas.Books.{plain, amount}
use Rattle.gd_base.proofs.PayloadLemmas.Itself.{numbers_by, by_places}
use Rattle.gd_base.proofs.BoolTests.{both}
use Rattle.gd_base.specs.Judging.Product.{both_hold}

-- a confirmed handpay adds to no count
no_count : (m : Meter) (is_win : Bool) (n : ℕ) → share m (Meter.HandWin, n) ≡ 0 → share m (Meter.HandCancel, n) ≡ 0 → sum_by (share m) (handpay_addition (Some (record { win = is_win; amount = n }))) ≤ 1
no_count m true n p q = omega (arith, p)
no_count m false n p q = omega (arith, q)

confirmed_most : (m : Meter) (h : Option Handpay) → ((n : ℕ) → share m (Meter.HandWin, n) ≡ 0) → ((n : ℕ) → share m (Meter.HandCancel, n) ≡ 0) → sum_by (share m) (handpay_addition h) ≤ 1
confirmed_most m None p q = omega arith
confirmed_most m (Some h) p q = no_count m h.win h.amount (p h.amount) (q h.amount)

played_most : (o : Origin) (past : List Entry) (event : Event) → amount o past event Meter.GamesPlayed ≤ 1
played_most o past Event.HandpayDone = confirmed_most Meter.GamesPlayed (open_handpay o past) (λ n. refl) (λ n. refl)
played_most o past (Event.DoorOpen Door.Logic) = omega arith
played_most o past (Event.DoorOpen Door.Main) = omega arith
played_most o past (Event.DoorOpen Door.Cashbox) = omega arith
played_most o past (Event.DoorOpen Door.Drop) = omega arith
played_most o past _ = omega arith

games_won_none : (o : Origin) (past : List Entry) (event : Event) → amount o past event Meter.GamesWon ≡ 0
games_won_none o past Event.HandpayDone = of_handpay (open_handpay o past)
  where
    of_kind : (is_win : Bool) (n : ℕ) → sum_by (share Meter.GamesWon) (handpay_addition (Some (record { win = is_win; amount = n }))) ≡ 0
    of_kind true n = refl
    of_kind false n = refl

    of_handpay : (h : Option Handpay) → sum_by (share Meter.GamesWon) (handpay_addition h) ≡ 0
    of_handpay None = refl
    of_handpay (Some h) = of_kind h.win h.amount
games_won_none o past (Event.DoorOpen Door.Logic) = refl
games_won_none o past (Event.DoorOpen Door.Main) = refl
games_won_none o past (Event.DoorOpen Door.Cashbox) = refl
games_won_none o past (Event.DoorOpen Door.Drop) = refl
games_won_none o past _ = refl

won_most : (is_none : Bool) (win : ℕ) → sum_by (share Meter.GamesWon) (cond is_none [] ((Meter.Won, win) ∷ (Meter.GamesWon, 1) ∷ [])) ≤ 1
won_most true win = omega arith
won_most false win = omega arith

power_most : (o : Origin) (past : List Entry) (event : Event) → amount o past event Meter.PowerUps ≤ 1
power_most o past Event.HandpayDone = confirmed_most Meter.PowerUps (open_handpay o past) (λ n. refl) (λ n. refl)
power_most o past (Event.DoorOpen Door.Logic) = omega arith
power_most o past (Event.DoorOpen Door.Main) = omega arith
power_most o past (Event.DoorOpen Door.Cashbox) = omega arith
power_most o past (Event.DoorOpen Door.Drop) = omega arith
power_most o past _ = omega arith

door_most : (d : Door) (o : Origin) (past : List Entry) (event : Event) → amount o past event (door_meter d) ≤ 1
door_most Door.Logic o past Event.HandpayDone = confirmed_most Meter.LogicOpen (open_handpay o past) (λ n. refl) (λ n. refl)
door_most Door.Main o past Event.HandpayDone = confirmed_most Meter.MainOpen (open_handpay o past) (λ n. refl) (λ n. refl)
door_most Door.Cashbox o past Event.HandpayDone = confirmed_most Meter.CashboxOpen (open_handpay o past) (λ n. refl) (λ n. refl)
door_most Door.Drop o past Event.HandpayDone = confirmed_most Meter.DropOpen (open_handpay o past) (λ n. refl) (λ n. refl)
door_most Door.Logic o past (Event.DoorOpen Door.Logic) = omega arith
door_most Door.Logic o past (Event.DoorOpen _) = omega arith
door_most Door.Main o past (Event.DoorOpen Door.Main) = omega arith
door_most Door.Main o past (Event.DoorOpen _) = omega arith
door_most Door.Cashbox o past (Event.DoorOpen Door.Cashbox) = omega arith
door_most Door.Cashbox o past (Event.DoorOpen _) = omega arith
door_most Door.Drop o past (Event.DoorOpen Door.Drop) = omega arith
door_most Door.Drop o past (Event.DoorOpen _) = omega arith
door_most Door.Logic o past _ = omega arith
door_most Door.Main o past _ = omega arith
door_most Door.Cashbox o past _ = omega arith
door_most Door.Drop o past _ = omega arith

-- ================ one entry more

most_if : (reply : Reply) (n : ℕ) → n ≤ 1 → (if is_taken reply then n else 0) ≤ 1
most_if Reply.Taken n le = le
most_if (Reply.Refused why) n le = omega arith

abbrev more_of : Setup → View → Entry → Meter → ℕ
more_of setup v e m = if is_taken e.reply then meter_added (from_view setup v) m e [] else 0

plain_more : (setup : Setup) (v : View) (e : Entry) (m : Meter) → ((n : ℕ) → share m (Meter.Won, n) ≡ 0) → share m (Meter.GamesWon, 1) ≡ 0
    → amount (from_view setup v) [] e.event m ≤ 1 → more_of setup v e m ≤ 1
plain_more setup v e m p q le =
    let o = from_view setup v in
    let win = posted_win o e [] in
    most_if e.reply (meter_added o m e []) (let same = plain o [] win e.event m (p win) q in omega (arith, same, le))

won_more : (setup : Setup) (v : View) (e : Entry) → more_of setup v e Meter.GamesWon ≤ 1
won_more setup v e =
    let o = from_view setup v in
    let win = posted_win o e [] in
    most_if e.reply (meter_added o Meter.GamesWon e [])
    (omega (arith, sum_by-append (share Meter.GamesWon) (event_additions o [] e.event) (win_additions win), games_won_none o [] e.event, won_most (win == 0) win))

at_most_more : (n more count : ℕ) → nat_le n count ≡ true → more ≤ 1 → nat_le (n + more) (count + 1) ≡ true
at_most_more n more count h le = grind (arith, nat_tests, h, le)

pub counts_kept : (setup : Setup) (v : View) (e : Entry) → length v.totals ≡ 16 → list_all (λ n. nat_le n v.count) (drop 9 v.totals) ≡ true
    → list_all (λ n. nat_le n (with_entry setup v e).count) (drop 9 (with_entry setup v e).totals) ≡ true
counts_kept setup v e len h =
    let c = v.count in
    let o = from_view setup v in
    let t = slice_index v.totals in
    let all : list_all (λ n. nat_le n c) (drop 9 (numbers_by 16 t)) ≡ true = ap (λ (ts : List ℕ). list_all (λ n. nat_le n c) (drop 9 ts)) (by_places 16 v.totals len) ∙ h in
    let a = both (nat_le (t 9) c) _ all in
    let b = both (nat_le (t 10) c) _ a.1 in
    let d = both (nat_le (t 11) c) _ b.1 in
    let f = both (nat_le (t 12) c) _ d.1 in
    let g = both (nat_le (t 13) c) _ f.1 in
    let i = both (nat_le (t 14) c) _ g.1 in
    let j = both (nat_le (t 15) c) _ i.1 in
    let m = more_of setup v e in
    both_hold _ _ (at_most_more (t 9) (m Meter.GamesPlayed) c a.0 (plain_more setup v e Meter.GamesPlayed (λ n. refl) refl (played_most o [] e.event)))
    (both_hold _ _ (at_most_more (t 10) (m Meter.GamesWon) c b.0 (won_more setup v e))
    (both_hold _ _ (at_most_more (t 11) (m Meter.PowerUps) c d.0 (plain_more setup v e Meter.PowerUps (λ n. refl) refl (power_most o [] e.event)))
    (both_hold _ _ (at_most_more (t 12) (m Meter.LogicOpen) c f.0 (plain_more setup v e Meter.LogicOpen (λ n. refl) refl (door_most Door.Logic o [] e.event)))
    (both_hold _ _ (at_most_more (t 13) (m Meter.MainOpen) c g.0 (plain_more setup v e Meter.MainOpen (λ n. refl) refl (door_most Door.Main o [] e.event)))
    (both_hold _ _ (at_most_more (t 14) (m Meter.CashboxOpen) c i.0 (plain_more setup v e Meter.CashboxOpen (λ n. refl) refl (door_most Door.Cashbox o [] e.event)))
    (both_hold _ _ (at_most_more (t 15) (m Meter.DropOpen) c j.0 (plain_more setup v e Meter.DropOpen (λ n. refl) refl (door_most Door.Drop o [] e.event))) refl))))))
