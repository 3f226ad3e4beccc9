-- Rules of a view that one entry more keeps. These are some of them: the number of orders, what is kept of the devices, and
-- how long the lists of recall are.
use Rattle.std.specs.Prelude.{◌≡◌, ℕ, zero, suc, ◌+◌, ◌≤◌, ◌==◌, min, Bool, true, false, is_some, is_none, if◌then◌else◌, List, [], ◌∷◌, length, map, sum, take, Option, Some, refl}
use Rattle.std.specs.List.{list_all}
use Rattle.std.proofs.Common.{ap, ◌∙◌, arith, add-zero}
use Rattle.std.proofs.lemmas.Bool.Decides.{nat_tests}
use Rattle.std.proofs.lemmas.List.{length-take}
use Rattle.gd_base.specs.declared.device.Device.{Device}
use Rattle.gd_base.specs.declared.event.Event.{Event}
use Rattle.gd_base.specs.declared.refusal.Reply.{Reply}
use Rattle.gd_base.specs.declared.setup.Setup.{Setup}
use Rattle.gd_base.specs.Histories.Credit.{Payment, ByHopper, ByPrinter, ByHand, payment, one_for_order, orders_by, orders_after}
use Rattle.gd_base.specs.Histories.Devices.{kept_at}
use Rattle.gd_base.specs.Histories.Entry.{Entry, device_of}
use Rattle.gd_base.specs.Histories.Numbers.{is_device}
use Rattle.gd_base.specs.Payloads.ViewRules.{are_numbered, is_flagged_last}
use Rattle.gd_base.specs.Histories.View.{View}
use Rattle.gd_base.specs.Histories.ViewOf.{with_entry}
use Rattle.gd_base.proofs.PayloadLemmas.Itself.{Pair, kept_by, kept_places}
use Rattle.gd_base.proofs.BoolTests.{both, is_equal, is_so}
use Rattle.gd_base.specs.Judging.Product.{both_hold}

-- ================ the number of orders

one_order : (p : Payment) → one_for_order p ≤ 1
one_order (ByHopper amount) = omega arith
one_order (ByPrinter amount) = omega arith
one_order (ByHand amount) = omega arith

orders_most : (setup : Setup) (balance : ℕ) (event : Event) → orders_by setup balance event ≤ 1
orders_most setup balance Event.CashOut = one_order (payment setup balance)
orders_most setup balance _ = omega arith

orders_if : (setup : Setup) (balance orders count number : ℕ) (event : Event) (draw : Option (ℕ × List ℕ)) (reply : Reply) → orders ≤ count
    → orders_after setup (record { number = number; event = event; draw = draw; reply = reply }) balance orders ≤ count + 1
orders_if setup balance orders count number event draw Reply.Taken le = omega (arith, le, orders_most setup balance event)
orders_if setup balance orders count number event draw (Reply.Refused why) le = omega (arith, le)

pub orders_kept : (setup : Setup) (v : View) (e : Entry) → v.orders ≤ v.count → (with_entry setup v e).orders ≤ (with_entry setup v e).count
orders_kept setup v e le = orders_if setup v.balance v.orders v.count e.number e.event e.draw e.reply le

-- ================ devices

abbrev one_if : Device → Device → ℕ
one_if d c = if is_device d c then 1 else 0

-- an entry is of one device
one_device : (d : Device) → one_if d Device.Bill + one_if d Device.Coin + one_if d Device.Reader + one_if d Device.Printer + one_if d Device.Hopper
    + one_if d Device.Doors + one_if d Device.Player + one_if d Device.Attendant + one_if d Device.Power ≡ 1
one_device Device.Bill = refl
one_device _ = refl

sum_kept : (setup : Setup) (v : View) (e : Entry) → length v.kept ≡ 9 → sum (map (λ k. k.0) v.kept) ≡ v.count → sum (map (λ k. k.0) (with_entry setup v e).kept) ≡ v.count + 1
sum_kept setup v e len old =
    let by_place : sum (map (λ (k : Pair). k.0) (kept_by 9 (λ i. ((kept_at v.kept i).0, (kept_at v.kept i).1)))) ≡ v.count =
    ap (λ (ks : List Pair). sum (map (λ (k : Pair). k.0) ks)) (kept_places 9 v.kept len) ∙ old in
    omega (arith, by_place, one_device (device_of e.event))

flagged_if : (b : Bool) (n : ℕ) (x : Option Reply) (reply : Reply) → is_flagged_last (n, x) ≡ true → is_flagged_last (n + (if b then 1 else 0), if b then Some reply else x) ≡ true
flagged_if true n x reply h =
    let more : (n + 1 == 0) ≡ false = grind (arith, nat_tests) in
    ap (λ (c : Bool). if c then is_none (let y : Option Reply = Some reply in y) else is_some (let y : Option Reply = Some reply in y)) more
flagged_if false n x reply h = ap (λ (m : ℕ). is_flagged_last (m, x)) (add-zero n) ∙ h

flagged_at : (ks : List Pair) (i : ℕ) → list_all is_flagged_last ks ≡ true → is_flagged_last ((kept_at ks i).0, (kept_at ks i).1) ≡ true
flagged_at [] i h = refl
flagged_at (k ∷ ks) zero h = (both (is_flagged_last k) (list_all is_flagged_last ks) h).0
flagged_at (k ∷ ks) (suc i) h = flagged_at ks i (both (is_flagged_last k) (list_all is_flagged_last ks) h).1

all_flagged : (setup : Setup) (v : View) (e : Entry) → list_all is_flagged_last v.kept ≡ true → list_all is_flagged_last (with_entry setup v e).kept ≡ true
all_flagged setup v e h =
    let each : (i : ℕ) (d : Device) → is_flagged_last ((kept_at v.kept i).0 + one_if (device_of e.event) d, if is_device (device_of e.event) d then Some e.reply else (kept_at v.kept i).1) ≡ true =
    λ i d. flagged_if (is_device (device_of e.event) d) (kept_at v.kept i).0 (kept_at v.kept i).1 e.reply (flagged_at v.kept i h) in
    both_hold _ _ (each 0 Device.Bill) (both_hold _ _ (each 1 Device.Coin) (both_hold _ _ (each 2 Device.Reader) (both_hold _ _ (each 3 Device.Printer) (both_hold _ _ (each 4 Device.Hopper)
    (both_hold _ _ (each 5 Device.Doors) (both_hold _ _ (each 6 Device.Player) (both_hold _ _ (each 7 Device.Attendant) (both_hold _ _ (each 8 Device.Power) refl))))))))

pub devices_kept : (setup : Setup) (v : View) (e : Entry) → length v.kept ≡ 9 → are_numbered v ≡ true → are_numbered (with_entry setup v e) ≡ true
devices_kept setup v e len h =
    let t = both (sum (map (λ k. k.0) v.kept) == v.count) (list_all is_flagged_last v.kept) h in
    both_hold (sum (map (λ k. k.0) (with_entry setup v e).kept) == v.count + 1) (list_all is_flagged_last (with_entry setup v e).kept)
    (is_equal (sum (map (λ k. k.0) (with_entry setup v e).kept)) (v.count + 1) (sum_kept setup v e len (is_so (sum (map (λ k. k.0) v.kept)) v.count t.0)))
    (all_flagged setup v e t.1)

-- ================ the lists of recall

pub short : {A : Type 0} (n : ℕ) (xs : List A) → length (take n xs) ≤ n
short n xs = let len : length (take n xs) ≡ min n (length xs) = length-take n xs in omega (arith, len)
