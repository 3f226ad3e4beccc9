-- For callers: a view that keeps the rules of a view under a setup is the view of no entry over it.
use Rattle.std.specs.Prelude.{◌≡◌, ℕ, zero, suc, ◌≤◌, ◌==◌, Bool, true, ◌&&◌, nat_le, List, [], ◌∷◌, length, take, slice_index, Option, Some, None, option_map, refl}
use Rattle.std.proofs.Common.{ap, sym, arith}
use Rattle.gd_base.specs.declared.records.TheConstants.{PLAYS_KEPT, EVENTS_KEPT, BILLS_KEPT, VOUCHERS_KEPT}
use Rattle.gd_base.specs.declared.refusal.Reply.{Reply}
use Rattle.gd_base.specs.declared.play.PlayRecord.{PlayRecord}
use Rattle.gd_base.specs.declared.setup.Setup.{Setup}
use Rattle.gd_base.specs.Histories.Conditions.{flag_at}
use Rattle.gd_base.specs.Histories.Credit.{wager}
use Rattle.gd_base.specs.Histories.Devices.{kept_at}
use Rattle.gd_base.specs.Histories.Recall.{play_record, play_start_of}
use Rattle.gd_base.specs.Histories.Rounds.{choices_of, round_of}
use Rattle.gd_base.specs.Payloads.ViewRules.{is_possible, is_possible_under, is_open_record, is_open_as, is_played}
use Rattle.gd_base.specs.Games.Stage.{stage, are_choices}
use Rattle.gd_base.specs.Histories.View.{View}
use Rattle.gd_base.specs.Histories.ViewOf.{IsItself}
use Rattle.gd_base.proofs.BoolTests.{both, is_so}
use Rattle.gd_base.proofs.ViewFacts.{rules_of, fitting_of}

-- ================ lists of a known length, place by place

abbrev pub numbers_by : ℕ → (ℕ → ℕ) → List ℕ
numbers_by zero f = []
numbers_by (suc n) f = f 0 ∷ numbers_by n (λ i. f (suc i))

pub by_places : (n : ℕ) (xs : List ℕ) → length xs ≡ n → numbers_by n (slice_index xs) ≡ xs
by_places zero [] l = refl
by_places zero (x ∷ xs) l = absurd (omega (arith, l))
by_places (suc n) [] l = absurd (omega (arith, l))
by_places (suc n) (x ∷ xs) l = ap (λ (t : List ℕ). x ∷ t) (by_places n xs (omega (arith, l)))

abbrev flags_by : ℕ → (ℕ → Bool) → List Bool
flags_by zero f = []
flags_by (suc n) f = f 0 ∷ flags_by n (λ i. f (suc i))

flags_at : (n : ℕ) (xs : List Bool) → length xs ≡ n → flags_by n (flag_at xs) ≡ xs
flags_at zero [] l = refl
flags_at zero (x ∷ xs) l = absurd (omega (arith, l))
flags_at (suc n) [] l = absurd (omega (arith, l))
flags_at (suc n) (x ∷ xs) l = ap (λ (t : List Bool). x ∷ t) (flags_at n xs (omega (arith, l)))

abbrev pub Pair : Type 0
Pair = ℕ × Option Reply

abbrev pub kept_by : ℕ → (ℕ → Pair) → List Pair
kept_by zero f = []
kept_by (suc n) f = f 0 ∷ kept_by n (λ i. f (suc i))

pub kept_places : (n : ℕ) (xs : List Pair) → length xs ≡ n → kept_by n (λ i. ((kept_at xs i).0, (kept_at xs i).1)) ≡ xs
kept_places zero [] l = refl
kept_places zero (x ∷ xs) l = absurd (omega (arith, l))
kept_places (suc n) [] l = absurd (omega (arith, l))
kept_places (suc n) (x ∷ xs) l = ap (λ (t : List Pair). x ∷ t) (kept_places n xs (omega (arith, l)))

-- ================ lists that are short

taken : {A : Type 0} (n : ℕ) (xs : List A) → length xs ≤ n → take n xs ≡ xs
taken zero [] l = refl
taken zero (x ∷ xs) l = absurd (omega (arith, l))
taken (suc n) [] l = refl
taken {A} (suc n) (x ∷ xs) l = ap (λ (t : List A). x ∷ t) (taken n xs (omega (arith, l)))

-- ================ the open play

pub play_itself : (v : View) (setup : Setup) (x : Option PlayRecord) → is_open_as (is_open_record v) x ≡ true → is_open_as (is_played setup) x ≡ true
    → option_map (play_record setup (play_start_of x) 0) (option_map round_of x) ≡ x
play_itself v setup None h k = refl
play_itself v setup (Some p) h k =
    let after = is_so p.after 0 (both (nat_le 1 p.place && nat_le p.place v.count) (p.after == 0) h).1 in
    let t = both ((p.wager == wager setup p.bet) && are_choices setup p.game p.bet p.words (choices_of p)) (p.win == (stage setup p.game p.bet p.words (choices_of p)).win) k in
    let is_wager = is_so p.wager (wager setup p.bet) (both (p.wager == wager setup p.bet) (are_choices setup p.game p.bet p.words (choices_of p)) t.0).0 in
    let is_win = is_so p.win (stage setup p.game p.bet p.words (choices_of p)).win t.1 in
    λ i. Some (record p { wager = sym is_wager i; win = sym is_win i; after = sym after i })

-- ================ the view

pub possible-itself : (setup : Setup) (v : View) → is_possible v ≡ true → is_possible_under setup v ≡ true → IsItself setup v
possible-itself setup v h k =
    let r = rules_of v h in
    let f = fitting_of setup v k in
    let totals = by_places 16 v.totals r.meters in
    let doors = flags_at 4 v.doors r.doors in
    let tilts = flags_at 6 v.tilts r.tilts in
    let kept = kept_places 9 v.kept r.devices in
    λ i. record {
      digest = v.digest;
      count = v.count;
      balance = v.balance;
      totals = totals i;
      doors = doors i;
      tilts = tilts i;
      play = play_itself v setup v.play r.play_placed f.play i;
      orders = v.orders;
      order = v.order;
      handpay = v.handpay;
      kept = kept i;
      plays = taken PLAYS_KEPT v.plays r.plays_short i;
      events = taken EVENTS_KEPT v.events r.events_short i;
      bills = taken BILLS_KEPT v.bills r.bills_short i;
      vouchers = taken VOUCHERS_KEPT v.vouchers r.vouchers_short i;
    }
