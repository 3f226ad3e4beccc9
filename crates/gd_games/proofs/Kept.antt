-- What follows for a setup from the rules that its file keeps.
use Rattle.std.proofs.Common.{◌≡◌, ◌∙◌, ap, refl, ℕ, zero, suc, ◌-◌, ◌≤◌, ◌==◌, nat_le, Bool, true, false, ◌&&◌, List, [], ◌∷◌, ◌++◌, length, map, take, drop, replicate, Option, Some, None}
use Rattle.std.specs.List.{list_all}
use Rattle.std.specs.Prelude.{codes, if◌then◌else◌}
use Rattle.toml.specs.Data.{Data, string, integer, float, boolean, datetime, array, table, Items, no_items, item, Members, get_member}
use Rattle.gd_base.proofs.BoolTests.{both, is_within}
use Rattle.gd_base.specs.declared.limits.TheConstants.{MOST_AMOUNT, MOST_BILLS, MOST_HOPPER_LIMIT, MOST_PAY}
use Rattle.gd_base.specs.Judging.Product.{both_hold}
use Rattle.gd_base.specs.Setups.BuiltIn.{built_in_setup}
use Rattle.gd_base.specs.Setups.SetupRules.{are_bills, are_pays, are_small, are_strips, is_letter, rise_above}
use Rattle.gd_games.specs.declared.fault.SetupFault.{SetupFault}
use Rattle.gd_games.specs.File.{at_key, filled, first_broken, in_table, rows, KeepsRules}
use Rattle.gd_games.specs.Kinds.{all_items, is_list_of, symbol_keys}
use Rattle.gd_games.specs.Values.{are_all_pays, are_bills_in, are_credits, are_five_strips, has_pays, is_number, is_strip, items_in, keeps, members_in, numbers_in, pays_in, text_in, texts_in, value_or}
use Rattle.gd_games.proofs.Lists.{list_within}

pub limited : (low high n : ℕ) → low ≤ n → n ≤ high → nat_le low n && nat_le n high ≡ true
limited low high n l h = both_hold (nat_le low n) (nat_le n high) (is_within low n l) (is_within n high h)

-- ================ lists of credits

credits_small : (n : ℕ) (d : Data) → are_credits n d ≡ true → are_small (numbers_in d) ≡ true
credits_small n d h = list_within 0 MOST_PAY d (both (length (numbers_in d) == n) (is_list_of (is_number 0 MOST_PAY) d) h).1

credits_good : (n : ℕ) (own : List ℕ) (o : Option Data) → are_small own ≡ true → keeps (are_credits n) o ≡ true → are_small (value_or own numbers_in o) ≡ true
credits_good n own None small h = small
credits_good n own (Some d) small h = credits_small n d h

-- r is what is found, and o what is looked for
pub credits_kept : (n : ℕ) (own xs : List ℕ) (r o : Option Data) → r ≡ o → xs ≡ value_or own numbers_in r → are_small own ≡ true → keeps (are_credits n) o ≡ true → are_small xs ≡ true
credits_kept n own xs r o found is small h = ap are_small is ∙ credits_good n own r small (ap (keeps (are_credits n)) found ∙ h)

pay_small : (o : Option Data) → has_pays o ≡ true → are_small (value_or [] numbers_in o) ≡ true
pay_small None h = absurd (cc h)
pay_small (Some d) h = credits_small 3 d h

pays_small : (ms : Members) (keys : List (List ℕ)) → list_all (λ key. has_pays (get_member key ms)) keys ≡ true
    → are_pays (map (λ key. value_or [] numbers_in (get_member key ms)) keys) ≡ true
pays_small ms [] h = refl
pays_small ms (key ∷ keys) h =
    let t = both (has_pays (get_member key ms)) (list_all (λ k. has_pays (get_member k ms)) keys) h in
    both_hold (are_small (value_or [] numbers_in (get_member key ms))) (are_pays (map (λ k. value_or [] numbers_in (get_member k ms)) keys))
    (pay_small (get_member key ms) t.0) (pays_small ms keys t.1)

pays_good : (own : List (List ℕ)) (o : Option Data) → are_pays own ≡ true → keeps are_all_pays o ≡ true → are_pays (value_or own pays_in o) ≡ true
pays_good own None small h = small
pays_good own (Some d) small h = pays_small (members_in d) symbol_keys h

pub pays_kept : (own xs : List (List ℕ)) (r o : Option Data) → r ≡ o → xs ≡ value_or own pays_in r → are_pays own ≡ true → keeps are_all_pays o ≡ true → are_pays xs ≡ true
pays_kept own xs r o found is small h = ap are_pays is ∙ pays_good own r small (ap (keeps are_all_pays) found ∙ h)

-- ================ strips

each_strip : (ds : Items) → all_items is_strip ds ≡ true → are_strips (items_in text_in ds) ≡ true
each_strip no_items h = refl
each_strip (item d ds) h =
    let t = both (is_strip d) (all_items is_strip ds) h in
    both_hold (list_all is_letter (text_in d)) (are_strips (items_in text_in ds)) (both (length (text_in d) == 32) (list_all is_letter (text_in d)) t.0).1 (each_strip ds t.1)

list_strips : (d : Data) → is_list_of is_strip d ≡ true → are_strips (texts_in d) ≡ true
list_strips (array ds) h = each_strip ds h
list_strips (integer z) h = absurd (cc h)
list_strips (string s) h = absurd (cc h)
list_strips (float x) h = absurd (cc h)
list_strips (boolean b) h = absurd (cc h)
list_strips (datetime t) h = absurd (cc h)
list_strips (table ms) h = absurd (cc h)

strips_good : (own : List (List ℕ)) (o : Option Data) → are_strips own ≡ true → keeps are_five_strips o ≡ true → are_strips (value_or own texts_in o) ≡ true
strips_good own None good h = good
strips_good own (Some d) good h = list_strips d (both (length (texts_in d) == 5) (is_list_of is_strip d) h).1

pub strips_kept : (own xs : List (List ℕ)) (r o : Option Data) → r ≡ o → xs ≡ value_or own texts_in r → are_strips own ≡ true → keeps are_five_strips o ≡ true → are_strips xs ≡ true
strips_kept own xs r o found is good h = ap are_strips is ∙ strips_good own r good (ap (keeps are_five_strips) found ∙ h)

-- ================ bills

front : (ns zs : List ℕ) → take (length ns) (ns ++ zs) ≡ ns
front [] zs = refl
front (n ∷ ns) zs = ap (λ rest. n ∷ rest) (front ns zs)

behind : (ns zs : List ℕ) → drop (length ns) (ns ++ zs) ≡ zs
behind [] zs = refl
behind (n ∷ ns) zs = behind ns zs

zeros_small : (k : ℕ) → list_all (λ x. nat_le x MOST_AMOUNT) (replicate k 0) ≡ true
zeros_small zero = refl
zeros_small (suc k) = zeros_small k

zeros_zero : (k : ℕ) → list_all (λ x. x == 0) (replicate k 0) ≡ true
zeros_zero zero = refl
zeros_zero (suc k) = zeros_zero k

small_front : (ns : List ℕ) (k : ℕ) → list_all (λ x. nat_le x MOST_AMOUNT) ns ≡ true → list_all (λ x. nat_le x MOST_AMOUNT) (ns ++ replicate k 0) ≡ true
small_front [] k h = zeros_small k
small_front (n ∷ ns) k h =
    let t = both (nat_le n MOST_AMOUNT) (list_all (λ x. nat_le x MOST_AMOUNT) ns) h in
    both_hold (nat_le n MOST_AMOUNT) (list_all (λ x. nat_le x MOST_AMOUNT) (ns ++ replicate k 0)) t.0 (small_front ns k t.1)

filled_good : (ns : List ℕ) → nat_le (length ns) MOST_BILLS ≡ true → rise_above 0 ns ≡ true → list_all (λ x. nat_le x MOST_AMOUNT) ns ≡ true
    → are_bills (length ns) (filled ns) ≡ true
filled_good ns few rises small =
    let zs = replicate (MOST_BILLS - length ns) 0 in
    let first = ap (rise_above 0) (front ns zs) ∙ rises in
    let last = ap (list_all (λ x. x == 0)) (behind ns zs) ∙ zeros_zero (MOST_BILLS - length ns) in
    let all = small_front ns (MOST_BILLS - length ns) small in
    both_hold (nat_le (length ns) MOST_BILLS && rise_above 0 (take (length ns) (filled ns)) && list_all (λ x. nat_le x MOST_AMOUNT) (filled ns)) (list_all (λ x. x == 0) (drop (length ns) (filled ns)))
    (both_hold (nat_le (length ns) MOST_BILLS && rise_above 0 (take (length ns) (filled ns))) (list_all (λ x. nat_le x MOST_AMOUNT) (filled ns))
    (both_hold (nat_le (length ns) MOST_BILLS) (rise_above 0 (take (length ns) (filled ns))) few first) all) last

bills_good : (o : Option Data) → keeps are_bills_in o ≡ true
    → are_bills (length (value_or (take built_in_setup.bill_count built_in_setup.bills) numbers_in o)) (filled (value_or (take built_in_setup.bill_count built_in_setup.bills) numbers_in o)) ≡ true
bills_good None h = refl
bills_good (Some d) h =
    let ns = numbers_in d in
    let t = both (nat_le (length ns) MOST_BILLS && is_list_of (is_number 1 MOST_AMOUNT) d) (rise_above 0 ns) h in
    let u = both (nat_le (length ns) MOST_BILLS) (is_list_of (is_number 1 MOST_AMOUNT) d) t.0 in
    filled_good ns u.0 t.1 (list_within 1 MOST_AMOUNT d u.1)

pub bills_kept : (count : ℕ) (xs : List ℕ) (r o : Option Data) → r ≡ o → xs ≡ filled (value_or (take built_in_setup.bill_count built_in_setup.bills) numbers_in r)
    → count ≡ length (value_or (take built_in_setup.bill_count built_in_setup.bills) numbers_in r) → keeps are_bills_in o ≡ true → are_bills count xs ≡ true
bills_kept count xs r o found is many h =
    ap (λ (n : ℕ). are_bills n xs) many
    ∙ ap (are_bills (length (value_or (take built_in_setup.bill_count built_in_setup.bills) numbers_in r))) is
    ∙ bills_good r (ap (keeps are_bills_in) found ∙ h)

-- ================ rules in a row

abbrev AllKept : List (Bool × SetupFault) → Type 0
AllKept [] = Unit {0}
AllKept (r ∷ rs) = (r.0 ≡ true) × AllKept rs

first_kept : (b : Bool) (f : SetupFault) (o : Option SetupFault) → (if b then o else Some f) ≡ None → (b ≡ true) × (o ≡ None)
first_kept true f o h = (refl, h)
first_kept false f o h = absurd (cc h)

all_kept : (rs : List (Bool × SetupFault)) → first_broken rs ≡ None → AllKept rs
all_kept [] h = tt
all_kept (r ∷ rs) h = let t = first_kept r.0 r.1 (first_broken rs) h in (t.0, all_kept rs t.1)

pub kept_rules : (ms : Members) → first_broken (rows ms) ≡ None → KeepsRules ms
kept_rules ms h =
    let t = all_kept (rows ms) h in
    let payout = t.1.1.1.1.1.1.1 in
    let hopper = keeps (is_number 0 MOST_HOPPER_LIMIT) (at_key (codes "hopper_limit") ms) in
    let vouchers = keeps (is_number 1 MOST_AMOUNT) (at_key (codes "voucher_limit") ms) in
    let limits = both hopper vouchers payout.0 in
    let pays = keeps are_all_pays (in_table (codes "reels") (codes "pays") ms) in
    let prizes = keeps (are_credits 5) (in_table (codes "reels") (codes "prizes") ms) in
    let wins = both pays prizes payout.1.1.0 in
    record {
      key = t.0;
      denom = t.1.0;
      credit = t.1.1.0;
      handpay = t.1.1.1.0;
      gamble = t.1.1.1.1.0;
      bills = t.1.1.1.1.1.0;
      coin = t.1.1.1.1.1.1.0;
      hopper_limit = limits.0;
      voucher_limit = limits.1;
      strips = payout.1.0;
      pays = wins.0;
      prizes = wins.1;
      poker = payout.1.1.1.0;
    }
