-- Items of a list, and tests on them.
use Rattle.std.proofs.Common.{◌≡◌, ◌∙◌, ap, sym, refl, ℕ, suc, ◌==◌, nat_le, List, [], ◌∷◌, length, map, Bool, true, false, ◌&&◌, ◌||◌, if◌then◌else◌}
use Rattle.std.specs.List.{list_all}
use Rattle.toml.specs.Data.{Data, string, integer, float, boolean, datetime, array, table, Items, no_items, item}
use Rattle.toml.specs.View.{view, items_view}
use Rattle.toml.specs.declared.value.Value.{Value}
use Rattle.std.specs.Prelude.{pos, negsuc}
use Rattle.gd_base.proofs.BoolTests.{both}
use Rattle.gd_base.specs.Judging.Product.{both_hold}
use Rattle.gd_base.specs.declared.limits.TheConstants.{MOST_AMOUNT, MOST_BILLS}
use Rattle.gd_base.specs.Setups.SetupRules.{rise_above}
use Rattle.gd_games.specs.Kinds.{all_items, is_list_of}
use Rattle.gd_games.specs.Values.{are_bills_in, is_number, items_in, number_in, numbers_in}

pub items_pass : (test : Data → Bool) (vs : List Value) → list_all (λ v. test (view v)) vs ≡ all_items test (items_view vs)
items_pass test [] = refl
items_pass test (v ∷ vs) = ap (λ (b : Bool). test (view v) && b) (items_pass test vs)

-- ================ tests that fail before one that decides

pub past_two : (a b x : Bool) (y z : Bool) → a ≡ false → b ≡ false → x ≡ (if a || false then y else if b || false then z else x)
past_two true b x y z h i = absurd (cc h)
past_two false true x y z h i = absurd (cc i)
past_two false false x y z h i = refl

pub past_three : (a b c x : Bool) (y z w : Bool) → a ≡ false → b ≡ false → c ≡ false → x ≡ (if a then y else if b || false then z else if c || false then w else x)
past_three true b c x y z w h i j = absurd (cc h)
past_three false b c x y z w h i j = past_two b c x z w i j

-- ================ what items say

pub items_read : {A : Type 0} (read : Data → A) (vs : List Value) → items_in read (items_view vs) ≡ map (λ v. read (view v)) vs
items_read read [] = refl
items_read read (v ∷ vs) = ap (λ rest. read (view v) ∷ rest) (items_read read vs)

pub items_count : {A : Type 0} (read : Data → A) (vs : List Value) → length (items_in read (items_view vs)) ≡ length vs
items_count read [] = refl
items_count read (v ∷ vs) = ap suc (items_count read vs)

pub both_tests : (a b x : Bool) → a ≡ true → x ≡ b → x ≡ (a && b)
both_tests true b x h i = i
both_tests false b x h i = absurd (cc h)

-- a list of so many items, each of which passes
pub counted_pass : {A : Type 0} (read : Data → A) (test : Data → Bool) (count : ℕ) (vs : List Value)
    → ((length vs == count) && list_all (λ v. test (view v)) vs) ≡ ((length (items_in read (items_view vs)) == count) && all_items test (items_view vs))
counted_pass read test count vs =
    ap (λ (n : ℕ). (n == count) && list_all (λ v. test (view v)) vs) (sym (items_count read vs))
    ∙ ap (λ (b : Bool). (length (items_in read (items_view vs)) == count) && b) (items_pass test vs)

pub bills_pass : (vs : List Value)
    → (nat_le (length vs) MOST_BILLS && list_all (λ v. is_number 1 MOST_AMOUNT (view v)) vs && rise_above 0 (map (λ v. number_in (view v)) vs)) ≡ are_bills_in (array (items_view vs))
bills_pass vs =
    ap (λ (n : ℕ). nat_le n MOST_BILLS && list_all (λ v. is_number 1 MOST_AMOUNT (view v)) vs && rise_above 0 (map (λ v. number_in (view v)) vs)) (sym (items_count number_in vs))
    ∙ ap (λ (b : Bool). nat_le (length (items_in number_in (items_view vs))) MOST_BILLS && b && rise_above 0 (map (λ v. number_in (view v)) vs)) (items_pass (is_number 1 MOST_AMOUNT) vs)
    ∙ ap (λ (ns : List ℕ). nat_le (length (items_in number_in (items_view vs))) MOST_BILLS && all_items (is_number 1 MOST_AMOUNT) (items_view vs) && rise_above 0 ns) (sym (items_read number_in vs))

-- ================ numbers within limits

within : (low high : ℕ) (d : Data) → is_number low high d ≡ true → nat_le (number_in d) high ≡ true
within low high (integer (pos n)) h = (both (nat_le low n) (nat_le n high) h).1
within low high (integer (negsuc n)) h = absurd (cc h)
within low high (string s) h = absurd (cc h)
within low high (float x) h = absurd (cc h)
within low high (boolean b) h = absurd (cc h)
within low high (datetime t) h = absurd (cc h)
within low high (array ds) h = absurd (cc h)
within low high (table ms) h = absurd (cc h)

each_within : (low high : ℕ) (ds : Items) → all_items (is_number low high) ds ≡ true → list_all (λ n. nat_le n high) (items_in number_in ds) ≡ true
each_within low high no_items h = refl
each_within low high (item d ds) h =
    let t = both (is_number low high d) (all_items (is_number low high) ds) h in
    both_hold (nat_le (number_in d) high) (list_all (λ n. nat_le n high) (items_in number_in ds)) (within low high d t.0) (each_within low high ds t.1)

-- the numbers of a list within limits are within them
pub list_within : (low high : ℕ) (d : Data) → is_list_of (is_number low high) d ≡ true → list_all (λ n. nat_le n high) (numbers_in d) ≡ true
list_within low high (array ds) h = each_within low high ds h
list_within low high (integer z) h = absurd (cc h)
list_within low high (string s) h = absurd (cc h)
list_within low high (float x) h = absurd (cc h)
list_within low high (boolean b) h = absurd (cc h)
list_within low high (datetime t) h = absurd (cc h)
list_within low high (table ms) h = absurd (cc h)
