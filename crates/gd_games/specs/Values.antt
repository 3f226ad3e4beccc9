-- What a value of a setup's file says, and the rule that it keeps.
use Rattle.std.specs.Prelude.{ℕ, ℤ, pos, negsuc, Bool, true, false, ◌&&◌, ◌==◌, nat_le, List, [], ◌∷◌, length, map, Option, Some, None}
use Rattle.std.specs.List.{list_all}
use Rattle.toml.specs.Data.{Data, string, integer, boolean, array, table, Items, no_items, item, Members, no_members, get_member}
use Rattle.gd_base.specs.declared.limits.TheConstants.{MOST_AMOUNT, MOST_BILLS, MOST_PAY}
use Rattle.gd_base.specs.Setups.SetupRules.{is_letter, rise_above}
use Rattle.gd_games.specs.Kinds.{is_list_of, symbol_keys}

-- ================ what is said

-- a number from 0 on
abbrev pub natural : ℤ → ℕ
natural (pos n) = n
natural (negsuc n) = 0

-- the number, flag or text of a value of that type
abbrev pub number_in : Data → ℕ
number_in (integer z) = natural z
number_in _ = 0

abbrev pub flag_in : Data → Bool
flag_in (boolean b) = b
flag_in _ = false

abbrev pub text_in : Data → List ℕ
text_in (string s) = s
text_in _ = []

abbrev pub items_in : {A : Type 0} → (Data → A) → Items → List A
items_in read no_items = []
items_in read (item d ds) = read d ∷ items_in read ds

abbrev pub list_in : {A : Type 0} → (Data → A) → Data → List A
list_in read (array ds) = items_in read ds
list_in read _ = []

abbrev pub numbers_in : Data → List ℕ
numbers_in d = list_in number_in d

abbrev pub texts_in : Data → List (List ℕ)
texts_in d = list_in text_in d

abbrev pub members_in : Data → Members
members_in (table ms) = ms
members_in _ = no_members

-- the value at a key, or the built-in one where the key is left out
abbrev pub value_or : {A : Type 0} → A → (Data → A) → Option Data → A
value_or built_in read None = built_in
value_or built_in read (Some d) = read d

-- what each symbol pays
abbrev pub pays_in : Data → List (List ℕ)
pays_in d = map (λ key. value_or [] numbers_in (get_member key (members_in d))) symbol_keys

-- ================ rules

-- a key that is left out breaks no rule
abbrev pub keeps : (Data → Bool) → Option Data → Bool
keeps rule None = true
keeps rule (Some d) = rule d

abbrev pub is_within : ℕ → ℕ → ℤ → Bool
is_within low high (pos n) = nat_le low n && nat_le n high
is_within low high (negsuc n) = false

abbrev pub is_number : ℕ → ℕ → Data → Bool
is_number low high (integer z) = is_within low high z
is_number low high _ = false

-- so many numbers from 0 to 5,000
abbrev pub are_credits : ℕ → Data → Bool
are_credits count d = (length (numbers_in d) == count) && is_list_of (is_number 0 MOST_PAY) d

abbrev pub are_bills_in : Data → Bool
are_bills_in d = nat_le (length (numbers_in d)) MOST_BILLS && is_list_of (is_number 1 MOST_AMOUNT) d && rise_above 0 (numbers_in d)

abbrev pub is_strip : Data → Bool
is_strip d = (length (text_in d) == 32) && list_all is_letter (text_in d)

abbrev pub are_five_strips : Data → Bool
are_five_strips d = (length (texts_in d) == 5) && is_list_of is_strip d

-- three pays, which may not be left out
abbrev pub has_pays : Option Data → Bool
has_pays None = false
has_pays (Some d) = are_credits 3 d

abbrev pub are_all_pays : Data → Bool
are_all_pays d = list_all (λ key. has_pays (get_member key (members_in d))) symbol_keys
