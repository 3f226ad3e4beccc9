-- Which keys the file of a setup may have, and of which type the value at each is.
use Rattle.std.specs.Prelude.{Bool, true, false, ◌&&◌, if◌then◌else◌, ℕ, List, [], ◌∷◌, codes}
use Rattle.std.specs.List.{list_any}
use Rattle.std.specs.Str.{bytes_eq}
use Rattle.toml.specs.Data.{Data, string, integer, boolean, array, table, Items, no_items, item, Members, no_members, member}

-- ================ types

abbrev pub is_integer : Data → Bool
is_integer (integer z) = true
is_integer _ = false

abbrev pub is_boolean : Data → Bool
is_boolean (boolean b) = true
is_boolean _ = false

abbrev pub is_text : Data → Bool
is_text (string s) = true
is_text _ = false

abbrev pub all_items : (Data → Bool) → Items → Bool
all_items test no_items = true
all_items test (item d ds) = test d && all_items test ds

abbrev pub is_list_of : (Data → Bool) → Data → Bool
is_list_of test (array ds) = all_items test ds
is_list_of test _ = false

-- ================ keys

abbrev pub is_among : List ℕ → List (List ℕ) → Bool
is_among key names = list_any (λ name. bytes_eq key name) names

-- names of keys, each with the type of the value there
abbrev pub Kinds : Type 0
Kinds = List (List (List ℕ) × (Data → Bool))

-- a key has one of the names, and a value of its type
abbrev pub fits : Kinds → List ℕ → Data → Bool
fits [] key d = false
fits (k ∷ kinds) key d = if is_among key k.0 then k.1 d else fits kinds key d

abbrev pub all_fit : Kinds → Members → Bool
all_fit kinds no_members = true
all_fit kinds (member key d ms) = fits kinds key d && all_fit kinds ms

abbrev pub is_table_of : Kinds → Data → Bool
is_table_of kinds (table ms) = all_fit kinds ms
is_table_of kinds _ = false

-- ================ the keys of a setup

abbrev pub integers : Data → Bool
integers = is_list_of is_integer

-- the letters of the symbols that pay
abbrev pub symbol_keys : List (List ℕ)
symbol_keys = codes "W" ∷ codes "A" ∷ codes "B" ∷ codes "C" ∷ codes "D" ∷ codes "E" ∷ codes "F" ∷ []

abbrev pub pays_kinds : Kinds
pays_kinds = (symbol_keys, integers) ∷ []

-- what the reels pay
abbrev pub wins_kinds : Kinds
wins_kinds = (codes "pays" ∷ [], is_table_of pays_kinds) ∷ (codes "prizes" ∷ [], integers) ∷ []

abbrev pub reels_kinds : Kinds
reels_kinds = (codes "enabled" ∷ [], is_boolean) ∷ (codes "strips" ∷ [], is_list_of is_text) ∷ wins_kinds

abbrev pub poker_kinds : Kinds
poker_kinds = (codes "enabled" ∷ [], is_boolean) ∷ (codes "pays" ∷ [], integers) ∷ []

abbrev pub games_kinds : Kinds
games_kinds = (codes "reels" ∷ [], is_table_of reels_kinds) ∷ (codes "poker" ∷ [], is_table_of poker_kinds) ∷ []

abbrev pub payout_keys : List (List ℕ)
payout_keys = codes "hopper_limit" ∷ codes "voucher_limit" ∷ []

abbrev pub limit_keys : List (List ℕ)
limit_keys = codes "credit_limit" ∷ codes "handpay_limit" ∷ codes "gamble_limit" ∷ payout_keys

abbrev pub amount_keys : List (List ℕ)
amount_keys = codes "denom" ∷ codes "coin" ∷ limit_keys

abbrev pub setup_kinds : Kinds
setup_kinds = (amount_keys, is_integer) ∷ (codes "bills" ∷ [], integers) ∷ (codes "hopper" ∷ [], is_boolean) ∷ games_kinds
