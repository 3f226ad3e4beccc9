-- What the file of a setup says: the setup of its keys, or the first rule that it breaks.
use Rattle.std.specs.Prelude.{◌≡◌, ℕ, ◌-◌, Bool, IsTrue, ◌&&◌, nat_le, if◌then◌else◌, List, [], ◌∷◌, ◌++◌, length, take, replicate, codes, Option, Some, None, option_and_then}
use Rattle.std.specs.Str.{is_utf8}
use Rattle.toml.specs.Data.{Data, Members, get_member, as_table}
use Rattle.toml.specs.Parse.{parse_document}
use Rattle.gd_base.specs.declared.limits.TheConstants.{MOST_AMOUNT, MOST_BILLS, MOST_COIN, MOST_DENOM, MOST_GAMBLE_LIMIT, MOST_HOPPER_LIMIT}
use Rattle.gd_base.specs.declared.setup.Setup.{Setup}
use Rattle.gd_base.specs.Setups.BuiltIn.{built_in_setup}
use Rattle.gd_games.specs.declared.fault.SetupFault.{SetupFault}
use Rattle.gd_games.specs.declared.limits.TheConstants.{MOST_FILE_LEN}
use Rattle.gd_games.specs.Kinds.{all_fit, setup_kinds}
use Rattle.gd_games.specs.Values.{are_all_pays, are_bills_in, are_credits, are_five_strips, flag_in, is_number, keeps, number_in, numbers_in, pays_in, texts_in, value_or}

-- ================ the places of values

abbrev pub at_key : List ℕ → Members → Option Data
at_key key ms = get_member key ms

-- in a table that stands at a key
abbrev pub in_table : List ℕ → List ℕ → Members → Option Data
in_table name key ms = option_and_then (λ inner. get_member key inner) (option_and_then as_table (get_member name ms))

-- ================ rules

-- the rules in their order, each with its name
abbrev pub rows : Members → List (Bool × SetupFault)
rows ms =
    (all_fit setup_kinds ms, SetupFault.Key)
    ∷ (keeps (is_number 1 MOST_DENOM) (at_key (codes "denom") ms), SetupFault.Denom)
    ∷ (keeps (is_number 1 MOST_AMOUNT) (at_key (codes "credit_limit") ms), SetupFault.Credit)
    ∷ (keeps (is_number 1 MOST_AMOUNT) (at_key (codes "handpay_limit") ms), SetupFault.Handpay)
    ∷ (keeps (is_number 0 MOST_GAMBLE_LIMIT) (at_key (codes "gamble_limit") ms), SetupFault.Gamble)
    ∷ (keeps are_bills_in (at_key (codes "bills") ms), SetupFault.Bills)
    ∷ (keeps (is_number 1 MOST_COIN) (at_key (codes "coin") ms), SetupFault.Coin)
    ∷ (keeps (is_number 0 MOST_HOPPER_LIMIT) (at_key (codes "hopper_limit") ms) && keeps (is_number 1 MOST_AMOUNT) (at_key (codes "voucher_limit") ms), SetupFault.Payout)
    ∷ (keeps are_five_strips (in_table (codes "reels") (codes "strips") ms), SetupFault.Strips)
    ∷ (keeps are_all_pays (in_table (codes "reels") (codes "pays") ms) && keeps (are_credits 5) (in_table (codes "reels") (codes "prizes") ms), SetupFault.Reels)
    ∷ (keeps (are_credits 9) (in_table (codes "poker") (codes "pays") ms), SetupFault.Poker)
    ∷ []

abbrev pub first_broken : List (Bool × SetupFault) → Option SetupFault
first_broken [] = None
first_broken (r ∷ rs) = if r.0 then first_broken rs else Some r.1

-- each rule is kept
pub record KeepsRules (ms : Members) : Type 0 where
  pub key : IsTrue (all_fit setup_kinds ms)
  pub denom : IsTrue (keeps (is_number 1 MOST_DENOM) (at_key (codes "denom") ms))
  pub credit : IsTrue (keeps (is_number 1 MOST_AMOUNT) (at_key (codes "credit_limit") ms))
  pub handpay : IsTrue (keeps (is_number 1 MOST_AMOUNT) (at_key (codes "handpay_limit") ms))
  pub gamble : IsTrue (keeps (is_number 0 MOST_GAMBLE_LIMIT) (at_key (codes "gamble_limit") ms))
  pub bills : IsTrue (keeps are_bills_in (at_key (codes "bills") ms))
  pub coin : IsTrue (keeps (is_number 1 MOST_COIN) (at_key (codes "coin") ms))
  pub hopper_limit : IsTrue (keeps (is_number 0 MOST_HOPPER_LIMIT) (at_key (codes "hopper_limit") ms))
  pub voucher_limit : IsTrue (keeps (is_number 1 MOST_AMOUNT) (at_key (codes "voucher_limit") ms))
  pub strips : IsTrue (keeps are_five_strips (in_table (codes "reels") (codes "strips") ms))
  pub pays : IsTrue (keeps are_all_pays (in_table (codes "reels") (codes "pays") ms))
  pub prizes : IsTrue (keeps (are_credits 5) (in_table (codes "reels") (codes "prizes") ms))
  pub poker : IsTrue (keeps (are_credits 9) (in_table (codes "poker") (codes "pays") ms))

-- ================ the setup

-- the bills that are written, or the built-in ones
abbrev pub bills_of : Members → List ℕ
bills_of ms = value_or (take built_in_setup.bill_count built_in_setup.bills) numbers_in (at_key (codes "bills") ms)

-- bills, and zeros in the places behind them
abbrev pub filled : List ℕ → List ℕ
filled bills = bills ++ replicate (MOST_BILLS - length bills) 0

-- each field is the value at its key, or the built-in one
pub record HasValues (ms : Members) (s : Setup) : Type 0 where
  pub denom : s.denom ≡ value_or built_in_setup.denom number_in (at_key (codes "denom") ms)
  pub credit_limit : s.credit_limit ≡ value_or built_in_setup.credit_limit number_in (at_key (codes "credit_limit") ms)
  pub handpay_limit : s.handpay_limit ≡ value_or built_in_setup.handpay_limit number_in (at_key (codes "handpay_limit") ms)
  pub gamble_limit : s.gamble_limit ≡ value_or built_in_setup.gamble_limit number_in (at_key (codes "gamble_limit") ms)
  pub bills : s.bills ≡ filled (bills_of ms)
  pub bill_count : s.bill_count ≡ length (bills_of ms)
  pub coin : s.coin ≡ value_or built_in_setup.coin number_in (at_key (codes "coin") ms)
  pub hopper : s.hopper ≡ value_or built_in_setup.hopper flag_in (at_key (codes "hopper") ms)
  pub hopper_limit : s.hopper_limit ≡ value_or built_in_setup.hopper_limit number_in (at_key (codes "hopper_limit") ms)
  pub voucher_limit : s.voucher_limit ≡ value_or built_in_setup.voucher_limit number_in (at_key (codes "voucher_limit") ms)
  pub reels_enabled : s.reels_enabled ≡ value_or built_in_setup.reels_enabled flag_in (in_table (codes "reels") (codes "enabled") ms)
  pub strips : s.strips ≡ value_or built_in_setup.strips texts_in (in_table (codes "reels") (codes "strips") ms)
  pub reel_pays : s.reel_pays ≡ value_or built_in_setup.reel_pays pays_in (in_table (codes "reels") (codes "pays") ms)
  pub prizes : s.prizes ≡ value_or built_in_setup.prizes numbers_in (in_table (codes "reels") (codes "prizes") ms)
  pub poker_enabled : s.poker_enabled ≡ value_or built_in_setup.poker_enabled flag_in (in_table (codes "poker") (codes "enabled") ms)
  pub poker_pays : s.poker_pays ≡ value_or built_in_setup.poker_pays numbers_in (in_table (codes "poker") (codes "pays") ms)

-- ================ the file

-- the table that the bytes write, where they are few enough, UTF-8 and TOML
unfoldable pub document : List ℕ → Option Members
document text = if nat_le (length text) MOST_FILE_LEN && is_utf8 text then parse_document text else None

abbrev pub fault_in : Option Members → Option SetupFault
fault_in None = Some SetupFault.Text
fault_in (Some ms) = first_broken (rows ms)

-- the first rule that a file breaks
abbrev pub setup_fault : List ℕ → Option SetupFault
setup_fault text = fault_in (document text)

-- a file that breaks no rule, and the setup that it says
pub record IsSetupOf (text : List ℕ) (s : Setup) : Type 0 where
  pub members : Members
  pub is : document text ≡ Some members
  pub unbroken : setup_fault text ≡ None
  pub values : HasValues members s

-- ================ names

-- a rule's name in a report
abbrev pub fault_name : SetupFault → List ℕ
fault_name SetupFault.Text = codes "text"
fault_name SetupFault.Key = codes "key"
fault_name SetupFault.Denom = codes "denom"
fault_name SetupFault.Credit = codes "credit"
fault_name SetupFault.Handpay = codes "handpay"
fault_name SetupFault.Gamble = codes "gamble"
fault_name SetupFault.Bills = codes "bills"
fault_name SetupFault.Coin = codes "coin"
fault_name SetupFault.Payout = codes "payout"
fault_name SetupFault.Strips = codes "strips"
fault_name SetupFault.Reels = codes "reels"
fault_name SetupFault.Poker = codes "poker"
