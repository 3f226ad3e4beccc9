-- Worked rows of payloads, to be computed: their length, and views that keep the rules of a view.
use Rattle.std.specs.Prelude.{◌≡◌, IsTrue, length, replicate}
use Rattle.gd_base.specs.declared.layout.TheConstants.{PAYLOAD_LEN}
use Rattle.gd_base.specs.declared.setup.Setup.{Setup}
use Rattle.gd_base.specs.Setups.BuiltIn.{built_in_setup}
use Rattle.gd_base.specs.Examples.Histories.{evening, gambles, open_pick}
use Rattle.gd_base.specs.Payloads.Bytes.{payload_of, head_bytes}
use Rattle.gd_base.specs.Payloads.ViewRules.{is_possible, is_possible_under}
use Rattle.gd_base.specs.Histories.View.{View}
use Rattle.gd_base.specs.Histories.ViewOf.{empty_view}

-- the empty view under some digest
abbrev pub empty : View
empty = empty_view (replicate 32 7)

-- a view under some digest
abbrev pub with_digest : View → View
with_digest v = record v { digest = replicate 32 7 }

-- a head has 324 bytes, and a payload those of `PAYLOAD_LEN`
pub record Lengths : Type 0 where
  pub head : length (head_bytes empty) ≡ 324
  pub of_empty : length (payload_of empty) ≡ PAYLOAD_LEN
  pub of_evening : length (payload_of (with_digest evening)) ≡ PAYLOAD_LEN

-- the rules of a view hold of the empty view under each setup, and of the views of the rows
pub record ArePossible : Type 0 where
  pub of_empty : IsTrue (is_possible empty)
  pub of_empty_under : (setup : Setup) → IsTrue (is_possible_under setup empty)
  pub of_pick : IsTrue (is_possible (with_digest open_pick))
  pub of_pick_under : IsTrue (is_possible_under built_in_setup open_pick)
  pub of_gambles : IsTrue (is_possible (with_digest gambles))
  pub of_gambles_under : IsTrue (is_possible_under built_in_setup gambles)
  pub of_evening : IsTrue (is_possible (with_digest evening))
  pub of_evening_under : IsTrue (is_possible_under built_in_setup evening)
