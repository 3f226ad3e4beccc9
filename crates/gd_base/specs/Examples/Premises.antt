-- Worked rows of what is asked so that the next entry keeps all rules of a view, to be computed: with a wider id of a
-- voucher, or on another block, it breaks one.
use Rattle.std.specs.Prelude.{◌≡◌, ℕ, ◌-◌, ◌^◌, Bool, true, false, List, replicate}
use Rattle.gd_base.specs.declared.event.Event.{Event}
use Rattle.gd_base.specs.declared.game.Game.{Game}
use Rattle.gd_base.specs.Examples.Payloads.{empty}
use Rattle.gd_base.specs.Histories.View.{View}
use Rattle.gd_base.specs.Histories.ViewOf.{with_entry}
use Rattle.gd_base.specs.Judging.Legal.{next_entry}
use Rattle.gd_base.specs.Judging.Product.{machine}
use Rattle.gd_base.specs.Payloads.Spelled.{Unreadable}
use Rattle.gd_base.specs.Payloads.ViewRules.{is_possible}
use Rattle.gd_base.specs.Setups.BuiltIn.{built_in_setup}

-- the view after the entry that an event makes, where each block has these words
abbrev pub after_event : List ℕ → View → Event → View
after_event words v event =
    with_entry built_in_setup v (next_entry (machine built_in_setup (replicate 32 7) (λ payload. Unreadable)) (λ lap index. words) 0 v event)

-- whether it keeps the rules that no setup names
abbrev pub keeps : List ℕ → View → Event → Bool
keeps words v event = is_possible (after_event words v event)

abbrev pub zeros : List ℕ
zeros = replicate 16 0

-- five in credit
abbrev pub with_credit : View
with_credit = after_event zeros empty (Event.Bill 500)

pub record ArePremises : Type 0 where
  pub greatest_id : keeps zeros empty (Event.VoucherIn (2 ^ 64 - 1) 500) ≡ true
  pub wider_id : keeps zeros empty (Event.VoucherIn (2 ^ 64) 500) ≡ false
  pub sixteen_words : keeps zeros with_credit (Event.Play Game.Reels 1) ≡ true
  pub fifteen_words : keeps (replicate 15 0) with_credit (Event.Play Game.Reels 1) ≡ false
  pub wider_words : keeps (replicate 16 (2 ^ 64)) with_credit (Event.Play Game.Reels 1) ≡ false
