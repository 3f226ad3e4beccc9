-- Worked rows of a full history, to be computed: it is a view that a payload spells, and what it answers.
use Rattle.std.specs.Prelude.{◌≡◌, ℕ, ◌+◌, ◌^◌, IsTrue, ◌∷◌, replicate, Some}
use Rattle.gd_base.specs.declared.event.Event.{Event}
use Rattle.gd_base.specs.declared.refusal.Reply.{Reply}
use Rattle.gd_base.specs.declared.step.Numbered.{Numbered}
use Rattle.gd_base.specs.declared.step.Stepped.{Stepped}
use Rattle.gd_base.specs.Judging.Answer.{answer}
use Rattle.gd_base.specs.Setups.BuiltIn.{built_in_setup}
use Rattle.gd_base.specs.Payloads.Spelled.{Unreadable}
use Rattle.gd_base.specs.Payloads.ViewRules.{is_possible, is_possible_under}
use Rattle.gd_base.specs.Judging.Product.{machine}
use Rattle.gd_base.specs.Histories.View.{View}
use Rattle.gd_base.specs.Histories.ViewOf.{empty_view, nothing_kept}

-- 2^36 entries, all of the bill validator, the last of them taken
abbrev pub full : View
full = record (empty_view (replicate 32 7)) { count = 2 ^ 36; kept = (2 ^ 36, Some Reply.Taken) ∷ replicate 8 nothing_kept }

-- what a bill under a number is answered
abbrev pub answered : ℕ → Stepped
answered number =
    let e : Numbered = record { number = number; event = Event.Bill 500 } in
    answer (machine built_in_setup (replicate 32 7) (λ payload. Unreadable)) full e

pub record FullHistory : Type 0 where
  pub possible : IsTrue (is_possible full)
  pub possible_under : IsTrue (is_possible_under built_in_setup full)
  pub next : answered (2 ^ 36 + 1) ≡ Stepped.HistoryFull
  pub last : answered (2 ^ 36) ≡ Stepped.Again Reply.Taken
  pub other : answered 7 ≡ Stepped.OutOfStep (2 ^ 36 + 1)
