-- When each answer comes, exactly.
use Rattle.std.specs.Prelude.{◌≡◌, ◌≢◌, ◌↔◌, ℕ, ◌+◌, ◌<◌, ◌≤◌}
use Rattle.gd_base.specs.declared.limits.TheConstants.{MOST_ENTRIES}
use Rattle.gd_base.specs.declared.refusal.Reply.{Reply}
use Rattle.gd_base.specs.declared.step.Numbered.{Numbered}
use Rattle.gd_base.specs.declared.step.Stepped.{Stepped}
use Rattle.gd_base.specs.Judging.Answer.{answer, entry_of}
use Rattle.gd_base.specs.Histories.Entry.{device_of}
use Rattle.gd_base.specs.Judging.Legal.{IsNext}
use Rattle.gd_base.specs.Judging.Machine.{Machine, Blocks}

-- A new number is judged where the history has room. The last number, where it isn't 0, gets the kept reply. Each other
-- number is out of step. And a new event's entry is the next one of the history.
pub record TellsExactly {V : Type 0} (M : Machine V) (v : V) (e : Numbered) (last : ℕ) : Type 0 where
  pub new : (reply : Reply) → (answer M v e ≡ Stepped.New reply) ↔ ((e.number ≡ last + 1) × (M.count v < MOST_ENTRIES) × (M.rule v e.event ≡ reply))
  pub full : (answer M v e ≡ Stepped.HistoryFull) ↔ ((e.number ≡ last + 1) × (MOST_ENTRIES ≤ M.count v))
  pub again : (reply : Reply) → (answer M v e ≡ Stepped.Again reply) ↔ ((e.number ≡ last) × (1 ≤ last) × (M.kept v (device_of e.event) ≡ reply))
  pub out_of_step : (expected : ℕ) → (answer M v e ≡ Stepped.OutOfStep expected)
      ↔ ((e.number ≢ last + 1) × (e.number ≡ last → last ≡ 0) × (last + 1 ≡ expected))
  pub entry : (blocks : Blocks) (lap : ℕ) (reply : Reply) → answer M v e ≡ Stepped.New reply → IsNext M blocks lap v (entry_of M blocks lap v e)

-- by the last number of the event's device
abbrev pub AnswersExactly : {V : Type 0} → Machine V → V → Numbered → Type 0
AnswersExactly M v e = TellsExactly M v e (M.last v (device_of e.event))
