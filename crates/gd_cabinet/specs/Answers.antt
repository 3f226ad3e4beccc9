-- What is answered to an event that is offered, what it leaves, and how many syncs that takes.
use Rattle.std.specs.Prelude.{ℕ, Bool, true, false}
use Rattle.gd_base.specs.Judging.Answer.{answer, after_answer, is_new}
use Rattle.gd_base.specs.Judging.Legal.{draw_of}
use Rattle.gd_base.specs.Judging.Machine.{Machine, Blocks}
use Rattle.gd_base.specs.declared.step.Numbered.{Numbered}
use Rattle.gd_base.specs.declared.step.Stepped.{Stepped}
use Rattle.gd_cabinet.specs.declared.submitting.Answer.{Answer}

-- what a cabinet answers, with the count after it
abbrev pub cabinet_answer : Stepped → ℕ → Answer
cabinet_answer (Stepped.New reply) count = Answer.Ack reply false count
cabinet_answer (Stepped.Again reply) count = Answer.Ack reply true count
cabinet_answer (Stepped.OutOfStep expected) count = Answer.OutOfStep expected
cabinet_answer Stepped.HistoryFull count = Answer.HistoryFull

-- the view after an event was offered: with its entry, on its one block, where it is new
abbrev pub view_offered : {V : Type 0} → Machine V → Blocks → ℕ → V → Numbered → V
view_offered M blocks lap v e = after_answer M v e (draw_of M blocks lap v e.event) (answer M v e)

-- how many syncs an event makes, by whether it is new
abbrev pub syncs_of : Bool → ℕ
syncs_of true = 6
syncs_of false = 0

-- how many an event makes that is offered
abbrev pub event_syncs : {V : Type 0} → Machine V → V → Numbered → ℕ
event_syncs M v e = syncs_of (is_new (answer M v e))
