-- What is printed of an answer.
use Rattle.std.specs.Prelude.{ℕ, List, codes}
use Rattle.gd_base.specs.declared.step.Numbered.{Numbered}
use Rattle.gd_base.specs.declared.step.Stepped.{Stepped}
use Rattle.gd_base.specs.Histories.Entry.{device_of}
use Rattle.gd_top.specs.Report.Lines.{answer_line, step_line, full_line}

-- the line of an answer, with the count of entries after it
abbrev pub answer_text : Numbered → Stepped → ℕ → List ℕ
answer_text e (Stepped.New reply) n = answer_line (codes "ack") (device_of e.event) e.number reply n
answer_text e (Stepped.Again reply) n = answer_line (codes "again") (device_of e.event) e.number reply n
answer_text e (Stepped.OutOfStep expected) n = step_line (device_of e.event) expected
answer_text e Stepped.HistoryFull n = full_line (device_of e.event)
