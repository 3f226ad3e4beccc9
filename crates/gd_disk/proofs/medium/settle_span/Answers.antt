use Rattle.std.proofs.Common.{◌∙◌, ⊎_elim, sym}
use Rattle.gd_disk.proofs.Lab.{copied, in_span}
use Rattle.gd_disk.proofs.TornLemmas.{no_marks}
use Rattle.gd_disk.proofs.medium.settle_span.Goals as goal

pub returns-clause-durable : goal.returns-clause-durable
returns-clause-durable c = c.put.ensures ∙ copied c.args.low c.args.high c.args.durable.now c.args.current.now c.args.marks.now c.requires.marked c.requires.span

pub returns-clause-marks : goal.returns-clause-marks
returns-clause-marks c = no_marks _ c.mark_span.new.marks (c.mark_span.auto.marks ∙ c.requires.marked.marks_length ∙ sym c.requires.marked.can.same_length)
    (λ i. ⊎_elim (λ out. c.mark_span.ensures.elsewhere i out ∙ c.requires.span.elsewhere i out) (λ within. c.mark_span.ensures.marked i within.0 within.1) (in_span c.args.low c.args.high i))
