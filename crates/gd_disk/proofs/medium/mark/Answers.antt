use Rattle.std.proofs.Common.{◌≡◌, ◌∙◌, ◌+◌, ◌/◌, ⊎_elim, inl, inr, arith, sym}
use Rattle.std.proofs.lemmas.Bool.{cases_lt}
use Rattle.gd_disk.specs.declared.medium.TheConstants.{UNMARKED, FIRST_HALF, SECOND_HALF}
use Rattle.gd_disk.proofs.TornLemmas.{marked_halves}
use Rattle.gd_disk.proofs.medium.mark.Goals as goal

pub returns-clause-halves : goal.returns-clause-halves
returns-clause-halves c = marked_halves c.args.at c.args.n c.args.marks.now c.mark_span.new.marks c.mark_span-2.new.marks c.requires c.mark_span.auto.marks c.mark_span-2.auto.marks c.mark_span.ensures.elsewhere c.mark_span.ensures.marked c.mark_span-2.ensures.elsewhere c.mark_span-2.ensures.marked

first_is_none : FIRST_HALF ≡ UNMARKED → ⊥
first_is_none is = omega (arith, is)

second_is_none : SECOND_HALF ≡ UNMARKED → ⊥
second_is_none is = omega (arith, is)

pub returns-clause-marked : goal.returns-clause-marked
returns-clause-marked c = λ i low high none. ⊎_elim
    (λ lt. first_is_none (sym (c.mark_span-2.ensures.elsewhere i (inl lt) ∙ c.mark_span.ensures.marked i low lt) ∙ none))
    (λ le. second_is_none (sym (c.mark_span-2.ensures.marked i le high) ∙ none))
    (cases_lt i (c.args.at + c.args.n / 2))

pub returns-clause-elsewhere : goal.returns-clause-elsewhere
returns-clause-elsewhere c = λ i out.
    c.mark_span-2.ensures.elsewhere i (⊎_elim (λ before. inl (omega (arith, before))) (λ behind. inr behind) out)
    ∙ c.mark_span.ensures.elsewhere i (⊎_elim (λ before. inl before) (λ behind. inr (omega (arith, behind))) out)
