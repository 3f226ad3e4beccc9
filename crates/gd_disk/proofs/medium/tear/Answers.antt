use Rattle.std.proofs.Common.{ℕ, List, ⊎_elim, inl, inr, arith, sym, subst}
use Rattle.gd_disk.specs.Image.{CanBe}
use Rattle.gd_disk.proofs.TornLemmas.{torn_whole, torn_can_be}
use Rattle.gd_disk.proofs.medium.tear.Goals as goal

pub returns-clause-torn : goal.returns-clause-torn
returns-clause-torn c = torn_whole c.args.torn c.args.low c.args.high c.args.durable.now c.args.current.now c.args.marks.now c.loop-i.current c.requires.marked c.requires.span c.loop-i.auto.current
    (λ k low high. c.loop-i.invariant.torn k low (omega arith))
    (λ k out. c.loop-i.invariant.rest k (⊎_elim (λ before. inl before) (λ behind. inr (omega (arith, behind, c.loop-i.auto.i-end, c.requires.span.ordered))) out))

pub returns-clause-could_be : goal.returns-clause-could_be
returns-clause-could_be c = subst (λ (image : List ℕ). CanBe c.args.marks.now c.args.durable.now image) (sym (returns-clause-torn c)) (torn_can_be c.args.torn c.args.durable.now c.args.current.now c.args.marks.now c.requires.marked)
