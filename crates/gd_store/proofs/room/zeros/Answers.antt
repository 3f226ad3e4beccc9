use Rattle.std.proofs.Common.{rules, ◌≡◌, ◌∙◌, sym, ap, ℕ, length, replicate}
use Rattle.std.proofs.lemmas.List.{length-replicate}
use Rattle.gd_store.specs.Zeros.{AreZeros}
use Rattle.gd_store.proofs.room.zeros.Goals as goal

pub returns-clause-zeros : goal.returns-clause-zeros
unfolding AreZeros
returns-clause-zeros c =
    let is : c.in_ok-vec.field-0.items ≡ replicate c.args.n 0 = search rules in
    is ∙ ap (λ (k : ℕ). replicate k 0) (sym (ap length is ∙ length-replicate c.args.n 0))
