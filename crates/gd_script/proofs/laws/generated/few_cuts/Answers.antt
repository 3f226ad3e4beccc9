use Rattle.std.proofs.Common.{◌≤◌, ℕ, subst, sym}
use Rattle.gd_script.proofs.GeneratedItems.{cuts_among, cuts_few}
use Rattle.gd_script.proofs.laws.generated.few_cuts.Goals as goal

pub returns : goal.returns
returns c = λ seed n few. subst (λ (cuts : ℕ). cuts ≤ 200) (sym (cuts_among seed n)) (cuts_few n few)
