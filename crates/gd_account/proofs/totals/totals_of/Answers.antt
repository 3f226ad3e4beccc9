use Rattle.std.proofs.Common.{ap, refl, ◌∙◌, ◌++◌}
use Rattle.gd_account.proofs.TotalsLemmas.{joined_parts}
use Rattle.gd_account.proofs.totals.totals_of.Goals as goal

pub returns : goal.returns
returns c =
    joined_parts c.copy_from_slice.new.self _ c.copy_from_slice-2.new.self c.copy_from_slice.ensures.len refl
    ∙ ap (λ xs. xs ++ c.copy_from_slice-2.new.self) c.copy_from_slice.ensures.after
    ∙ ap (λ ys. c.args.amounts.now ++ ys) c.copy_from_slice-2.ensures.after
