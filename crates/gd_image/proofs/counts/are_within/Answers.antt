use Rattle.std.proofs.Common.{◌∙◌, ap, List, ℕ, nat_le}
use Rattle.std.specs.List.{list_all}
use Rattle.gd_image.proofs.Testing.{last_seven}
use Rattle.gd_image.proofs.counts.are_within.Goals as goal

pub returns : goal.returns
returns c = c.are_at_most.ensures ∙ ap (λ (xs : List ℕ). list_all (λ n. nat_le n c.args.count) xs) (last_seven c.args.totals.now c.told-totals)
