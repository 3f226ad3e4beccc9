use Rattle.std.proofs.Common.{ap, ◌∙◌, ◌++◌}
use borrow.Rule.Slice.PartMut.{mid_of}
use Rattle.gd_account.proofs.TotalsLemmas.{parted_whole}
use Rattle.gd_account.proofs.totals.parts_of.Goals as goal

pub returns : goal.returns
returns c =
    ap (λ ys. c.copy_from_slice.new.self ++ ys) c.copy_from_slice-2.ensures.after
    ∙ ap (λ xs. xs ++ mid_of 9 7 c.args.totals.now) c.copy_from_slice.ensures.after
    ∙ parted_whole c.args.totals.now c.told-totals
