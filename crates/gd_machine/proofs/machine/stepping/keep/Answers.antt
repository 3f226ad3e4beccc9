use Rattle.std.proofs.Common.{◌∙◌, ap, ℕ, slice_set, Some}
use Rattle.gd_machine.proofs.Kept.{kept_set}
use Rattle.gd_machine.proofs.machine.stepping.keep.Goals as goal

pub returns : goal.returns
returns c =
    ap (λ (n : ℕ). slice_set c.args.kept.now n (c.args.number, Some c.args.reply)) c.place.ensures.value
    ∙ kept_set c.args.device c.args.reply c.args.kept.now c.args.number c.told-kept c.requires
