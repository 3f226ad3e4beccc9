use Rattle.std.proofs.Common.{◌∙◌, ap, ℕ, None}
use Rattle.std.specs.List.{slice_index_or}
use Rattle.gd_base.specs.Histories.Numbers.{device_place}
use Rattle.gd_machine.proofs.Kept.{kept_is}
use Rattle.gd_machine.proofs.machine.Machine.kept.Goals as goal

pub returns : goal.returns
returns c = ap (λ (n : ℕ). slice_index_or c.args.self.now.kept n (0, None)) c.place.ensures.value ∙ kept_is c.args.self.now.kept (device_place c.args.device)
