use Rattle.std.proofs.Common.{[], ◌∷◌}
use Rattle.gd_machine.specs.Words.{machine_view}
use Rattle.gd_machine.proofs.Refusals.{refused_still}
use Rattle.std.proofs.lemmas.Result.{err_from_is_err_and}
use Rattle.gd_base.specs.Judging.Rule.{while_locked, while_ordered}
use Rattle.gd_machine.proofs.machine.Machine.check_free.Goals as goal

pub returns-in_err-check_unlocked : goal.returns-in_err-check_unlocked
returns-in_err-check_unlocked c =
    let v = machine_view c.args.self.now in
    let t = err_from_is_err_and c.from_residual.result c.from_residual.ensures.1 in
    refused_still (while_locked v) (while_ordered v ∷ []) c.from_residual.result c.in_err-check_unlocked.field-0.0 t c.in_err-check_unlocked.ensures
