use Rattle.std.proofs.Common.{◌∙◌, ap, [], ◌∷◌, Err}
use Rattle.std.specs.Prelude.{drop}
use Rattle.std.proofs.lemmas.Result.{err_from_is_err_and}
use Rattle.gd_base.specs.Judging.Rule.{while_locked, while_ordered}
use Rattle.gd_machine.specs.Words.{machine_view}
use Rattle.gd_machine.proofs.PlaysBegun.{first_five, refused_first}
use Rattle.gd_machine.proofs.machine.Machine.check_new_play.Goals as goal

pub returns-in_err-check_free : goal.returns-in_err-check_free
returns-in_err-check_free c =
    let m = c.args.self.now in
    let v = machine_view m in
    let p = err_from_is_err_and c.from_residual.result c.from_residual.ensures.1 in
    p.1 ∙ ap Err p.2
    ∙ refused_first (while_locked v ∷ while_ordered v ∷ []) (drop 2 (first_five m.setup v c.args.game c.args.bet)) c.in_err-check_free.field-0.0 c.in_err-check_free.ensures
