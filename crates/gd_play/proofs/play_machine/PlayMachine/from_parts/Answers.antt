use Rattle.std.proofs.Common.{ap, ◌∙◌}
use Rattle.gd_base.specs.declared.play.StageOpen.{StageOpen}
use Rattle.gd_play.proofs.Held.{kept_parts}
use Rattle.gd_play.specs.Rules.{are_kept}
use Rattle.gd_play.proofs.play_machine.PlayMachine.from_parts.Goals as goal

pub invariant_of-result : goal.invariant_of-result
invariant_of-result g c =
    let setup = g.P.Paytable.setup c.args.table in
    record {
      kept = ap (λ (s : StageOpen). are_kept setup c.args.open_play s) c.open_phase-phase.ensures
          ∙ kept_parts setup c.args.open_play c.requires.rules;
    }
