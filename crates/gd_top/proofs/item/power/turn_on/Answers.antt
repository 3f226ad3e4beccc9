use Rattle.std.proofs.Common.{◌∙◌, sym, refl}
use Rattle.gd_top.specs.Code.Memory.{moment, moment_closed}
use Rattle.gd_top.specs.Run.State.{Off}
use Rattle.gd_top.proofs.ItemLemmas.TurningOn.{on_opened, on_stopped}
use Rattle.gd_top.proofs.item.power.turn_on.Goals as goal

pub returns-then-is_at_limit-clause-does : goal.returns-then-is_at_limit-clause-does
returns-then-is_at_limit-clause-does g c =
    on_stopped (moment_closed Off g.C.Core.meaning g.C.Core.view g.L.Disk.state g.W.Draws.block_of g.K.Sink.taken g.K.Sink.faults c.args.parts c.args.counts.now c.args.output.now)
    refl refl c.requires.sits (sym c.is_at_limit.ensures ∙ c.if-is_at_limit.true)

pub returns-else-is_at_limit-clause-does : goal.returns-else-is_at_limit-clause-does
returns-else-is_at_limit-clause-does g c =
    on_opened (moment_closed Off g.C.Core.meaning g.C.Core.view g.L.Disk.state g.W.Draws.block_of g.K.Sink.taken g.K.Sink.faults c.args.parts c.args.counts.now c.args.output.now)
    refl refl c.requires.sits
    (moment g.C.Core.meaning g.C.Core.view g.L.Disk.state g.W.Draws.block_of g.K.Sink.taken g.K.Sink.faults c.reopen.result.0 c.reopen.new.counts c.reopen.new.output)
    c.reopen.result.1 (sym c.is_at_limit.ensures ∙ c.if-is_at_limit.false) c.reopen.ensures.does
