use Rattle.std.proofs.Common.{◌≡◌, ◌∙◌, ap, sym, subst, refl, ℕ, arith, Result}
use Rattle.gd_top.specs.Code.LinesDone.{made_outside}
use Rattle.gd_top.specs.Code.Memory.{FitsDown, Leaves, moment, moment_closed, outside}
use Rattle.gd_top.specs.Code.Standing.{first_standing}
use Rattle.gd_top.specs.Run.State.{Nothing, Off}
use Rattle.gd_top.proofs.LineLemmas.Steps.{leaves_then, went_on}
use Rattle.gd_top.proofs.TrialLemmas.FromMaking.{first_fits, made_down, made_leaves, run_ends, run_goes, unmade_done, unmade_leaves}
use Rattle.gd_top.proofs.command.trial.carry_script.Goals as goal

pub returns-then-is_err-clause-done : goal.returns-then-is_err-clause-done
returns-then-is_err-clause-done g c =
    let was = moment_closed Off g.C.Core.meaning g.C.Core.view g.L.Disk.state g.W.Draws.block_of g.K.Sink.taken g.K.Sink.faults c.args.parts c.args.counts.now c.args.output.now in
    let made = moment_closed Off g.C.Core.meaning g.C.Core.view g.L.Disk.state g.W.Draws.block_of g.K.Sink.taken g.K.Sink.faults c.in-Ok.made c.args.counts.now c.args.output.now in
    let machine = ap g.C.Core.meaning c.in-Ok.ensures.core in
    let blocks = λ (lap index : ℕ). ap (λ w. g.W.Draws.block_of w lap index) c.in-Ok.ensures.draws in
    let h = c.in-Ok.ensures.made in
    let is : outside made ≡ made_outside was = λ i. record { found = (h.made.found ∙ c.requires.found) i; taken = was.taken; falls = c.requires.fresh.falls i; syncs = h.made.run.made i } in
    let fits : FitsDown Nothing (first_standing made.machine) made = first_fits was made c.requires.armed machine c.requires.fresh h refl c.requires.empty in
    let mid = moment g.C.Core.meaning g.C.Core.view g.L.Disk.state g.W.Draws.block_of g.K.Sink.taken g.K.Sink.faults c.reopen-memory.result.0 c.reopen-memory.new.counts c.reopen-memory.new.output in
    run_ends was made machine blocks is fits (g.S.Source.left c.args.input.now) (g.S.Source.left c.args.input.now) c.reopen-memory.result.1 mid c.reopen-memory.ensures.does (sym c.is_err.ensures.value ∙ c.if-is_err.true)

pub returns-else-is_err-clause-done : goal.returns-else-is_err-clause-done
returns-else-is_err-clause-done g c =
    let was = moment_closed Off g.C.Core.meaning g.C.Core.view g.L.Disk.state g.W.Draws.block_of g.K.Sink.taken g.K.Sink.faults c.args.parts c.args.counts.now c.args.output.now in
    let made = moment_closed Off g.C.Core.meaning g.C.Core.view g.L.Disk.state g.W.Draws.block_of g.K.Sink.taken g.K.Sink.faults c.in-Ok.made c.args.counts.now c.args.output.now in
    let machine = ap g.C.Core.meaning c.in-Ok.ensures.core in
    let blocks = λ (lap index : ℕ). ap (λ w. g.W.Draws.block_of w lap index) c.in-Ok.ensures.draws in
    let h = c.in-Ok.ensures.made in
    let is : outside made ≡ made_outside was = λ i. record { found = (h.made.found ∙ c.requires.found) i; taken = was.taken; falls = c.requires.fresh.falls i; syncs = h.made.run.made i } in
    let fits : FitsDown Nothing (first_standing made.machine) made = first_fits was made c.requires.armed machine c.requires.fresh h refl c.requires.empty in
    let mid = moment g.C.Core.meaning g.C.Core.view g.L.Disk.state g.W.Draws.block_of g.K.Sink.taken g.K.Sink.faults c.reopen-memory.result.0 c.reopen-memory.new.counts c.reopen-memory.new.output in
    let now = moment g.C.Core.meaning g.C.Core.view g.L.Disk.state g.W.Draws.block_of g.K.Sink.taken g.K.Sink.faults c.carry_lines.result.0 c.carry_lines.new.counts c.carry_lines.new.output in
    let went = went_on c.reopen-memory.result.1 (sym c.is_err.ensures.value ∙ c.if-is_err.false) in
    run_goes was made machine blocks is fits (g.S.Source.left c.args.input.now) (g.S.Source.left c.carry_lines.new.input) c.reopen-memory.result.1 c.carry_lines.result.1 mid now c.reopen-memory.ensures.does went
    c.carry_lines.ensures.done

pub returns-then-is_err-clause-leaves : goal.returns-then-is_err-clause-leaves
returns-then-is_err-clause-leaves g c =
    let was = moment_closed Off g.C.Core.meaning g.C.Core.view g.L.Disk.state g.W.Draws.block_of g.K.Sink.taken g.K.Sink.faults c.args.parts c.args.counts.now c.args.output.now in
    let made = moment_closed Off g.C.Core.meaning g.C.Core.view g.L.Disk.state g.W.Draws.block_of g.K.Sink.taken g.K.Sink.faults c.in-Ok.made c.args.counts.now c.args.output.now in
    let machine = ap g.C.Core.meaning c.in-Ok.ensures.core in
    let blocks = λ (lap index : ℕ). ap (λ w. g.W.Draws.block_of w lap index) c.in-Ok.ensures.draws in
    let h = c.in-Ok.ensures.made in
    let mid = moment g.C.Core.meaning g.C.Core.view g.L.Disk.state g.W.Draws.block_of g.K.Sink.taken g.K.Sink.faults c.reopen-memory.result.0 c.reopen-memory.new.counts c.reopen-memory.new.output in
    let left = made_leaves was made c.requires.armed machine c.requires.fresh h blocks c.requires.tells c.requires.given refl refl refl in
    leaves_then was made mid c.reopen-memory.result.1 left c.reopen-memory.ensures.does.leaves

pub returns-else-is_err-clause-leaves : goal.returns-else-is_err-clause-leaves
returns-else-is_err-clause-leaves g c =
    let was = moment_closed Off g.C.Core.meaning g.C.Core.view g.L.Disk.state g.W.Draws.block_of g.K.Sink.taken g.K.Sink.faults c.args.parts c.args.counts.now c.args.output.now in
    let made = moment_closed Off g.C.Core.meaning g.C.Core.view g.L.Disk.state g.W.Draws.block_of g.K.Sink.taken g.K.Sink.faults c.in-Ok.made c.args.counts.now c.args.output.now in
    let machine = ap g.C.Core.meaning c.in-Ok.ensures.core in
    let blocks = λ (lap index : ℕ). ap (λ w. g.W.Draws.block_of w lap index) c.in-Ok.ensures.draws in
    let h = c.in-Ok.ensures.made in
    let mid = moment g.C.Core.meaning g.C.Core.view g.L.Disk.state g.W.Draws.block_of g.K.Sink.taken g.K.Sink.faults c.reopen-memory.result.0 c.reopen-memory.new.counts c.reopen-memory.new.output in
    let now = moment g.C.Core.meaning g.C.Core.view g.L.Disk.state g.W.Draws.block_of g.K.Sink.taken g.K.Sink.faults c.carry_lines.result.0 c.carry_lines.new.counts c.carry_lines.new.output in
    let left = made_leaves was made c.requires.armed machine c.requires.fresh h blocks c.requires.tells c.requires.given refl refl refl in
    let went = went_on c.reopen-memory.result.1 (sym c.is_err.ensures.value ∙ c.if-is_err.false) in
    leaves_then was made now c.carry_lines.result.1 left
    (leaves_then made mid now c.carry_lines.result.1 (subst (λ (r : Result (Unit {0}) _). Leaves r made mid) went c.reopen-memory.ensures.does.leaves) c.carry_lines.ensures.leaves)

pub returns-in-Err-clause-done : goal.returns-in-Err-clause-done
returns-in-Err-clause-done g c =
    let was = moment_closed Off g.C.Core.meaning g.C.Core.view g.L.Disk.state g.W.Draws.block_of g.K.Sink.taken g.K.Sink.faults c.args.parts c.args.counts.now c.args.output.now in
    let left = moment_closed Off g.C.Core.meaning g.C.Core.view g.L.Disk.state g.W.Draws.block_of g.K.Sink.taken g.K.Sink.faults c.in-Err.left c.args.counts.now c.args.output.now in
    let machine = ap g.C.Core.meaning c.in-Err.ensures.kept.0 in
    unmade_done was left c.requires.armed machine c.requires.fresh c.in-Err.ensures.unmade c.requires.found refl (g.S.Source.left c.args.input.now) (g.S.Source.left c.args.input.now)

pub returns-in-Err-clause-leaves : goal.returns-in-Err-clause-leaves
returns-in-Err-clause-leaves g c =
    let was = moment_closed Off g.C.Core.meaning g.C.Core.view g.L.Disk.state g.W.Draws.block_of g.K.Sink.taken g.K.Sink.faults c.args.parts c.args.counts.now c.args.output.now in
    let left = moment_closed Off g.C.Core.meaning g.C.Core.view g.L.Disk.state g.W.Draws.block_of g.K.Sink.taken g.K.Sink.faults c.in-Err.left c.args.counts.now c.args.output.now in
    let machine = ap g.C.Core.meaning c.in-Err.ensures.kept.0 in
    let blocks = λ (lap index : ℕ). ap (λ w. g.W.Draws.block_of w lap index) c.in-Err.ensures.kept.1 in
    unmade_leaves was left c.requires.armed machine c.requires.fresh c.in-Err.ensures.unmade blocks refl

pub reopen-memory-requires-clause-down : goal.reopen-memory-requires-clause-down
reopen-memory-requires-clause-down g c =
    let was = moment_closed Off g.C.Core.meaning g.C.Core.view g.L.Disk.state g.W.Draws.block_of g.K.Sink.taken g.K.Sink.faults c.args.parts c.args.counts.now c.args.output.now in
    let made = moment_closed Off g.C.Core.meaning g.C.Core.view g.L.Disk.state g.W.Draws.block_of g.K.Sink.taken g.K.Sink.faults c.in-Ok.made c.args.counts.now c.args.output.now in
    made_down was made c.requires.armed (ap g.C.Core.meaning c.in-Ok.ensures.core) c.requires.fresh c.in-Ok.ensures.made c.requires.tells c.requires.given

pub carry_lines-requires-clause-sits : goal.carry_lines-requires-clause-sits
carry_lines-requires-clause-sits g c =
    let made = moment_closed Off g.C.Core.meaning g.C.Core.view g.L.Disk.state g.W.Draws.block_of g.K.Sink.taken g.K.Sink.faults c.in-Ok.made c.args.counts.now c.args.output.now in
    let mid = moment g.C.Core.meaning g.C.Core.view g.L.Disk.state g.W.Draws.block_of g.K.Sink.taken g.K.Sink.faults c.reopen-memory.result.0 c.reopen-memory.new.counts c.reopen-memory.new.output in
    let went = went_on c.reopen-memory.result.1 (sym c.is_err.ensures.value ∙ c.if-is_err.false) in
    (subst (λ (r : Result (Unit {0}) _). Leaves r made mid) went c.reopen-memory.ensures.does.leaves).sits tt

pub carry_lines-requires-clause-few : goal.carry_lines-requires-clause-few
carry_lines-requires-clause-few g c =
    omega (arith, c.reopen-memory.ensures.does.offers, c.requires.fresh.offers)
