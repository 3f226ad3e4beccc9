use Rattle.std.proofs.Common.{inl, inr, subst, refl, Bool}
use Rattle.gd_base.specs.declared.setup.Setup.{Setup}
use Rattle.gd_machine.specs.Meaning.{the_machine}
use Rattle.gd_top.specs.Claims.ImageRuns.{TellsImages}
use Rattle.gd_top.specs.Claims.Program.{world, CommandDone}
use Rattle.gd_top.specs.Claims.Setups.{IsGiven}
use Rattle.gd_top.specs.declared.command.refusal.Refusal.{Refusal}
use Rattle.gd_top.proofs.ProgramLemmas.{carried_as}
use Rattle.gd_top.proofs.top_call.carry_out.Goals as goal

pub returns-in-Ok-take_memory-clause-done : goal.returns-in-Ok-take_memory-clause-done
returns-in-Ok-take_memory-clause-done g c =
    let ran = c.command in
    let was = world g.C.Source.left g.C.Source.faults g.S.Source.left g.S.Source.faults g.K.Sink.taken g.K.Sink.faults g.L.Disk.state g.D.Disk.state c.args.setup.now c.args.input.now c.args.output.now c.args.lab c.args.disk in
    let now = world g.C.Source.left g.C.Source.faults g.S.Source.left g.S.Source.faults g.K.Sink.taken g.K.Sink.faults g.L.Disk.state g.D.Disk.state c.given_setup.new.file ran.new.input ran.new.output ran.result.lab ran.result.disk in
    inr (record {
      words = c.args.said;
      said = refl;
      setup = c.in-Ok.given;
      given = subst (λ (b : Bool). IsGiven b (g.C.Source.left c.args.setup.now) c.in-Ok.given) c.is_some.ensures c.in-Ok.ensures.given;
      done = subst (λ (s : Setup). CommandDone (TellsImages g.D.Disk.state) (the_machine s) (g.W.Draws.block_of c.args.draws) c.args.said.command ran.result.status ran.result.falls.items was.outer now.outer was.image now.image) c.in-Ok-take_memory.ensures.setup ran.ensures.done;
    })

pub returns-in-Ok-take_memory-clause-complete : goal.returns-in-Ok-take_memory-clause-complete
returns-in-Ok-take_memory-clause-complete g c = λ calm.
    let ran = c.command in
    let was = world g.C.Source.left g.C.Source.faults g.S.Source.left g.S.Source.faults g.K.Sink.taken g.K.Sink.faults g.L.Disk.state g.D.Disk.state c.args.setup.now c.args.input.now c.args.output.now c.args.lab c.args.disk in
    let now = world g.C.Source.left g.C.Source.faults g.S.Source.left g.S.Source.faults g.K.Sink.taken g.K.Sink.faults g.L.Disk.state g.D.Disk.state c.given_setup.new.file ran.new.input ran.new.output ran.result.lab ran.result.disk in
    carried_as was now ran.result.falls.items ran.result.status c.args.said (TellsImages g.D.Disk.state) (the_machine c.in-Ok.given) (g.W.Draws.block_of c.args.draws)
    (subst (λ (s : Setup). CommandDone (TellsImages g.D.Disk.state) (the_machine s) (g.W.Draws.block_of c.args.draws) c.args.said.command ran.result.status ran.result.falls.items was.outer now.outer was.image now.image) c.in-Ok-take_memory.ensures.setup ran.ensures.done)
    ran.ensures.causes calm

pub returns-in-Err-take_memory-clause-done : goal.returns-in-Err-take_memory-clause-done
returns-in-Err-take_memory-clause-done g c =
    let refused = c.refuse-in-Err-take_memory.ensures in
    inl (record { why = Refusal.OutOfMemory; reason = tt; told = refused.told }, refl, refused.lab, refused.disk, refused.draws, refused.falls)
