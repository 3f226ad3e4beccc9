use Rattle.std.proofs.Common.{sym, subst, ℕ, List}
use Rattle.gd_image.specs.Words.{platform_setup}
use Rattle.gd_machine.specs.Meaning.{the_machine}
use Rattle.gd_top.specs.Claims.ImageRuns.{ImageRunDid, TellsImages}
use Rattle.gd_top.specs.Claims.Images.{InitDid, ShowDid, Tells}
use Rattle.gd_top.specs.Claims.Program.{CommandDone}
use Rattle.gd_top.specs.Claims.Runs.{outer}
use Rattle.gd_top.specs.Claims.Soak.{SoakDid}
use Rattle.gd_top.specs.declared.status.Status.{Status}
use Rattle.gd_words.specs.declared.words.Command.{Command}
use Rattle.gd_top.proofs.top_call.command.Goals as goal

pub returns-in-Show-clause-done : goal.returns-in-Show-clause-done
returns-in-Show-clause-done g c =
    let M = the_machine (platform_setup c.args.core) in
    let was = outer g.S.Source.left g.S.Source.faults g.K.Sink.taken g.K.Sink.faults g.L.Disk.state c.args.input.now c.args.output.now c.args.lab in
    let now = outer g.S.Source.left g.S.Source.faults g.K.Sink.taken g.K.Sink.faults g.L.Disk.state c.args.input.now c.show-status.new.output c.end_beside-in-Show.result.lab in
    let old = g.D.Disk.state c.args.disk in
    let new = g.D.Disk.state c.end_beside-in-Show.result.disk in
    subst (λ (k : Command). CommandDone (TellsImages g.D.Disk.state) M (g.W.Draws.block_of c.args.draws) k c.end_beside-in-Show.result.status c.end_beside-in-Show.result.falls.items was now old new) (sym c.in-Show.is)
    (subst (λ (s : Status). Tells (ShowDid M c.in-Show.what old new) s was.taken now.taken) (sym c.end_beside-in-Show.ensures.status)
    (subst (λ (disk : _). Tells (ShowDid M c.in-Show.what old (g.D.Disk.state disk)) c.show-status.result was.taken now.taken) (sym c.end_beside-in-Show.ensures.disk) c.show-status.ensures.told))

pub returns-in-Soak-clause-done : goal.returns-in-Soak-clause-done
returns-in-Soak-clause-done g c =
    let M = the_machine (platform_setup c.args.core) in
    let B = g.W.Draws.block_of c.args.draws in
    let ended = c.end_carried-in-Soak in
    let was = outer g.S.Source.left g.S.Source.faults g.K.Sink.taken g.K.Sink.faults g.L.Disk.state c.args.input.now c.args.output.now c.args.lab in
    let now = outer g.S.Source.left g.S.Source.faults g.K.Sink.taken g.K.Sink.faults g.L.Disk.state c.args.input.now c.run_soak.new.output ended.result.lab in
    let old = g.L.Disk.state c.args.lab in
    subst (λ (k : Command). CommandDone (TellsImages g.D.Disk.state) M B k ended.result.status ended.result.falls.items was now (g.D.Disk.state c.args.disk) (g.D.Disk.state ended.result.disk)) (sym c.in-Soak.is)
    (subst (λ (s : Status). Tells (SoakDid M B c.in-Soak.count c.in-Soak.seed ended.result.falls.items old (g.L.Disk.state ended.result.lab)) s was.taken now.taken) (sym ended.ensures.status)
    (subst (λ (falls : List ℕ). Tells (SoakDid M B c.in-Soak.count c.in-Soak.seed falls old (g.L.Disk.state ended.result.lab)) c.run_soak.result.status was.taken now.taken) (sym ended.ensures.falls)
    (subst (λ (lab : _). Tells (SoakDid M B c.in-Soak.count c.in-Soak.seed c.run_soak.result.falls.items old (g.L.Disk.state lab)) c.run_soak.result.status was.taken now.taken) (sym ended.ensures.lab) c.run_soak.ensures.done)))

pub returns-in-Init-clause-done : goal.returns-in-Init-clause-done
returns-in-Init-clause-done g c =
    let M = the_machine (platform_setup c.args.core) in
    let ended = c.end_beside in
    let was = outer g.S.Source.left g.S.Source.faults g.K.Sink.taken g.K.Sink.faults g.L.Disk.state c.args.input.now c.args.output.now c.args.lab in
    let now = outer g.S.Source.left g.S.Source.faults g.K.Sink.taken g.K.Sink.faults g.L.Disk.state c.args.input.now c.init-status.new.output ended.result.lab in
    let old = g.D.Disk.state c.args.disk in
    let new = g.D.Disk.state ended.result.disk in
    subst (λ (k : Command). CommandDone (TellsImages g.D.Disk.state) M (g.W.Draws.block_of c.args.draws) k ended.result.status ended.result.falls.items was now old new) (sym c.in-Init.is)
    (subst (λ (s : Status). Tells (InitDid M old new) s was.taken now.taken) (sym ended.ensures.status)
    (subst (λ (disk : _). Tells (InitDid M old (g.D.Disk.state disk)) c.init-status.result.0 was.taken now.taken) (sym ended.ensures.disk) c.init-status.ensures.told))

pub returns-clause-done : goal.returns-clause-done
returns-clause-done g c =
    let told = TellsImages g.D.Disk.state in
    let M = the_machine (platform_setup c.args.core) in
    let B = g.W.Draws.block_of c.args.draws in
    let ended = c.end_beside-in-Run in
    let ran = c.run_image-status in
    let was = outer g.S.Source.left g.S.Source.faults g.K.Sink.taken g.K.Sink.faults g.L.Disk.state c.args.input.now c.args.output.now c.args.lab in
    let now = outer g.S.Source.left g.S.Source.faults g.K.Sink.taken g.K.Sink.faults g.L.Disk.state ran.new.input ran.new.output ended.result.lab in
    let old = g.D.Disk.state c.args.disk in
    let new = g.D.Disk.state ended.result.disk in
    let before = outer g.S.Source.left g.S.Source.faults g.K.Sink.taken g.K.Sink.faults g.D.Disk.state c.args.input.now c.args.output.now c.args.disk in
    let after = outer g.S.Source.left g.S.Source.faults g.K.Sink.taken g.K.Sink.faults g.D.Disk.state ran.new.input ran.new.output in
    subst (λ (k : Command). CommandDone told M B k ended.result.status ended.result.falls.items was now old new) (sym c.in-Run.is) (
      ended.ensures.falls,
      subst (λ (s : Status). ImageRunDid told M B s before (after ended.result.disk)) (sym ended.ensures.status)
          (subst (λ (disk : _). ImageRunDid told M B ran.result.0 before (after disk)) (sym ended.ensures.disk) ran.ensures.done),
    )
