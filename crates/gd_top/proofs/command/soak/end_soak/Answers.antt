use Rattle.std.proofs.Common.{◌≡◌, ◌∙◌, ap, sym, subst, ℕ, List, ◌++◌, codes, Result, Err}
use Rattle.gd_image.specs.Words.{platform_setup, platform_view}
use Rattle.gd_machine.specs.Meaning.{the_machine}
use Rattle.gd_top.specs.Claims.Runs.{GivesLast}
use Rattle.gd_top.specs.Code.Memory.{memory_core}
use Rattle.gd_top.specs.Code.SoakDone.{soak_status, soak_text}
use Rattle.gd_top.specs.declared.halt.Halt.{Halt}
use Rattle.gd_top.specs.declared.status.Status.{Status}
use Rattle.gd_top.proofs.command.soak.end_soak.Goals as goal

pub returns-in-Err-DiskFault-clause-last : goal.returns-in-Err-DiskFault-clause-last
returns-in-Err-DiskFault-clause-last g c =
    let M = the_machine (platform_setup (memory_core c.args.memory.now)) in
    let v = platform_view (memory_core c.args.memory.now) in
    let text : c.push_str.new.self.bytes ≡ codes "disk fault\n" = c.push_str.ensures.bytes ∙ ap (λ (bytes : List ℕ). bytes ++ codes "disk fault\n") c.clear.ensures in
    let given = subst (λ (bytes : List ℕ). GivesLast Status.DiskFault c.tell.result (g.K.Sink.taken c.args.output.now) (g.K.Sink.taken c.tell.new.output) bytes) text c.tell.ensures.given in
    let is : c.args.ended ≡ Err Halt.DiskFault = c.in-Err-DiskFault.is ∙ ap (λ (h : Halt). let r : Result (Unit {0}) Halt = Err h in r) (rw c.in-Err-DiskFault.is at c.in-Err-DiskFault.field-0-is) in
    subst (λ (r : Result (Unit {0}) Halt). GivesLast (soak_status r) c.tell.result (g.K.Sink.taken c.args.output.now) (g.K.Sink.taken c.tell.new.output) (soak_text M c.args.items c.args.power_ons v r)) (sym is) given
