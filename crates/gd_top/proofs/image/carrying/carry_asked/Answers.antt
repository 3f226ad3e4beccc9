use Rattle.std.proofs.Common.{refl, subst}
use Rattle.gd_top.specs.Claims.ImageRuns.{TellsImages}
use Rattle.gd_top.specs.Code.Memory.{moment, moment_on}
use Rattle.gd_top.specs.Code.OverImage.{over}
use Rattle.gd_top.specs.Run.Items.{event_meaning, item_meaning}
use Rattle.gd_top.specs.Script.Asked.{IsAsked, IsTextAsked}
use Rattle.gd_top.proofs.ItemLemmas.Asked.{asked_tells, text_tells}
use Rattle.gd_top.proofs.OverLemmas.Items.{over_as, says_over}
use Rattle.gd_top.proofs.RunLemmas.Standings.{stand}
use Rattle.gd_top.proofs.image.carrying.carry_asked.Goals as goal

pub returns-in-Some-clause-does : goal.returns-in-Some-clause-does
returns-in-Some-clause-does g c =
    let k = c.args.counts.now in
    let was = moment_on g.C.Core.meaning g.C.Core.view g.D.Disk.state g.W.Draws.block_of g.K.Sink.taken g.K.Sink.faults c.args.cabinet k c.args.output.now in
    let now = moment g.C.Core.meaning g.C.Core.view g.D.Disk.state g.W.Draws.block_of g.K.Sink.taken g.K.Sink.faults c.offer.result.0 c.offer.new.counts c.offer.new.output in
    let e = c.in-Some.e in
    let is : IsAsked was.machine was.view c.args.item e = subst (λ core. IsAsked (g.C.Core.meaning core) (g.C.Core.view core) c.args.item e) c.core.ensures c.in-Some.ensures.event in
    over_as (TellsImages g.D.Disk.state) was (λ M B. event_meaning M B e) (λ M B. item_meaning M B c.args.item) c.offer.result.1 now
    (λ images s x. asked_tells was.machine was.blocks k.lap was.view (stand s (over images was)) x c.args.item e is) c.offer.ensures.does

pub returns-in-None-clause-does : goal.returns-in-None-clause-does
returns-in-None-clause-does g c =
    let k = c.args.counts.now in
    let was = moment_on g.C.Core.meaning g.C.Core.view g.D.Disk.state g.W.Draws.block_of g.K.Sink.taken g.K.Sink.faults c.args.cabinet k c.args.output.now in
    let text = c.asked.new.text.bytes in
    let given = c.give_text-given.ensures in
    let is : IsTextAsked was.machine was.view c.args.item text = subst (λ core. IsTextAsked (g.C.Core.meaning core) (g.C.Core.view core) c.args.item text) c.core.ensures c.in-None.ensures.text in
    says_over (TellsImages g.D.Disk.state) was (record { size = c.requires.size; powered = refl; runs = c.requires.runs }) (λ M B. item_meaning M B c.args.item) c.give_text-given.result _ _ text
    (λ images s x. text_tells was.machine was.blocks k.lap was.view (stand s (over images was)) x c.args.item text is) given.given given.later given.cause
