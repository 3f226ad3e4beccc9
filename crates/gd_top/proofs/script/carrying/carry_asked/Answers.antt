use Rattle.std.proofs.Common.{subst}
use Rattle.gd_top.specs.Code.Memory.{moment, moment_on}
use Rattle.gd_top.specs.Run.Items.{event_meaning, item_meaning}
use Rattle.gd_top.specs.Script.Asked.{IsAsked, IsTextAsked}
use Rattle.gd_top.proofs.ItemLemmas.Asked.{asked_tells, text_tells}
use Rattle.gd_top.proofs.ItemLemmas.Lines.{says_here}
use Rattle.gd_top.proofs.RunLemmas.Standings.{stand, does_as}
use Rattle.gd_top.proofs.script.carrying.carry_asked.Goals as goal

pub returns-in-Some-clause-does : goal.returns-in-Some-clause-does
returns-in-Some-clause-does g c =
    let cabinet = c.args.cabinet in
    let k = c.args.counts.now in
    let was = moment_on g.C.Core.meaning g.C.Core.view g.L.Disk.state g.W.Draws.block_of g.K.Sink.taken g.K.Sink.faults cabinet k c.args.output.now in
    let now = moment g.C.Core.meaning g.C.Core.view g.L.Disk.state g.W.Draws.block_of g.K.Sink.taken g.K.Sink.faults c.carry_event.result.0 c.carry_event.new.counts c.carry_event.new.output in
    let e = c.in-Some.e in
    let is : IsAsked was.machine was.view c.args.item e = subst (λ core. IsAsked (g.C.Core.meaning core) (g.C.Core.view core) c.args.item e) c.core.ensures c.in-Some.ensures.event in
    does_as (λ M B. event_meaning M B e) (λ M B. item_meaning M B c.args.item) c.carry_event.result.1 was now (λ s x. asked_tells was.machine was.blocks k.lap was.view (stand s was) x c.args.item e is) c.carry_event.ensures.does

pub returns-in-None-clause-does : goal.returns-in-None-clause-does
returns-in-None-clause-does g c =
    let cabinet = c.args.cabinet in
    let k = c.args.counts.now in
    let was = moment_on g.C.Core.meaning g.C.Core.view g.L.Disk.state g.W.Draws.block_of g.K.Sink.taken g.K.Sink.faults cabinet k c.args.output.now in
    let text = c.asked.new.text.bytes in
    let given = c.give_text-given.ensures in
    let is : IsTextAsked was.machine was.view c.args.item text = subst (λ core. IsTextAsked (g.C.Core.meaning core) (g.C.Core.view core) c.args.item text) c.core.ensures c.in-None.ensures.text in
    says_here was (λ M B. item_meaning M B c.args.item) c.give_text-given.result _ _ text c.requires.sits (λ s x. text_tells was.machine was.blocks k.lap was.view (stand s was) x c.args.item text is) given.given given.later given.cause
