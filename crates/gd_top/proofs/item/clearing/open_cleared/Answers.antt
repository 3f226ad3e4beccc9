use Rattle.std.proofs.Common.{◌∙◌, ap, sym, subst, refl, ℕ, ◌+◌, List, ◌++◌, codes}
use Rattle.gd_top.specs.Code.Memory.{FitsDown, moment, moment_closed, outside}
use Rattle.gd_top.specs.Code.Parts.{GivesText}
use Rattle.gd_top.specs.Run.Openings.{power_on, Done}
use Rattle.gd_top.specs.Run.State.{before, Nothing, Off}
use Rattle.gd_top.proofs.ItemLemmas.Clearing.{as_down, cleared_front, cleared_goes, opened_by}
use Rattle.gd_top.proofs.RunLemmas.Said.{written_of}
use Rattle.gd_top.proofs.item.clearing.open_cleared.Goals as goal

pub returns-then-is_err-clause-does : goal.returns-then-is_err-clause-does
returns-then-is_err-clause-does g c =
    let parts = c.args.parts in
    let k = c.args.counts.now in
    let r = c.give_text-given.result in
    let given = c.give_text-given.ensures in
    let was = moment_closed Off g.C.Core.meaning g.C.Core.view g.L.Disk.state g.W.Draws.block_of g.K.Sink.taken g.K.Sink.faults parts (record k { lap = k.lap + 1 }) c.args.output.now in
    let now = moment_closed Off g.C.Core.meaning g.C.Core.view g.L.Disk.state g.W.Draws.block_of g.K.Sink.taken g.K.Sink.faults parts (record k { lap = k.lap + 1 }) c.give_text-given.new.output in
    let text : GivesText r was.taken now.taken (codes "cleared\n") = subst (GivesText r _ _) (c.push_str.ensures.bytes ∙ ap (λ (bytes : List ℕ). bytes ++ codes "cleared\n") c.clear.ensures) given.given in
    let failed = sym c.is_err.ensures.value ∙ c.if-is_err.true in
    cleared_front was r _ _ failed refl text given.later given.cause

pub returns-clause-does : goal.returns-clause-does
returns-clause-does g c =
    let parts = c.args.parts in
    let k = c.args.counts.now in
    let M = g.C.Core.meaning parts.core in
    let B = g.W.Draws.block_of parts.draws in
    let r = c.give_text-given.result in
    let given = c.give_text-given.ensures in
    let was = moment_closed Off g.C.Core.meaning g.C.Core.view g.L.Disk.state g.W.Draws.block_of g.K.Sink.taken g.K.Sink.faults parts (record k { lap = k.lap + 1 }) c.args.output.now in
    let made = moment_closed Off g.C.Core.meaning g.C.Core.view g.L.Disk.state g.W.Draws.block_of g.K.Sink.taken g.K.Sink.faults parts (record k { lap = k.lap + 1 }) c.give_text-given.new.output in
    let now = moment g.C.Core.meaning g.C.Core.view g.L.Disk.state g.W.Draws.block_of g.K.Sink.taken g.K.Sink.faults c.reopen.result.0 c.reopen.new.counts c.reopen.new.output in
    let text : GivesText r was.taken made.taken (codes "cleared\n") = subst (GivesText r _ _) (c.push_str.ensures.bytes ∙ ap (λ (bytes : List ℕ). bytes ++ codes "cleared\n") c.clear.ensures) given.given in
    let whole = written_of r _ _ _ (sym c.is_err.ensures.value ∙ c.if-is_err.false) text in
    opened_by was made (λ M B s. before (codes "cleared\n") (power_on M B Nothing Done s)) c.reopen.result.1 now refl (λ lap index. refl) refl given.later c.reopen.ensures.does
    (λ s fits.
    let f = as_down s was refl fits in
    let down : FitsDown Nothing s made = record { trial = f.trial; lines = f.lines; power_ons = f.power_ons; lap = f.lap; offers = f.offers; armed = f.armed; within = f.within; spelled = f.spelled; near = f.near; fallen = f.fallen; explained = f.explained } in
    (Nothing, refl, s, down, cleared_goes M B s (outside was) (outside made) refl refl refl whole))
