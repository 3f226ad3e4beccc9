use Rattle.std.proofs.Common.{arith, sym, refl}
use Rattle.gd_base.proofs.AnswerLemmas.Answer.{new_event}
use Rattle.gd_store.specs.Store.{store_disk, store_payload, store_sequence}
use Rattle.gd_cabinet.proofs.OneEvent.{stepped_view, kept_moments, no_moments, no_run, failed_run}
use Rattle.gd_cabinet.proofs.PagesMoved.{pages_committed, pages_off, pages_stood}
use Rattle.gd_cabinet.proofs.submitting.offer.Goals as goal

pub commit_view-requires-clause-room : goal.commit_view-requires-clause-room
commit_view-requires-clause-room g c =
    let new = new_event (g.C.Core.meaning c.args.core.now) (g.C.Core.view c.args.core.now) c.args.e.now c.in-New.reply (sym c.in-New.ensures.answer) in
    omega (arith, new.room, c.requires.count)

pub returns-in-Ok-clause-any_moment : goal.returns-in-Ok-clause-any_moment
returns-in-Ok-clause-any_moment g c =
    let M = g.C.Core.meaning c.args.core.now in
    let v = g.C.Core.view c.args.core.now in
    let is = stepped_view M (g.W.Draws.block_of c.args.draws.now) c.args.lap v (g.C.Core.view c.step.new.self) c.args.e.now c.draw_of-draw.result c.step.result c.draw_of-draw.ensures.draw c.step.ensures.answer c.step.ensures.view in
    kept_moments M (g.C.Core.meaning c.step.new.self) (store_sequence c.args.store.now) (store_payload c.args.store.now) v _ _ (g.D.Disk.state (store_disk c.args.store.now)) (g.D.Disk.state (store_disk c.commit_view.new.store)) c.step.ensures.same is c.requires.spelled c.requires.count c.commit_view.ensures.any_moment

pub returns-in-Err-clause-any_moment : goal.returns-in-Err-clause-any_moment
returns-in-Err-clause-any_moment g c =
    let M = g.C.Core.meaning c.args.core.now in
    let v = g.C.Core.view c.args.core.now in
    let is = stepped_view M (g.W.Draws.block_of c.args.draws.now) c.args.lap v (g.C.Core.view c.step.new.self) c.args.e.now c.draw_of-draw.result c.step.result c.draw_of-draw.ensures.draw c.step.ensures.answer c.step.ensures.view in
    kept_moments M (g.C.Core.meaning c.step.new.self) (store_sequence c.args.store.now) (store_payload c.args.store.now) v _ _ (g.D.Disk.state (store_disk c.args.store.now)) (g.D.Disk.state (store_disk c.commit_view.new.store)) c.step.ensures.same is c.requires.spelled c.requires.count c.commit_view.ensures.any_moment

pub returns-in-Again-clause-any_moment : goal.returns-in-Again-clause-any_moment
returns-in-Again-clause-any_moment g c =
    no_moments (g.C.Core.meaning c.args.core.now) _ _ (g.C.Core.view c.args.core.now) _ (g.D.Disk.state (store_disk c.args.store.now)) c.requires.spelled c.requires.count (c.is_stopped.ensures.settled c.requires.runs)

pub returns-in-OutOfStep-clause-any_moment : goal.returns-in-OutOfStep-clause-any_moment
returns-in-OutOfStep-clause-any_moment g c =
    no_moments (g.C.Core.meaning c.args.core.now) _ _ (g.C.Core.view c.args.core.now) _ (g.D.Disk.state (store_disk c.args.store.now)) c.requires.spelled c.requires.count (c.is_stopped.ensures.settled c.requires.runs)

pub returns-in-HistoryFull-clause-any_moment : goal.returns-in-HistoryFull-clause-any_moment
returns-in-HistoryFull-clause-any_moment g c =
    no_moments (g.C.Core.meaning c.args.core.now) _ _ (g.C.Core.view c.args.core.now) _ (g.D.Disk.state (store_disk c.args.store.now)) c.requires.spelled c.requires.count (c.is_stopped.ensures.settled c.requires.runs)

pub returns-in-Again-clause-run : goal.returns-in-Again-clause-run
returns-in-Again-clause-run g c =
    no_run (g.C.Core.meaning c.args.core.now) (g.C.Core.view c.args.core.now) c.args.e.now _ _ (g.D.Disk.state (store_disk c.args.store.now)) c.in-Again.ensures.answer refl

pub returns-in-OutOfStep-clause-run : goal.returns-in-OutOfStep-clause-run
returns-in-OutOfStep-clause-run g c =
    no_run (g.C.Core.meaning c.args.core.now) (g.C.Core.view c.args.core.now) c.args.e.now _ _ (g.D.Disk.state (store_disk c.args.store.now)) c.in-OutOfStep.ensures.answer refl

pub returns-in-HistoryFull-clause-run : goal.returns-in-HistoryFull-clause-run
returns-in-HistoryFull-clause-run g c =
    no_run (g.C.Core.meaning c.args.core.now) (g.C.Core.view c.args.core.now) c.args.e.now _ _ (g.D.Disk.state (store_disk c.args.store.now)) c.in-HistoryFull.ensures.answer refl

pub returns-in-Err-clause-run : goal.returns-in-Err-clause-run
returns-in-Err-clause-run g c =
    failed_run (g.C.Core.meaning c.args.core.now) (g.C.Core.view c.args.core.now) c.args.e.now _ _ _ (g.D.Disk.state (store_disk c.args.store.now)) (g.D.Disk.state (store_disk c.commit_view.new.store)) c.in-New.ensures.answer refl c.in-Err.ensures.run

pub returns-in-Ok-clause-pages : goal.returns-in-Ok-clause-pages
returns-in-Ok-clause-pages g c =
    let M = g.C.Core.meaning c.args.core.now in
    let v = g.C.Core.view c.args.core.now in
    let is = stepped_view M (g.W.Draws.block_of c.args.draws.now) c.args.lap v (g.C.Core.view c.step.new.self) c.args.e.now c.draw_of-draw.result c.step.result c.draw_of-draw.ensures.draw c.step.ensures.answer c.step.ensures.view in
    pages_committed M (g.C.Core.meaning c.step.new.self) (g.C.Core.view c.step.new.self) _ (store_payload c.args.store.now) (store_payload c.commit_view.new.store) _ _ (g.D.Disk.state (store_disk c.args.store.now)) (g.D.Disk.state (store_disk c.commit_view.new.store)) c.step.ensures.same is c.in-Ok.ensures.pages

pub returns-in-Err-clause-pages : goal.returns-in-Err-clause-pages
returns-in-Err-clause-pages g c =
    let M = g.C.Core.meaning c.args.core.now in
    let v = g.C.Core.view c.args.core.now in
    let is = stepped_view M (g.W.Draws.block_of c.args.draws.now) c.args.lap v (g.C.Core.view c.step.new.self) c.args.e.now c.draw_of-draw.result c.step.result c.draw_of-draw.ensures.draw c.step.ensures.answer c.step.ensures.view in
    pages_off M (g.C.Core.meaning c.step.new.self) (g.C.Core.view c.step.new.self) _ (store_payload c.args.store.now) (store_payload c.commit_view.new.store) _ _ (g.D.Disk.state (store_disk c.args.store.now)) (g.D.Disk.state (store_disk c.commit_view.new.store)) c.step.ensures.same is c.in-Err.ensures.pages

pub returns-in-Again-clause-pages : goal.returns-in-Again-clause-pages
returns-in-Again-clause-pages g c =
    pages_stood (g.C.Core.meaning c.args.core.now) (g.W.Draws.block_of c.args.draws.now) c.args.lap (g.C.Core.view c.args.core.now) c.args.e.now _ (store_sequence c.args.store.now) (store_payload c.args.store.now) _ (g.D.Disk.state (store_disk c.args.store.now))
    c.in-Again.ensures.answer refl c.requires.spelled (c.is_stopped.ensures.settled c.requires.runs)

pub returns-in-OutOfStep-clause-pages : goal.returns-in-OutOfStep-clause-pages
returns-in-OutOfStep-clause-pages g c =
    pages_stood (g.C.Core.meaning c.args.core.now) (g.W.Draws.block_of c.args.draws.now) c.args.lap (g.C.Core.view c.args.core.now) c.args.e.now _ (store_sequence c.args.store.now) (store_payload c.args.store.now) _ (g.D.Disk.state (store_disk c.args.store.now))
    c.in-OutOfStep.ensures.answer refl c.requires.spelled (c.is_stopped.ensures.settled c.requires.runs)

pub returns-in-HistoryFull-clause-pages : goal.returns-in-HistoryFull-clause-pages
returns-in-HistoryFull-clause-pages g c =
    pages_stood (g.C.Core.meaning c.args.core.now) (g.W.Draws.block_of c.args.draws.now) c.args.lap (g.C.Core.view c.args.core.now) c.args.e.now _ (store_sequence c.args.store.now) (store_payload c.args.store.now) _ (g.D.Disk.state (store_disk c.args.store.now))
    c.in-HistoryFull.ensures.answer refl c.requires.spelled (c.is_stopped.ensures.settled c.requires.runs)
