use Rattle.gd_store.specs.Store.{store_disk, store_payload, store_sequence}
use Rattle.gd_cabinet.specs.Cabinet.{cabinet_core, cabinet_disk}
use Rattle.gd_cabinet.proofs.Moments.{repair_moments, opening_moments}
use Rattle.gd_cabinet.proofs.Showing.{loaded_shows, told_maps}
use Rattle.gd_cabinet.proofs.WholeOpenings.{repair_failed_run, by_image, started_as, start_made, start_not_made, repair_at_most, both_at_most}
use Rattle.gd_disk.specs.CutRuns.{IsCompleteRun, RunOf}
use Rattle.gd_store.specs.Repair.{repair_needed, syncs_of_repair}
use Rattle.std.proofs.Common.{ℕ, Err}
use Rattle.gd_cabinet.proofs.opening.open_store.Goals as goal

pub returns-in-Off-clause-any_moment : goal.returns-in-Off-clause-any_moment
returns-in-Off-clause-any_moment g c =
    repair_moments (g.C.Core.meaning c.args.parts.core) (g.W.Draws.block_of c.args.parts.draws) c.args.lap (g.D.Disk.state c.args.parts.disk) (g.D.Disk.state c.in-Off.disk) c.in-Off.ensures.any_moment

pub returns-in-Ok-clause-any_moment : goal.returns-in-Ok-clause-any_moment
returns-in-Ok-clause-any_moment g c =
    let M = g.C.Core.meaning c.args.parts.core in
    let store = c.in-Ready.store in
    let v = g.C.Core.view c.load_at.new.core in
    let s0 = g.D.Disk.state c.args.parts.disk in
    let show = loaded_shows M c.sequence.result (store_sequence store) c.payload.result.now (store_payload store) c.load_at.result v c.sequence.ensures.value c.payload.ensures.value c.load_at.ensures.answer c.in-Read.is c.load_at.ensures.view in
    opening_moments M (g.C.Core.meaning c.load_at.new.core) (g.W.Draws.block_of c.args.parts.draws) c.args.lap v s0 (g.D.Disk.state (store_disk store)) (g.D.Disk.state (cabinet_disk c.in-Ok.cabinet)) c.load_at.ensures.same c.in-Ready.ensures.any_moment c.in-Ok.ensures.any_moment
    (told_maps s0.seen _ _ (λ image is. show image is.1) c.in-Ready.ensures.ready)

pub returns-in-Err-clause-any_moment : goal.returns-in-Err-clause-any_moment
returns-in-Err-clause-any_moment g c =
    let M = g.C.Core.meaning c.args.parts.core in
    let store = c.in-Ready.store in
    let v = g.C.Core.view c.load_at.new.core in
    let s0 = g.D.Disk.state c.args.parts.disk in
    let show = loaded_shows M c.sequence.result (store_sequence store) c.payload.result.now (store_payload store) c.load_at.result v c.sequence.ensures.value c.payload.ensures.value c.load_at.ensures.answer c.in-Read.is c.load_at.ensures.view in
    opening_moments M (g.C.Core.meaning c.load_at.new.core) (g.W.Draws.block_of c.args.parts.draws) c.args.lap v s0 (g.D.Disk.state (store_disk store)) (g.D.Disk.state c.in-Err.parts.disk) c.load_at.ensures.same c.in-Ready.ensures.any_moment c.in-Err.ensures.off_any_moment
    (told_maps s0.seen _ _ (λ image is. show image is.1) c.in-Ready.ensures.ready)

pub returns-in-Off-clause-answer_run : goal.returns-in-Off-clause-answer_run
returns-in-Off-clause-answer_run g c = repair_at_most (g.D.Disk.state c.args.parts.disk) (g.D.Disk.state c.in-Off.disk) c.in-Off.ensures.answer_run

pub returns-in-Ok-clause-answer_run : goal.returns-in-Ok-clause-answer_run
returns-in-Ok-clause-answer_run g c =
    let M = g.C.Core.meaning c.args.parts.core in
    let N = g.C.Core.meaning c.load_at.new.core in
    let store = c.in-Ready.store in
    let v = g.C.Core.view c.load_at.new.core in
    let old = g.D.Disk.state c.args.parts.disk in
    let mid = g.D.Disk.state (store_disk store) in
    let k = syncs_of_repair (repair_needed c.in-Ready.found) in
    let new = g.D.Disk.state (cabinet_disk c.in-Ok.cabinet) in
    (v, started_as M N (g.W.Draws.block_of c.args.parts.draws) c.args.lap (g.C.Core.view (cabinet_core c.in-Ok.cabinet)) v c.load_at.ensures.same c.in-Ok.ensures.view, start_made M N k v old mid new c.load_at.ensures.same c.in-Ready.ensures.answer_run c.in-Ok.ensures.run)

pub returns-in-Ok-clause-run : goal.returns-in-Ok-clause-run
returns-in-Ok-clause-run g c =
    let M = g.C.Core.meaning c.args.parts.core in
    let N = g.C.Core.meaning c.load_at.new.core in
    let store = c.in-Ready.store in
    let v = g.C.Core.view c.load_at.new.core in
    let old = g.D.Disk.state c.args.parts.disk in
    let mid = g.D.Disk.state (store_disk store) in
    let k = syncs_of_repair (repair_needed c.in-Ready.found) in
    let new = g.D.Disk.state (cabinet_disk c.in-Ok.cabinet) in
    let show = loaded_shows M c.sequence.result (store_sequence store) c.payload.result.now (store_payload store) c.load_at.result v c.sequence.ensures.value c.payload.ensures.value c.load_at.ensures.answer c.in-Read.is c.load_at.ensures.view in
    by_image M c.in-Ready.found (store_sequence store) (store_payload store) v old.seen (λ (n : ℕ). IsCompleteRun n old new) c.in-Ready.ensures.ready show (start_made M N k v old mid new c.load_at.ensures.same c.in-Ready.ensures.answer_run c.in-Ok.ensures.run)

pub returns-in-Err-clause-answer_run : goal.returns-in-Err-clause-answer_run
returns-in-Err-clause-answer_run g c =
    let M = g.C.Core.meaning c.args.parts.core in
    let N = g.C.Core.meaning c.load_at.new.core in
    let store = c.in-Ready.store in
    let v = g.C.Core.view c.load_at.new.core in
    let old = g.D.Disk.state c.args.parts.disk in
    let mid = g.D.Disk.state (store_disk store) in
    let k = syncs_of_repair (repair_needed c.in-Ready.found) in
    let new = g.D.Disk.state c.in-Err.parts.disk in
    both_at_most M (repair_needed c.in-Ready.found) v old new (start_not_made M N k v old mid new c.load_at.ensures.same c.requires.is_on c.in-Ready.ensures.answer.stays_on c.in-Ready.ensures.answer_run c.in-Err.ensures.off_run)

pub returns-in-Err-clause-run : goal.returns-in-Err-clause-run
returns-in-Err-clause-run g c =
    let M = g.C.Core.meaning c.args.parts.core in
    let N = g.C.Core.meaning c.load_at.new.core in
    let store = c.in-Ready.store in
    let v = g.C.Core.view c.load_at.new.core in
    let old = g.D.Disk.state c.args.parts.disk in
    let mid = g.D.Disk.state (store_disk store) in
    let k = syncs_of_repair (repair_needed c.in-Ready.found) in
    let new = g.D.Disk.state c.in-Err.parts.disk in
    let show = loaded_shows M c.sequence.result (store_sequence store) c.payload.result.now (store_payload store) c.load_at.result v c.sequence.ensures.value c.payload.ensures.value c.load_at.ensures.answer c.in-Read.is c.load_at.ensures.view in
    by_image M c.in-Ready.found (store_sequence store) (store_payload store) v old.seen (λ (n : ℕ). RunOf {T = Unit {0}} {E = Unit {0}} n (Err tt) old new) c.in-Ready.ensures.ready show
    (start_not_made M N k v old mid new c.load_at.ensures.same c.requires.is_on c.in-Ready.ensures.answer.stays_on c.in-Ready.ensures.answer_run c.in-Err.ensures.off_run)

pub returns-in-Off-clause-run : goal.returns-in-Off-clause-run
returns-in-Off-clause-run g c = repair_failed_run (g.C.Core.meaning c.args.parts.core) (g.D.Disk.state c.args.parts.disk) (g.D.Disk.state c.in-Off.disk) c.in-Off.ensures.run
