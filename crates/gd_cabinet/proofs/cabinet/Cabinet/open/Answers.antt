use Rattle.gd_store.specs.Room.{room_payload}
use Rattle.gd_cabinet.specs.OpenAnswer.{disk_in}
use Rattle.gd_cabinet.proofs.Cutting.{fault_of_run, cut_of_run}
use Rattle.gd_cabinet.proofs.Moments.{reads_alone, reads_then}
use Rattle.gd_cabinet.proofs.Showing.{told_view, told_differs}
use Rattle.gd_cabinet.proofs.WholeOpenings.{reading_failed_run, reads_before_told, no_start_told}
use Rattle.gd_cabinet.proofs.cabinet.Cabinet.open.Goals as goal

pub open_store-requires-clause-told : goal.open_store-requires-clause-told
open_store-requires-clause-told g c =
    told_view (g.C.Core.meaning c.args.parts.core) (g.C.Core.meaning c.load_at-loaded.new.core) c.in-Ready.found c.in-Ready.sequence c.payload.result.now (room_payload c.boot.new.room) c.load_at-loaded.result (g.C.Core.view c.load_at-loaded.new.core)
    (g.D.Disk.state c.args.parts.disk).seen (g.D.Disk.state c.boot.new.disk).seen c.load_at-loaded.ensures.same c.in-Ready.ensures.seen c.payload.ensures.value c.load_at-loaded.ensures.answer c.in-Read.is c.load_at-loaded.ensures.view c.in-Ready.ensures.what

pub returns-in-Lost-clause-any_moment : goal.returns-in-Lost-clause-any_moment
returns-in-Lost-clause-any_moment g c =
    reads_alone (g.C.Core.meaning c.args.parts.core) (g.W.Draws.block_of c.args.parts.draws) c.args.lap (g.D.Disk.state c.args.parts.disk) (g.D.Disk.state c.boot.new.disk) c.boot.ensures.any_moment

pub returns-in-Read-clause-any_moment : goal.returns-in-Read-clause-any_moment
returns-in-Read-clause-any_moment g c =
    reads_then (g.C.Core.meaning c.args.parts.core) (g.C.Core.meaning c.load_at-loaded.new.core) (g.W.Draws.block_of c.args.parts.draws) c.args.lap (g.D.Disk.state c.args.parts.disk) (g.D.Disk.state c.boot.new.disk) (g.D.Disk.state (disk_in c.open_store.result))
    c.load_at-loaded.ensures.same c.in-Ready.ensures.seen c.boot.ensures.any_moment c.open_store.ensures.any_moment

pub returns-in-Unreadable-clause-any_moment : goal.returns-in-Unreadable-clause-any_moment
returns-in-Unreadable-clause-any_moment g c =
    reads_alone (g.C.Core.meaning c.args.parts.core) (g.W.Draws.block_of c.args.parts.draws) c.args.lap (g.D.Disk.state c.args.parts.disk) (g.D.Disk.state c.boot.new.disk) c.boot.ensures.any_moment

pub returns-in-Differs-clause-any_moment : goal.returns-in-Differs-clause-any_moment
returns-in-Differs-clause-any_moment g c =
    reads_alone (g.C.Core.meaning c.args.parts.core) (g.W.Draws.block_of c.args.parts.draws) c.args.lap (g.D.Disk.state c.args.parts.disk) (g.D.Disk.state c.boot.new.disk) c.boot.ensures.any_moment

pub returns-in-Differs-clause-what : goal.returns-in-Differs-clause-what
returns-in-Differs-clause-what g c =
    told_differs (g.C.Core.meaning c.args.parts.core) c.in-Ready.found c.in-Ready.sequence c.payload.result.now (room_payload c.boot.new.room) c.in-Differs.kept c.load_at-loaded.result (g.D.Disk.state c.args.parts.disk).seen
    c.payload.ensures.value c.load_at-loaded.ensures.answer c.in-Differs.is c.in-Ready.ensures.what

pub returns-in-Off-clause-run : goal.returns-in-Off-clause-run
returns-in-Off-clause-run g c = reading_failed_run (g.C.Core.meaning c.args.parts.core) (g.D.Disk.state c.args.parts.disk) (g.D.Disk.state c.boot.new.disk) c.in-Off.ensures.run

pub returns-in-Read-clause-run : goal.returns-in-Read-clause-run
returns-in-Read-clause-run g c =
    reads_before_told c.open_store.result (g.C.Core.meaning c.args.parts.core) (g.C.Core.meaning c.load_at-loaded.new.core) (g.D.Disk.state c.args.parts.disk) (g.D.Disk.state c.boot.new.disk) (g.D.Disk.state (disk_in c.open_store.result))
    c.load_at-loaded.ensures.same c.in-Ready.ensures.seen c.in-Ready.ensures.answer.was_on c.in-Ready.ensures.answer.stays_on c.in-Ready.ensures.run.whole c.open_store.ensures.run

pub returns-in-Read-clause-no_start : goal.returns-in-Read-clause-no_start
returns-in-Read-clause-no_start g c =
    no_start_told (g.C.Core.meaning c.args.parts.core) (g.C.Core.meaning c.load_at-loaded.new.core) g.C.Core.view (g.W.Draws.block_of c.args.parts.draws) c.args.lap c.open_store.result (g.D.Disk.state c.args.parts.disk).seen (g.D.Disk.state c.boot.new.disk).seen
    c.load_at-loaded.ensures.same c.in-Ready.ensures.seen c.open_store.ensures.what

pub returns-in-Off-clause-cut : goal.returns-in-Off-clause-cut
returns-in-Off-clause-cut g c = fault_of_run (g.C.Core.meaning c.args.parts.core) (g.D.Disk.state c.args.parts.disk) (g.D.Disk.state c.boot.new.disk) (reading_failed_run (g.C.Core.meaning c.args.parts.core) (g.D.Disk.state c.args.parts.disk) (g.D.Disk.state c.boot.new.disk) c.in-Off.ensures.run)

pub returns-in-Read-clause-cut : goal.returns-in-Read-clause-cut
returns-in-Read-clause-cut g c =
    cut_of_run c.open_store.result (g.C.Core.meaning c.args.parts.core) (g.D.Disk.state c.args.parts.disk) (g.D.Disk.state (disk_in c.open_store.result)) (reads_before_told c.open_store.result (g.C.Core.meaning c.args.parts.core) (g.C.Core.meaning c.load_at-loaded.new.core) (g.D.Disk.state c.args.parts.disk) (g.D.Disk.state c.boot.new.disk) (g.D.Disk.state (disk_in c.open_store.result))
    c.load_at-loaded.ensures.same c.in-Ready.ensures.seen c.in-Ready.ensures.answer.was_on c.in-Ready.ensures.answer.stays_on c.in-Ready.ensures.run.whole c.open_store.ensures.run)
