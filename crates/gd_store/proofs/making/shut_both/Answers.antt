use Rattle.std.proofs.Common.{◌≡◌, ◌∙◌, sym, subst, ℕ, List, Option, get_or, arith}
use Rattle.gd_disk.specs.Disk.{IfTold}
use Rattle.gd_store.specs.Copy.{LiesWithin}
use Rattle.gd_store.proofs.MakingMoments.{reads, over_read, and_sync, gate_b_stands, while_shutting_a, while_shutting_b}
use Rattle.gd_disk.proofs.WholeRuns.{run_on, run_fails, whole_then, of_sync}
use Rattle.gd_store.specs.Making.{AreShutting, AreShuttingAny}
use Rattle.gd_store.proofs.AnyMakings.{while_reading_any, while_a_any, while_b_any}
use Rattle.gd_store.proofs.making.shut_both.Goals as goal

pub returns-in_err-shut_open-clause-any_moment : goal.returns-in_err-shut_open-clause-any_moment
returns-in_err-shut_open-clause-any_moment g c =
    let l = c.args.layout in
    let old = g.D.Disk.state c.args.disk.now in
    let s1 = g.D.Disk.state c.read_gate.new.disk in
    let s2 = g.D.Disk.state c.read_gate-2.new.disk in
    let s3 = g.D.Disk.state c.shut_open.new.disk in
    let run = over_read l.a c.in_ok-gate_a.gate_a old s2 s3 (reads old s1 s2 c.read_gate.ensures.any_moment c.read_gate-2.ensures.any_moment) c.shut_open.ensures.any_moment in
    λ synced. while_shutting_a l old c.requires.within synced c.in_ok-gate_a.gate_a s3 c.in_ok-gate_a.ensures.gate run

pub shut_open-requires-2-clause-gate : goal.shut_open-requires-2-clause-gate
shut_open-requires-2-clause-gate g c =
    let l = c.args.layout in
    let s2 = g.D.Disk.state c.read_gate-2.new.disk in
    let within = subst (λ (n : ℕ). LiesWithin l n) (sym (c.read_gate-2.ensures.answer.size ∙ c.read_gate.ensures.answer.size)) c.requires.within in
    let is_b = subst (λ (s : Option (List ℕ)). IfTold s (λ image. get_or image l.b 0 ≡ c.in_ok-gate_b.gate_b)) (sym c.in_ok-gate_b.ensures.seen) c.in_ok-gate_b.ensures.gate in
    subst (λ (s : Option (List ℕ)). IfTold s (λ image. get_or image l.b 0 ≡ c.in_ok-gate_b.gate_b)) (sym c.in_ok-shut_open.ensures.seen) (gate_b_stands l c.in_ok-gate_a.gate_a c.in_ok-gate_b.gate_b s2 within is_b)

pub returns-in_err-shut_open-2-clause-any_moment : goal.returns-in_err-shut_open-2-clause-any_moment
returns-in_err-shut_open-2-clause-any_moment g c =
    let l = c.args.layout in
    let old = g.D.Disk.state c.args.disk.now in
    let s1 = g.D.Disk.state c.read_gate.new.disk in
    let s2 = g.D.Disk.state c.read_gate-2.new.disk in
    let s3 = g.D.Disk.state c.shut_open.new.disk in
    let run = over_read l.a c.in_ok-gate_a.gate_a old s2 s3 (reads old s1 s2 c.read_gate.ensures.any_moment c.read_gate-2.ensures.any_moment) c.shut_open.ensures.any_moment in
    let is_b = subst (λ (s : Option (List ℕ)). IfTold s (λ image. get_or image l.b 0 ≡ c.in_ok-gate_b.gate_b)) c.in_ok-gate_a.ensures.seen c.in_ok-gate_b.ensures.gate in
    λ synced. while_shutting_b l old c.requires.within synced c.in_ok-gate_a.gate_a c.in_ok-gate_b.gate_b s3 (g.D.Disk.state c.shut_open-2.new.disk) c.in_ok-gate_a.ensures.gate is_b run c.shut_open-2.ensures.any_moment

pub returns-clause-any_moment : goal.returns-clause-any_moment
returns-clause-any_moment g c =
    let l = c.args.layout in
    let old = g.D.Disk.state c.args.disk.now in
    let s1 = g.D.Disk.state c.read_gate.new.disk in
    let s2 = g.D.Disk.state c.read_gate-2.new.disk in
    let s3 = g.D.Disk.state c.shut_open.new.disk in
    let run = over_read l.a c.in_ok-gate_a.gate_a old s2 s3 (reads old s1 s2 c.read_gate.ensures.any_moment c.read_gate-2.ensures.any_moment) c.shut_open.ensures.any_moment in
    let is_b = subst (λ (s : Option (List ℕ)). IfTold s (λ image. get_or image l.b 0 ≡ c.in_ok-gate_b.gate_b)) c.in_ok-gate_a.ensures.seen c.in_ok-gate_b.ensures.gate in
    let s4 = g.D.Disk.state c.shut_open-2.new.disk in
    λ synced. and_sync (AreShutting l) old s4 (g.D.Disk.state c.sync.new.self)
    (while_shutting_b l old c.requires.within synced c.in_ok-gate_a.gate_a c.in_ok-gate_b.gate_b s3 s4 c.in_ok-gate_a.ensures.gate is_b run c.shut_open-2.ensures.any_moment) c.sync.ensures.loss

pub returns-in_err-gate_b-clause-run : goal.returns-in_err-gate_b-clause-run
returns-in_err-gate_b-clause-run g c =
    let old = g.D.Disk.state c.args.disk.now in
    let s1 = g.D.Disk.state c.read_gate.new.disk in
    let s2 = g.D.Disk.state c.read_gate-2.new.disk in
    run_fails 0 1 _ c.from_residual-in_err-gate_b.result old s2 c.from_residual-in_err-gate_b.ensures.0 (omega arith) (run_on 0 0 _ old s1 s2 c.in_ok-gate_a.ensures.answer.was_on c.in_ok-gate_a.ensures.answer.stays_on c.in_ok-gate_a.ensures.run.whole c.in_err-gate_b.ensures.run)

pub returns-in_err-shut_open-clause-run : goal.returns-in_err-shut_open-clause-run
returns-in_err-shut_open-clause-run g c =
    let old = g.D.Disk.state c.args.disk.now in
    let s1 = g.D.Disk.state c.read_gate.new.disk in
    let s2 = g.D.Disk.state c.read_gate-2.new.disk in
    let s3 = g.D.Disk.state c.shut_open.new.disk in
    run_fails 0 1 _ c.from_residual-in_err-shut_open.result old s3 c.from_residual-in_err-shut_open.ensures.0 (omega arith) (run_on 0 0 _ old s2 s3 c.in_ok-gate_a.ensures.answer.was_on c.in_ok-gate_b.ensures.answer.stays_on (whole_then 0 0 old s1 s2 c.in_ok-gate_a.ensures.run.whole c.in_ok-gate_b.ensures.run.whole) c.in_err-shut_open.ensures.run)

pub returns-in_err-shut_open-2-clause-run : goal.returns-in_err-shut_open-2-clause-run
returns-in_err-shut_open-2-clause-run g c =
    let old = g.D.Disk.state c.args.disk.now in
    let s1 = g.D.Disk.state c.read_gate.new.disk in
    let s2 = g.D.Disk.state c.read_gate-2.new.disk in
    let s3 = g.D.Disk.state c.shut_open.new.disk in
    let s4 = g.D.Disk.state c.shut_open-2.new.disk in
    run_fails 0 1 _ c.from_residual-in_err-shut_open-2.result old s4 c.from_residual-in_err-shut_open-2.ensures.0 (omega arith) (run_on 0 0 _ old s3 s4 c.in_ok-gate_a.ensures.answer.was_on c.in_ok-shut_open.ensures.answer.stays_on
    (whole_then 0 0 old s2 s3 (whole_then 0 0 old s1 s2 c.in_ok-gate_a.ensures.run.whole c.in_ok-gate_b.ensures.run.whole) c.in_ok-shut_open.ensures.run.whole) c.in_err-shut_open-2.ensures.run)

pub returns-clause-run : goal.returns-clause-run
returns-clause-run g c =
    let old = g.D.Disk.state c.args.disk.now in
    let s1 = g.D.Disk.state c.read_gate.new.disk in
    let s2 = g.D.Disk.state c.read_gate-2.new.disk in
    let s3 = g.D.Disk.state c.shut_open.new.disk in
    let s4 = g.D.Disk.state c.shut_open-2.new.disk in
    let s5 = g.D.Disk.state c.sync.new.self in
    run_on 0 1 c.sync.result old s4 s5 c.in_ok-gate_a.ensures.answer.was_on c.in_ok-shut_open-2.ensures.answer.stays_on
    (whole_then 0 0 old s3 s4 (whole_then 0 0 old s2 s3 (whole_then 0 0 old s1 s2 c.in_ok-gate_a.ensures.run.whole c.in_ok-gate_b.ensures.run.whole) c.in_ok-shut_open.ensures.run.whole) c.in_ok-shut_open-2.ensures.run.whole)
    (of_sync c.sync.result s4 s5 c.sync.ensures.syncs c.sync.ensures.no_sync c.sync.ensures.cuts c.sync.ensures.answer)

pub returns-in_err-gate_a-clause-waiting : goal.returns-in_err-gate_a-clause-waiting
returns-in_err-gate_a-clause-waiting g c = while_reading_any c.args.layout (g.D.Disk.state c.args.disk.now) c.requires.within.apart (g.D.Disk.state c.read_gate.new.disk) c.read_gate.ensures.any_moment

pub returns-in_err-gate_b-clause-waiting : goal.returns-in_err-gate_b-clause-waiting
returns-in_err-gate_b-clause-waiting g c =
    let old = g.D.Disk.state c.args.disk.now in
    let s1 = g.D.Disk.state c.read_gate.new.disk in
    let s2 = g.D.Disk.state c.read_gate-2.new.disk in
    while_reading_any c.args.layout old c.requires.within.apart s2 (reads old s1 s2 c.read_gate.ensures.any_moment c.read_gate-2.ensures.any_moment)

pub returns-in_err-shut_open-clause-waiting : goal.returns-in_err-shut_open-clause-waiting
returns-in_err-shut_open-clause-waiting g c =
    let l = c.args.layout in
    let old = g.D.Disk.state c.args.disk.now in
    let s1 = g.D.Disk.state c.read_gate.new.disk in
    let s2 = g.D.Disk.state c.read_gate-2.new.disk in
    let s3 = g.D.Disk.state c.shut_open.new.disk in
    let run = over_read l.a c.in_ok-gate_a.gate_a old s2 s3 (reads old s1 s2 c.read_gate.ensures.any_moment c.read_gate-2.ensures.any_moment) c.shut_open.ensures.any_moment in
    while_a_any l old c.requires.within.apart c.in_ok-gate_a.gate_a s3 c.in_ok-gate_a.ensures.gate run

pub returns-in_err-shut_open-2-clause-waiting : goal.returns-in_err-shut_open-2-clause-waiting
returns-in_err-shut_open-2-clause-waiting g c =
    let l = c.args.layout in
    let old = g.D.Disk.state c.args.disk.now in
    let s1 = g.D.Disk.state c.read_gate.new.disk in
    let s2 = g.D.Disk.state c.read_gate-2.new.disk in
    let s3 = g.D.Disk.state c.shut_open.new.disk in
    let run = over_read l.a c.in_ok-gate_a.gate_a old s2 s3 (reads old s1 s2 c.read_gate.ensures.any_moment c.read_gate-2.ensures.any_moment) c.shut_open.ensures.any_moment in
    let is_b = subst (λ (s : Option (List ℕ)). IfTold s (λ image. get_or image l.b 0 ≡ c.in_ok-gate_b.gate_b)) c.in_ok-gate_a.ensures.seen c.in_ok-gate_b.ensures.gate in
    while_b_any l old c.requires.within.apart c.in_ok-gate_a.gate_a c.in_ok-gate_b.gate_b s3 (g.D.Disk.state c.shut_open-2.new.disk) c.in_ok-gate_a.ensures.gate is_b run c.shut_open-2.ensures.any_moment

pub returns-clause-waiting : goal.returns-clause-waiting
returns-clause-waiting g c =
    let l = c.args.layout in
    let old = g.D.Disk.state c.args.disk.now in
    let s1 = g.D.Disk.state c.read_gate.new.disk in
    let s2 = g.D.Disk.state c.read_gate-2.new.disk in
    let s3 = g.D.Disk.state c.shut_open.new.disk in
    let run = over_read l.a c.in_ok-gate_a.gate_a old s2 s3 (reads old s1 s2 c.read_gate.ensures.any_moment c.read_gate-2.ensures.any_moment) c.shut_open.ensures.any_moment in
    let is_b = subst (λ (s : Option (List ℕ)). IfTold s (λ image. get_or image l.b 0 ≡ c.in_ok-gate_b.gate_b)) c.in_ok-gate_a.ensures.seen c.in_ok-gate_b.ensures.gate in
    let s4 = g.D.Disk.state c.shut_open-2.new.disk in
    and_sync (AreShuttingAny l old.seen) old s4 (g.D.Disk.state c.sync.new.self)
    (while_b_any l old c.requires.within.apart c.in_ok-gate_a.gate_a c.in_ok-gate_b.gate_b s3 s4 c.in_ok-gate_a.ensures.gate is_b run c.shut_open-2.ensures.any_moment) c.sync.ensures.loss
