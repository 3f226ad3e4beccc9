use Rattle.std.proofs.Common.{◌≡◌, ◌∙◌, ap, sym, subst, refl, ◌+◌, ◌≤◌, length, arith, false, Result, Ok}
use Rattle.gd_top.specs.Code.Memory.{moment, moment_closed, memory_disk, memory_phase, Fits, Sits}
use Rattle.gd_top.specs.Run.State.{Off, Locked}
use Rattle.gd_top.proofs.ItemLemmas.Clearing.{ComesTo, IsCleared, comes_as, clear_begins, clear_line, clear_stops, cleared_rest, comes_again, comes_broke, comes_does, comes_failed, comes_fell, comes_made, comes_open, comes_reopened, limit_in_trial, making_rest, some_cut, was_cut, was_faulted}
use Rattle.gd_cabinet.specs.declared.cabinet.Parts.{Parts}
use Rattle.gd_top.specs.Run.Offers.{syncs_of_making}
use Rattle.gd_top.specs.declared.halt.Halt.{Halt}
use Rattle.gd_top.specs.declared.item.opening.Opened.{Opened}
use Rattle.gd_top.specs.declared.memory.Memory.{Memory}
use Rattle.gd_top.proofs.ItemLemmas.Arming.{below}
use Rattle.gd_top.proofs.RunLemmas.Cuts.{calls_many}
use Rattle.gd_top.proofs.item.clearing.clear.Goals as goal

not_locked : {C D W : Type 0} {g h i : _} (m : Memory C D W g h i) → ((parts : Parts C D W) → m ≡ Memory.Locked parts → ⊥) → memory_phase m ≡ Locked → ⊥
not_locked (Memory.On cabinet) none is = cc is
not_locked (Memory.Off parts) none is = cc is
not_locked (Memory.Locked parts) none is = none parts refl

pub returns-then-is_at_limit-clause-does : goal.returns-then-is_at_limit-clause-does
returns-then-is_at_limit-clause-does g c =
    clear_stops (moment_closed Locked g.C.Core.meaning g.C.Core.view g.L.Disk.state g.W.Draws.block_of g.K.Sink.taken g.K.Sink.faults c.args.parts c.args.counts.now c.args.output.now) refl refl c.requires.sits
    (sym c.is_at_limit.ensures ∙ c.if-is_at_limit.true)

pub loop-made-init : goal.loop-made-init
loop-made-init g c =
    let was = moment_closed Locked g.C.Core.meaning g.C.Core.view g.L.Disk.state g.W.Draws.block_of g.K.Sink.taken g.K.Sink.faults c.args.parts c.args.counts.now c.args.output.now in
    let sits = c.requires.sits in
    let test = sym c.is_at_limit.ensures ∙ c.if-is_at_limit.false in
    record {
      comes = clear_begins was refl (limit_in_trial was refl sits false test);
      sits = sits;
      room = omega (arith, calls_many was.counts.calls.items was.disk.armed sits.counted.calls, below (was.counts.power_ons + length was.counts.calls.items) test);
      lines = refl;
      offers = omega arith;
      more = omega arith;
    }

pub returns-in-Ok-clause-does : goal.returns-in-Ok-clause-does
returns-in-Ok-clause-does g c =
    let k = c.loop-made.counts in
    let was = moment_closed Locked g.C.Core.meaning g.C.Core.view g.L.Disk.state g.W.Draws.block_of g.K.Sink.taken g.K.Sink.faults c.args.parts c.args.counts.now c.args.output.now in
    let mid = moment_closed Locked g.C.Core.meaning g.C.Core.view g.L.Disk.state g.W.Draws.block_of g.K.Sink.taken g.K.Sink.faults c.loop-made.parts k c.loop-made.output in
    let made = moment_closed Off g.C.Core.meaning g.C.Core.view g.L.Disk.state g.W.Draws.block_of g.K.Sink.taken g.K.Sink.faults c.in-Ok.made (record k { lap = k.lap + 1; offers = k.offers + 1 }) c.loop-made.output in
    let now = moment g.C.Core.meaning g.C.Core.view g.L.Disk.state g.W.Draws.block_of g.K.Sink.taken g.K.Sink.faults c.open_cleared.result.0 c.open_cleared.new.counts c.open_cleared.new.output in
    comes_does clear_line cleared_rest c.open_cleared.result.1 was made now
    (comes_as clear_line cleared_rest (IsCleared made) (λ t. Fits t made) was made (λ t p. p.0) (comes_made was mid refl c.loop-made.invariant.comes (g.C.Core.meaning c.clear.new.self) (g.C.Core.view c.clear.new.self) c.clear.ensures.same c.clear.ensures.view made refl c.loop-made.invariant.sits refl c.in-Ok.ensures.made.made
    (ap g.C.Core.meaning c.in-Ok.ensures.core ∙ c.clear.ensures.same) (λ lap index. ap (λ d. g.W.Draws.block_of d lap index) c.in-Ok.ensures.draws) refl refl refl))
    c.open_cleared.ensures.does

pub returns-then-cuts_armed-armed-clause-does : goal.returns-then-cuts_armed-armed-clause-does
returns-then-cuts_armed-armed-clause-does g c =
    let k = c.loop-made.counts in
    let was = moment_closed Locked g.C.Core.meaning g.C.Core.view g.L.Disk.state g.W.Draws.block_of g.K.Sink.taken g.K.Sink.faults c.args.parts c.args.counts.now c.args.output.now in
    let mid = moment_closed Locked g.C.Core.meaning g.C.Core.view g.L.Disk.state g.W.Draws.block_of g.K.Sink.taken g.K.Sink.faults c.loop-made.parts k c.loop-made.output in
    let now = moment_closed Off g.C.Core.meaning g.C.Core.view g.L.Disk.state g.W.Draws.block_of g.K.Sink.taken g.K.Sink.faults c.in-Err.left (record k { offers = k.offers + 1 }) c.loop-made.output in
    let un = c.in-Err.ensures.unmade in
    comes_broke was mid refl c.loop-made.invariant.comes (g.C.Core.meaning c.clear.new.self) (g.C.Core.view c.clear.new.self) c.clear.ensures.same c.clear.ensures.view now
    (was_faulted syncs_of_making mid.disk now.disk (omega (arith, c.if-cuts_armed-armed.true, c.cuts_armed.ensures, c.cuts_armed-armed.ensures)) un.failed)
    (un.near (c.loop-made.invariant.sits.synced refl)) un.found
    (ap g.C.Core.meaning c.in-Err.ensures.kept.0 ∙ c.clear.ensures.same) (λ lap index. ap (λ d. g.W.Draws.block_of d lap index) c.in-Err.ensures.kept.1) refl refl refl

pub open_once-memory-requires-clause-making : goal.open_once-memory-requires-clause-making
open_once-memory-requires-clause-making g c = λ is.
    let laps : c.loop-made.counts.lap + 1 ≤ c.loop-made.counts.power_ons = c.loop-made.invariant.sits.laps in
    omega (arith, laps, c.fall.ensures.lap, c.fall.ensures.power_ons)

pub loop-made-preserved : goal.loop-made-preserved
loop-made-preserved g c =
    let k = c.loop-made.counts in
    let was = moment_closed Locked g.C.Core.meaning g.C.Core.view g.L.Disk.state g.W.Draws.block_of g.K.Sink.taken g.K.Sink.faults c.args.parts c.args.counts.now c.args.output.now in
    let mid = moment_closed Locked g.C.Core.meaning g.C.Core.view g.L.Disk.state g.W.Draws.block_of g.K.Sink.taken g.K.Sink.faults c.loop-made.parts k c.loop-made.output in
    let down = moment_closed Off g.C.Core.meaning g.C.Core.view g.L.Disk.state g.W.Draws.block_of g.K.Sink.taken g.K.Sink.faults c.in-Err.left c.fall.new.self c.loop-made.output in
    let un = c.in-Err.ensures.unmade in
    let cut = was_cut syncs_of_making mid.disk down.disk (omega (arith, c.if-cuts_armed-armed.false, c.cuts_armed.ensures, c.cuts_armed-armed.ensures)) un.failed in
    let comes = comes_fell was mid refl c.loop-made.invariant.comes (g.C.Core.meaning c.clear.new.self) (g.C.Core.view c.clear.new.self) c.clear.ensures.same c.clear.ensures.view down refl c.loop-made.invariant.sits cut
    (un.near (c.loop-made.invariant.sits.synced refl)) un.found (ap g.C.Core.meaning c.in-Err.ensures.kept.0 ∙ c.clear.ensures.same) (λ lap index. ap (λ d. g.W.Draws.block_of d lap index) c.in-Err.ensures.kept.1) refl refl
    c.fall.ensures.lines c.fall.ensures.power_ons c.fall.ensures.lap c.fall.ensures.offers c.fall.ensures.falls in
    let now = moment g.C.Core.meaning g.C.Core.view g.L.Disk.state g.W.Draws.block_of g.K.Sink.taken g.K.Sink.faults c.open_once-memory.result.0 c.open_once-memory.new.counts c.open_once-memory.new.output in
    let opens = c.open_once-memory.ensures.does in
    let ended = c.open_once-memory.result.1 in
    let stands : ended ≡ Ok Opened.Stands = c.in-Ok-ended.is ∙ ap (λ (kind : Opened). let r : Result Opened Halt = Ok kind in r) c.in-Stands.is in
    let same = c.in-Locked.is in
    let long = ap (λ m. length (g.L.Disk.state (memory_disk m)).armed) same in
    let less = some_cut syncs_of_making mid.disk down.disk cut in
    let another = opens.another Opened.Stands stands in
    record {
      comes = subst (λ m. let n = moment g.C.Core.meaning g.C.Core.view g.L.Disk.state g.W.Draws.block_of g.K.Sink.taken g.K.Sink.faults m c.open_once-memory.new.counts c.open_once-memory.new.output in ComesTo clear_line making_rest (λ t. Fits t n) was n) same
          (comes_again was down comes ended now opens stands (ap memory_phase same));
      sits = subst (λ m. Sits (moment g.C.Core.meaning g.C.Core.view g.L.Disk.state g.W.Draws.block_of g.K.Sink.taken g.K.Sink.faults m c.open_once-memory.new.counts c.open_once-memory.new.output)) same (opens.stands stands);
      room = omega (arith, long, less, another, opens.still stands, c.fall.ensures.power_ons, c.loop-made.invariant.room);
      lines = c.open_once-memory.ensures.lines ∙ c.fall.ensures.lines ∙ c.loop-made.invariant.lines;
      offers = omega (arith, another, opens.offers, c.fall.ensures.power_ons, c.fall.ensures.offers, c.loop-made.invariant.offers);
      more = omega (arith, another, c.fall.ensures.power_ons, c.loop-made.invariant.more);
    }

pub returns-in_default : goal.returns-in_default
returns-in_default g c =
    let k = c.loop-made.counts in
    let was = moment_closed Locked g.C.Core.meaning g.C.Core.view g.L.Disk.state g.W.Draws.block_of g.K.Sink.taken g.K.Sink.faults c.args.parts c.args.counts.now c.args.output.now in
    let mid = moment_closed Locked g.C.Core.meaning g.C.Core.view g.L.Disk.state g.W.Draws.block_of g.K.Sink.taken g.K.Sink.faults c.loop-made.parts k c.loop-made.output in
    let down = moment_closed Off g.C.Core.meaning g.C.Core.view g.L.Disk.state g.W.Draws.block_of g.K.Sink.taken g.K.Sink.faults c.in-Err.left c.fall.new.self c.loop-made.output in
    let un = c.in-Err.ensures.unmade in
    let cut = was_cut syncs_of_making mid.disk down.disk (omega (arith, c.if-cuts_armed-armed.false, c.cuts_armed.ensures, c.cuts_armed-armed.ensures)) un.failed in
    let comes = comes_fell was mid refl c.loop-made.invariant.comes (g.C.Core.meaning c.clear.new.self) (g.C.Core.view c.clear.new.self) c.clear.ensures.same c.clear.ensures.view down refl c.loop-made.invariant.sits cut
    (un.near (c.loop-made.invariant.sits.synced refl)) un.found (ap g.C.Core.meaning c.in-Err.ensures.kept.0 ∙ c.clear.ensures.same) (λ lap index. ap (λ d. g.W.Draws.block_of d lap index) c.in-Err.ensures.kept.1) refl refl
    c.fall.ensures.lines c.fall.ensures.power_ons c.fall.ensures.lap c.fall.ensures.offers c.fall.ensures.falls in
    let now = moment g.C.Core.meaning g.C.Core.view g.L.Disk.state g.W.Draws.block_of g.K.Sink.taken g.K.Sink.faults c.open_once-memory.result.0 c.open_once-memory.new.counts c.open_once-memory.new.output in
    let opens = c.open_once-memory.ensures.does in
    let ended = c.open_once-memory.result.1 in
    let stands : ended ≡ Ok Opened.Stands = c.in-Ok-ended.is ∙ ap (λ (kind : Opened). let r : Result Opened Halt = Ok kind in r) c.in-Stands.is in
    let another = opens.another Opened.Stands stands in
    record {
      does = comes_open was down comes ended now opens stands (not_locked c.open_once-memory.result.0 c.in_default.not-Locked);
      lines = c.open_once-memory.ensures.lines ∙ c.fall.ensures.lines ∙ c.loop-made.invariant.lines;
      offers = omega (arith, another, opens.offers, c.fall.ensures.power_ons, c.fall.ensures.offers, c.loop-made.invariant.offers);
    }

pub returns-in-Fell-clause-does : goal.returns-in-Fell-clause-does
returns-in-Fell-clause-does g c =
    let k = c.loop-made.counts in
    let was = moment_closed Locked g.C.Core.meaning g.C.Core.view g.L.Disk.state g.W.Draws.block_of g.K.Sink.taken g.K.Sink.faults c.args.parts c.args.counts.now c.args.output.now in
    let mid = moment_closed Locked g.C.Core.meaning g.C.Core.view g.L.Disk.state g.W.Draws.block_of g.K.Sink.taken g.K.Sink.faults c.loop-made.parts k c.loop-made.output in
    let down = moment_closed Off g.C.Core.meaning g.C.Core.view g.L.Disk.state g.W.Draws.block_of g.K.Sink.taken g.K.Sink.faults c.in-Err.left c.fall.new.self c.loop-made.output in
    let un = c.in-Err.ensures.unmade in
    let cut = was_cut syncs_of_making mid.disk down.disk (omega (arith, c.if-cuts_armed-armed.false, c.cuts_armed.ensures, c.cuts_armed-armed.ensures)) un.failed in
    let comes = comes_fell was mid refl c.loop-made.invariant.comes (g.C.Core.meaning c.clear.new.self) (g.C.Core.view c.clear.new.self) c.clear.ensures.same c.clear.ensures.view down refl c.loop-made.invariant.sits cut
    (un.near (c.loop-made.invariant.sits.synced refl)) un.found (ap g.C.Core.meaning c.in-Err.ensures.kept.0 ∙ c.clear.ensures.same) (λ lap index. ap (λ d. g.W.Draws.block_of d lap index) c.in-Err.ensures.kept.1) refl refl
    c.fall.ensures.lines c.fall.ensures.power_ons c.fall.ensures.lap c.fall.ensures.offers c.fall.ensures.falls in
    let now = moment g.C.Core.meaning g.C.Core.view g.L.Disk.state g.W.Draws.block_of g.K.Sink.taken g.K.Sink.faults c.open_once-memory.result.0 c.open_once-memory.new.counts c.open_once-memory.new.output in
    let opens = c.open_once-memory.ensures.does in
    let ended = c.open_once-memory.result.1 in
    let fell : ended ≡ Ok Opened.Fell = c.in-Ok-ended.is ∙ ap (λ (kind : Opened). let r : Result Opened Halt = Ok kind in r) c.in-Fell.is in
    let fallen = moment_closed Off g.C.Core.meaning g.C.Core.view g.L.Disk.state g.W.Draws.block_of g.K.Sink.taken g.K.Sink.faults c.in-Off.fallen c.open_once-memory.new.counts c.open_once-memory.new.output in
    let after = moment g.C.Core.meaning g.C.Core.view g.L.Disk.state g.W.Draws.block_of g.K.Sink.taken g.K.Sink.faults c.reopen.result.0 c.reopen.new.counts c.reopen.new.output in
    comes_reopened was down comes ended now opens fell fallen c.reopen.result.1 after
    (ap (λ m. moment g.C.Core.meaning g.C.Core.view g.L.Disk.state g.W.Draws.block_of g.K.Sink.taken g.K.Sink.faults m c.open_once-memory.new.counts c.open_once-memory.new.output) c.in-Off.is) c.reopen.ensures.does

pub returns-in-Err-ended-clause-does : goal.returns-in-Err-ended-clause-does
returns-in-Err-ended-clause-does g c =
    let k = c.loop-made.counts in
    let was = moment_closed Locked g.C.Core.meaning g.C.Core.view g.L.Disk.state g.W.Draws.block_of g.K.Sink.taken g.K.Sink.faults c.args.parts c.args.counts.now c.args.output.now in
    let mid = moment_closed Locked g.C.Core.meaning g.C.Core.view g.L.Disk.state g.W.Draws.block_of g.K.Sink.taken g.K.Sink.faults c.loop-made.parts k c.loop-made.output in
    let down = moment_closed Off g.C.Core.meaning g.C.Core.view g.L.Disk.state g.W.Draws.block_of g.K.Sink.taken g.K.Sink.faults c.in-Err.left c.fall.new.self c.loop-made.output in
    let un = c.in-Err.ensures.unmade in
    let cut = was_cut syncs_of_making mid.disk down.disk (omega (arith, c.if-cuts_armed-armed.false, c.cuts_armed.ensures, c.cuts_armed-armed.ensures)) un.failed in
    let comes = comes_fell was mid refl c.loop-made.invariant.comes (g.C.Core.meaning c.clear.new.self) (g.C.Core.view c.clear.new.self) c.clear.ensures.same c.clear.ensures.view down refl c.loop-made.invariant.sits cut
    (un.near (c.loop-made.invariant.sits.synced refl)) un.found (ap g.C.Core.meaning c.in-Err.ensures.kept.0 ∙ c.clear.ensures.same) (λ lap index. ap (λ d. g.W.Draws.block_of d lap index) c.in-Err.ensures.kept.1) refl refl
    c.fall.ensures.lines c.fall.ensures.power_ons c.fall.ensures.lap c.fall.ensures.offers c.fall.ensures.falls in
    let now = moment g.C.Core.meaning g.C.Core.view g.L.Disk.state g.W.Draws.block_of g.K.Sink.taken g.K.Sink.faults c.open_once-memory.result.0 c.open_once-memory.new.counts c.open_once-memory.new.output in
    let opens = c.open_once-memory.ensures.does in
    let ended = c.open_once-memory.result.1 in
    comes_failed was down comes ended now opens c.in-Err-ended.halt c.in-Err-ended.is
