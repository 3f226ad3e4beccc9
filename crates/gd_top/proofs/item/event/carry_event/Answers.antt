use Rattle.std.proofs.Common.{◌≡◌, ◌∙◌, ap, sym, subst, refl, ℕ, ◌+◌, arith, Err}
use Rattle.gd_base.specs.Judging.Answer.{answer, is_new}
use Rattle.gd_cabinet.specs.Answers.{view_offered}
use Rattle.gd_cabinet.specs.Cabinet.{cabinet_stopped}
use Rattle.gd_cabinet.specs.declared.submitting.Answer.{Answer}
use Rattle.gd_disk.specs.CutRuns.{IsCutOff}
use Rattle.gd_disk.specs.Disk.{DiskState}
use Rattle.gd_disk.proofs.WholeRuns.{was_cut, was_fault}
use Rattle.gd_store.specs.Store.{store_payload}
use Rattle.gd_top.specs.Code.Memory.{Moment, moment, moment_on, moment_closed, Does}
use Rattle.gd_top.specs.Code.Parts.{GivesText}
use Rattle.gd_top.specs.Report.AnswerText.{answer_text}
use Rattle.gd_top.specs.Run.Items.{event_meaning}
use Rattle.gd_top.specs.Run.Offers.{syncs_of_event}
use Rattle.gd_top.specs.Run.State.{Off, Locked, prints}
use Rattle.gd_top.specs.Report.Lines.{locked_line}
use Rattle.gd_top.specs.declared.halt.Halt.{Halt}
use Rattle.gd_top.specs.declared.memory.Memory.{Memory}
use Rattle.gd_top.specs.declared.memory.counts.Counts.{Counts}
use Rattle.gd_top.proofs.ItemLemmas.EventEnds.{IsAnswered, IsCounted, answers_new, answers_still, event_faulted, event_down, event_fallen, failed_event, failed_closed}
use Rattle.gd_top.proofs.ItemLemmas.EventLoop.{not_offered, opened_at, offered_then, pending_more, reopening_failed, stands_open, stands_locked}
use Rattle.gd_top.proofs.ItemLemmas.Lines.{says_here}
use Rattle.gd_top.proofs.RunLemmas.Said.{not_true}
use Rattle.gd_top.proofs.item.event.carry_event.Goals.{then-is_new, else-is_new}
use Rattle.gd_top.proofs.item.event.carry_event.Goals as goal

pub loop-answer-init : goal.loop-answer-init
loop-answer-init g c =
    let was = moment_on g.C.Core.meaning g.C.Core.view g.L.Disk.state g.W.Draws.block_of g.K.Sink.taken g.K.Sink.faults c.args.cabinet c.args.counts.now c.args.output.now in
    record { pending = not_offered c.args.e.now was c.requires.sits }

pub returns-in-Ok-clause-does : goal.returns-in-Ok-clause-does
returns-in-Ok-clause-does g c =
    let was = moment_on g.C.Core.meaning g.C.Core.view g.L.Disk.state g.W.Draws.block_of g.K.Sink.taken g.K.Sink.faults c.args.cabinet c.args.counts.now c.args.output.now in
    let mid = moment_on g.C.Core.meaning g.C.Core.view g.L.Disk.state g.W.Draws.block_of g.K.Sink.taken g.K.Sink.faults c.loop-answer.cabinet c.loop-answer.counts c.loop-answer.output in
    let cabinet = c.submit.new.self in
    let k = c.loop-answer.counts in
    let e = c.args.e.now in
    let sits = c.loop-answer.invariant.pending.sits in
    let n = moment_on g.C.Core.meaning g.C.Core.view g.L.Disk.state g.W.Draws.block_of g.K.Sink.taken g.K.Sink.faults cabinet k c.give_text-given.new.output in
    let r = c.give_text-given.result in
    let given = c.give_text-given.ensures in
    let h : IsAnswered e mid n = record {
      run = c.in-Ok.ensures.run.whole;
      view = c.in-Ok.ensures.view ∙ ap (λ (lap : ℕ). view_offered mid.machine mid.blocks lap mid.view e) (sits.same_lap refl);
      both = c.in-Ok.ensures.both;
      spelled = (store_payload cabinet.store, cabinet.spelled);
      size = c.in-Ok.ensures.size;
      is_on = c.in-Ok.ensures.is_on.1;
      runs = not_true (cabinet_stopped cabinet) (λ is. cc (c.in-Ok.ensures.off.1 is));
      lap = c.in-Ok.ensures.lap;
      trial = refl;
      found = c.in-Ok.ensures.found;
      machine = c.in-Ok.ensures.meaning;
      blocks = c.in-Ok.ensures.draws;
    } in
    let gives : GivesText r mid.taken n.taken (answer_text e (answer mid.machine mid.view e) (mid.machine.count n.view)) =
    subst (GivesText r _ _) (c.write_answer.ensures (answer mid.machine mid.view e) (mid.machine.count n.view) c.in-Ok.ensures.answer) given.given in
    let new : c.is_new.result ≡ is_new (answer mid.machine mid.view e) = c.is_new.ensures (answer mid.machine mid.view e) (mid.machine.count n.view) c.in-Ok.ensures.answer in
    let now : Counts → Moment g.C.Core.View = λ counts. moment_on g.C.Core.meaning g.C.Core.view g.L.Disk.state g.W.Draws.block_of g.K.Sink.taken g.K.Sink.faults cabinet counts c.give_text-given.new.output in
    let done : (counts : Counts) → Does (λ M B. event_meaning M B e) r mid (now counts) → Does (λ M B. event_meaning M B e) r was (now counts) = λ counts d. offered_then e was mid (now counts) r c.loop-answer.invariant.pending d in
    elim c.if-is_new.branch [
      | then-is_new w ↦ subst (λ (counts : Counts). Does (λ M B. event_meaning M B e) r was (now counts)) (sym w.counts-is) (done _ (answers_new e mid n h sits r gives given.later given.cause (sym new ∙ w.if-is_new.true)))
      | else-is_new w ↦ subst (λ (counts : Counts). Does (λ M B. event_meaning M B e) r was (now counts)) (sym w.counts-is) (done _ (answers_still e mid n h sits r gives given.later given.cause (sym new ∙ w.if-is_new.false)))
    ]

pub returns-then-cuts_armed-armed-clause-does : goal.returns-then-cuts_armed-armed-clause-does
returns-then-cuts_armed-armed-clause-does g c =
    let was = moment_on g.C.Core.meaning g.C.Core.view g.L.Disk.state g.W.Draws.block_of g.K.Sink.taken g.K.Sink.faults c.args.cabinet c.args.counts.now c.args.output.now in
    let mid = moment_on g.C.Core.meaning g.C.Core.view g.L.Disk.state g.W.Draws.block_of g.K.Sink.taken g.K.Sink.faults c.loop-answer.cabinet c.loop-answer.counts c.loop-answer.output in
    let e = c.args.e.now in
    let sits = c.loop-answer.invariant.pending.sits in
    let k = c.loop-answer.counts in
    let off = moment_on g.C.Core.meaning g.C.Core.view g.L.Disk.state g.W.Draws.block_of g.K.Sink.taken g.K.Sink.faults c.submit.new.self (record k { offers = k.offers + 1 }) c.loop-answer.output in
    let failed = failed_event {T = Answer} e mid off sits c.in-Err.field-0 (c.in-Err.ensures.syncs sits.runs) c.in-Err.ensures.run (c.in-Err.ensures.any_moment sits.runs) c.in-Err.ensures.found refl refl c.in-Err.ensures.meaning c.in-Err.ensures.draws in
    let fault = was_fault syncs_of_event c.in-Err.field-0 mid.disk off.disk failed.1 sits.power (omega (arith, c.cuts_armed-armed.ensures, c.cuts_armed.ensures, c.if-cuts_armed-armed.true)) in
    offered_then e was mid off (Err Halt.DiskFault) c.loop-answer.invariant.pending (event_faulted e mid off failed.0 fault refl)

pub reopen-memory-requires-clause-down : goal.reopen-memory-requires-clause-down
reopen-memory-requires-clause-down g c =
    let mid = moment_on g.C.Core.meaning g.C.Core.view g.L.Disk.state g.W.Draws.block_of g.K.Sink.taken g.K.Sink.faults c.loop-answer.cabinet c.loop-answer.counts c.loop-answer.output in
    let e = c.args.e.now in
    let sits = c.loop-answer.invariant.pending.sits in
    let k = c.loop-answer.counts in
    let off = moment_on g.C.Core.meaning g.C.Core.view g.L.Disk.state g.W.Draws.block_of g.K.Sink.taken g.K.Sink.faults c.submit.new.self (record k { offers = k.offers + 1 }) c.loop-answer.output in
    let failed = failed_event {T = Answer} e mid off sits c.in-Err.field-0 (c.in-Err.ensures.syncs sits.runs) c.in-Err.ensures.run (c.in-Err.ensures.any_moment sits.runs) c.in-Err.ensures.found refl refl c.in-Err.ensures.meaning c.in-Err.ensures.draws in
    let down = moment_closed Off g.C.Core.meaning g.C.Core.view g.L.Disk.state g.W.Draws.block_of g.K.Sink.taken g.K.Sink.faults c.close.result c.fall.new.self c.loop-answer.output in
    let counted : IsCounted mid down = record { trial = refl; offers = c.fall.ensures.offers; power_ons = c.fall.ensures.power_ons; lines = c.fall.ensures.lines; lap = c.fall.ensures.lap; given = c.fall.ensures.given; calls = c.fall.ensures.calls; falls = c.fall.ensures.falls } in
    let cut = was_cut syncs_of_event c.in-Err.field-0 mid.disk off.disk failed.1 sits.power (omega (arith, c.cuts_armed-armed.ensures, c.cuts_armed.ensures, c.if-cuts_armed-armed.false)) in
    let disk = ap g.L.Disk.state c.close.ensures.disk in
    let cut_off = subst (λ (d : DiskState). IsCutOff syncs_of_event mid.disk d) (sym disk) cut in
    let machine = ap g.C.Core.meaning c.close.ensures.core in
    event_down mid down sits cut_off counted (machine ∙ c.in-Err.ensures.meaning) (ap (λ (d : DiskState). d.size) disk ∙ c.in-Err.ensures.size) (ap (λ (d : DiskState). d.is_on) disk ∙ c.in-Err.ensures.is_off)

pub returns-then-is_err-clause-does : goal.returns-then-is_err-clause-does
returns-then-is_err-clause-does g c =
    let was = moment_on g.C.Core.meaning g.C.Core.view g.L.Disk.state g.W.Draws.block_of g.K.Sink.taken g.K.Sink.faults c.args.cabinet c.args.counts.now c.args.output.now in
    let mid = moment_on g.C.Core.meaning g.C.Core.view g.L.Disk.state g.W.Draws.block_of g.K.Sink.taken g.K.Sink.faults c.loop-answer.cabinet c.loop-answer.counts c.loop-answer.output in
    let e = c.args.e.now in
    let sits = c.loop-answer.invariant.pending.sits in
    let k = c.loop-answer.counts in
    let off = moment_on g.C.Core.meaning g.C.Core.view g.L.Disk.state g.W.Draws.block_of g.K.Sink.taken g.K.Sink.faults c.submit.new.self (record k { offers = k.offers + 1 }) c.loop-answer.output in
    let failed = failed_event {T = Answer} e mid off sits c.in-Err.field-0 (c.in-Err.ensures.syncs sits.runs) c.in-Err.ensures.run (c.in-Err.ensures.any_moment sits.runs) c.in-Err.ensures.found refl refl c.in-Err.ensures.meaning c.in-Err.ensures.draws in
    let down = moment_closed Off g.C.Core.meaning g.C.Core.view g.L.Disk.state g.W.Draws.block_of g.K.Sink.taken g.K.Sink.faults c.close.result c.fall.new.self c.loop-answer.output in
    let counted : IsCounted mid down = record { trial = refl; offers = c.fall.ensures.offers; power_ons = c.fall.ensures.power_ons; lines = c.fall.ensures.lines; lap = c.fall.ensures.lap; given = c.fall.ensures.given; calls = c.fall.ensures.calls; falls = c.fall.ensures.falls } in
    let cut = was_cut syncs_of_event c.in-Err.field-0 mid.disk off.disk failed.1 sits.power (omega (arith, c.cuts_armed-armed.ensures, c.cuts_armed.ensures, c.if-cuts_armed-armed.false)) in
    let disk = ap g.L.Disk.state c.close.ensures.disk in
    let cut_off = subst (λ (d : DiskState). IsCutOff syncs_of_event mid.disk d) (sym disk) cut in
    let machine = ap g.C.Core.meaning c.close.ensures.core in
    let fell = event_fallen mid down sits cut_off counted e (failed_closed e mid off down failed.0 disk refl refl machine (λ lap index. ap (λ d. g.W.Draws.block_of d lap index) c.close.ensures.draws)) in
    let now = moment g.C.Core.meaning g.C.Core.view g.L.Disk.state g.W.Draws.block_of g.K.Sink.taken g.K.Sink.faults c.reopen-memory.result.0 c.reopen-memory.new.counts c.reopen-memory.new.output in
    let r = c.reopen-memory.result.1 in
    offered_then e was mid now r c.loop-answer.invariant.pending (reopening_failed e mid down fell r now (sym c.is_err.ensures.value ∙ c.if-is_err.true) c.reopen-memory.ensures.does)

pub loop-answer-preserved : goal.loop-answer-preserved
loop-answer-preserved g c =
    let was = moment_on g.C.Core.meaning g.C.Core.view g.L.Disk.state g.W.Draws.block_of g.K.Sink.taken g.K.Sink.faults c.args.cabinet c.args.counts.now c.args.output.now in
    let mid = moment_on g.C.Core.meaning g.C.Core.view g.L.Disk.state g.W.Draws.block_of g.K.Sink.taken g.K.Sink.faults c.loop-answer.cabinet c.loop-answer.counts c.loop-answer.output in
    let e = c.args.e.now in
    let sits = c.loop-answer.invariant.pending.sits in
    let k = c.loop-answer.counts in
    let off = moment_on g.C.Core.meaning g.C.Core.view g.L.Disk.state g.W.Draws.block_of g.K.Sink.taken g.K.Sink.faults c.submit.new.self (record k { offers = k.offers + 1 }) c.loop-answer.output in
    let failed = failed_event {T = Answer} e mid off sits c.in-Err.field-0 (c.in-Err.ensures.syncs sits.runs) c.in-Err.ensures.run (c.in-Err.ensures.any_moment sits.runs) c.in-Err.ensures.found refl refl c.in-Err.ensures.meaning c.in-Err.ensures.draws in
    let down = moment_closed Off g.C.Core.meaning g.C.Core.view g.L.Disk.state g.W.Draws.block_of g.K.Sink.taken g.K.Sink.faults c.close.result c.fall.new.self c.loop-answer.output in
    let counted : IsCounted mid down = record { trial = refl; offers = c.fall.ensures.offers; power_ons = c.fall.ensures.power_ons; lines = c.fall.ensures.lines; lap = c.fall.ensures.lap; given = c.fall.ensures.given; calls = c.fall.ensures.calls; falls = c.fall.ensures.falls } in
    let cut = was_cut syncs_of_event c.in-Err.field-0 mid.disk off.disk failed.1 sits.power (omega (arith, c.cuts_armed-armed.ensures, c.cuts_armed.ensures, c.if-cuts_armed-armed.false)) in
    let disk = ap g.L.Disk.state c.close.ensures.disk in
    let cut_off = subst (λ (d : DiskState). IsCutOff syncs_of_event mid.disk d) (sym disk) cut in
    let machine = ap g.C.Core.meaning c.close.ensures.core in
    let fell = event_fallen mid down sits cut_off counted e (failed_closed e mid off down failed.0 disk refl refl machine (λ lap index. ap (λ d. g.W.Draws.block_of d lap index) c.close.ensures.draws)) in
    let stands : Memory g.row.C.Denot g.row.L.Denot g.row.W.Denot g.C.Core g.L.Disk g.W.Draws → Moment g.C.Core.View = λ memory. moment g.C.Core.meaning g.C.Core.view g.L.Disk.state g.W.Draws.block_of g.K.Sink.taken g.K.Sink.faults memory c.reopen-memory.new.counts c.reopen-memory.new.output in
    let now = stands (Memory.On c.in-On.opened) in
    let does = opened_at stands c.reopen-memory.result.0 (Memory.On c.in-On.opened) c.in-On.is down c.reopen-memory.result.1 (sym c.is_err.ensures.value ∙ c.if-is_err.false) c.reopen-memory.ensures.does in
    record { pending = pending_more e was mid now c.loop-answer.invariant.pending (stands_open e mid down fell now does refl c.reopen-memory.ensures.lines) }

pub returns-in-Locked-clause-does : goal.returns-in-Locked-clause-does
returns-in-Locked-clause-does g c =
    let was = moment_on g.C.Core.meaning g.C.Core.view g.L.Disk.state g.W.Draws.block_of g.K.Sink.taken g.K.Sink.faults c.args.cabinet c.args.counts.now c.args.output.now in
    let mid = moment_on g.C.Core.meaning g.C.Core.view g.L.Disk.state g.W.Draws.block_of g.K.Sink.taken g.K.Sink.faults c.loop-answer.cabinet c.loop-answer.counts c.loop-answer.output in
    let e = c.args.e.now in
    let sits = c.loop-answer.invariant.pending.sits in
    let k = c.loop-answer.counts in
    let off = moment_on g.C.Core.meaning g.C.Core.view g.L.Disk.state g.W.Draws.block_of g.K.Sink.taken g.K.Sink.faults c.submit.new.self (record k { offers = k.offers + 1 }) c.loop-answer.output in
    let failed = failed_event {T = Answer} e mid off sits c.in-Err.field-0 (c.in-Err.ensures.syncs sits.runs) c.in-Err.ensures.run (c.in-Err.ensures.any_moment sits.runs) c.in-Err.ensures.found refl refl c.in-Err.ensures.meaning c.in-Err.ensures.draws in
    let down = moment_closed Off g.C.Core.meaning g.C.Core.view g.L.Disk.state g.W.Draws.block_of g.K.Sink.taken g.K.Sink.faults c.close.result c.fall.new.self c.loop-answer.output in
    let counted : IsCounted mid down = record { trial = refl; offers = c.fall.ensures.offers; power_ons = c.fall.ensures.power_ons; lines = c.fall.ensures.lines; lap = c.fall.ensures.lap; given = c.fall.ensures.given; calls = c.fall.ensures.calls; falls = c.fall.ensures.falls } in
    let cut = was_cut syncs_of_event c.in-Err.field-0 mid.disk off.disk failed.1 sits.power (omega (arith, c.cuts_armed-armed.ensures, c.cuts_armed.ensures, c.if-cuts_armed-armed.false)) in
    let disk = ap g.L.Disk.state c.close.ensures.disk in
    let cut_off = subst (λ (d : DiskState). IsCutOff syncs_of_event mid.disk d) (sym disk) cut in
    let machine = ap g.C.Core.meaning c.close.ensures.core in
    let fell = event_fallen mid down sits cut_off counted e (failed_closed e mid off down failed.0 disk refl refl machine (λ lap index. ap (λ d. g.W.Draws.block_of d lap index) c.close.ensures.draws)) in
    let stands : Memory g.row.C.Denot g.row.L.Denot g.row.W.Denot g.C.Core g.L.Disk g.W.Draws → Moment g.C.Core.View = λ memory. moment g.C.Core.meaning g.C.Core.view g.L.Disk.state g.W.Draws.block_of g.K.Sink.taken g.K.Sink.faults memory c.reopen-memory.new.counts c.reopen-memory.new.output in
    let now = stands (Memory.Locked c.in-Locked.parts) in
    let does = opened_at stands c.reopen-memory.result.0 (Memory.Locked c.in-Locked.parts) c.in-Locked.is down c.reopen-memory.result.1 (sym c.is_err.ensures.value ∙ c.if-is_err.false) c.reopen-memory.ensures.does in
    let r = c.tell_lock-given.result in
    let given = c.tell_lock-given.ensures in
    let next = moment_closed Locked g.C.Core.meaning g.C.Core.view g.L.Disk.state g.W.Draws.block_of g.K.Sink.taken g.K.Sink.faults c.in-Locked.parts c.reopen-memory.new.counts c.tell_lock-given.new.output in
    offered_then e was mid next r c.loop-answer.invariant.pending
    (stands_locked e mid down fell now does refl r next (says_here now (λ M B. prints locked_line) r _ _ locked_line (does.leaves.sits tt) (λ s x. refl) given.given given.later given.cause))
