use Rattle.std.proofs.Common.{◌≡◌, ◌∙◌, ap, sym, subst, refl, ℕ, ◌+◌, arith, Bool, true, false, if◌then◌else◌, List}
use Rattle.gd_base.specs.Judging.Answer.{answer, is_new}
use Rattle.gd_cabinet.specs.Answers.{view_offered}
use Rattle.gd_cabinet.specs.Cabinet.{cabinet_stopped}
use Rattle.gd_cabinet.specs.declared.submitting.Answer.{Answer}
use Rattle.gd_store.specs.Store.{store_payload}
use Rattle.gd_top.specs.Claims.ImageRuns.{TellsImages, WasOpened}
use Rattle.gd_top.specs.Code.Memory.{Moment, moment_on, Does}
use Rattle.gd_top.specs.Code.OverImage.{DoesOver, Stands, over}
use Rattle.gd_top.specs.Code.Parts.{GivesText}
use Rattle.gd_top.specs.Report.AnswerText.{answer_text}
use Rattle.gd_top.specs.Run.Items.{event_meaning}
use Rattle.gd_top.specs.Run.Offers.{syncs_of_event}
use Rattle.gd_top.specs.declared.memory.counts.Counts.{Counts}
use Rattle.gd_top.proofs.ItemLemmas.EventEnds.{IsAnswered, answers_new, answers_still, event_faulted, failed_event}
use Rattle.gd_top.proofs.OverLemmas.Disks.{failed_as, is_faulted, leaves_as, syncs_as, whole_as}
use Rattle.gd_top.proofs.OverLemmas.Parts.{ends_given, was_off}
use Rattle.gd_top.proofs.RunLemmas.Said.{gives_no_read_fault, not_true}
use Rattle.gd_top.proofs.image.event.offer.Goals as goal

-- one offer more of a new event, and none of any other
by_new : (b : Bool) (Told : ℕ → Type 0) → (b ≡ true → Told 1) → (b ≡ false → Told 0) → (n : ℕ) → n ≡ (if b then 1 else 0) → Told n
by_new true Told one none n is = subst Told (sym is) (one refl)
by_new false Told one none n is = subst Told (sym is) (none refl)

pub returns-in-Ok-clause-does : goal.returns-in-Ok-clause-does
returns-in-Ok-clause-does g c =
    let k = c.args.counts.now in
    let e = c.args.e.now in
    let cabinet = c.submit.new.self in
    let was = moment_on g.C.Core.meaning g.C.Core.view g.D.Disk.state g.W.Draws.block_of g.K.Sink.taken g.K.Sink.faults c.args.cabinet k c.args.output.now in
    let n = moment_on g.C.Core.meaning g.C.Core.view g.D.Disk.state g.W.Draws.block_of g.K.Sink.taken g.K.Sink.faults cabinet k c.give_text-given.new.output in
    let r = c.give_text-given.result in
    let given = c.give_text-given.ensures in
    let h = c.in-Ok.ensures in
    let runs = not_true (cabinet_stopped cabinet) (λ is. cc (h.off.1 is)) in
    let gives : GivesText r was.taken n.taken (answer_text e (answer was.machine was.view e) (was.machine.count n.view)) =
    subst (GivesText r _ _) (c.write_answer.ensures (answer was.machine was.view e) (was.machine.count n.view) h.answer) given.given in
    let now : Counts → Moment g.C.Core.View = λ counts. moment_on g.C.Core.meaning g.C.Core.view g.D.Disk.state g.W.Draws.block_of g.K.Sink.taken g.K.Sink.faults cabinet counts c.give_text-given.new.output in
    let done : (counts : Counts) → (counts.power_ons ≡ k.power_ons) × (counts.falls.items ≡ k.falls.items)
    → ((images : List (List ℕ)) (image : List ℕ) → Stands image images was → Does (λ M B. event_meaning M B e) r (over images was) (over images (now counts))) → DoesOver (TellsImages g.D.Disk.state) (λ M B. event_meaning M B e) r was (now counts) =
    λ counts same does. record {
      does = λ told image images stands.
          let d = does images image stands in (
            images,
            stands.opened,
            (λ serves. record { opened = subst (λ M. WasOpened M image images) (sym h.meaning) stands.opened; as_many = same.0 ∙ stands.as_many; falls = same.1 ∙ stands.falls; sits = d.leaves.sits serves }),
            d,
          );
      ends = ends_given was (now counts) h.meaning h.draws same.1 r _ given.given given.later given.cause (λ serves. record { size = h.size ∙ c.requires.size; powered = refl; runs = runs }) h.no_stop;
      reads_nothing = λ is. gives_no_read_fault r _ _ _ given.given is;
    } in
    let answered : (images : List (List ℕ)) (image : List ℕ) → Stands image images was → IsAnswered e (over images was) (over images n) = λ images image stands. record {
      run = whole_as images images was.disk n.disk _ h.run.whole h.no_stop;
      view = h.view ∙ ap (λ (lap : ℕ). view_offered was.machine was.blocks lap was.view e) (stands.sits.same_lap refl);
      both = h.both;
      spelled = (store_payload cabinet.store, cabinet.spelled);
      size = h.size;
      is_on = h.is_on.1;
      runs = runs;
      lap = h.lap;
      trial = refl;
      found = refl;
      machine = h.meaning;
      blocks = h.draws;
    } in
    let Told : ℕ → Type 0 = λ offers. DoesOver (TellsImages g.D.Disk.state) (λ M B. event_meaning M B e) r was (now (record k { offers = k.offers + offers })) in
    let offers : c.offers_of.result ≡ (if is_new (answer was.machine was.view e) then 1 else 0) = c.offers_of.ensures.exact (answer was.machine was.view e) (was.machine.count n.view) h.answer in
    by_new (is_new (answer was.machine was.view e)) Told
    (λ new. done (record k { offers = k.offers + 1 }) (refl, refl) (λ images image stands. answers_new e (over images was) (over images n) (answered images image stands) stands.sits r gives given.later given.cause new))
    (λ old. subst (λ (offers : ℕ). DoesOver (TellsImages g.D.Disk.state) (λ M B. event_meaning M B e) r was (now (record k { offers = offers }))) (omega arith) (done k (refl, refl) (λ images image stands. answers_still e (over images was) (over images n) (answered images image stands) stands.sits r gives given.later given.cause old)))
    c.offers_of.result offers

pub returns-in-Err-clause-does : goal.returns-in-Err-clause-does
returns-in-Err-clause-does g c =
    let k = c.args.counts.now in
    let e = c.args.e.now in
    let was = moment_on g.C.Core.meaning g.C.Core.view g.D.Disk.state g.W.Draws.block_of g.K.Sink.taken g.K.Sink.faults c.args.cabinet k c.args.output.now in
    let off = moment_on g.C.Core.meaning g.C.Core.view g.D.Disk.state g.W.Draws.block_of g.K.Sink.taken g.K.Sink.faults c.submit.new.self (record k { offers = k.offers + 1 }) c.args.output.now in
    let stop = c.in-Err.field-0 in
    let h = c.in-Err.ensures in
    let stops = was_off stop (λ is. cc (c.requires.runs, h.stopped.0 is)) h.cause in
    record {
      does = λ told image images stands.
          let sits = stands.sits in
          let m = over images was in
          let n = over images off in
          let failed = failed_event {T = Answer} e m n sits stop (syncs_as images images was.disk off.disk _ stop (h.syncs c.requires.runs)) (failed_as images images was.disk off.disk _ stop h.run sits.power stops)
          (leaves_as images images was.disk off.disk _ (h.any_moment c.requires.runs)) refl refl refl h.meaning h.draws in (
            images,
            stands.opened,
            (λ serves. absurd serves),
            event_faulted e m n failed.0 (is_faulted images images was.disk off.disk syncs_of_event (failed.1.failed sits.power)) refl,
          );
      ends = record {
        rests = λ serves. absurd serves;
        no_stop = λ serves. absurd serves;
        disk_fault = λ is. omega (arith, stops);
        later = omega arith;
        write_fault = λ is. absurd (cc is);
        machine = h.meaning;
        blocks = h.draws;
        falls = refl;
      };
      reads_nothing = λ is. absurd (cc is);
    }
