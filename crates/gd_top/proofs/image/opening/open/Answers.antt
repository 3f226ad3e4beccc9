use Rattle.std.proofs.Common.{◌≡◌, ◌∙◌, inl, inr, ◌+◌, ◌++◌, ◌∷◌, [], ap, sym, subst, refl, arith, ℕ, Bool, false, List}
use Rattle.gd_base.specs.Judging.Answer.{is_full}
use Rattle.gd_base.specs.Payloads.Spelled.{Foreign, Unreadable}
use Rattle.gd_cabinet.specs.Cabinet.{cabinet_core, cabinet_disk}
use Rattle.gd_cabinet.specs.Shown.{shows}
use Rattle.gd_store.specs.Copy.{found_in}
use Rattle.gd_store.specs.Repair.{repair_needed}
use Rattle.gd_store.specs.declared.copy.layout.TheConstants.{LAYOUT}
use Rattle.gd_store.specs.declared.copy.states.Found.{Found}
use Rattle.gd_top.specs.Claims.ImageRuns.{as_lab}
use Rattle.gd_top.specs.Code.Memory.{OpensTo, moment_on, moment_closed}
use Rattle.gd_top.specs.Code.OverImage.{OpensOver, over, unless_given}
use Rattle.gd_top.specs.Code.Parts.{GivesText}
use Rattle.gd_top.specs.Report.Lines.{differs_line, is_found_full, locked_line, power_line, start_text}
use Rattle.gd_top.specs.Run.Openings.{Done}
use Rattle.gd_top.specs.Run.State.{Nothing, Off, Locked}
use Rattle.gd_top.specs.declared.halt.Halt.{Halt}
use Rattle.gd_top.specs.declared.memory.counts.Counts.{Counts}
use Rattle.gd_top.proofs.ItemLemmas.Images.{core_shows, full_is, lost_shows, opening_near, shut_synced, some_at, told_at}
use Rattle.gd_top.proofs.ItemLemmas.OpenedSo.{CountsOpened, differs_to, failed_to, locked_to, viewed_to}
use Rattle.gd_top.proofs.ItemLemmas.OpeningMoments.{left_by, read_alone, unread_of}
use Rattle.gd_top.proofs.OverLemmas.Disks.{faulted_as, whole_as}
use Rattle.gd_top.proofs.OverLemmas.Openings.{differ_over, given_ends, given_stands, read_over, read_view, shut_over, sits_over, was_synced}
use Rattle.gd_top.proofs.OverLemmas.Parts.{ends_failed, ends_given, no_halt, no_halt_given, not_given_ok, read_before}
use Rattle.gd_top.proofs.image.opening.open.Goals as goal

-- the view was found
pub returns-in-Ready-clause-does : goal.returns-in-Ready-clause-does
returns-in-Ready-clause-does g c =
    let parts = c.args.parts in
    let k = c.args.counts.now in
    let M = g.C.Core.meaning parts.core in
    let B = g.W.Draws.block_of parts.draws in
    let old = g.D.Disk.state parts.disk in
    let was = moment_closed Off g.C.Core.meaning g.C.Core.view g.D.Disk.state g.W.Draws.block_of g.K.Sink.taken g.K.Sink.faults parts k c.args.output.now in
    let cabinet = c.in-Ready.cabinet in
    let w = g.C.Core.view (cabinet_core cabinet) in
    let disk = g.D.Disk.state (cabinet_disk cabinet) in
    let h = c.in-Ready.ensures in
    let given = c.give_text-given.ensures in
    let r = c.give_text-given.result in
    let k2 : Counts = record k { power_ons = k.power_ons + 1; offers = k.offers + 1 } in
    let now = moment_on g.C.Core.meaning g.C.Core.view g.D.Disk.state g.W.Draws.block_of g.K.Sink.taken g.K.Sink.faults cabinet k2 c.give_text-given.new.output in
    let counts : CountsOpened k k2 k.lap = record { lines = refl; power_ons = refl; lap_is = refl; offers = refl } in
    let count = c.count-count.ensures.value ∙ ap (λ core. (g.C.Core.meaning core).count (g.C.Core.view core)) c.core.ensures ∙ ap (λ m. m.count w) h.meaning in
    record {
      carried = λ told image images un seen.
          let synced = was_synced old c.requires.openable h.first_reading.was_on in
          let what = told_at old.seen image _ seen h.what in
          let v = what.1.0 in
          let shown = what.1.1 in
          let full : is_found_full c.in-Ready.found ≡ is_full M v = ap is_found_full what.0 ∙ full_is M v image shown in
          let text = c.write_opening.ensures ∙ ap (λ (b : Bool). power_line k2.power_ons c.in-Ready.found ++ start_text b c.count-count.result (repair_needed c.in-Ready.found)) full
          ∙ ap (λ (m : ℕ). power_line k2.power_ons c.in-Ready.found ++ start_text (is_full M v) m (repair_needed c.in-Ready.found)) count
          ∙ ap (λ (f : Found). power_line k2.power_ons f ++ start_text (is_full M v) (M.count w) (repair_needed f)) what.0 in
          let gives : GivesText r _ _ (power_line k2.power_ons (found_in LAYOUT image) ++ start_text (is_full M v) (M.count w) (repair_needed (found_in LAYOUT image))) = subst (GivesText r _ _) text given.given in
          let read = read_over was image images un c.requires.size synced seen in
          inr (λ s awaits. subst (λ ended. OpensTo ended Nothing Done s (over images was) (over (images ++ image ∷ []) now)) (sym (given_stands r))
          (viewed_to false (over images was) (as_lab images old) k.lap image read (over (images ++ image ∷ []) now) refl h.meaning refl counts Nothing Done s awaits.agrees v shown (read_view was image images un read s awaits v shown)
          r refl what.1.2 (_, cabinet.spelled) (whole_as images (images ++ image ∷ []) old disk _ (told_at old.seen image _ seen h.run) h.no_stop) refl h.both gives));
      sits = λ told image images un seen is.
          sits_over was image images un now h.meaning refl (h.size ∙ c.requires.size) h.is_on h.ready.0 refl refl refl refl (inl (refl, h.ready.1));
      locked = λ told image seen is shut. absurd (cc shut);
      ends = ends_given was now h.meaning h.draws refl r _ given.given given.later given.cause (λ serves. record { size = h.size ∙ c.requires.size; powered = refl; runs = h.ready.0 }) h.no_stop;
      no_stop = λ is. no_halt r _ _ _ Halt.ScriptFault given.given (λ e. cc e) is;
      no_read = λ is. no_halt r _ _ _ Halt.ReadFault given.given (λ e. cc e) is;
    }

-- the memory is locked
pub returns-in-Locked-clause-does : goal.returns-in-Locked-clause-does
returns-in-Locked-clause-does g c =
    let parts = c.args.parts in
    let k = c.args.counts.now in
    let M = g.C.Core.meaning parts.core in
    let old = g.D.Disk.state parts.disk in
    let was = moment_closed Off g.C.Core.meaning g.C.Core.view g.D.Disk.state g.W.Draws.block_of g.K.Sink.taken g.K.Sink.faults parts k c.args.output.now in
    let left = c.in-Locked.parts in
    let disk = g.D.Disk.state left.disk in
    let h = c.in-Locked.ensures in
    let given = c.give_text-given-in-Locked.ensures in
    let r = c.give_text-given-in-Locked.result in
    let k2 : Counts = record k { power_ons = k.power_ons + 1; offers = k.offers + 1 } in
    let now = moment_closed Locked g.C.Core.meaning g.C.Core.view g.D.Disk.state g.W.Draws.block_of g.K.Sink.taken g.K.Sink.faults left k2 c.give_text-given-in-Locked.new.output in
    let counts : CountsOpened k k2 k.lap = record { lines = refl; power_ons = refl; lap_is = refl; offers = refl } in
    record {
      carried = λ told image images un seen.
          let synced = was_synced old c.requires.openable h.first_reading.was_on in
          let what = told_at old.seen image _ seen h.what in
          let shut : shows M image ≡ Unreadable = lost_shows M c.in-Locked.why image what.1 in
          let untouched = told_at old.seen image _ seen h.untouched in
          let unwritten = told_at old.seen image _ seen h.unwritten in
          let gives : GivesText r _ _ (power_line k2.power_ons (found_in LAYOUT image) ++ locked_line) = subst (GivesText r _ _) (c.write_locked.ensures ∙ ap (λ (f : Found). power_line k2.power_ons f ++ locked_line) what.0) given.given in
          let read = read_over was image images un c.requires.size synced seen in
          inr (λ s awaits. subst (λ ended. OpensTo ended Nothing Done s (over images was) (over (images ++ image ∷ []) now)) (sym (given_stands r))
          (locked_to false (over images was) (as_lab images old) k.lap image read (over (images ++ image ∷ []) now) refl h.meaning refl counts Nothing Done s awaits.agrees (shut_over was image images un read s awaits shut) refl (λ is. absurd (cc is))
          r refl shut refl untouched.1 refl (read_alone old disk image seen synced unwritten) gives));
      sits = λ told image images un seen is.
          let synced = was_synced old c.requires.openable h.first_reading.was_on in
          let untouched = told_at old.seen image _ seen h.untouched in
          let unwritten = told_at old.seen image _ seen h.unwritten in
          sits_over was image images un now h.meaning refl (h.size ∙ c.requires.size) h.stays_on.0 refl refl refl refl refl (inr (refl, shut_synced old disk image seen synced unwritten untouched.0));
      locked = λ told image seen is shut. lost_shows M c.in-Locked.why image (told_at old.seen image _ seen h.what).1;
      ends = ends_given was now h.meaning h.draws refl r _ given.given given.later given.cause (λ serves. record { size = h.size ∙ c.requires.size; powered = refl; runs = refl }) h.stays_on.1;
      no_stop = λ is. no_halt r _ _ _ Halt.ScriptFault given.given (λ e. cc e) is;
      no_read = λ is. no_halt r _ _ _ Halt.ReadFault given.given (λ e. cc e) is;
    }

-- the memory was made under another setup
pub returns-in-Differs-clause-does : goal.returns-in-Differs-clause-does
returns-in-Differs-clause-does g c =
    let parts = c.args.parts in
    let k = c.args.counts.now in
    let M = g.C.Core.meaning parts.core in
    let old = g.D.Disk.state parts.disk in
    let was = moment_closed Off g.C.Core.meaning g.C.Core.view g.D.Disk.state g.W.Draws.block_of g.K.Sink.taken g.K.Sink.faults parts k c.args.output.now in
    let left = c.in-Differs.parts in
    let disk = g.D.Disk.state left.disk in
    let h = c.in-Differs.ensures in
    let kept = c.in-Differs.kept in
    let given = c.give_text-given-in-Differs.ensures in
    let r = c.give_text-given-in-Differs.result in
    let k2 : Counts = record k { power_ons = k.power_ons + 1; offers = k.offers + 1 } in
    let now = moment_closed Locked g.C.Core.meaning g.C.Core.view g.D.Disk.state g.W.Draws.block_of g.K.Sink.taken g.K.Sink.faults left k2 c.give_text-given-in-Differs.new.output in
    let counts : CountsOpened k k2 k.lap = record { lines = refl; power_ons = refl; lap_is = refl; offers = refl } in
    subst (λ ended. OpensOver _ ended was now) (sym c.unless_given-in-Differs.ensures)
    (record {
      carried = λ told image images un seen.
          let synced = was_synced old c.requires.openable h.first_reading.was_on in
          let what = told_at old.seen image _ seen h.what in
          let shown : shows M image ≡ Foreign kept = what.1 in
          let untouched = told_at old.seen image _ seen h.untouched in
          let unwritten = told_at old.seen image _ seen h.unwritten in
          let text = c.write_differs.ensures ∙ ap (λ (f : Found). power_line k2.power_ons f ++ differs_line kept k.given) what.0
          ∙ ap (λ (digest : List ℕ). power_line k2.power_ons (found_in LAYOUT image) ++ differs_line kept digest) un.given in
          let gives : GivesText r _ _ (power_line k2.power_ons (found_in LAYOUT image) ++ differs_line kept M.digest) = subst (GivesText r _ _) text given.given in
          let read = read_over was image images un c.requires.size synced seen in
          inr (λ s awaits. subst (λ ended. OpensTo ended Nothing Done s (over images was) (over (images ++ image ∷ []) now)) (sym (given_ends r Halt.SetupDiffers))
          (differs_to false (over images was) (as_lab images old) k.lap image read (over (images ++ image ∷ []) now) refl h.meaning refl counts Nothing Done s awaits.agrees
          (differ_over was image images un read s awaits (Foreign kept) shown (λ v is. cc is))
          r kept shown refl untouched.1 refl (read_alone old disk image seen synced unwritten) h.stays_on.0 (shut_synced old disk image seen synced unwritten untouched.0) gives));
      sits = λ told image images un seen is. absurd (not_given_ok r Halt.SetupDiffers is);
      locked = λ told image seen is shut. absurd (not_given_ok r Halt.SetupDiffers is);
      ends = ends_failed was now h.meaning h.draws refl r _ given.given given.later given.cause Halt.SetupDiffers (λ is. absurd (cc is)) (λ serves. serves) (λ is. cc is);
      no_stop = λ is. no_halt_given r _ _ _ Halt.SetupDiffers Halt.ScriptFault given.given (λ e. cc e) (λ e. cc e) is;
      no_read = λ is. no_halt_given r _ _ _ Halt.SetupDiffers Halt.ReadFault given.given (λ e. cc e) (λ e. cc e) is;
    })

-- the disk failed behind the reading
pub returns-in-Off-Some-default-clause-does : goal.returns-in-Off-Some-default-clause-does
returns-in-Off-Some-default-clause-does g c =
    let parts = c.args.parts in
    let k = c.args.counts.now in
    let M = g.C.Core.meaning parts.core in
    let B = g.W.Draws.block_of parts.draws in
    let old = g.D.Disk.state parts.disk in
    let was = moment_closed Off g.C.Core.meaning g.C.Core.view g.D.Disk.state g.W.Draws.block_of g.K.Sink.taken g.K.Sink.faults parts k c.args.output.now in
    let b = c.in-Off-Some-default in
    let left = b.parts in
    let disk = g.D.Disk.state left.disk in
    let v = g.C.Core.view left.core in
    let h = b.ensures in
    let given = c.give_text-given-in-Off-Some-default.ensures in
    let r = c.give_text-given-in-Off-Some-default.result in
    let k2 : Counts = record k { power_ons = k.power_ons + 1; offers = k.offers + 1 } in
    let now = moment_closed Off g.C.Core.meaning g.C.Core.view g.D.Disk.state g.W.Draws.block_of g.K.Sink.taken g.K.Sink.faults left k2 c.give_text-given-in-Off-Some-default.new.output in
    let counts : CountsOpened k k2 k.lap = record { lines = refl; power_ons = refl; lap_is = refl; offers = refl } in
    let reading = read_before g.C.Core g.D.Disk g.W.Draws b.found' left old disk b.found h.first_reading b.found-is in
    subst (λ ended. OpensOver _ ended was now) (sym c.unless_given.ensures)
    (record {
      carried = λ told image images un seen.
          let synced = was_synced old c.requires.openable reading.was_on in
          let found = some_at b.found' b.found (found_in LAYOUT image) (told_at old.seen image _ seen h.what) b.found-is in
          let shown = told_at old.seen image _ seen (core_shows M g.C.Core g.D.Disk g.W.Draws g.C.Core.view parts.core b.found' left old.seen b.found h.core_left b.found-is) in
          let gives : GivesText r _ _ (power_line k2.power_ons (found_in LAYOUT image)) = subst (GivesText r _ _) (c.write_power_line.ensures.bytes ∙ ap (λ (f : Found). power_line k2.power_ons f) found) given.given in
          let read = read_over was image images un c.requires.size synced seen in
          inr (λ s awaits. subst (λ ended. OpensTo ended Nothing Done s (over images was) (over (images ++ image ∷ []) now)) (sym (given_ends r Halt.DiskFault))
          (failed_to false (over images was) (as_lab images old) k.lap image read (over (images ++ image ∷ []) now) refl h.meaning refl counts Nothing Done s awaits.agrees v shown (read_view was image images un read s awaits v shown)
          r (faulted_as images (images ++ image ∷ []) old disk _ ((told_at old.seen image _ seen h.run).failed reading.was_on) h.cause) refl (opening_near M B k.lap old disk image v seen synced shown h.any_moment) gives));
      sits = λ told image images un seen is. absurd (not_given_ok r Halt.DiskFault is);
      locked = λ told image seen is shut. absurd (not_given_ok r Halt.DiskFault is);
      ends = ends_failed was now h.meaning h.draws refl r _ given.given given.later given.cause Halt.DiskFault (λ is. omega (arith, h.cause)) (λ serves. serves) (λ is. cc is);
      no_stop = λ is. no_halt_given r _ _ _ Halt.DiskFault Halt.ScriptFault given.given (λ e. cc e) (λ e. cc e) is;
      no_read = λ is. no_halt_given r _ _ _ Halt.DiskFault Halt.ReadFault given.given (λ e. cc e) (λ e. cc e) is;
    })

-- the copies could not be read
pub returns-in-Off-None-default-clause-does : goal.returns-in-Off-None-default-clause-does
returns-in-Off-None-default-clause-does g c =
    let parts = c.args.parts in
    let k = c.args.counts.now in
    let old = g.D.Disk.state parts.disk in
    let b = c.in-Off-None-default in
    let left = b.parts in
    let disk = g.D.Disk.state left.disk in
    let h = b.ensures in
    let unwritten = unread_of g.C.Core g.D.Disk g.W.Draws b.found left _ h.unread_images b.found-is in
    record {
      carried = λ told image images un seen. inl (record { fault = refl; still = left_by old disk unwritten; taken = refl; falls = refl });
      sits = λ told image images un seen is. absurd (cc is);
      locked = λ told image seen is shut. absurd (cc is);
      ends = record {
        rests = λ serves. absurd serves;
        no_stop = λ serves. absurd serves;
        disk_fault = λ is. omega (arith, h.cause);
        later = omega arith;
        write_fault = λ is. absurd (cc is);
        machine = h.meaning;
        blocks = h.draws;
        falls = refl;
      };
      no_stop = λ is. cc is;
      no_read = λ is. cc is;
    }
