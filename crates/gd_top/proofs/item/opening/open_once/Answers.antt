use Rattle.std.proofs.Common.{◌≡◌, ◌∙◌, ◌+◌, ◌++◌, drop, length, ap, sym, subst, refl, arith, ℕ, Bool, List}
use Rattle.std.proofs.KnownBytes.{Appends-nil}
use Rattle.gd_base.specs.Judging.Answer.{is_full}
use Rattle.gd_base.specs.Payloads.Spelled.{Foreign, Unreadable}
use Rattle.gd_cabinet.specs.Cabinet.{cabinet_core, cabinet_disk}
use Rattle.gd_cabinet.specs.Shown.{shows}
use Rattle.gd_disk.proofs.WholeRuns.{was_cut, was_fault}
use Rattle.gd_store.specs.Copy.{found_in}
use Rattle.gd_store.specs.Repair.{repair_needed}
use Rattle.gd_store.specs.declared.copy.layout.TheConstants.{LAYOUT}
use Rattle.gd_store.specs.declared.copy.states.Found.{Found}
use Rattle.gd_base.specs.Outside.Causes.{Rose}
use Rattle.gd_base.specs.Laws.TellsViews.{TellsViews}
use Rattle.gd_top.specs.Code.Falls.{falls_by}
use Rattle.gd_top.specs.Code.Memory.{moment_on, moment_closed, Opens}
use Rattle.gd_top.specs.Code.Parts.{GivesText}
use Rattle.gd_top.specs.Report.Lines.{differs_line, is_found_full, locked_line, power_line, start_text}
use Rattle.gd_top.specs.Run.State.{Off, Locked}
use Rattle.gd_top.specs.declared.memory.counts.Counts.{Counts}
use Rattle.gd_top.proofs.ItemLemmas.Images.{core_shows, full_is, lost_shows, opening_near, shut_synced, some_at, told_at}
use Rattle.gd_top.proofs.ItemLemmas.OpenedSo.{CountsOpened, agrees_of, clear_of, differs_to, empty_for, fell_to, failed_to, locked_lap, locked_to, read_of, shut_of, unpowered_to, unread_to, viewed_to}
use Rattle.gd_top.proofs.ItemLemmas.OpeningMoments.{IsReady, IsUnready, counted_after, down_after, fewer_after, has_read, lap_room, left_by, lost_by, read_alone, opens_differs, opens_failed, opens_fell, opens_stands, opens_unread, over_core, still_after, unread_of}
use Rattle.gd_top.proofs.RunLemmas.Said.{err_of, ok_of}
use Rattle.gd_top.proofs.item.opening.open_once.Goals as goal

pub returns-then-is_err-clause-does : goal.returns-then-is_err-clause-does
returns-then-is_err-clause-does g c =
    let parts = c.args.parts in
    let k = c.args.counts.now in
    let failed = sym c.is_err.ensures.value ∙ c.if-is_err.true in
    let was = moment_closed Off g.C.Core.meaning g.C.Core.view g.L.Disk.state g.W.Draws.block_of g.K.Sink.taken g.K.Sink.faults parts k c.args.output.now in
    let now = moment_closed Off g.C.Core.meaning g.C.Core.view g.L.Disk.state g.W.Draws.block_of g.K.Sink.taken g.K.Sink.faults (record parts { disk = c.power_on.new.self }) k c.args.output.now in
    opens_unread c.args.is_making was now
    (λ flight wanted in_it s fits. unpowered_to c.args.is_making was now flight wanted s fits (err_of c.power_on.result _ failed c.power_on.ensures.none_found) refl c.power_on.ensures.armed
    (lost_by was.disk now.disk c.power_on.ensures.loss) (Appends-nil _))
    (err_of c.power_on.result _ failed c.power_on.ensures.fault) refl refl (λ lap index. refl) refl (omega arith)

pub returns-then-is_err-2-clause-does : goal.returns-then-is_err-2-clause-does
returns-then-is_err-2-clause-does g c =
    let parts = c.args.parts in
    let k = c.args.counts.now in
    let k2 = c.find_lap.new.counts in
    let lap = k2.lap in
    let down = c.requires.down in
    let mid_parts = c.find_lap.new.parts in
    let M = g.C.Core.meaning parts.core in
    let N = g.C.Core.meaning mid_parts.core in
    let B = g.W.Draws.block_of parts.draws in
    let C = g.W.Draws.block_of mid_parts.draws in
    let on = g.L.Disk.state c.power_on.new.self in
    let mid = g.L.Disk.state mid_parts.disk in
    let was = moment_closed Off g.C.Core.meaning g.C.Core.view g.L.Disk.state g.W.Draws.block_of g.K.Sink.taken g.K.Sink.faults parts k c.args.output.now in
    let ok = sym c.is_err.ensures.value ∙ c.if-is_err.false in
    let h = ok_of c.power_on.result _ ok c.power_on.ensures.found in
    let image = h.image in
    let d = c.find_lap.ensures.disk in
    let counted = c.find_lap.ensures.counts in
    let power_ons = ap (λ (x : Counts). x.power_ons) counted in
    let failed = sym c.is_err-2.ensures.value ∙ c.if-is_err-2.true in
    let now = moment_closed Off g.C.Core.meaning g.C.Core.view g.L.Disk.state g.W.Draws.block_of g.K.Sink.taken g.K.Sink.faults mid_parts k2 c.args.output.now in
    opens_unread c.args.is_making was now
    (λ flight wanted in_it s fits. unread_to c.args.is_making was now image flight wanted s fits (d.found ∙ h.listed) (ap (λ (x : Counts). x.falls.items) counted) (d.armed ∙ c.power_on.ensures.armed)
    (λ image may. lost_by was.disk on c.power_on.ensures.loss image (left_by on mid d.images image may)) (Appends-nil _))
    (subst (λ (m : ℕ). Rose m mid.faults) (ok_of c.power_on.result _ ok c.power_on.ensures.no_fault) (err_of c.find_lap.result _ failed d.fault)) refl c.find_lap.ensures.meaning
    (λ l i. ap (λ draws. g.W.Draws.block_of draws l i) c.find_lap.ensures.draws) (ap (λ (x : Counts). x.offers) counted) (omega (arith, power_ons))

pub returns-then-cuts_armed-armed-clause-does : goal.returns-then-cuts_armed-armed-clause-does
returns-then-cuts_armed-armed-clause-does g c =
    let parts = c.args.parts in
    let k = c.args.counts.now in
    let k2 = c.find_lap.new.counts in
    let lap = k2.lap in
    let down = c.requires.down in
    let mid_parts = c.find_lap.new.parts in
    let M = g.C.Core.meaning parts.core in
    let N = g.C.Core.meaning mid_parts.core in
    let B = g.W.Draws.block_of parts.draws in
    let C = g.W.Draws.block_of mid_parts.draws in
    let on = g.L.Disk.state c.power_on.new.self in
    let mid = g.L.Disk.state mid_parts.disk in
    let was = moment_closed Off g.C.Core.meaning g.C.Core.view g.L.Disk.state g.W.Draws.block_of g.K.Sink.taken g.K.Sink.faults parts k c.args.output.now in
    let ok = sym c.is_err.ensures.value ∙ c.if-is_err.false in
    let h = ok_of c.power_on.result _ ok c.power_on.ensures.found in
    let image = h.image in
    let d = c.find_lap.ensures.disk in
    let counted = c.find_lap.ensures.counts in
    let power_ons = ap (λ (x : Counts). x.power_ons) counted in
    let went = sym c.is_err-2.ensures.value ∙ c.if-is_err-2.false in
    let read = has_read c.args.is_making was on mid lap down h c.power_on.ensures.counts.size (ok_of c.power_on.result _ ok c.power_on.ensures.synced) c.power_on.ensures.armed c.power_on.ensures.counts.syncs
    (ok_of c.find_lap.result _ went c.find_lap.ensures.lap) d.images (ok_of c.find_lap.result _ went d.seen) d.armed d.syncs in
    let left = c.in-Off-Some-default.parts in
    let disk = g.L.Disk.state left.disk in
    let v = g.C.Core.view left.core in
    let k3 = c.fall.new.self in
    let r = c.give_text-given-in-Off-Some-default.result in
    let given = c.give_text-given-in-Off-Some-default.ensures in
    let now = moment_closed Off g.C.Core.meaning g.C.Core.view g.L.Disk.state g.W.Draws.block_of g.K.Sink.taken g.K.Sink.faults left k3 c.give_text-given-in-Off-Some-default.new.output in
    let counts : CountsOpened k k3 lap = record { lines = c.fall.ensures.lines ∙ ap (λ (x : Counts). x.lines) counted; power_ons = c.fall.ensures.power_ons ∙ power_ons; lap_is = c.fall.ensures.lap; offers = c.fall.ensures.offers ∙ ap (λ (x : Counts). x.offers + 1) counted } in
    let machine = c.in-Off-Some-default.ensures.meaning ∙ c.find_lap.ensures.meaning in
    let told = some_at c.in-Off-Some-default.found' c.in-Off-Some-default.found (found_in LAYOUT image) (told_at mid.seen image _ read.seen c.in-Off-Some-default.ensures.what) c.in-Off-Some-default.found-is in
    let shown = told_at mid.seen image _ read.seen (core_shows N g.C.Core g.L.Disk g.W.Draws g.C.Core.view mid_parts.core c.in-Off-Some-default.found' left mid.seen c.in-Off-Some-default.found c.in-Off-Some-default.ensures.core_left c.in-Off-Some-default.found-is) in
    let unready : IsUnready lap image mid disk v M B = over_core (IsUnready lap image mid disk v) N M C B c.find_lap.ensures.meaning (ap g.W.Draws.block_of c.find_lap.ensures.draws)
    (record { shown = shown; run = told_at mid.seen image _ read.seen c.in-Off-Some-default.ensures.run; either = opening_near N C lap mid disk image v read.seen read.synced shown c.in-Off-Some-default.ensures.any_moment }) in
    let cut = was_cut _ tt mid disk unready.run (ok_of c.find_lap.result _ went d.is_on) (omega (arith, c.cuts_armed.ensures, c.cuts_armed-armed.ensures, c.if-cuts_armed-armed.true)) in
    let text = c.write_power_line.ensures.bytes ∙ ap (λ (m : ℕ). power_line m c.in-Off-Some-default.found) power_ons ∙ ap (λ (f : Found). power_line (k.power_ons + 1) f) told in
    let gives = subst (GivesText r _ _) text given.given in
    let falls = c.fall.ensures.falls ∙ ap (λ (x : Counts). x.falls.items ++ falls_by x.calls.items (x.offers + 1)) counted in
    subst (λ ended. Opens c.args.is_making ended was now) (sym c.unless_failed-then-cuts_armed-armed.ensures)
    (opens_fell c.args.is_making was now lap counts machine (λ l i. c.in-Off-Some-default.ensures.draws l i ∙ ap (λ draws. g.W.Draws.block_of draws l i) c.find_lap.ensures.draws) r _ gives given.later given.cause
    (λ flight wanted in_it s fits. fell_to c.args.is_making was mid lap image read now (c.in-Off-Some-default.ensures.found ∙ d.found ∙ h.listed) machine refl counts flight wanted s (agrees_of flight s was fits) v unready.shown (read_of c.args.is_making was mid lap image read h.could_be s wanted c.args.is_making flight in_it read.lap_found fits v unready.shown) r cut down.calls falls unready.either gives)
    (down_after c.args.is_making was _ lap mid now down read.armed (d.size ∙ c.power_on.ensures.counts.size) cut machine (c.fall.ensures.given ∙ ap (λ (x : Counts). x.given) counted) c.in-Off-Some-default.ensures.size c.in-Off-Some-default.ensures.is_off
    (lap_room c.args.is_making was c.args.is_making mid lap image down.tells read.seen read.lap_found down.laps c.requires.making) c.fall.ensures.lap counts.power_ons
    (c.fall.ensures.calls ∙ ap (λ (x : Counts). drop 1 x.calls.items) counted) falls)
    refl (fewer_after c.args.is_making was _ mid now read.armed cut) (cut.no_fault ∙ ok_of c.find_lap.result _ went d.no_fault ∙ ok_of c.power_on.result _ ok c.power_on.ensures.no_fault))

pub returns-in-Ready-clause-does : goal.returns-in-Ready-clause-does
returns-in-Ready-clause-does g c =
    let parts = c.args.parts in
    let k = c.args.counts.now in
    let k2 = c.find_lap.new.counts in
    let lap = k2.lap in
    let down = c.requires.down in
    let mid_parts = c.find_lap.new.parts in
    let M = g.C.Core.meaning parts.core in
    let N = g.C.Core.meaning mid_parts.core in
    let B = g.W.Draws.block_of parts.draws in
    let C = g.W.Draws.block_of mid_parts.draws in
    let on = g.L.Disk.state c.power_on.new.self in
    let mid = g.L.Disk.state mid_parts.disk in
    let was = moment_closed Off g.C.Core.meaning g.C.Core.view g.L.Disk.state g.W.Draws.block_of g.K.Sink.taken g.K.Sink.faults parts k c.args.output.now in
    let ok = sym c.is_err.ensures.value ∙ c.if-is_err.false in
    let h = ok_of c.power_on.result _ ok c.power_on.ensures.found in
    let image = h.image in
    let d = c.find_lap.ensures.disk in
    let counted = c.find_lap.ensures.counts in
    let power_ons = ap (λ (x : Counts). x.power_ons) counted in
    let went = sym c.is_err-2.ensures.value ∙ c.if-is_err-2.false in
    let read = has_read c.args.is_making was on mid lap down h c.power_on.ensures.counts.size (ok_of c.power_on.result _ ok c.power_on.ensures.synced) c.power_on.ensures.armed c.power_on.ensures.counts.syncs
    (ok_of c.find_lap.result _ went c.find_lap.ensures.lap) d.images (ok_of c.find_lap.result _ went d.seen) d.armed d.syncs in
    let cabinet = c.in-Ready.cabinet in
    let w = g.C.Core.view (cabinet_core cabinet) in
    let disk = g.L.Disk.state (cabinet_disk cabinet) in
    let given = c.give_text-given.ensures in
    let r = c.give_text-given.result in
    let now = moment_on g.C.Core.meaning g.C.Core.view g.L.Disk.state g.W.Draws.block_of g.K.Sink.taken g.K.Sink.faults cabinet (record k2 { offers = k2.offers + 1 }) c.give_text-given.new.output in
    let counts : CountsOpened k (record k2 { offers = k2.offers + 1 }) lap = record { lines = ap (λ (x : Counts). x.lines) counted; power_ons = power_ons; lap_is = refl; offers = ap (λ (x : Counts). x.offers + 1) counted } in
    let machine = c.in-Ready.ensures.meaning ∙ c.find_lap.ensures.meaning in
    let told = told_at mid.seen image _ read.seen c.in-Ready.ensures.what in
    let ready : IsReady lap image mid disk w M B = over_core (IsReady lap image mid disk w) N M C B c.find_lap.ensures.meaning (ap g.W.Draws.block_of c.find_lap.ensures.draws)
    (record { found = told.1.0; shown = told.1.1; started = told.1.2; run = told_at mid.seen image _ read.seen c.in-Ready.ensures.run; both = c.in-Ready.ensures.both }) in
    let v = ready.found in
    let count = c.count-count.ensures.value ∙ ap (λ core. (g.C.Core.meaning core).count (g.C.Core.view core)) c.core.ensures ∙ ap (λ m. m.count w) machine in
    let full : is_found_full c.in-Ready.found ≡ is_full M v = ap is_found_full told.0 ∙ full_is M v image ready.shown in
    let text = c.write_opening.ensures ∙ ap (λ (b : Bool). power_line k2.power_ons c.in-Ready.found ++ start_text b c.count-count.result (repair_needed c.in-Ready.found)) full
    ∙ ap (λ (m : ℕ). power_line k2.power_ons c.in-Ready.found ++ start_text (is_full M v) m (repair_needed c.in-Ready.found)) count
    ∙ ap (λ (f : Found). power_line k2.power_ons f ++ start_text (is_full M v) (M.count w) (repair_needed f)) told.0
    ∙ ap (λ (m : ℕ). power_line m (found_in LAYOUT image) ++ start_text (is_full M v) (M.count w) (repair_needed (found_in LAYOUT image))) power_ons in
    let gives = subst (GivesText r _ _) text given.given in
    let same_calls = ap (λ (x : Counts). x.calls.items) counted in
    let cuts = counted_after c.args.is_making was _ mid now down read.armed ready.run same_calls power_ons in
    subst (λ ended. Opens c.args.is_making ended was now) (sym c.unless_failed.ensures)
    (opens_stands c.args.is_making was now lap counts machine (λ l i. c.in-Ready.ensures.draws l i ∙ ap (λ draws. g.W.Draws.block_of draws l i) c.find_lap.ensures.draws) r _ gives given.later given.cause
    (λ flight wanted in_it s fits. viewed_to c.args.is_making was mid lap image read now (c.in-Ready.ensures.found ∙ d.found ∙ h.listed) machine refl counts flight wanted s (agrees_of flight s was fits) v ready.shown (read_of c.args.is_making was mid lap image read h.could_be s wanted c.args.is_making flight in_it read.lap_found fits v ready.shown) r refl ready.started (_, cabinet.spelled) ready.run
    (ap (λ (x : Counts). x.falls.items) counted) ready.both gives)
    (record {
      tells = subst TellsViews (sym machine) down.tells;
      given = ap (λ (x : Counts). x.given) counted ∙ down.given ∙ ap (λ O. O.digest) (sym machine);
      size = c.in-Ready.ensures.size ∙ d.size ∙ c.power_on.ensures.counts.size ∙ down.size;
      power = c.in-Ready.ensures.is_on;
      runs = c.in-Ready.ensures.ready.0;
      same_lap = λ is. c.in-Ready.ensures.ready.1;
      laps = omega (arith, power_ons, lap_room c.args.is_making was c.args.is_making mid lap image down.tells read.seen read.lap_found down.laps c.requires.making);
      falls = omega (arith, power_ons, ap (λ (x : Counts). length x.falls.items) counted, down.falls);
      counted = cuts;
      settled = λ is. absurd (cc is);
      synced = λ is. absurd (cc is);
    })
    refl (ready.run.no_fault ∙ ok_of c.find_lap.result _ went d.no_fault ∙ ok_of c.power_on.result _ ok c.power_on.ensures.no_fault) (still_after c.args.is_making was now down cuts same_calls))

pub returns-in-Locked-clause-does : goal.returns-in-Locked-clause-does
returns-in-Locked-clause-does g c =
    let parts = c.args.parts in
    let k = c.args.counts.now in
    let k2 = c.find_lap.new.counts in
    let lap = k2.lap in
    let down = c.requires.down in
    let mid_parts = c.find_lap.new.parts in
    let M = g.C.Core.meaning parts.core in
    let N = g.C.Core.meaning mid_parts.core in
    let B = g.W.Draws.block_of parts.draws in
    let C = g.W.Draws.block_of mid_parts.draws in
    let on = g.L.Disk.state c.power_on.new.self in
    let mid = g.L.Disk.state mid_parts.disk in
    let was = moment_closed Off g.C.Core.meaning g.C.Core.view g.L.Disk.state g.W.Draws.block_of g.K.Sink.taken g.K.Sink.faults parts k c.args.output.now in
    let ok = sym c.is_err.ensures.value ∙ c.if-is_err.false in
    let h = ok_of c.power_on.result _ ok c.power_on.ensures.found in
    let image = h.image in
    let d = c.find_lap.ensures.disk in
    let counted = c.find_lap.ensures.counts in
    let power_ons = ap (λ (x : Counts). x.power_ons) counted in
    let went = sym c.is_err-2.ensures.value ∙ c.if-is_err-2.false in
    let read = has_read c.args.is_making was on mid lap down h c.power_on.ensures.counts.size (ok_of c.power_on.result _ ok c.power_on.ensures.synced) c.power_on.ensures.armed c.power_on.ensures.counts.syncs
    (ok_of c.find_lap.result _ went c.find_lap.ensures.lap) d.images (ok_of c.find_lap.result _ went d.seen) d.armed d.syncs in
    let left = c.in-Locked.parts in
    let disk = g.L.Disk.state left.disk in
    let given = c.give_text-given-in-Locked.ensures in
    let r = c.give_text-given-in-Locked.result in
    let now = moment_closed Locked g.C.Core.meaning g.C.Core.view g.L.Disk.state g.W.Draws.block_of g.K.Sink.taken g.K.Sink.faults left (record k2 { offers = k2.offers + 1 }) c.give_text-given-in-Locked.new.output in
    let counts : CountsOpened k (record k2 { offers = k2.offers + 1 }) lap = record { lines = ap (λ (x : Counts). x.lines) counted; power_ons = power_ons; lap_is = refl; offers = ap (λ (x : Counts). x.offers + 1) counted } in
    let machine = c.in-Locked.ensures.meaning ∙ c.find_lap.ensures.meaning in
    let told = told_at mid.seen image _ read.seen c.in-Locked.ensures.what in
    let shut : shows M image ≡ Unreadable = subst (λ m. shows m image ≡ Unreadable) c.find_lap.ensures.meaning (lost_shows N c.in-Locked.why image told.1) in
    let untouched = told_at mid.seen image _ read.seen c.in-Locked.ensures.untouched in
    let unwritten = told_at mid.seen image _ read.seen c.in-Locked.ensures.unwritten in
    let run = told_at mid.seen image _ read.seen c.in-Locked.ensures.run in
    let text = c.write_locked.ensures ∙ ap (λ (f : Found). power_line k2.power_ons f ++ locked_line) told.0 ∙ ap (λ (m : ℕ). power_line m (found_in LAYOUT image) ++ locked_line) power_ons in
    let gives = subst (GivesText r _ _) text given.given in
    let same_calls = ap (λ (x : Counts). x.calls.items) counted in
    let cuts = counted_after c.args.is_making was _ mid now down read.armed run same_calls power_ons in
    subst (λ ended. Opens c.args.is_making ended was now) (sym c.unless_failed-in-Locked.ensures)
    (opens_stands c.args.is_making was now lap counts machine (λ l i. c.in-Locked.ensures.draws l i ∙ ap (λ draws. g.W.Draws.block_of draws l i) c.find_lap.ensures.draws) r _ gives given.later given.cause
    (λ flight wanted in_it s fits. locked_to c.args.is_making was mid lap image read now (c.in-Locked.ensures.found ∙ d.found ∙ h.listed) machine refl counts flight wanted s (agrees_of flight s was fits) (shut_of c.args.is_making was mid lap image read h.could_be s wanted flight fits shut) (locked_lap c.args.is_making was mid lap image read h.could_be s wanted c.args.is_making read.lap_found shut) (λ wants. empty_for c.args.is_making was mid lap image read h.could_be s wanted c.args.is_making flight wanted in_it wants fits) r refl shut untouched.2 untouched.1
    (ap (λ (x : Counts). x.falls.items) counted) (read_alone mid disk image read.seen read.synced unwritten) gives)
    (record {
      tells = subst TellsViews (sym machine) down.tells;
      given = ap (λ (x : Counts). x.given) counted ∙ down.given ∙ ap (λ O. O.digest) (sym machine);
      size = c.in-Locked.ensures.size ∙ d.size ∙ c.power_on.ensures.counts.size ∙ down.size;
      power = c.in-Locked.ensures.stays_on.0;
      runs = refl;
      same_lap = λ is. absurd (cc is);
      laps = omega (arith, power_ons, lap_room c.args.is_making was c.args.is_making mid lap image down.tells read.seen read.lap_found down.laps c.requires.making);
      falls = omega (arith, power_ons, ap (λ (x : Counts). length x.falls.items) counted, down.falls);
      counted = cuts;
      settled = λ is. absurd (cc is);
      synced = λ is. shut_synced mid disk image read.seen read.synced unwritten untouched.0;
    })
    refl (c.in-Locked.ensures.stays_on.2 ∙ ok_of c.find_lap.result _ went d.no_fault ∙ ok_of c.power_on.result _ ok c.power_on.ensures.no_fault) (still_after c.args.is_making was now down cuts same_calls))

pub returns-in-Differs-clause-does : goal.returns-in-Differs-clause-does
returns-in-Differs-clause-does g c =
    let parts = c.args.parts in
    let k = c.args.counts.now in
    let k2 = c.find_lap.new.counts in
    let lap = k2.lap in
    let down = c.requires.down in
    let mid_parts = c.find_lap.new.parts in
    let M = g.C.Core.meaning parts.core in
    let N = g.C.Core.meaning mid_parts.core in
    let B = g.W.Draws.block_of parts.draws in
    let C = g.W.Draws.block_of mid_parts.draws in
    let on = g.L.Disk.state c.power_on.new.self in
    let mid = g.L.Disk.state mid_parts.disk in
    let was = moment_closed Off g.C.Core.meaning g.C.Core.view g.L.Disk.state g.W.Draws.block_of g.K.Sink.taken g.K.Sink.faults parts k c.args.output.now in
    let ok = sym c.is_err.ensures.value ∙ c.if-is_err.false in
    let h = ok_of c.power_on.result _ ok c.power_on.ensures.found in
    let image = h.image in
    let d = c.find_lap.ensures.disk in
    let counted = c.find_lap.ensures.counts in
    let power_ons = ap (λ (x : Counts). x.power_ons) counted in
    let went = sym c.is_err-2.ensures.value ∙ c.if-is_err-2.false in
    let read = has_read c.args.is_making was on mid lap down h c.power_on.ensures.counts.size (ok_of c.power_on.result _ ok c.power_on.ensures.synced) c.power_on.ensures.armed c.power_on.ensures.counts.syncs
    (ok_of c.find_lap.result _ went c.find_lap.ensures.lap) d.images (ok_of c.find_lap.result _ went d.seen) d.armed d.syncs in
    let left = c.in-Differs.parts in
    let disk = g.L.Disk.state left.disk in
    let given = c.give_text-given-in-Differs.ensures in
    let r = c.give_text-given-in-Differs.result in
    let now = moment_closed Locked g.C.Core.meaning g.C.Core.view g.L.Disk.state g.W.Draws.block_of g.K.Sink.taken g.K.Sink.faults left (record k2 { offers = k2.offers + 1 }) c.give_text-given-in-Differs.new.output in
    let counts : CountsOpened k (record k2 { offers = k2.offers + 1 }) lap = record { lines = ap (λ (x : Counts). x.lines) counted; power_ons = power_ons; lap_is = refl; offers = ap (λ (x : Counts). x.offers + 1) counted } in
    let machine = c.in-Differs.ensures.meaning ∙ c.find_lap.ensures.meaning in
    let told = told_at mid.seen image _ read.seen c.in-Differs.ensures.what in
    let kept = c.in-Differs.kept in
    let shown : shows M image ≡ Foreign kept = subst (λ m. shows m image ≡ Foreign kept) c.find_lap.ensures.meaning told.1 in
    let untouched = told_at mid.seen image _ read.seen c.in-Differs.ensures.untouched in
    let unwritten = told_at mid.seen image _ read.seen c.in-Differs.ensures.unwritten in
    let given_is : k2.given ≡ M.digest = ap (λ (x : Counts). x.given) counted ∙ down.given in
    let text = c.write_differs.ensures ∙ ap (λ (f : Found). power_line k2.power_ons f ++ differs_line kept k2.given) told.0 ∙ ap (λ (m : ℕ). power_line m (found_in LAYOUT image) ++ differs_line kept k2.given) power_ons
    ∙ ap (λ (digest : List ℕ). power_line (k.power_ons + 1) (found_in LAYOUT image) ++ differs_line kept digest) given_is in
    let gives = subst (GivesText r _ _) text given.given in
    subst (λ ended. Opens c.args.is_making ended was now) (sym c.unless_failed-in-Differs.ensures)
    (opens_differs c.args.is_making was now lap counts machine (λ l i. c.in-Differs.ensures.draws l i ∙ ap (λ draws. g.W.Draws.block_of draws l i) c.find_lap.ensures.draws) r _ gives given.later given.cause
    (λ flight wanted in_it s fits. differs_to c.args.is_making was mid lap image read now (c.in-Differs.ensures.found ∙ d.found ∙ h.listed) machine refl counts flight wanted s (agrees_of flight s was fits) (clear_of c.args.is_making was mid lap image read h.could_be s wanted flight fits kept shown) r kept shown untouched.2 untouched.1
    (ap (λ (x : Counts). x.falls.items) counted) (read_alone mid disk image read.seen read.synced unwritten) c.in-Differs.ensures.stays_on.0 (shut_synced mid disk image read.seen read.synced unwritten untouched.0) gives))

pub returns-else-cuts_armed-armed-clause-does : goal.returns-else-cuts_armed-armed-clause-does
returns-else-cuts_armed-armed-clause-does g c =
    let parts = c.args.parts in
    let k = c.args.counts.now in
    let k2 = c.find_lap.new.counts in
    let lap = k2.lap in
    let down = c.requires.down in
    let mid_parts = c.find_lap.new.parts in
    let M = g.C.Core.meaning parts.core in
    let N = g.C.Core.meaning mid_parts.core in
    let B = g.W.Draws.block_of parts.draws in
    let C = g.W.Draws.block_of mid_parts.draws in
    let on = g.L.Disk.state c.power_on.new.self in
    let mid = g.L.Disk.state mid_parts.disk in
    let was = moment_closed Off g.C.Core.meaning g.C.Core.view g.L.Disk.state g.W.Draws.block_of g.K.Sink.taken g.K.Sink.faults parts k c.args.output.now in
    let ok = sym c.is_err.ensures.value ∙ c.if-is_err.false in
    let h = ok_of c.power_on.result _ ok c.power_on.ensures.found in
    let image = h.image in
    let d = c.find_lap.ensures.disk in
    let counted = c.find_lap.ensures.counts in
    let power_ons = ap (λ (x : Counts). x.power_ons) counted in
    let went = sym c.is_err-2.ensures.value ∙ c.if-is_err-2.false in
    let read = has_read c.args.is_making was on mid lap down h c.power_on.ensures.counts.size (ok_of c.power_on.result _ ok c.power_on.ensures.synced) c.power_on.ensures.armed c.power_on.ensures.counts.syncs
    (ok_of c.find_lap.result _ went c.find_lap.ensures.lap) d.images (ok_of c.find_lap.result _ went d.seen) d.armed d.syncs in
    let left = c.in-Off-Some-default.parts in
    let disk = g.L.Disk.state left.disk in
    let v = g.C.Core.view left.core in
    let r = c.give_text-given-in-Off-Some-default.result in
    let given = c.give_text-given-in-Off-Some-default.ensures in
    let now = moment_closed Off g.C.Core.meaning g.C.Core.view g.L.Disk.state g.W.Draws.block_of g.K.Sink.taken g.K.Sink.faults left (record k2 { offers = k2.offers + 1 }) c.give_text-given-in-Off-Some-default.new.output in
    let counts : CountsOpened k (record k2 { offers = k2.offers + 1 }) lap = record { lines = ap (λ (x : Counts). x.lines) counted; power_ons = power_ons; lap_is = refl; offers = ap (λ (x : Counts). x.offers + 1) counted } in
    let machine = c.in-Off-Some-default.ensures.meaning ∙ c.find_lap.ensures.meaning in
    let told = some_at c.in-Off-Some-default.found' c.in-Off-Some-default.found (found_in LAYOUT image) (told_at mid.seen image _ read.seen c.in-Off-Some-default.ensures.what) c.in-Off-Some-default.found-is in
    let shown = told_at mid.seen image _ read.seen (core_shows N g.C.Core g.L.Disk g.W.Draws g.C.Core.view mid_parts.core c.in-Off-Some-default.found' left mid.seen c.in-Off-Some-default.found c.in-Off-Some-default.ensures.core_left c.in-Off-Some-default.found-is) in
    let unready : IsUnready lap image mid disk v M B = over_core (IsUnready lap image mid disk v) N M C B c.find_lap.ensures.meaning (ap g.W.Draws.block_of c.find_lap.ensures.draws)
    (record { shown = shown; run = told_at mid.seen image _ read.seen c.in-Off-Some-default.ensures.run; either = opening_near N C lap mid disk image v read.seen read.synced shown c.in-Off-Some-default.ensures.any_moment }) in
    let fault = was_fault _ tt mid disk unready.run (ok_of c.find_lap.result _ went d.is_on) (omega (arith, c.cuts_armed.ensures, c.cuts_armed-armed.ensures, c.if-cuts_armed-armed.false)) in
    let text = c.write_power_line.ensures.bytes ∙ ap (λ (m : ℕ). power_line m c.in-Off-Some-default.found) power_ons ∙ ap (λ (f : Found). power_line (k.power_ons + 1) f) told in
    let gives = subst (GivesText r _ _) text given.given in
    subst (λ ended. Opens c.args.is_making ended was now) (sym c.unless_failed-in-Off-Some-default.ensures)
    (opens_failed c.args.is_making was now lap counts machine (λ l i. c.in-Off-Some-default.ensures.draws l i ∙ ap (λ draws. g.W.Draws.block_of draws l i) c.find_lap.ensures.draws) r _ gives given.later given.cause
    (λ flight wanted in_it s fits. failed_to c.args.is_making was mid lap image read now (c.in-Off-Some-default.ensures.found ∙ d.found ∙ h.listed) machine refl counts flight wanted s (agrees_of flight s was fits) v unready.shown (read_of c.args.is_making was mid lap image read h.could_be s wanted c.args.is_making flight in_it read.lap_found fits v unready.shown) r fault
    (ap (λ (x : Counts). x.falls.items) counted) unready.either gives)
    (subst (λ (m : ℕ). Rose m disk.faults) (ok_of c.find_lap.result _ went d.no_fault ∙ ok_of c.power_on.result _ ok c.power_on.ensures.no_fault) fault.fault))

pub returns-in-Off-None-default-clause-does : goal.returns-in-Off-None-default-clause-does
returns-in-Off-None-default-clause-does g c =
    let parts = c.args.parts in
    let k = c.args.counts.now in
    let k2 = c.find_lap.new.counts in
    let lap = k2.lap in
    let down = c.requires.down in
    let mid_parts = c.find_lap.new.parts in
    let M = g.C.Core.meaning parts.core in
    let N = g.C.Core.meaning mid_parts.core in
    let B = g.W.Draws.block_of parts.draws in
    let C = g.W.Draws.block_of mid_parts.draws in
    let on = g.L.Disk.state c.power_on.new.self in
    let mid = g.L.Disk.state mid_parts.disk in
    let was = moment_closed Off g.C.Core.meaning g.C.Core.view g.L.Disk.state g.W.Draws.block_of g.K.Sink.taken g.K.Sink.faults parts k c.args.output.now in
    let ok = sym c.is_err.ensures.value ∙ c.if-is_err.false in
    let h = ok_of c.power_on.result _ ok c.power_on.ensures.found in
    let image = h.image in
    let d = c.find_lap.ensures.disk in
    let counted = c.find_lap.ensures.counts in
    let power_ons = ap (λ (x : Counts). x.power_ons) counted in
    let went = sym c.is_err-2.ensures.value ∙ c.if-is_err-2.false in
    let read = has_read c.args.is_making was on mid lap down h c.power_on.ensures.counts.size (ok_of c.power_on.result _ ok c.power_on.ensures.synced) c.power_on.ensures.armed c.power_on.ensures.counts.syncs
    (ok_of c.find_lap.result _ went c.find_lap.ensures.lap) d.images (ok_of c.find_lap.result _ went d.seen) d.armed d.syncs in
    let left = c.in-Off-None-default.parts in
    let disk = g.L.Disk.state left.disk in
    let now = moment_closed Off g.C.Core.meaning g.C.Core.view g.L.Disk.state g.W.Draws.block_of g.K.Sink.taken g.K.Sink.faults left k2 c.args.output.now in
    let unread = unread_of g.C.Core g.L.Disk g.W.Draws c.in-Off-None-default.found left _ c.in-Off-None-default.ensures.unread c.in-Off-None-default.found-is in
    let unwritten = unread_of g.C.Core g.L.Disk g.W.Draws c.in-Off-None-default.found left _ c.in-Off-None-default.ensures.unread_images c.in-Off-None-default.found-is in
    opens_unread c.args.is_making was now
    (λ flight wanted in_it s fits. unread_to c.args.is_making was now image flight wanted s fits (c.in-Off-None-default.ensures.found ∙ d.found ∙ h.listed) (ap (λ (x : Counts). x.falls.items) counted) (unread.0 ∙ d.armed ∙ c.power_on.ensures.armed)
    (λ image may. lost_by was.disk on c.power_on.ensures.loss image (left_by on mid d.images image (left_by mid disk unwritten image may))) (Appends-nil _))
    (subst (λ (m : ℕ). Rose m disk.faults) (ok_of c.find_lap.result _ went d.no_fault ∙ ok_of c.power_on.result _ ok c.power_on.ensures.no_fault) (unread.2 (ok_of c.find_lap.result _ went d.is_on))) refl (c.in-Off-None-default.ensures.meaning ∙ c.find_lap.ensures.meaning)
    (λ l i. c.in-Off-None-default.ensures.draws l i ∙ ap (λ draws. g.W.Draws.block_of draws l i) c.find_lap.ensures.draws) (ap (λ (x : Counts). x.offers) counted) (omega (arith, power_ons))
