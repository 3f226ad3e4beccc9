-- What one opening leaves beside what is told of it, and from both to the contract of an opening.
use Rattle.std.proofs.Common.{◌≡◌, ◌∙◌, ◌⊎◌, inl, inr, ap, sym, subst, refl, ℕ, ◌+◌, ◌<◌, ◌≤◌, Bool, true, false, List, [], ◌∷◌, ◌++◌, length, drop, arith, Option, None, Some, Result, Ok, Err, OnErr}
use Rattle.std.proofs.lemmas.List.{length-append}
use Rattle.gd_base.specs.Judging.Machine.{Machine, Blocks}
use Rattle.gd_base.specs.Outside.Causes.{Rose}
use Rattle.gd_base.specs.Payloads.Spelled.{Shows}
use Rattle.gd_base.specs.Laws.TellsViews.{TellsViews}
use Rattle.gd_cabinet.specs.OpenAnswer.{OnUnread}
use Rattle.gd_cabinet.specs.declared.cabinet.Parts.{Parts}
use Rattle.gd_cabinet.specs.declared.opening.CabinetOpened.{CabinetOpened}
use Rattle.gd_store.specs.declared.copy.states.Found.{Found}
use Rattle.gd_cabinet.specs.OpenMoments.{opening_syncs, view_started}
use Rattle.gd_cabinet.specs.Shown.{shows, IsInBoth, ShowsEither}
use Rattle.gd_disk.specs.CutRuns.{IsCompleteRun, IsCutOff, RunOf}
use Rattle.gd_disk.specs.Disk.{DiskState, HasFound, IsSynced, Loses, Unchanged}
use Rattle.gd_disk.specs.Runs.{LeavesOnly}
use Rattle.gd_disk.proofs.Runs.{at_end}
use Rattle.gd_disk.proofs.WholeRuns.{cut_lowers}
use Rattle.gd_store.specs.Writing.{From}
use Rattle.gd_top.specs.Code.Falls.{AreCalls, AreWaiting, falls_by}
use Rattle.gd_top.specs.Code.Memory.{Moment, AreCounted, FitsDown, IsDown, IsLapFound, IsWantedIn, Opens, OpensTo, Sits, unless_failed}
use Rattle.gd_top.specs.Code.Parts.{GivesText}
use Rattle.gd_top.specs.Code.Standing.{Standing}
use Rattle.gd_top.specs.Run.Openings.{Wanted}
use Rattle.gd_top.specs.Run.State.{Flight, Off, is_powered}
use Rattle.gd_top.specs.declared.halt.Halt.{Halt}
use Rattle.gd_top.specs.declared.item.opening.Opened.{Opened}
use Rattle.gd_top.proofs.ItemLemmas.Images.{shut_synced}
use Rattle.gd_top.proofs.ItemLemmas.OpenedSo.{CountsOpened, HasRead, no_disk_fault, no_kind, no_other, only_so, write_cause}
use Rattle.gd_top.proofs.RunLemmas.Cuts.{calls_many, calls_used, calls_whole, waiting_used, waiting_whole}

-- what an answer says by the core and the source of blocks that the reading left, said by those before it
pub over_core : {V : Type 0} (F : Machine V → Blocks → Type 0) (N M : Machine V) (C B : Blocks) → N ≡ M → C ≡ B → F N C → F M B
over_core {V} F N M C B machine blocks f = subst (λ (O : Machine V). F O B) machine (subst (λ (D : Blocks). F N D) blocks f)

-- an image that may be found where nothing was written may have been found before
pub left_by : (old new : DiskState) → LeavesOnly old new (From old Unchanged) → (c : List ℕ) → new.may_find c → old.may_find c
left_by old new leaves c may =
    let was = at_end old new (From old Unchanged) leaves c may in
    subst old.may_find (sym was.2) was.1

pub lost_by : (old new : DiskState) → Loses Unchanged old new → (c : List ℕ) → new.may_find c → old.may_find c
lost_by old new loss c may =
    let was = loss.now c may in
    subst old.may_find (sym was.2) was.1

-- and it is the one that was read
pub read_alone : (mid disk : DiskState) (image : List ℕ) → mid.seen ≡ Some image → IsSynced mid → LeavesOnly mid disk (From mid Unchanged) → (c : List ℕ) → disk.may_find c → c ≡ image
read_alone mid disk image seen synced leaves c may = same mid.seen (synced c (left_by mid disk leaves c may)) seen
  where
    same : (o : Option (List ℕ)) → o ≡ Some c → o ≡ Some image → c ≡ image
    same o a b = cc (a, b)

-- the copies could not be read
pub unread_of : {C D W : Type 0} (g h i : _) (found : Option Found) (parts : Parts C D W) (P : Type 0) → OnUnread {C = C} {D = D} {W = W} {g = g} {h = h} {i = i} (CabinetOpened.Off found parts) P → found ≡ None → P
unread_of g h i found parts P p is = subst (λ (f : Option Found). OnUnread {g = g} {h = h} {i = i} (CabinetOpened.Off f parts) P) is p

-- a memory was found open, with this view then
pub record IsReady {V : Type 0} (lap : ℕ) (image : List ℕ) (mid disk : DiskState) (w : V) (M : Machine V) (B : Blocks) : Type 0 where
  pub found : V
  pub shown : shows M image ≡ Shows found
  pub started : w ≡ view_started M B lap found
  pub run : IsCompleteRun (opening_syncs M image) mid disk
  pub both : (c : List ℕ) → disk.may_find c → IsInBoth M w c

-- a view was found, and the opening of it failed
pub record IsUnready {V : Type 0} (lap : ℕ) (image : List ℕ) (mid disk : DiskState) (v : V) (M : Machine V) (B : Blocks) : Type 0 where
  pub shown : shows M image ≡ Shows v
  pub run : RunOf {T = Unit {0}} {E = Unit {0}} (opening_syncs M image) (Err tt) mid disk
  pub either : (c : List ℕ) → disk.may_find c → ShowsEither M v (view_started M B lap v) c

module _ {V : Type 0} (making : Bool) (was : Moment V) where
  lap_at : (kind : Bool) (lap : ℕ) (on mid : DiskState) → mid.seen ≡ on.seen → IsLapFound kind was.machine on was.counts.lap lap → IsLapFound kind was.machine mid was.counts.lap lap
  lap_at false lap on mid same found = found
  lap_at true lap on mid same found = λ tells image seen. found tells image (sym same ∙ seen)

  -- what was found and read
  pub has_read : (on mid : DiskState) (lap : ℕ) → IsDown was → (h : HasFound was.disk on) → on.size ≡ was.disk.size → IsSynced on → on.armed ≡ was.disk.armed → on.syncs ≡ was.disk.syncs
      → IsLapFound making was.machine on was.counts.lap lap → LeavesOnly on mid (From on Unchanged) → mid.seen ≡ on.seen → mid.armed ≡ on.armed → mid.syncs ≡ on.syncs → HasRead making was mid lap h.image
  has_read on mid lap down h size synced armed syncs found leaves seen still none = record {
    long = on.whole h.image h.seen ∙ size ∙ down.size;
    lap_found = lap_at making lap on mid seen found;
    seen = seen ∙ h.seen;
    synced = shut_synced on mid h.image h.seen synced leaves (seen ∙ h.seen);
    tells = down.tells;
    armed = still ∙ armed;
    waiting = subst AreWaiting (sym (still ∙ armed)) down.waiting;
    syncs = none ∙ syncs;
  }

  -- the lap is below the power-ons
  pub lap_room : (kind : Bool) (mid : DiskState) (lap : ℕ) (image : List ℕ) → TellsViews was.machine → mid.seen ≡ Some image → IsLapFound kind was.machine mid was.counts.lap lap → was.counts.lap ≤ was.counts.power_ons → (kind ≡ true → was.counts.lap < was.counts.power_ons)
      → lap ≤ was.counts.power_ons
  lap_room false mid lap image tells seen found le room = omega (arith, found, le)
  lap_room true mid lap image tells seen found le room = by_view (found tells image seen)
    where
      by_view : ((shows was.machine image ≡ Shows was.machine.empty) × (lap ≡ was.counts.lap + 1)) ⊎ ((shows was.machine image ≡ Shows was.machine.empty → ⊥) × (lap ≡ was.counts.lap)) → lap ≤ was.counts.power_ons
      by_view (inl empty) = omega (arith, empty.1, room refl)
      by_view (inr other) = omega (arith, other.1, le)

  -- what is kept of the armed cuts after a whole opening
  pub counted_after : (syncs : ℕ) (mid : DiskState) (now : Moment V) → IsDown was → mid.armed ≡ was.disk.armed → IsCompleteRun syncs mid now.disk → now.counts.calls.items ≡ was.counts.calls.items → now.counts.power_ons ≡ was.counts.power_ons + 1
      → AreCounted now.counts now.disk.armed
  counted_after syncs mid now down armed run calls power_ons =
      let at_mid : AreCalls was.counts.calls.items mid.armed = subst (AreCalls was.counts.calls.items) (sym armed) down.calls in
      let after = calls_whole syncs was.counts.calls.items mid now.disk at_mid run in
      let before = calls_many was.counts.calls.items was.disk.armed down.calls in
      let behind = calls_many was.counts.calls.items now.disk.armed after in
      record {
        calls = calls ∙ after;
        waiting = waiting_whole syncs mid now.disk (subst AreWaiting (sym armed) down.waiting) run;
        room = omega (arith, down.room, before, behind, power_ons);
      }

  few_falls : (calls : List Bool) (offer : ℕ) → length (falls_by calls offer) ≤ 1
  few_falls [] offer = omega arith
  few_falls (true ∷ later) offer = omega arith
  few_falls (false ∷ later) offer = omega arith

  -- a cut came in it
  pub down_after : (syncs lap : ℕ) (mid : DiskState) (now : Moment V) → IsDown was → mid.armed ≡ was.disk.armed → mid.size ≡ was.disk.size → IsCutOff syncs mid now.disk → now.machine ≡ was.machine → now.counts.given ≡ was.counts.given → now.disk.size ≡ mid.size → now.disk.is_on ≡ false
      → lap ≤ was.counts.power_ons → now.counts.lap ≡ lap → now.counts.power_ons ≡ was.counts.power_ons + 1 → now.counts.calls.items ≡ drop 1 was.counts.calls.items
      → now.counts.falls.items ≡ was.counts.falls.items ++ falls_by was.counts.calls.items (was.counts.offers + 1) → IsDown now
  down_after syncs lap mid now down armed long cut machine given size off le lap_is power_ons calls falls =
      let at_mid : AreCalls was.counts.calls.items mid.armed = subst (AreCalls was.counts.calls.items) (sym armed) down.calls in
      let lower : length mid.armed ≡ length now.disk.armed + 1 = cut_lowers syncs mid now.disk cut in
      let as_many : length mid.armed ≡ length was.disk.armed = ap length armed in
      let fell : length now.counts.falls.items ≡ length was.counts.falls.items + length (falls_by was.counts.calls.items (was.counts.offers + 1)) = ap length falls ∙ length-append was.counts.falls.items (falls_by was.counts.calls.items (was.counts.offers + 1)) in
      record {
        tells = subst TellsViews (sym machine) down.tells;
        given = given ∙ down.given ∙ ap (λ (O : Machine V). O.digest) (sym machine);
        size = size ∙ long ∙ down.size;
        is_off = off;
        laps = omega (arith, le, lap_is, power_ons);
        falls = omega (arith, fell, few_falls was.counts.calls.items (was.counts.offers + 1), down.falls, power_ons);
        calls = calls ∙ calls_used syncs was.counts.calls.items mid now.disk at_mid cut;
        waiting = waiting_used syncs mid now.disk (subst AreWaiting (sym armed) down.waiting) cut;
        room = omega (arith, down.room, lower, as_many, power_ons);
      }

  -- as many are armed after a whole one
  pub still_after : (now : Moment V) → IsDown was → AreCounted now.counts now.disk.armed → now.counts.calls.items ≡ was.counts.calls.items → length now.disk.armed ≤ length was.disk.armed
  still_after now down counted same =
      let before = calls_many was.counts.calls.items was.disk.armed down.calls in
      let behind = calls_many now.counts.calls.items now.disk.armed counted.calls in
      let many : length now.counts.calls.items ≡ length was.counts.calls.items = ap length same in
      omega (arith, before, behind, many)

  pub fewer_after : (syncs : ℕ) (mid : DiskState) (now : Moment V) → mid.armed ≡ was.disk.armed → IsCutOff syncs mid now.disk → length now.disk.armed < length was.disk.armed
  fewer_after syncs mid now armed cut =
      let lower : length mid.armed ≡ length now.disk.armed + 1 = cut_lowers syncs mid now.disk cut in
      let as_many : length mid.armed ≡ length was.disk.armed = ap length armed in
      omega (arith, lower, as_many)

  abbrev CarriesEach : Result Opened Halt → Moment V → Type 0
  CarriesEach ended now = (flight : Flight) (wanted : Wanted) → IsWantedIn making flight wanted → (s : Standing V) → FitsDown flight s was → OpensTo ended flight wanted s was now

  -- ================ to the contract

  -- the copies were not read
  pub opens_unread : (now : Moment V) → CarriesEach (Err Halt.DiskFault) now → Rose was.disk.faults now.disk.faults → now.faults ≡ was.faults → now.machine ≡ was.machine → ((lap index : ℕ) → now.blocks lap index ≡ was.blocks lap index)
      → now.counts.offers ≡ was.counts.offers → was.counts.power_ons ≤ now.counts.power_ons → Opens making (Err Halt.DiskFault) was now
  opens_unread now carried rose calm machine blocks offers more = record {
    carried = carried;
    stands = λ is. absurd (cc is);
    powered = λ is. absurd (cc is);
    fell = λ is. absurd (cc is);
    closed = λ is. absurd (cc is);
    fewer = λ is. absurd (cc is);
    no_fault = λ kind is. absurd (cc is);
    disk_fault = λ is. rose;
    later = omega (arith, calm);
    write_fault = λ is. absurd (cc is);
    no_stop = λ is. cc is;
    no_read = λ is. cc is;
    machine = machine;
    blocks = blocks;
    still = λ is. absurd (cc is);
    another = λ kind is. absurd (cc is);
    offers = omega (arith, offers, more);
    more = more;
  }

  module _ (now : Moment V) (lap : ℕ) (counts : CountsOpened was.counts now.counts lap) (machine : now.machine ≡ was.machine) (blocks : (lap index : ℕ) → now.blocks lap index ≡ was.blocks lap index)
      (given : Result (Unit {0}) Halt) (text : List ℕ) (gives : GivesText given was.taken now.taken text) (later : was.faults ≤ now.faults) (cause : OnErr given (Rose was.faults now.faults)) where
    pub opens_stands : CarriesEach (unless_failed given (Ok Opened.Stands)) now → Sits now → is_powered now.phase ≡ true → now.disk.faults ≡ was.disk.faults → length now.disk.armed ≤ length was.disk.armed → Opens making (unless_failed given (Ok Opened.Stands)) was now
    opens_stands carried sits powered calm fewer = record {
      carried = carried;
      stands = λ is. sits;
      powered = λ is. powered;
      fell = λ is. absurd (not_fell is);
      closed = λ is. absurd (not_fell is);
      fewer = λ is. absurd (not_fell is);
      no_fault = λ kind is. calm;
      disk_fault = λ is. absurd (no_disk_fault given was.taken now.taken text gives Opened.Stands is);
      later = later;
      write_fault = λ is. write_cause given was.taken now.taken text gives (Ok Opened.Stands) was.faults now.faults (λ e. cc e) cause is;
      no_stop = λ is. no_other given was.taken now.taken text gives (Ok Opened.Stands) Halt.ScriptFault (λ e. cc e) (λ e. cc e) is;
      no_read = λ is. no_other given was.taken now.taken text gives (Ok Opened.Stands) Halt.ReadFault (λ e. cc e) (λ e. cc e) is;
      machine = machine;
      blocks = blocks;
      still = λ is. fewer;
      another = λ kind is. counts.power_ons;
      offers = omega (arith, counts.offers, counts.power_ons);
      more = omega (arith, counts.power_ons);
    }
      where
        not_fell : unless_failed given (Ok Opened.Stands) ≡ Ok Opened.Fell → ⊥
        not_fell is = only_so given was.taken now.taken text gives Opened.Stands Opened.Fell (λ e. cc e) is

    pub opens_fell : CarriesEach (unless_failed given (Ok Opened.Fell)) now → IsDown now → now.phase ≡ Off → length now.disk.armed < length was.disk.armed → now.disk.faults ≡ was.disk.faults → Opens making (unless_failed given (Ok Opened.Fell)) was now
    opens_fell carried down closed fewer calm = record {
      carried = carried;
      stands = λ is. absurd (not_stands is);
      powered = λ is. absurd (not_stands is);
      fell = λ is. down;
      closed = λ is. closed;
      fewer = λ is. fewer;
      no_fault = λ kind is. calm;
      disk_fault = λ is. absurd (no_disk_fault given was.taken now.taken text gives Opened.Fell is);
      later = later;
      write_fault = λ is. write_cause given was.taken now.taken text gives (Ok Opened.Fell) was.faults now.faults (λ e. cc e) cause is;
      no_stop = λ is. no_other given was.taken now.taken text gives (Ok Opened.Fell) Halt.ScriptFault (λ e. cc e) (λ e. cc e) is;
      no_read = λ is. no_other given was.taken now.taken text gives (Ok Opened.Fell) Halt.ReadFault (λ e. cc e) (λ e. cc e) is;
      machine = machine;
      blocks = blocks;
      still = λ is. absurd (not_stands is);
      another = λ kind is. counts.power_ons;
      offers = omega (arith, counts.offers, counts.power_ons);
      more = omega (arith, counts.power_ons);
    }
      where
        not_stands : unless_failed given (Ok Opened.Fell) ≡ Ok Opened.Stands → ⊥
        not_stands is = only_so given was.taken now.taken text gives Opened.Fell Opened.Stands (λ e. cc e) is

    pub opens_failed : CarriesEach (unless_failed given (Err Halt.DiskFault)) now → Rose was.disk.faults now.disk.faults → Opens making (unless_failed given (Err Halt.DiskFault)) was now
    opens_failed carried rose = record {
      carried = carried;
      stands = λ is. absurd (no_kind given was.taken now.taken text gives Halt.DiskFault Opened.Stands is);
      powered = λ is. absurd (no_kind given was.taken now.taken text gives Halt.DiskFault Opened.Stands is);
      fell = λ is. absurd (no_kind given was.taken now.taken text gives Halt.DiskFault Opened.Fell is);
      closed = λ is. absurd (no_kind given was.taken now.taken text gives Halt.DiskFault Opened.Fell is);
      fewer = λ is. absurd (no_kind given was.taken now.taken text gives Halt.DiskFault Opened.Fell is);
      no_fault = λ kind is. absurd (no_kind given was.taken now.taken text gives Halt.DiskFault kind is);
      disk_fault = λ is. rose;
      later = later;
      write_fault = λ is. write_cause given was.taken now.taken text gives (Err Halt.DiskFault) was.faults now.faults (λ e. cc e) cause is;
      no_stop = λ is. no_other given was.taken now.taken text gives (Err Halt.DiskFault) Halt.ScriptFault (λ e. cc e) (λ e. cc e) is;
      no_read = λ is. no_other given was.taken now.taken text gives (Err Halt.DiskFault) Halt.ReadFault (λ e. cc e) (λ e. cc e) is;
      machine = machine;
      blocks = blocks;
      still = λ is. absurd (no_kind given was.taken now.taken text gives Halt.DiskFault Opened.Stands is);
      another = λ kind is. absurd (no_kind given was.taken now.taken text gives Halt.DiskFault kind is);
      offers = omega (arith, counts.offers, counts.power_ons);
      more = omega (arith, counts.power_ons);
    }

    pub opens_differs : CarriesEach (unless_failed given (Err Halt.SetupDiffers)) now → Opens making (unless_failed given (Err Halt.SetupDiffers)) was now
    opens_differs carried = record {
      carried = carried;
      stands = λ is. absurd (no_kind given was.taken now.taken text gives Halt.SetupDiffers Opened.Stands is);
      powered = λ is. absurd (no_kind given was.taken now.taken text gives Halt.SetupDiffers Opened.Stands is);
      fell = λ is. absurd (no_kind given was.taken now.taken text gives Halt.SetupDiffers Opened.Fell is);
      closed = λ is. absurd (no_kind given was.taken now.taken text gives Halt.SetupDiffers Opened.Fell is);
      fewer = λ is. absurd (no_kind given was.taken now.taken text gives Halt.SetupDiffers Opened.Fell is);
      no_fault = λ kind is. absurd (no_kind given was.taken now.taken text gives Halt.SetupDiffers kind is);
      disk_fault = λ is. absurd (no_other given was.taken now.taken text gives (Err Halt.SetupDiffers) Halt.DiskFault (λ e. cc e) (λ e. cc e) is);
      later = later;
      write_fault = λ is. write_cause given was.taken now.taken text gives (Err Halt.SetupDiffers) was.faults now.faults (λ e. cc e) cause is;
      no_stop = λ is. no_other given was.taken now.taken text gives (Err Halt.SetupDiffers) Halt.ScriptFault (λ e. cc e) (λ e. cc e) is;
      no_read = λ is. no_other given was.taken now.taken text gives (Err Halt.SetupDiffers) Halt.ReadFault (λ e. cc e) (λ e. cc e) is;
      machine = machine;
      blocks = blocks;
      still = λ is. absurd (no_kind given was.taken now.taken text gives Halt.SetupDiffers Opened.Stands is);
      another = λ kind is. absurd (no_kind given was.taken now.taken text gives Halt.SetupDiffers kind is);
      offers = omega (arith, counts.offers, counts.power_ons);
      more = omega (arith, counts.power_ons);
    }
