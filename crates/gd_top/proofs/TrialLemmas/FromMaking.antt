-- The opening of a memory that was made, and then the lines.
use Rattle.std.proofs.Common.{◌≡◌, ◌∙◌, ap, sym, subst, refl, ℕ, ◌≤◌, List, [], length, map, ◌⊎◌, inl, inr, true, false, arith, Option, None, Some, Result, Ok, Err, is_err}
use Rattle.gd_base.specs.Judging.Machine.{Machine, Blocks}
use Rattle.gd_base.specs.Laws.TellsViews.{HasPayload, TellsViews}
use Rattle.gd_cabinet.specs.Shown.{IsInBoth}
use Rattle.gd_disk.specs.CutRuns.{FirstComes, IsCutOff, IsFaulted}
use Rattle.gd_disk.specs.Disk.{DiskState}
use Rattle.gd_disk.specs.Runs.{CutsLeft}
use Rattle.gd_disk.specs.declared.disk.ArmedCut.{ArmedCut}
use Rattle.gd_script.specs.declared.item.Item.{Item}
use Rattle.gd_top.specs.Code.LinesDone.{DoneBy, IsFailedMaking, LinesDone, RunBy, RunDone, ScriptOf, made_outside}
use Rattle.gd_top.specs.Code.Falls.{AreCalls, AreWaiting, counts_calls}
use Rattle.gd_top.specs.Code.Memory.{Moment, FitsDown, IsDown, IsFresh, IsMadeOff, IsUnmade, Leaves, OpensTo, Reopens, Serves, as_opened, begun, outside, stands_with}
use Rattle.gd_top.specs.Code.Parts.{Outside, Carries, CarriesBy, Pending}
use Rattle.gd_top.specs.Code.Standing.{Standing, at, first_standing}
use Rattle.gd_top.specs.Run.Items.{lines_meaning}
use Rattle.gd_top.specs.Run.Life.{run_meaning}
use Rattle.gd_top.specs.Run.Offers.{syncs_of_making}
use Rattle.gd_top.specs.Run.Openings.{Done, power_on}
use Rattle.gd_top.specs.Run.State.{Phase, On, Off, Locked, is_powered, Nothing, Goes, Stops, Differs}
use Rattle.gd_top.specs.Script.Lines.{script_of, whole_lines}
use Rattle.gd_top.specs.declared.halt.Halt.{Halt}
use Rattle.gd_top.proofs.ItemLemmas.Images.{unmasked}
use Rattle.gd_top.proofs.LineLemmas.Alike.{blocks_are}
use Rattle.gd_top.proofs.RunLemmas.Joins.{goes_on_nothing}
use Rattle.gd_top.proofs.RunLemmas.Parts.{differing_of, pending_of, pending_then, broken_then}
use Rattle.gd_top.proofs.RunLemmas.Said.{broken_at}

module _ {V : Type 0} (M : Machine V) (B : Blocks) where
  module _ (a b : Standing V) (u v : Outside) (h : Carries M (power_on M B Nothing Done) Goes a b u v) where
    carried_run : (o : _) (lines : List (Option Item)) (c : Standing V) (w : Outside) → Carries M (lines_meaning M B lines) o b c v w → Carries M (run_meaning M B lines) o a c u w
    carried_run o lines c w k =
        pending_then M (run_meaning M B lines) (lines_meaning M B lines) _ a b c u v w (pending_of M (power_on M B Nothing Done) (λ s. lines_meaning M B lines s) a b u v h) k

    -- the opening went on, and then the lines
    pub lines_run : (r : Result (Unit {0}) Halt) (c : Standing V) (w : Outside) (disk : DiskState) (left rest : Option (List ℕ)) → DoneBy M B (lines_meaning M B) r b c v w disk left rest → RunBy M B r a c u w disk left rest
    lines_run (Ok done) c w disk left rest k = (record { source = k.0.source; carried = carried_run Goes (script_of k.0.source.script) c w k.0.carried }, k.1)
    lines_run (Err Halt.ScriptFault) c w disk left rest k = record { source = k.source; carried = carried_run Stops (script_of k.source.script) c w k.carried }
    lines_run (Err Halt.ReadFault) c w disk left rest k = record {
      came = k.came;
      consumed = k.consumed;
      begins = k.begins;
      faultless = k.faultless;
      carried = carried_run Goes (whole_lines k.came) c w k.carried;
    }
    lines_run (Err Halt.DiskFault) c w disk left rest k = record {
      source = k.source;
      lines = k.lines;
      begins = k.begins;
      broken = broken_then M (run_meaning M B k.lines) (lines_meaning M B k.lines) a b u v w disk (pending_of M (power_on M B Nothing Done) (λ s. lines_meaning M B k.lines s) a b u v h) k.broken;
    }
    lines_run (Err Halt.WriteFault) c w disk left rest k = inr (record {
      source = k.source;
      earlier = k.earlier;
      line = k.line;
      begins = k.begins;
      stands = k.stands;
      between = k.between;
      carried = carried_run Goes k.earlier k.stands k.between k.carried;
      unwritten = k.unwritten;
    })
    lines_run (Err Halt.SetupDiffers) c w disk left rest k = record {
      source = k.source;
      differing = record {
        carried = carried_run Differs (script_of k.source.script) c w k.differing.carried;
        armed = k.differing.armed;
        explained = k.differing.explained;
        left = k.differing.left;
      };
    }

  -- the opening ended the run
  pub opening_ends : (r : Result (Unit {0}) Halt) (a b : Standing V) (u v : Outside) (disk : DiskState) (left rest : Option (List ℕ)) (source : ScriptOf left) → is_err r ≡ true → (r ≡ Err Halt.ScriptFault → ⊥)
      → CarriesBy r M (power_on M B Nothing Done) a b u v disk → RunBy M B r a b u v disk left rest
  opening_ends (Ok done) a b u v disk left rest source err not_stop k = absurd (cc err)
  opening_ends (Err Halt.ScriptFault) a b u v disk left rest source err not_stop k = absurd (not_stop refl)
  opening_ends (Err Halt.ReadFault) a b u v disk left rest source err not_stop k = absurd k
  opening_ends (Err Halt.DiskFault) a b u v disk left rest source err not_stop k = record {
    source = source;
    lines = [];
    begins = (script_of source.script, refl);
    broken = broken_at M (power_on M B Nothing Done) (run_meaning M B []) a u v disk (λ x. goes_on_nothing (power_on M B Nothing Done (at a x))) k;
  }
  opening_ends (Err Halt.WriteFault) a b u v disk left rest source err not_stop k = inl k
  opening_ends (Err Halt.SetupDiffers) a b u v disk left rest source err not_stop k =
      record { source = source; differing = differing_of M (power_on M B Nothing Done) (λ u. lines_meaning M B (script_of source.script) u) a b u v disk k }

-- some script of a source
pub any_script : (left : Option (List ℕ)) → ScriptOf left
any_script None = record { script = []; of_source = tt }
any_script (Some bytes) = record { script = bytes; of_source = refl }

-- the memory stands after it, and nothing is still wanted
pub stands_as : {V : Type 0} (M : Machine V) (B : Blocks) (phase : Phase) → is_powered phase ≡ true → (a b : Standing V) (u v : Outside)
    → Pending M (power_on M B Nothing Done) (stands_with M B phase Done) a b u v → Carries M (power_on M B Nothing Done) Goes a b u v
stands_as M B On powered a b u v h = h
stands_as M B Off powered a b u v h = absurd (cc powered)
stands_as M B Locked powered a b u v h = h

-- an opening that ended the run
pub stands_in_none : {V : Type 0} (r : Result (Unit {0}) Halt) (s : Standing V) (was now : Moment V) → is_err r ≡ true → OpensTo (as_opened r) Nothing Done s was now → Serves r → ⊥
stands_in_none (Ok done) s was now err q serves = absurd (cc err)
stands_in_none (Err Halt.ScriptFault) s was now err q serves = q
stands_in_none (Err Halt.ReadFault) s was now err q serves = q
stands_in_none (Err Halt.DiskFault) s was now err q serves = serves
stands_in_none (Err Halt.WriteFault) s was now err q serves = serves
stands_in_none (Err Halt.SetupDiffers) s was now err q serves = serves

pub ends_by : {V : Type 0} (r : Result (Unit {0}) Halt) (s : Standing V) (was now : Moment V) → is_err r ≡ true → OpensTo (as_opened r) Nothing Done s was now
    → (t : Standing V) × CarriesBy r was.machine (power_on was.machine was.blocks Nothing Done) s t (outside was) (outside now) now.disk
ends_by (Ok done) s was now err q = absurd (cc err)
ends_by (Err Halt.ScriptFault) s was now err q = absurd q
ends_by (Err Halt.ReadFault) s was now err q = absurd q
ends_by (Err Halt.DiskFault) s was now err q = (s, q)
ends_by (Err Halt.WriteFault) s was now err q = (s, q)
ends_by (Err Halt.SetupDiffers) s was now err q = q

module _ {V : Type 0} (was made : Moment V) (machine : made.machine ≡ was.machine) (blocks : (lap index : ℕ) → made.blocks lap index ≡ was.blocks lap index) (is : outside made ≡ made_outside was) where
  -- the machine, the blocks and the outside are those from before the making
  from_before : (r : Result (Unit {0}) Halt) (t : Standing V) (w : Outside) (disk : DiskState) (left rest : Option (List ℕ))
      → RunBy made.machine made.blocks r (first_standing made.machine) t (outside made) w disk left rest → RunBy was.machine was.blocks r (first_standing was.machine) t (made_outside was) w disk left rest
  from_before r t w disk left rest h =
      subst (λ (u : Outside). RunBy was.machine was.blocks r (first_standing was.machine) t u w disk left rest) is
      (subst (λ (D : Blocks). RunBy was.machine D r (first_standing was.machine) t (outside made) w disk left rest) (blocks_are made.blocks was.blocks blocks)
      (subst (λ (O : Machine V). RunBy O made.blocks r (first_standing O) t (outside made) w disk left rest) machine h))

  module _ (fits : FitsDown Nothing (first_standing made.machine) made) (left rest : Option (List ℕ)) where
    pub run_ends : (r : Result (Unit {0}) Halt) (now : Moment V) → Reopens r made now → is_err r ≡ true → RunDone r was now left rest
    run_ends r now opens err =
        let first = first_standing made.machine in
        let q = opens.carried Nothing Done (refl, refl) first fits in
        let k = ends_by r first made now err q in
        inr (
          k.0,
          (λ serves. absurd (stands_in_none r first made now err q serves)),
          from_before r k.0 (outside now) now.disk left rest
              (opening_ends made.machine made.blocks r first k.0 (outside made) (outside now) now.disk left rest (any_script left) err opens.no_stop k.1),
        )

    pub run_goes : (opened r : Result (Unit {0}) Halt) (mid now : Moment V) → Reopens opened made mid → opened ≡ Ok tt → LinesDone r mid now left rest → RunDone r was now left rest
    run_goes opened r mid now opens went lines =
        let first = first_standing made.machine in
        let leaves = opens.leaves in
        let q = subst (λ (z : Result (Unit {0}) Halt). OpensTo (as_opened z) Nothing Done first made mid) went (opens.carried Nothing Done (refl, refl) first fits) in
        let opened_as = stands_as made.machine made.blocks mid.phase (opens.powered went) first q.0 (outside made) (outside mid) q.2 in
        let k = lines q.0 q.1 in
        let same = subst (λ (D : Blocks). DoneBy made.machine D (lines_meaning made.machine D) r q.0 k.0 (outside mid) (outside now) now.disk left rest) (blocks_are mid.blocks made.blocks leaves.blocks)
        (subst (λ (O : Machine V). DoneBy O mid.blocks (lines_meaning O mid.blocks) r q.0 k.0 (outside mid) (outside now) now.disk left rest) leaves.machine k.2) in
        inr (k.0, k.1, from_before r k.0 (outside now) now.disk left rest (lines_run made.machine made.blocks first q.0 (outside made) (outside mid) opened_as r k.0 (outside now) now.disk left rest same))

-- ================ the making

-- no cut was armed, so none is
cuts_left : (syncs : ℕ) (old new : List ArmedCut) → old ≡ [] → CutsLeft syncs old new → new ≡ []
cuts_left syncs old new none left = subst (λ (cuts : List ArmedCut). CutsLeft syncs cuts new) none left

-- and none came
no_cut_came : (done syncs : ℕ) (old : List ArmedCut) → old ≡ [] → FirstComes done syncs old → ⊥
no_cut_came done syncs old none came = subst (λ (cuts : List ArmedCut). FirstComes done syncs cuts) none came

module _ {V : Type 0} (was made : Moment V) (unarmed : was.disk.armed ≡ []) (machine : made.machine ≡ was.machine) (fresh : IsFresh made.counts) where
  -- the memory that was made fits the first standing
  module _ (h : IsMadeOff was.machine was.view was.disk made.disk) where
    still_unarmed : made.disk.armed ≡ []
    still_unarmed = cuts_left syncs_of_making was.disk.armed made.disk.armed unarmed h.made.run.left

    waits : AreWaiting made.disk.armed
    waits = subst AreWaiting (sym still_unarmed) tt

    calls : AreCalls made.counts.calls.items made.disk.armed
    calls = fresh.calls ∙ ap (map (λ (cut : ArmedCut). counts_calls cut.unit)) (sym still_unarmed)

    none_armed : length made.disk.armed ≡ 0
    none_armed = ap length still_unarmed

    none_fallen : length made.counts.falls.items ≡ 0
    none_fallen = ap length fresh.falls

    pub first_fits : made.is_trial ≡ true → was.view ≡ was.machine.empty → FitsDown Nothing (first_standing made.machine) made
    first_fits trial empty =
        let is : was.view ≡ made.machine.empty = empty ∙ sym (ap (λ m. m.empty) machine) in
        record {
          trial = sym trial;
          lines = sym fresh.lines;
          power_ons = sym fresh.power_ons;
          lap = sym fresh.lap;
          offers = sym fresh.offers;
          armed = still_unarmed;
          within = tt;
          spelled = subst (λ v. HasPayload made.machine v) is (subst (λ O. HasPayload O was.view) (sym machine) h.made.spelled);
          near = λ image may.
              inl (unmasked made.machine made.machine.empty image
              (subst (λ v. IsInBoth made.machine v image) is (subst (λ O. IsInBoth O was.view image) (sym machine) (h.made.both image may))));
          fallen = λ image may. tt;
          explained = λ none. (refl, refl);
        }

    given_as : made.counts.given ≡ was.machine.digest → made.counts.given ≡ made.machine.digest
    given_as given = given ∙ sym (ap (λ m. m.digest) machine)

    pub made_down : TellsViews was.machine → made.counts.given ≡ was.machine.digest → IsDown made
    made_down tells given = record {
      tells = subst TellsViews (sym machine) tells;
      given = given_as given;
      size = h.made.size;
      is_off = h.is_off;
      laps = omega (arith, fresh.lap);
      falls = omega (arith, none_fallen);
      calls = calls;
      waiting = waits;
      room = omega (arith, none_armed, fresh.power_ons);
    }

    -- what the making leaves
    pub made_leaves : ((lap index : ℕ) → made.blocks lap index ≡ was.blocks lap index) → TellsViews was.machine → made.counts.given ≡ was.machine.digest → made.phase ≡ Off → made.is_stopped ≡ false → made.faults ≡ was.faults → Leaves (Ok tt) was made
    made_leaves blocks tells given off runs faults = record {
      sits = λ serves. record {
        tells = subst TellsViews (sym machine) tells;
        given = given_as given;
        size = h.made.size;
        power = h.is_off ∙ ap is_powered (sym off);
        runs = runs;
        same_lap = λ e. cc (sym off ∙ e);
        laps = subst (λ (p : Phase). begun p made.counts.lap ≤ made.counts.power_ons) (sym off) (omega (arith, fresh.lap));
        falls = subst (λ (p : Phase). begun p (length made.counts.falls.items) ≤ made.counts.power_ons) (sym off) (omega (arith, none_fallen));
        counted = record { calls = calls; waiting = waits; room = omega (arith, none_armed, fresh.power_ons) };
        settled = λ e. h.settled;
        synced = λ e. cc (sym off ∙ e);
      };
      no_fault = λ serves. h.made.run.no_fault;
      disk_fault = λ e. absurd (cc e);
      later = omega (arith, faults);
      write_fault = λ e. absurd (cc e);
      machine = machine;
      blocks = blocks;
    }

  -- ================ a making that failed

  module _ (h : IsUnmade was.machine was.view was.disk made.disk) where
    faulted_by : (IsCutOff syncs_of_making was.disk made.disk ⊎ IsFaulted syncs_of_making was.disk made.disk) → IsFaulted syncs_of_making was.disk made.disk
    faulted_by (inl cut) = absurd (no_cut_came cut.done syncs_of_making was.disk.armed unarmed cut.came)
    faulted_by (inr fault) = fault

    abbrev faulted : IsFaulted syncs_of_making was.disk made.disk
    faulted = faulted_by h.failed

    pub unmade_failed : was.disk.found ≡ [] → made.taken ≡ was.taken → IsFailedMaking (Err Halt.DiskFault) was made
    unmade_failed found printed = record {
      fault = refl;
      found = h.found ∙ found;
      left = h.fewer;
      armed = cuts_left faulted.done was.disk.armed made.disk.armed unarmed faulted.left;
      falls = fresh.falls;
      printed = printed;
    }

    pub unmade_done : was.disk.found ≡ [] → made.taken ≡ was.taken → (left rest : Option (List ℕ)) → RunDone (Err Halt.DiskFault) was made left rest
    unmade_done found printed left rest = inl (unmade_failed found printed)

    pub unmade_leaves : ((lap index : ℕ) → made.blocks lap index ≡ was.blocks lap index) → made.faults ≡ was.faults → Leaves (Err Halt.DiskFault) was made
    unmade_leaves blocks faults = record {
      sits = λ serves. absurd serves;
      no_fault = λ serves. absurd serves;
      disk_fault = λ e. faulted.fault;
      later = omega (arith, faults);
      write_fault = λ e. absurd (cc e);
      machine = machine;
      blocks = blocks;
    }
