-- One cut more behind the armed ones, in any phase.
use Rattle.std.proofs.Common.{◌≡◌, ◌∙◌, ap, sym, subst, refl, ℕ, ◌+◌, ◌≤◌, nat_le, Bool, true, false, List, [], ◌∷◌, ◌++◌, length, length-append, map, arith, codes, Option, Some, Result, Err, OnErr}
use Rattle.std.proofs.lemmas.Bool.Decides.{nat_tests}
use Rattle.gd_base.specs.Judging.Machine.{Machine}
use Rattle.gd_base.specs.Laws.TellsViews.{HasPayload, TellsViews}
use Rattle.gd_base.specs.Outside.Causes.{Rose}
use Rattle.gd_cabinet.specs.Shown.{IsInBoth}
use Rattle.gd_disk.specs.Disk.{DiskState, KeepsCounts, Loses, Unchanged}
use Rattle.gd_disk.specs.declared.disk.ArmedCut.{ArmedCut}
use Rattle.gd_disk.specs.declared.disk.CutUnit.{CutUnit}
use Rattle.gd_disk.specs.declared.disk.CutUnit.TheVariants.{Call, Sync}
use Rattle.gd_script.specs.declared.item.Item.{Item}
use Rattle.gd_store.specs.Copy.{AreBad}
use Rattle.gd_store.specs.Masks.{Mask}
use Rattle.gd_store.specs.declared.copy.layout.TheConstants.{LAYOUT}
use Rattle.gd_top.specs.Claims.MemoryLeft.{IsLeftIn, IsMasked}
use Rattle.gd_top.specs.Code.Falls.{AreWaiting, IsWaiting, counts_calls}
use Rattle.gd_top.specs.Code.Memory.{Moment, Does, Fits, IsKnownIn, Sits, begun, outside}
use Rattle.gd_top.specs.Code.Parts.{GivesText}
use Rattle.gd_top.specs.Code.Standing.{Standing}
use Rattle.gd_top.specs.Run.Items.{item_meaning}
use Rattle.gd_top.specs.Run.Offers.{AreArmed}
use Rattle.gd_top.specs.Run.State.{Phase, On, Off, Locked, is_powered}
use Rattle.gd_top.specs.declared.halt.Halt.{Halt}
use Rattle.gd_top.specs.declared.memory.TheConstants.{MOST_POWER_ONS}
use Rattle.gd_top.proofs.ItemLemmas.Lines.{limit_is}
use Rattle.gd_top.proofs.ItemLemmas.PowerLines.{armed_after, cut_stops, cut_tells}
use Rattle.gd_top.proofs.RunLemmas.Cuts.{armed_itself, armed_length, calls_many}
use Rattle.gd_top.proofs.RunLemmas.Said.{said, stops_here, moves_on, gives_no_disk_fault, gives_no_read_fault, on_err_at}

-- ================ lists of cuts

more_armed : (cut : ArmedCut) (said now : List ArmedCut) → AreArmed said now → AreArmed (said ++ cut ∷ []) (now ++ cut ∷ [])
more_armed cut [] now told = subst (AreArmed (cut ∷ [])) (sym (ap (λ (cuts : List ArmedCut). cuts ++ cut ∷ []) told)) (armed_itself (cut ∷ []))
more_armed cut (first ∷ later) now told = (told.0, ap (λ (cuts : List ArmedCut). cuts ++ cut ∷ []) told.1, told.2)

waits_one : (unit : CutUnit) (count : ℕ) → 1 ≤ count → IsWaiting unit count
waits_one Sync count one = one
waits_one Call count one = tt

more_waiting : (cut : ArmedCut) (cuts : List ArmedCut) → 1 ≤ cut.count → AreWaiting cuts → AreWaiting (cuts ++ cut ∷ [])
more_waiting cut [] one waits = (waits_one cut.unit cut.count one, tt)
more_waiting cut (first ∷ later) one waits = (waits.0, more_waiting cut later one waits.1)

more_calls : (cut : ArmedCut) (cuts : List ArmedCut) → map (λ cut. counts_calls cut.unit) cuts ++ counts_calls cut.unit ∷ [] ≡ map (λ cut. counts_calls cut.unit) (cuts ++ cut ∷ [])
more_calls cut [] = refl
more_calls cut (first ∷ later) = ap (λ (calls : List Bool). counts_calls first.unit ∷ calls) (more_calls cut later)

more_long : (cut : ArmedCut) (cuts : List ArmedCut) → length (cuts ++ cut ∷ []) ≡ length cuts + 1
more_long cut cuts = length-append cuts (cut ∷ [])

pub below : (n : ℕ) → nat_le MOST_POWER_ONS n ≡ false → n + 1 ≤ MOST_POWER_ONS
below n test = grind (arith, nat_tests, test)

-- ================ what the memory holds

module _ {V : Type 0} (M : Machine V) (v : V) (masks : List Mask) (old new : DiskState) (loss : Loses Unchanged old new) (found : new.found ≡ old.found) where
  left_as : (phase : Phase) → IsLeftIn M phase v masks old → IsLeftIn M phase v masks new
  left_as On holds = λ image may. let was = loss.now image may in subst (IsInBoth M v) (sym was.2) (holds was.0 was.1)
  left_as Off holds = λ image may. let was = loss.now image may in subst (IsMasked M v masks) (sym was.2) (holds was.0 was.1)
  left_as Locked holds = record {
    image = holds.image;
    earlier = holds.earlier;
    last = found ∙ holds.last;
    only = λ c may. let was = loss.now c may in was.2 ∙ holds.only was.0 was.1;
    shut = holds.shut;
  }

-- ================ a cut was armed

-- nothing but that was done
pub record ArmsOne {V : Type 0} (cut : ArmedCut) (was now : Moment V) : Type 0 where
  pub was_trial : was.is_trial ≡ true
  pub trial : now.is_trial ≡ was.is_trial
  pub machine : now.machine ≡ was.machine
  pub blocks : (lap index : ℕ) → now.blocks lap index ≡ was.blocks lap index
  pub view : now.view ≡ was.view
  pub phase : now.phase ≡ was.phase
  pub armed : now.disk.armed ≡ was.disk.armed ++ cut ∷ []
  pub power : now.disk.is_on ≡ was.disk.is_on
  pub seen : now.disk.seen ≡ was.disk.seen
  pub loss : Loses Unchanged was.disk now.disk
  pub kept : KeepsCounts was.disk now.disk
  pub found : now.disk.found ≡ was.disk.found
  pub no_fault : now.disk.faults ≡ was.disk.faults
  pub stopped : now.is_stopped ≡ was.is_stopped
  pub lap : now.lap ≡ was.lap
  pub lines : now.counts.lines ≡ was.counts.lines
  pub power_ons : now.counts.power_ons ≡ was.counts.power_ons
  pub laps : now.counts.lap ≡ was.counts.lap
  pub given : now.counts.given ≡ was.counts.given
  pub offers : now.counts.offers ≡ was.counts.offers
  pub falls : now.counts.falls.items ≡ was.counts.falls.items
  pub calls : now.counts.calls.items ≡ was.counts.calls.items ++ counts_calls cut.unit ∷ []

module _ {V : Type 0} (cut : ArmedCut) (was : Moment V) where
  -- at the limit
  pub arm_stops : was.is_trial ≡ true → nat_le MOST_POWER_ONS (was.counts.power_ons + length was.counts.calls.items) ≡ true → Sits was
      → Does (λ M B. item_meaning M B (Item.Cut cut.unit cut.count cut.torn)) (Err Halt.ScriptFault) was was
  arm_stops trial limit sits =
      let M = was.machine in
      let B = was.blocks in
      record {
        carried = λ s fits. (
          s,
          (λ serves. fits),
          stops_here M (item_meaning M B (Item.Cut cut.unit cut.count cut.torn)) s (outside was)
              (λ x. cut_stops M B was.lap cut s x (fits.trial ∙ trial) (ap (nat_le MOST_POWER_ONS) (limit_is was s sits fits) ∙ limit)),
        );
        leaves = record {
          sits = λ serves. sits;
          no_fault = λ serves. refl;
          disk_fault = λ is. absurd (cc is);
          later = omega arith;
          write_fault = λ is. absurd (cc is);
          machine = refl;
          blocks = λ lap index. refl;
        };
        reads_nothing = λ is. absurd (cc is);
      }

  module _ (now : Moment V) (arms : ArmsOne cut was now) where
    arm_fits : (s : Standing V) → Fits s was → Fits (armed_after was.machine was.blocks was.lap cut s) now
    arm_fits s fits = record {
      phase = fits.phase ∙ sym arms.phase;
      trial = fits.trial ∙ sym arms.trial;
      known = subst (λ (p : Phase). IsKnownIn p s.view s.masks now.view) (sym arms.phase) (subst (λ (v : V). IsKnownIn was.phase s.view s.masks v) (sym arms.view) fits.known);
      lines = fits.lines ∙ sym arms.lines;
      power_ons = fits.power_ons ∙ sym arms.power_ons;
      lap = fits.lap ∙ sym arms.laps;
      offers = fits.offers ∙ sym arms.offers;
      armed = subst (AreArmed (s.armed ++ cut ∷ [])) (sym arms.armed) (more_armed cut s.armed was.disk.armed fits.armed);
      spelled = subst (λ (M : Machine V). HasPayload M s.view) (sym arms.machine) fits.spelled;
      holds = subst (λ (M : Machine V). IsLeftIn M now.phase s.view s.masks now.disk) (sym arms.machine)
          (subst (λ (p : Phase). IsLeftIn was.machine p s.view s.masks now.disk) (sym arms.phase) (left_as was.machine s.view s.masks was.disk now.disk arms.loss arms.found was.phase fits.holds));
      bad = λ is none image may. let d = arms.loss.now image may in subst (AreBad LAYOUT) (sym d.2) (fits.bad (sym arms.phase ∙ is) none d.0 d.1);
      explained = fits.explained;
    }

    arm_sits : Sits was → 1 ≤ cut.count → nat_le MOST_POWER_ONS (was.counts.power_ons + length was.counts.calls.items) ≡ false → Sits now
    arm_sits sits one test = record {
      tells = subst TellsViews (sym arms.machine) sits.tells;
      given = arms.given ∙ sits.given ∙ ap (λ (O : Machine V). O.digest) (sym arms.machine);
      size = arms.kept.size ∙ sits.size;
      power = arms.power ∙ sits.power ∙ ap is_powered (sym arms.phase);
      runs = arms.stopped ∙ sits.runs;
      same_lap = λ is. arms.lap ∙ sits.same_lap (sym arms.phase ∙ is) ∙ sym arms.laps;
      laps =
          let same : begun now.phase now.counts.lap ≡ begun was.phase was.counts.lap = ap (λ (p : Phase). begun p now.counts.lap) arms.phase ∙ ap (begun was.phase) arms.laps in
          omega (arith, same, sits.laps, arms.power_ons);
      falls =
          let same : begun now.phase (length now.counts.falls.items) ≡ begun was.phase (length was.counts.falls.items) =
          ap (λ (p : Phase). begun p (length now.counts.falls.items)) arms.phase ∙ ap (λ (falls : List ℕ). begun was.phase (length falls)) arms.falls in
          omega (arith, same, sits.falls, arms.power_ons);
      counted = record {
        calls = arms.calls ∙ ap (λ (calls : List Bool). calls ++ counts_calls cut.unit ∷ []) sits.counted.calls ∙ more_calls cut was.disk.armed ∙ ap (map (λ cut. counts_calls cut.unit)) (sym arms.armed);
        waiting = subst AreWaiting (sym arms.armed) (more_waiting cut was.disk.armed one sits.counted.waiting);
        room = omega (arith, arms.power_ons, ap length arms.armed, more_long cut was.disk.armed, calls_many was.counts.calls.items was.disk.armed sits.counted.calls, below (was.counts.power_ons + length was.counts.calls.items) test);
      };
      settled = λ is c d may also.
          let p = arms.loss.now c may in
          let q = arms.loss.now d also in
          p.2 ∙ sits.settled (sym arms.phase ∙ is) p.0 q.0 p.1 q.1 ∙ sym q.2;
      synced = λ is c may.
          let p = arms.loss.now c may in
          arms.seen ∙ sits.synced (sym arms.phase ∙ is) p.0 p.1 ∙ ap (λ (image : List ℕ). let o : Option (List ℕ) = Some image in o) (sym p.2);
    }

    -- below it
    pub arm_does : (r : Result (Unit {0}) Halt) → Sits was → 1 ≤ cut.count → nat_le MOST_POWER_ONS (was.counts.power_ons + length was.counts.calls.items) ≡ false
        → GivesText r was.taken now.taken (codes "armed\n") → was.faults ≤ now.faults → OnErr r (Rose was.faults now.faults)
        → Does (λ M B. item_meaning M B (Item.Cut cut.unit cut.count cut.torn)) r was now
    arm_does r sits one test given later cause =
        let M = was.machine in
        let B = was.blocks in
        record {
          carried = λ s fits.
              let t = armed_after M B was.lap cut s in (
                t,
                (λ serves. arm_fits s fits),
                said M r (item_meaning M B (Item.Cut cut.unit cut.count cut.torn)) s t (outside was) (outside now) now.disk (codes "armed\n") arms.found arms.falls
                    (moves_on s t (outside was) (outside now) (omega arith) (omega arith) (ap (λ (n : ℕ). n + s.syncs) arms.kept.syncs))
                    (λ x whole. cut_tells M B was.lap cut s x (fits.trial ∙ arms.was_trial) (ap (nat_le MOST_POWER_ONS) (limit_is was s sits fits) ∙ test)) fits.explained
                    (armed_length t.armed now.disk.armed (arm_fits s fits).armed)
                    (subst (λ (p : Phase). IsLeftIn M p s.view s.masks now.disk) (sym fits.phase) (left_as M s.view s.masks was.disk now.disk arms.loss arms.found was.phase fits.holds))
                    given,
              );
          leaves = record {
            sits = λ serves. arm_sits sits one test;
            no_fault = λ serves. arms.no_fault;
            disk_fault = λ is. absurd (gives_no_disk_fault r _ _ _ given is);
            later = later;
            write_fault = λ is. on_err_at r _ _ cause is;
            machine = arms.machine;
            blocks = arms.blocks;
          };
          reads_nothing = λ is. gives_no_read_fault r _ _ _ given is;
        }
