-- Openings one after another: so far each was ended by a cut, and then one ends otherwise.
use Rattle.std.proofs.Common.{◌≡◌, ◌∙◌, sym, subst, refl, ℕ, ◌+◌, ◌≤◌, false, [], append-nil, length, arith, Result, Ok, Err}
use Rattle.std.proofs.KnownBytes.{Appends-nil}
use Rattle.gd_base.specs.Judging.Machine.{Machine, Blocks}
use Rattle.gd_base.specs.Outside.Causes.{Rose}
use Rattle.gd_top.specs.Code.Memory.{Moment, FitsDown, IsDown, IsWantedIn, Opens, OpensTo, Reopens, Serves, is_of_making, outside, stands_with}
use Rattle.gd_top.specs.Code.Parts.{Pending}
use Rattle.gd_top.specs.Code.Standing.{Standing}
use Rattle.gd_top.specs.Run.Openings.{Wanted, power_on, still_wanted}
use Rattle.gd_top.specs.Run.State.{Flight}
use Rattle.gd_top.specs.declared.halt.Halt.{Halt}
use Rattle.gd_top.specs.declared.item.opening.Opened.{Opened}
use Rattle.gd_top.proofs.RunLemmas.Parts.{broken_then, differing_then, pending_then, unwritten_then}
use Rattle.gd_top.proofs.RunLemmas.Said.{moves_not}

-- a count that rose later rose from before
rose_from : (a b c : ℕ) → a ≤ b → Rose b c → Rose a c
rose_from a b c le rose = omega (arith, le, rose)

-- the power fell in each opening so far
pub record HasFallen {V : Type 0} (was mid : Moment V) : Type 0 where
  pub down : IsDown mid
  pub machine : mid.machine ≡ was.machine
  pub blocks : (lap index : ℕ) → mid.blocks lap index ≡ was.blocks lap index
  pub told : (flight : Flight) (wanted : Wanted) → IsWantedIn false flight wanted → (s : Standing V) → FitsDown flight s was
      → (next : Flight) × (is_of_making next ≡ false) × (t : Standing V) × FitsDown next t mid × Pending was.machine (power_on was.machine was.blocks flight wanted) (power_on was.machine was.blocks next wanted) s t (outside was) (outside mid)
  pub calm : mid.disk.faults ≡ was.disk.faults
  pub later : was.faults ≤ mid.faults
  pub fewer : length mid.disk.armed ≤ length was.disk.armed
  pub offers : mid.counts.offers + was.counts.power_ons ≤ was.counts.offers + mid.counts.power_ons
  pub more : was.counts.power_ons ≤ mid.counts.power_ons

module _ {V : Type 0} (was : Moment V) where
  abbrev M : Machine V
  M = was.machine

  abbrev B : Blocks
  B = was.blocks

  -- before the first
  pub none_fell : IsDown was → HasFallen was was
  none_fell down = record {
    down = down;
    machine = refl;
    blocks = λ lap index. refl;
    told = λ flight wanted in_it s fits. (
      flight,
      in_it.0,
      s,
      fits,
      record {
        since = [];
        listed = sym (append-nil was.disk.found);
        fell = [];
        fallen = sym (append-nil was.counts.falls.items);
        report = [];
        printed = Appends-nil was.taken;
        moves = moves_not s (outside was);
        tells = λ x whole rise. refl;
      },
    );
    calm = refl;
    later = omega arith;
    fewer = omega arith;
    offers = omega arith;
    more = omega arith;
  }

  module _ (mid now : Moment V) (so_far : HasFallen was mid) where
    -- the moment, of the same machine and blocks by their first names
    abbrev mid_as : Moment V
    mid_as = record mid { machine = was.machine; blocks = was.blocks }

    mid_is : mid ≡ mid_as
    mid_is = λ i. record mid { machine = so_far.machine i; blocks = λ lap index. so_far.blocks lap index i }

    -- what is told of the next opening, behind what was told so far
    opens_then : (ended : Result Opened Halt) (flight next : Flight) (wanted : Wanted) (s t : Standing V) → Pending M (power_on M B flight wanted) (power_on M B next wanted) s t (outside was) (outside mid)
        → OpensTo ended next wanted t mid_as now → OpensTo ended flight wanted s was now
    opens_then (Ok Opened.Stands) flight next wanted s t p k =
        (k.0, k.1, pending_then M (power_on M B flight wanted) (power_on M B next wanted) (stands_with M B now.phase wanted) s t k.0 (outside was) (outside mid) (outside now) p k.2)
    opens_then (Ok Opened.Fell) flight next wanted s t p k =
        (k.0, k.1, k.2, k.3, pending_then M (power_on M B flight wanted) (power_on M B next wanted) (power_on M B k.0 (still_wanted wanted)) s t k.2 (outside was) (outside mid) (outside now) p k.4)
    opens_then (Err Halt.ScriptFault) flight next wanted s t p k = absurd k
    opens_then (Err Halt.ReadFault) flight next wanted s t p k = absurd k
    opens_then (Err Halt.DiskFault) flight next wanted s t p k =
        broken_then M (power_on M B flight wanted) (power_on M B next wanted) s t (outside was) (outside mid) (outside now) now.disk p k
    opens_then (Err Halt.WriteFault) flight next wanted s t p k =
        unwritten_then M (power_on M B flight wanted) (power_on M B next wanted) s t (outside was) (outside mid) (outside now) now.disk p k
    opens_then (Err Halt.SetupDiffers) flight next wanted s t p k =
        (k.0, differing_then M (power_on M B flight wanted) (power_on M B next wanted) s t k.0 (outside was) (outside mid) (outside now) now.disk p k.1)

    module _ (ended : Result Opened Halt) (h : Opens false ended mid now) where
      carried_on : (flight : Flight) (wanted : Wanted) → IsWantedIn false flight wanted → (s : Standing V) → FitsDown flight s was → OpensTo ended flight wanted s was now
      carried_on flight wanted in_it s fits =
          let k = so_far.told flight wanted in_it s fits in
          let opens = subst (λ (m : Moment V). Opens false ended m now) mid_is h in
          opens_then ended flight k.0 wanted s k.2 k.4 (opens.carried k.0 wanted (k.1, in_it.1) k.2 (subst (λ (m : Moment V). FitsDown k.0 k.2 m) mid_is k.3))

      machine_now : now.machine ≡ was.machine
      machine_now = h.machine ∙ so_far.machine

      blocks_now : (lap index : ℕ) → now.blocks lap index ≡ was.blocks lap index
      blocks_now lap index = h.blocks lap index ∙ so_far.blocks lap index

    -- once more
    pub one_fell : Opens false (Ok Opened.Fell) mid now → HasFallen was now
    one_fell h = record {
      down = h.fell refl;
      machine = machine_now (Ok Opened.Fell) h;
      blocks = blocks_now (Ok Opened.Fell) h;
      told = λ flight wanted in_it s fits.
          let k = carried_on (Ok Opened.Fell) h flight wanted in_it s fits in
          (k.0, k.1, k.2, k.3, subst (λ (w : Wanted). Pending M (power_on M B flight wanted) (power_on M B k.0 w) s k.2 (outside was) (outside now)) in_it.1 k.4);
      calm = h.no_fault Opened.Fell refl ∙ so_far.calm;
      later = omega (arith, so_far.later, h.later);
      fewer = omega (arith, so_far.fewer, h.fewer refl);
      offers = omega (arith, so_far.offers, h.offers);
      more = omega (arith, so_far.more, h.more);
    }

    -- and then the memory stands
    pub at_last : Opens false (Ok Opened.Stands) mid now → Reopens (Ok tt) was now
    at_last h = record {
      carried = carried_on (Ok Opened.Stands) h;
      leaves = record {
        sits = λ serves. h.stands refl;
        no_fault = λ serves. h.no_fault Opened.Stands refl ∙ so_far.calm;
        disk_fault = λ is. absurd (cc is);
        later = omega (arith, so_far.later, h.later);
        write_fault = λ is. absurd (cc is);
        machine = machine_now (Ok Opened.Stands) h;
        blocks = blocks_now (Ok Opened.Stands) h;
      };
      powered = λ is. h.powered refl;
      no_stop = λ is. cc is;
      no_read = λ is. cc is;
      still = λ is. omega (arith, so_far.fewer, h.still refl);
      another = λ is. omega (arith, so_far.more, h.another Opened.Stands refl);
      offers = omega (arith, so_far.offers, h.offers);
      more = omega (arith, so_far.more, h.more);
    }

    as_err : (halt kind : Halt) → (let r : Result (Unit {0}) Halt = Err halt in r) ≡ Err kind → (let r : Result Opened Halt = Err halt in r) ≡ Err kind
    as_err halt kind is = by_halt (halt_is is)
      where
        halt_is : (let r : Result (Unit {0}) Halt = Err halt in r) ≡ Err kind → halt ≡ kind
        halt_is e = cc e

        by_halt : halt ≡ kind → (let r : Result Opened Halt = Err halt in r) ≡ Err kind
        by_halt e = λ i. Err (e i)

    serves_not : (halt : Halt) → (halt ≡ Halt.ScriptFault → ⊥) → (halt ≡ Halt.ReadFault → ⊥) → Serves (Err halt) → ⊥
    serves_not Halt.ScriptFault stop read serves = stop refl
    serves_not Halt.ReadFault stop read serves = read refl
    serves_not Halt.DiskFault stop read serves = serves
    serves_not Halt.WriteFault stop read serves = serves
    serves_not Halt.SetupDiffers stop read serves = serves

    -- or the disk or the sink failed, or a memory of another setup was found
    pub in_vain : (halt : Halt) → Opens false (Err halt) mid now → Reopens (Err halt) was now
    in_vain halt h = record {
      carried = carried_on (Err halt) h;
      leaves = record {
        sits = λ serves. absurd (vain serves);
        no_fault = λ serves. absurd (vain serves);
        disk_fault = λ is. subst (λ (n : ℕ). Rose n now.disk.faults) so_far.calm (h.disk_fault (as_err halt Halt.DiskFault is));
        later = omega (arith, so_far.later, h.later);
        write_fault = λ is. rose_from was.faults mid.faults now.faults so_far.later (h.write_fault (as_err halt Halt.WriteFault is));
        machine = machine_now (Err halt) h;
        blocks = blocks_now (Err halt) h;
      };
      powered = λ is. absurd (cc is);
      no_stop = λ is. h.no_stop (as_err halt Halt.ScriptFault is);
      no_read = λ is. h.no_read (as_err halt Halt.ReadFault is);
      still = λ is. absurd (cc is);
      another = λ is. absurd (cc is);
      offers = omega (arith, so_far.offers, h.offers);
      more = omega (arith, so_far.more, h.more);
    }
      where
        vain : Serves (Err halt) → ⊥
        vain serves = serves_not halt (λ is. h.no_stop (λ i. Err (is i))) (λ is. h.no_read (λ i. Err (is i))) serves
