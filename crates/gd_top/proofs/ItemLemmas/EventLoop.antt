-- An event that is offered again after each cut in it, once the memory was opened again.
use Rattle.std.proofs.Common.{◌≡◌, ◌∙◌, ap, sym, subst, refl, ℕ, ◌≤◌, ◌+◌, ◌*◌, append-nil, arith, true, false, [], Result, Ok, Err, is_err}
use Rattle.std.proofs.KnownBytes.{Appends-nil}
use Rattle.gd_base.specs.declared.step.Numbered.{Numbered}
use Rattle.gd_base.specs.Histories.Entry.{Entry}
use Rattle.gd_base.specs.Judging.Machine.{Machine, Blocks}
use Rattle.gd_base.specs.Outside.Causes.{Rose}
use Rattle.gd_top.specs.Code.Memory.{Moment, Fits, Sits, Does, Leaves, Serves, OpensTo, Reopens, as_opened, outside, stands_with}
use Rattle.gd_top.specs.Code.Parts.{CarriesBy, Pending}
use Rattle.gd_top.specs.Code.Standing.{Standing, Later, at}
use Rattle.gd_top.specs.Report.Lines.{locked_line}
use Rattle.gd_top.specs.Run.Items.{event_meaning, with_power}
use Rattle.gd_top.specs.Run.Openings.{Wanted, Answer, answered, power_on}
use Rattle.gd_top.specs.Run.State.{State, Part, Phase, Flight, Recording, On, Locked, prints}
use Rattle.gd_top.specs.declared.halt.Halt.{Halt}
use Rattle.gd_top.proofs.ItemLemmas.EventEnds.{EventFell, Keeps}
use Rattle.gd_top.proofs.LineLemmas.Alike.{alike_by, pending_alike}
use Rattle.gd_top.proofs.RunLemmas.Parts.{pending_then, then_by}
use Rattle.gd_top.proofs.RunLemmas.Said.{moves_not, pending_rest}

-- Cuts came in the event so far, and after each the memory was opened again: the event is still to be answered.
pub record EventPending {V : Type 0} (e : Numbered) (was mid : Moment V) : Type 0 where
  pub carried : (s : Standing V) → Fits s was
      → (t : Standing V) × Fits t mid × Pending was.machine (event_meaning was.machine was.blocks e) (event_meaning was.machine was.blocks e) s t (outside was) (outside mid)
  pub sits : Sits mid
  pub keeps : Keeps was mid
  pub offers : mid.counts.offers + 2 * was.counts.power_ons ≤ was.counts.offers + 2 * mid.counts.power_ons
  pub lines : mid.counts.lines ≡ was.counts.lines

-- the memory that was found after an opening that went on
pub opened_at : {V A : Type 0} (stands : A → Moment V) (memory found : A) → memory ≡ found → (down : Moment V) (r : Result (Unit {0}) Halt) → is_err r ≡ false → Reopens r down (stands memory) → Reopens (Ok tt) down (stands found)
opened_at stands memory found is down r went o =
    subst (λ m. Reopens (Ok tt) down (stands m)) is (subst (λ (q : Result (Unit {0}) Halt). Reopens q down (stands memory)) (ok_is r went) o)
  where
    ok_is : (r : Result (Unit {0}) Halt) → is_err r ≡ false → r ≡ Ok tt
    ok_is (Ok done) went = refl
    ok_is (Err halt) went = absurd (cc went)

module _ {V : Type 0} (e : Numbered) where
  abbrev tell : Machine V → Blocks → State V → Part V
  tell M B = event_meaning M B e

  leaves_on : (a b c : Moment V) (r : Result (Unit {0}) Halt) → Keeps a b → Leaves r b c → Leaves r a c
  leaves_on a b c r p q = record {
    sits = q.sits;
    no_fault = λ serves. q.no_fault serves ∙ p.no_fault;
    disk_fault = λ is. subst (λ (n : ℕ). Rose n c.disk.faults) p.no_fault (q.disk_fault is);
    later = omega (arith, p.later, q.later);
    write_fault = λ is. omega (arith, p.later, q.write_fault is);
    machine = q.machine ∙ p.machine;
    blocks = λ lap index. q.blocks lap index ∙ p.blocks lap index;
  }

  keeps_then : (a b c : Moment V) → Keeps a b → Keeps b c → Keeps a c
  keeps_then a b c p q = record {
    no_fault = q.no_fault ∙ p.no_fault;
    later = omega (arith, p.later, q.later);
    machine = q.machine ∙ p.machine;
    blocks = λ lap index. q.blocks lap index ∙ p.blocks lap index;
  }

  -- before the first offer
  pub not_offered : (was : Moment V) → Sits was → EventPending e was was
  not_offered was sits = record {
    carried = λ s fits. (
      s,
      fits,
      record {
        since = [];
        listed = sym (append-nil was.disk.found);
        fell = [];
        fallen = sym (append-nil was.counts.falls.items);
        report = [];
        printed = Appends-nil was.taken;
        moves = moves_not s (outside was);
        tells = λ x whole rise. refl;
      },
    );
    sits = sits;
    keeps = record { no_fault = refl; later = omega arith; machine = refl; blocks = λ lap index. refl };
    offers = omega arith;
    lines = refl;
  }

  -- the last offer, behind those with cuts
  pub offered_then : (was mid now : Moment V) (r : Result (Unit {0}) Halt) → EventPending e was mid → Does tell r mid now → Does tell r was now
  offered_then was mid now r p d = record {
    carried = λ s fits.
        let k = p.carried s fits in
        let q = d.carried k.0 k.1 in (
          q.0,
          q.1,
          then_by was.machine r (tell was.machine was.blocks) (tell was.machine was.blocks) s k.0 q.0 (outside was) (outside mid) (outside now) now.disk k.2
              (alike_by was.machine mid.machine was.blocks mid.blocks tell r k.0 q.0 (outside mid) (outside now) now.disk p.keeps.machine p.keeps.blocks q.2),
        );
    leaves = leaves_on was mid now r p.keeps d.leaves;
    reads_nothing = d.reads_nothing;
  }

  -- one offer more, in which a cut came
  pub pending_more : (was mid now : Moment V) → EventPending e was mid → EventPending e mid now → EventPending e was now
  pending_more was mid now p q = record {
    carried = λ s fits.
        let k = p.carried s fits in
        let o = q.carried k.0 k.1 in (
          o.0,
          o.1,
          pending_then was.machine (tell was.machine was.blocks) (tell was.machine was.blocks) (tell was.machine was.blocks) s k.0 o.0 (outside was) (outside mid) (outside now) k.2
              (pending_alike was.machine mid.machine was.blocks mid.blocks tell tell k.0 o.0 (outside mid) (outside now) p.keeps.machine p.keeps.blocks o.2),
        );
    sits = q.sits;
    keeps = keeps_then was mid now p.keeps q.keeps;
    offers = omega (arith, p.offers, q.offers);
    lines = q.lines ∙ p.lines;
  }

  module _ (mid down : Moment V) (fell : EventFell e mid down) where
    -- the opening behind a cut failed, or found a memory of another setup
    ends_by : (r : Result (Unit {0}) Halt) (now : Moment V) (flight : Flight) (wanted : Wanted) (t : Standing V) → is_err r ≡ true → OpensTo (as_opened r) flight wanted t down now
        → (u : Standing V) × (Serves r → Fits u now) × CarriesBy r down.machine (power_on down.machine down.blocks flight wanted) t u (outside down) (outside now) now.disk
    ends_by (Ok done) now flight wanted t err o = absurd (cc err)
    ends_by (Err Halt.ScriptFault) now flight wanted t err o = absurd o
    ends_by (Err Halt.ReadFault) now flight wanted t err o = absurd o
    ends_by (Err Halt.DiskFault) now flight wanted t err o = (t, (λ serves. absurd serves), o)
    ends_by (Err Halt.WriteFault) now flight wanted t err o = (t, (λ serves. absurd serves), o)
    ends_by (Err Halt.SetupDiffers) now flight wanted t err o = (o.0, (λ serves. absurd serves), o.1)

    pub reopening_failed : (r : Result (Unit {0}) Halt) (now : Moment V) → is_err r ≡ true → Reopens r down now → Does tell r mid now
    reopening_failed r now err o = record {
      carried = λ s fits.
          let k = fell.fell s fits in
          let entry : Entry = k.0 in
          let t : Standing V = k.1 in
          let q = ends_by r now (Recording entry) (Answer e) t err (o.carried (Recording entry) (Answer e) (refl, refl) t k.2) in (
            q.0,
            q.1,
            then_by mid.machine r (tell mid.machine mid.blocks) (power_on mid.machine mid.blocks (Recording entry) (Answer e)) s t q.0 (outside mid) (outside down) (outside now) now.disk k.3
                (alike_by mid.machine down.machine mid.blocks down.blocks (λ M B. power_on M B (Recording entry) (Answer e)) r t q.0 (outside down) (outside now) now.disk fell.keeps.machine fell.keeps.blocks q.2),
          );
      leaves = leaves_on mid down now r fell.keeps o.leaves;
      reads_nothing = o.no_read;
    }

    module _ (now : Moment V) (o : Reopens (Ok tt) down now) where
      -- the memory stands again
      stands_again : (s : Standing V) → Fits s mid → (t : Standing V) × Fits t now
          × Pending mid.machine (tell mid.machine mid.blocks) (stands_with mid.machine mid.blocks now.phase (Answer e)) s t (outside mid) (outside now)
      stands_again s fits =
          let k = fell.fell s fits in
          let entry : Entry = k.0 in
          let t : Standing V = k.1 in
          let q = o.carried (Recording entry) (Answer e) (refl, refl) t k.2 in (
            q.0,
            q.1,
            pending_then mid.machine (tell mid.machine mid.blocks) (power_on mid.machine mid.blocks (Recording entry) (Answer e)) (stands_with mid.machine mid.blocks now.phase (Answer e)) s t q.0 (outside mid) (outside down) (outside now) k.3
                (pending_alike mid.machine down.machine mid.blocks down.blocks (λ M B. power_on M B (Recording entry) (Answer e)) (λ M B. stands_with M B now.phase (Answer e)) t q.0 (outside down) (outside now) fell.keeps.machine fell.keeps.blocks q.2),
          )

      keeps_again : Keeps mid now
      keeps_again = keeps_then mid down now fell.keeps (record { no_fault = o.leaves.no_fault tt; later = o.leaves.later; machine = o.leaves.machine; blocks = o.leaves.blocks })

      -- open: the event is offered again
      answers_on : (M : Machine V) (B : Blocks) (t : Standing V) (x : Later V) → t.phase ≡ On → answered M B (power_on M B) e (at t x) ≡ tell M B (at t x)
      answers_on M B t x on = ap (λ (p : Phase). with_power p (at t x) (answered M B (power_on M B) e (at t x))) (sym on)

      pub stands_open : now.phase ≡ On → now.counts.lines ≡ down.counts.lines → EventPending e mid now
      stands_open on lines = record {
        carried = λ s fits.
            let k = stands_again s fits in
            let M = mid.machine in
            let B = mid.blocks in (
              k.0,
              k.1,
              pending_rest M (tell M B) (answered M B (power_on M B) e) (tell M B) s k.0 (outside mid) (outside now) (λ x. answers_on M B k.0 x (k.1.phase ∙ on))
                  (subst (λ (p : Phase). Pending M (tell M B) (stands_with M B p (Answer e)) s k.0 (outside mid) (outside now)) on k.2),
            );
        sits = o.leaves.sits tt;
        keeps = keeps_again;
        offers = omega (arith, fell.offers, fell.power_ons, o.offers, o.another refl);
        lines = lines ∙ fell.lines;
      }

      -- locked: the event is given up
      pub stands_locked : now.phase ≡ Locked → (r : Result (Unit {0}) Halt) (next : Moment V) → Does (λ M B. prints locked_line) r now next → Does tell r mid next
      stands_locked locked r next d = record {
        carried = λ s fits.
            let k = stands_again s fits in
            let M = mid.machine in
            let B = mid.blocks in
            let q = d.carried k.0 k.1 in (
              q.0,
              q.1,
              then_by M r (tell M B) (λ u. prints locked_line u) s k.0 q.0 (outside mid) (outside now) (outside next) next.disk
                  (subst (λ (p : Phase). Pending M (tell M B) (stands_with M B p (Answer e)) s k.0 (outside mid) (outside now)) locked k.2)
                  (alike_by M now.machine B now.blocks (λ M B. prints locked_line) r k.0 q.0 (outside now) (outside next) next.disk keeps_again.machine keeps_again.blocks q.2),
            );
        leaves = leaves_on mid now next r keeps_again d.leaves;
        reads_nothing = d.reads_nothing;
      }
