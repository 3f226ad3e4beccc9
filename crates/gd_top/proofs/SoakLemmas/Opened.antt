-- The opening of a memory that was made, and then the items.
use Rattle.std.proofs.Common.{◌≡◌, subst, refl, ℕ, inr, [], true, arith, Result, Ok, is_err}
use Rattle.gd_base.specs.Judging.Machine.{Machine, Blocks}
use Rattle.gd_disk.specs.Disk.{DiskState}
use Rattle.gd_top.specs.Claims.Soak.{soak_lines}
use Rattle.gd_top.specs.Code.LinesDone.{made_outside}
use Rattle.gd_top.specs.Code.Memory.{Moment, FitsDown, OpensTo, Reopens, as_opened, outside}
use Rattle.gd_top.specs.Code.Parts.{Outside}
use Rattle.gd_top.specs.Code.SoakDone.{ItemsDone, ItemsOver, SoakRun}
use Rattle.gd_top.specs.Code.Standing.{Standing, at, first_standing}
use Rattle.gd_top.specs.Run.Items.{lines_meaning}
use Rattle.gd_top.specs.Run.Life.{run_meaning}
use Rattle.gd_top.specs.Run.Openings.{Done, power_on}
use Rattle.gd_top.specs.Run.State.{Nothing}
use Rattle.gd_top.specs.declared.halt.Halt.{Halt}
use Rattle.gd_top.proofs.LineLemmas.Alike.{blocks_are}
use Rattle.gd_top.proofs.RunLemmas.Joins.{goes_on_nothing}
use Rattle.gd_top.proofs.RunLemmas.Parts.{pending_of, then_by}
use Rattle.gd_top.proofs.RunLemmas.Said.{as_at}
use Rattle.gd_top.proofs.SoakLemmas.Items.{never_ok}
use Rattle.gd_top.proofs.TrialLemmas.FromMaking.{ends_by, stands_as, stands_in_none}

module _ {V : Type 0} (count seed : ℕ) (was made : Moment V) (machine : made.machine ≡ was.machine) (blocks : (lap index : ℕ) → made.blocks lap index ≡ was.blocks lap index) (is : outside made ≡ made_outside was)
    (fits : FitsDown Nothing (first_standing made.machine) made) where
  -- the machine, the blocks and the outside are those from before the making
  from_before : (r : Result (Unit {0}) Halt) (t : Standing V) (w : Outside) (disk : DiskState)
      → ItemsDone made.machine (run_meaning made.machine made.blocks) count seed r (first_standing made.machine) t (outside made) w disk
      → ItemsDone was.machine (run_meaning was.machine was.blocks) count seed r (first_standing was.machine) t (made_outside was) w disk
  from_before r t w disk h =
      subst (λ (u : Outside). ItemsDone was.machine (run_meaning was.machine was.blocks) count seed r (first_standing was.machine) t u w disk) is
      (subst (λ (D : Blocks). ItemsDone was.machine (run_meaning was.machine D) count seed r (first_standing was.machine) t (outside made) w disk) (blocks_are made.blocks was.blocks blocks)
      (subst (λ (O : Machine V). ItemsDone O (run_meaning O made.blocks) count seed r (first_standing O) t (outside made) w disk) machine h))

  -- the opening ended the run
  pub soak_ends : (r : Result (Unit {0}) Halt) (now : Moment V) → Reopens r made now → is_err r ≡ true → SoakRun count seed r was now
  soak_ends r now opens err =
      let first = first_standing made.machine in
      let q = opens.carried Nothing Done (refl, refl) first fits in
      let k = ends_by r first made now err q in
      let M = made.machine in
      let B = made.blocks in
      inr (
        k.0,
        (λ serves. absurd (stands_in_none r first made now err q serves)),
        from_before r k.0 (outside now) now.disk (record {
          items = 0;
          few = omega arith;
          all = λ is. absurd (never_ok r err is);
          carried = as_at M r (power_on M B Nothing Done) (run_meaning M B []) first k.0 (outside made) (outside now) now.disk (λ x. goes_on_nothing (power_on M B Nothing Done (at first x))) k.1;
        }),
      )

  -- or the items were carried out behind it
  pub soak_goes : (opened r : Result (Unit {0}) Halt) (mid now : Moment V) → Reopens opened made mid → opened ≡ Ok tt → ItemsOver count seed r mid now → SoakRun count seed r was now
  soak_goes opened r mid now opens went items =
      let first = first_standing made.machine in
      let leaves = opens.leaves in
      let q = subst (λ (z : Result (Unit {0}) Halt). OpensTo (as_opened z) Nothing Done first made mid) went (opens.carried Nothing Done (refl, refl) first fits) in
      let M = made.machine in
      let B = made.blocks in
      let opened_as = stands_as M B mid.phase (opens.powered went) first q.0 (outside made) (outside mid) q.2 in
      let k = items q.0 q.1 in
      let same = subst (λ (D : Blocks). ItemsDone M (lines_meaning M D) count seed r q.0 k.0 (outside mid) (outside now) now.disk) (blocks_are mid.blocks B leaves.blocks)
      (subst (λ (O : Machine V). ItemsDone O (lines_meaning O mid.blocks) count seed r q.0 k.0 (outside mid) (outside now) now.disk) leaves.machine k.2) in
      let lines = soak_lines same.items seed in
      inr (
        k.0,
        k.1,
        from_before r k.0 (outside now) now.disk (record {
          items = same.items;
          few = same.few;
          all = same.all;
          carried = then_by M r (run_meaning M B lines) (lines_meaning M B lines) first q.0 k.0 (outside made) (outside mid) (outside now) now.disk
              (pending_of M (power_on M B Nothing Done) (λ s. lines_meaning M B lines s) first q.0 (outside made) (outside mid) opened_as) same.carried;
        }),
      )
