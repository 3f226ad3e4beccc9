-- For callers: what the record of a run says of its syncs, and of the cuts and faults that ended it.
use Rattle.std.proofs.Common.{◌≡◌, inl, inr, ⊎_elim, ℕ, ◌+◌, ◌<◌, ◌≤◌, Bool, true, false, Result, Ok, Err, OnErr, refl, arith}
use Rattle.gd_disk.specs.CutRuns.{RunOf}
use Rattle.gd_disk.specs.Disk.{DiskState}
use Rattle.gd_disk.specs.Runs.{CutsOfRun}
use Rattle.gd_disk.proofs.WholeRuns.{cut_met, fault_keeps}
use Rattle.gd_store.specs.Writing.{MadeSyncs}

-- why it failed, and what is left of the cuts
pub cuts_of_run : {T E : Type 0} (n : ℕ) (r : Result T E) (old new : DiskState) → RunOf n r old new → CutsOfRun n r old new
cuts_of_run n (Ok x) old new run = record { left = run.whole.left; no_fault = run.whole.no_fault; cause = tt }
cuts_of_run n (Err e) old new run = record {
  left = tt;
  no_fault = tt;
  cause = λ on. ⊎_elim (λ cut. inl (cut_met n old new cut, cut.used, cut.no_fault)) (λ fault. inr (fault_keeps n old new fault, fault.fault)) (run.failed on);
}

no_less : {T E : Type 0} (n : ℕ) (e : E) (old new : DiskState) → RunOf {T = T} n (Err e) old new → (on : Bool) → old.is_on ≡ on → old.syncs ≤ new.syncs
no_less n e old new run true is = ⊎_elim (λ cut. omega (arith, cut.made)) (λ fault. omega (arith, fault.made)) (run.failed is)
no_less n e old new run false is = omega (arith, (run.was_off is).syncs)

-- how many syncs it made, where one that failed made fewer than all
pub syncs_of_run : {T E : Type 0} (n : ℕ) (r : Result T E) (old new : DiskState) → RunOf n r old new → OnErr r (new.syncs < old.syncs + n) → MadeSyncs n r old new
syncs_of_run n (Ok x) old new run fewer = record { all = run.whole.made; fewer = tt; no_less = omega (arith, run.whole.made) }
syncs_of_run n (Err e) old new run fewer = record { all = tt; fewer = fewer; no_less = no_less n e old new run old.is_on refl }
