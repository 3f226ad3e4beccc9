-- What the runs of a plain disk leave, said of it as a laboratory: none is cut, and each that failed met a fault.
use Rattle.std.proofs.Common.{◌≡◌, ◌⊎◌, inl, inr, refl, ℕ, true, List, arith, Option, Some, Err}
use Rattle.gd_disk.specs.CutRuns.{IsCompleteRun, IsCutOff, IsFaulted, RunOf}
use Rattle.gd_disk.specs.Disk.{DiskState, next_count}
use Rattle.gd_disk.specs.Runs.{LeavesOnly}
use Rattle.gd_store.specs.Writing.{MadeSyncs}
use Rattle.gd_top.specs.Claims.ImageRuns.{as_lab}

-- an image that a read gives
pub only_seen : (seen : Option (List ℕ)) (c image : List ℕ) → seen ≡ Some c → seen ≡ Some image → c ≡ image
only_seen seen c image a b = cc (a, b)

module _ (a b : List (List ℕ)) (old new : DiskState) where
  -- a whole run
  pub whole_as : (n : ℕ) → IsCompleteRun n old new → new.stops ≡ old.stops → IsCompleteRun n (as_lab a old) (as_lab b new)
  whole_as n run same = record { made = run.made; left = refl; no_fault = same }

  -- one that failed
  pub faulted_as : (n : ℕ) → IsCutOff n old new ⊎ IsFaulted n old new → new.stops ≡ next_count old.stops → IsFaulted n (as_lab a old) (as_lab b new)
  faulted_as n (inl cut) stop = record { done = cut.done; within = cut.within; made = cut.made; left = refl; fault = omega (arith, stop) }
  faulted_as n (inr fault) stop = record { done = fault.done; within = fault.within; made = fault.made; left = refl; fault = omega (arith, stop) }

  pub failed_as : {T E : Type 0} (n : ℕ) (stop : E) → RunOf {T = T} {E = E} n (Err stop) old new → old.is_on ≡ true → new.stops ≡ next_count old.stops → RunOf {T = T} {E = E} n (Err stop) (as_lab a old) (as_lab b new)
  failed_as n stop run on stops = record { whole = tt; failed = λ is. inr (faulted_as n (run.failed on) stops); was_off = λ is. absurd (cc (on, is)) }

  pub syncs_as : {T E : Type 0} (n : ℕ) (stop : E) → MadeSyncs {T = T} {E = E} n (Err stop) old new → MadeSyncs {T = T} {E = E} n (Err stop) (as_lab a old) (as_lab b new)
  syncs_as n stop made = record { all = tt; fewer = made.fewer; no_less = made.no_less }

  -- what it leaves of the images
  pub leaves_as : (P : List ℕ → Type 0) → LeavesOnly old new P → LeavesOnly (as_lab a old) (as_lab b new) P
  leaves_as P leaves = record { later = leaves.later; each = leaves.each; before = leaves.before }

  -- with no cut armed, a fault
  pub is_faulted : (n : ℕ) → IsCutOff n (as_lab a old) (as_lab b new) ⊎ IsFaulted n (as_lab a old) (as_lab b new) → IsFaulted n (as_lab a old) (as_lab b new)
  is_faulted n (inl cut) = absurd cut.came
  is_faulted n (inr fault) = fault
