-- What a soak did, by how its items ended.
use Rattle.std.proofs.Common.{◌≡◌, ◌⊎◌, ◌∙◌, inl, inr, ap, sym, subst, refl, ℕ, ◌+◌, ◌≤◌, List, [], ◌++◌, drop, Option, None, Some, Result, Ok, Err}
use Rattle.std.proofs.lemmas.List.FromFn.{take-map-range_with_len}
use Rattle.std.proofs.lemmas.List.{take-append-drop}
use Rattle.std.proofs.KnownBytes.{Appends-trans}
use Rattle.std.specs.Io.KnownBytes.{Appends}
use Rattle.gd_base.specs.Judging.Machine.{Machine, Blocks}
use Rattle.gd_base.specs.Outside.Causes.{Rose}
use Rattle.gd_disk.specs.Disk.{DiskState}
use Rattle.gd_script.specs.Generated.{generated}
use Rattle.gd_script.specs.declared.item.Item.{Item}
use Rattle.gd_top.specs.Claims.MemoryLeft.{IsAtRest, IsLeft, first_syncs}
use Rattle.gd_top.specs.Claims.Runs.{GivesLast, trial_beginning}
use Rattle.gd_top.specs.Claims.Soak.{SoakBroke, SoakDid, SoakedThrough, alone, soak_lines}
use Rattle.gd_top.specs.Code.LinesDone.{IsFailedMaking, made_outside}
use Rattle.gd_top.specs.Code.Memory.{Moment, Fits, IsKnownIn, Leaves, Serves, outside}
use Rattle.gd_top.specs.Code.Parts.{Broken, Carries, Outside}
use Rattle.gd_top.specs.Code.SoakDone.{ItemsDone, IsSoakEnd, SoakRun, soak_status, soak_text}
use Rattle.gd_top.specs.Code.Standing.{Standing, at, only, first_standing}
use Rattle.gd_top.specs.Run.Life.{run_meaning, soak_summary}
use Rattle.gd_top.specs.Run.Offers.{AreArmed}
use Rattle.gd_top.specs.Run.State.{On, Goes, Phase}
use Rattle.gd_top.specs.declared.halt.Halt.{Halt}
use Rattle.gd_top.specs.declared.status.Status.{Status}
use Rattle.gd_top.proofs.RunLemmas.Parts.{front_then}
use Rattle.gd_top.proofs.TrialLemmas.Told.{is_left}
use Rattle.gd_top.proofs.TrialLemmas.WholeRun.{BeginsAt, ending_first, run, run_is, trial_begins, unmade_first, whole}

-- the items go on behind the first n
more_items : (n count seed : ℕ) → n ≤ count → (others : List (Option Item)) × (soak_lines count seed ≡ soak_lines n seed ++ others)
more_items n count seed few =
    let line = λ (k : ℕ). let line : Option Item = Some (generated seed k) in line in
    let all = soak_lines count seed in
    (drop n all, sym (ap (λ (front : List (Option Item)). front ++ drop n all) (sym (take-map-range_with_len line 0 count n few)) ∙ take-append-drop n all))

module _ {V : Type 0} (M : Machine V) (B : Blocks) (count seed : ℕ) (old new : DiskState) (falls : List ℕ) where
  -- the outside before the opening and at the end; the run prints nothing that is kept
  abbrev before : Outside
  before = record { found = []; taken = None; falls = []; syncs = old.syncs + first_syncs }

  abbrev after : Outside
  after = record { found = new.found; taken = None; falls = falls; syncs = new.syncs }

  abbrev first : Standing V
  first = first_standing M

  abbrev begin : BeginsAt (trial_beginning M) M B first
  begin = trial_begins M B

  -- all items were carried out
  abbrev through : (t : Standing V) → Carries M (run_meaning M B (soak_lines count seed)) Goes first t before after → t.phase ≡ On → AreArmed t.armed new.armed
      → (t.forged ≡ 0 → (t.other_views ≡ 0) × (t.other_locks ≡ 0)) → IsLeft M (at t (only [] [] None)) new → SoakedThrough M B count seed falls old new
  through t k on armed explained left = record {
    run = run (trial_beginning M) M B first begin (alone old) (alone new) None falls Goes (soak_lines count seed) t k;
    is_run = run_is (trial_beginning M) M B first begin (alone old) (alone new) None falls Goes (soak_lines count seed) t k;
    goes = refl;
    on = on;
    whole = whole (trial_beginning M) M B first begin (alone old) (alone new) None falls Goes (soak_lines count seed) t k armed explained left;
  }

  -- the disk failed in one of them, or in the opening
  broke : (n : ℕ) → n ≤ count → Broken M (run_meaning M B (soak_lines n seed)) first before after new → SoakBroke M B count seed falls old new
  broke n few k = record {
    first = ending_first (trial_beginning M) M B first begin (alone old) (alone new) None falls (soak_lines count seed) (soak_lines n seed) k.ending (more_items n count seed few)
        k.armed;
    breaks = k.breaks;
    left = inr k.left;
  }

module _ {V : Type 0} (was now : Moment V) (count seed : ℕ) (unkept : was.taken ≡ None) (still : now.taken ≡ None) where
  abbrev M : Machine V
  M = was.machine

  -- or in the making
  unmade : IsFailedMaking (Err Halt.DiskFault) was now → SoakBroke M was.blocks count seed now.counts.falls.items was.disk now.disk
  unmade k = record {
    first = unmade_first (trial_beginning M) M was.blocks (first_standing M) (trial_begins M was.blocks) (alone was.disk) (alone now.disk) None now.counts.falls.items k.found
        (k.found, k.left) k.armed refl k.falls (soak_lines count seed);
    breaks = refl;
    left = inl (k.found, k.left);
  }

  -- the outside without what the sink tells
  of_outside : (P : Outside → Outside → Type 0) → P (made_outside was) (outside now)
      → P (record { found = []; taken = None; falls = []; syncs = was.disk.syncs + first_syncs }) (record { found = now.disk.found; taken = None; falls = now.counts.falls.items; syncs = now.disk.syncs })
  of_outside P p =
      subst (λ (taken : Option (List ℕ)). P (record { found = []; taken = taken; falls = []; syncs = was.disk.syncs + first_syncs }) (record { found = now.disk.found; taken = None; falls = now.counts.falls.items; syncs = now.disk.syncs })) unkept
      (subst (λ (taken : Option (List ℕ)). P (made_outside was) (record { found = now.disk.found; taken = taken; falls = now.counts.falls.items; syncs = now.disk.syncs })) still p)

  -- what is known of the view and of the power-ons, with the memory open
  view_is : (phase : Phase) (t : Standing V) → phase ≡ On → IsKnownIn phase t.view t.masks now.view → t.view ≡ now.view
  view_is phase t on known = (subst (λ (p : Phase). IsKnownIn p t.view t.masks now.view) on known).0

  summary_is : (t : Standing V) → Fits t now → now.phase ≡ On → now.machine ≡ M → soak_summary now.machine count now.counts.power_ons now.view ≡ soak_summary M count t.power_ons t.view
  summary_is t fits on same = λ i. soak_summary (same i) count (sym fits.power_ons i) (sym (view_is now.phase t on fits.known) i)

  done_by : (r : Result (Unit {0}) Halt) (t : Standing V) → (Serves r → Fits t now) → ItemsDone M (run_meaning M was.blocks) count seed r (first_standing M) t (made_outside was) (outside now) now.disk
      → Leaves r was now → (Serves r → IsAtRest now.phase now.disk) → IsSoakEnd r now.phase
      → SoakDid M was.blocks count seed now.counts.falls.items was.disk now.disk (soak_status r) (soak_text now.machine count now.counts.power_ons now.view r)
  done_by (Ok done) t fits k leaves rested end =
      let f = fits tt in
      let carried = of_outside (λ u w. Carries M (run_meaning M was.blocks (soak_lines count seed)) Goes (first_standing M) t u w)
      (subst (λ (n : ℕ). Carries M (run_meaning M was.blocks (soak_lines n seed)) Goes (first_standing M) t (made_outside was) (outside now)) (k.all refl) k.carried) in (
        through M was.blocks count seed was.disk now.disk now.counts.falls.items t carried (f.phase ∙ end) f.armed f.explained
            (is_left was now None None None 0 0 0 t f (leaves.sits tt) leaves.machine (rested tt)),
        summary_is t f end leaves.machine,
      )
  done_by (Err Halt.DiskFault) t fits k leaves rested end = (
    refl,
    broke M was.blocks count seed was.disk now.disk now.counts.falls.items k.items k.few
        (of_outside (λ u w. Broken M (run_meaning M was.blocks (soak_lines k.items seed)) (first_standing M) u w now.disk) k.carried),
  )
  done_by (Err Halt.ScriptFault) t fits k leaves rested end = absurd end
  done_by (Err Halt.ReadFault) t fits k leaves rested end = absurd end
  done_by (Err Halt.WriteFault) t fits k leaves rested end = absurd end
  done_by (Err Halt.SetupDiffers) t fits k leaves rested end = absurd end

  -- the whole
  pub soak_did : (r : Result (Unit {0}) Halt) → SoakRun count seed r was now → Leaves r was now → (Serves r → IsAtRest now.phase now.disk) → IsSoakEnd r now.phase
      → SoakDid M was.blocks count seed now.counts.falls.items was.disk now.disk (soak_status r) (soak_text now.machine count now.counts.power_ons now.view r)
  soak_did r (inl k) leaves rested end =
      subst (λ (q : Result (Unit {0}) Halt). SoakDid M was.blocks count seed now.counts.falls.items was.disk now.disk (soak_status q) (soak_text now.machine count now.counts.power_ons now.view q)) (sym k.fault)
      (refl, unmade (record { fault = refl; found = k.found; left = k.left; armed = k.armed; falls = k.falls; printed = k.printed }))
  soak_did r (inr k) leaves rested end = done_by r k.0 k.1 k.2 leaves rested end

-- ================ what was given

-- a text was given whole before the last one
pub last_then : (status result : Status) (a b c : Option (List ℕ)) (p q : List ℕ) → Appends a b p → GivesLast status result b c q → GivesLast status result a c (p ++ q)
last_then status result a b c p q h (inl k) = inl (k.0, Appends-trans a b c p q h k.1)
last_then status result a b c p q h (inr k) = inr (k.0, front_then a b c p q h k.1)

-- with so many counts of the faults of the sink and of the disk
module _ (status : Status) (sink_was sink_now : ℕ) where
  abbrev pub HasCame : Result (Unit {0}) Halt → Type 0
  HasCame r = (status ≡ soak_status r) ⊎ ((status ≡ Status.WriteFault) × Rose sink_was sink_now)

  pub no_read : (r : Result (Unit {0}) Halt) → HasCame r → status ≡ Status.ReadFault → ⊥
  no_read (Ok done) (inl came) is = cc (came, is)
  no_read (Err halt) (inl came) is = cc (came, is)
  no_read r (inr came) is = cc (came.0, is)

  pub write_rose : (r : Result (Unit {0}) Halt) → HasCame r → status ≡ Status.WriteFault → Rose sink_was sink_now
  write_rose (Ok done) (inl came) is = absurd (cc (came, is))
  write_rose (Err halt) (inl came) is = absurd (cc (came, is))
  write_rose r (inr came) is = came.1

  pub disk_rose : (r : Result (Unit {0}) Halt) (phase : Phase) (was now : ℕ) → HasCame r → IsSoakEnd r phase → (r ≡ Err Halt.DiskFault → Rose was now) → status ≡ Status.DiskFault → Rose was now
  disk_rose (Ok done) phase was now (inl came) end rose is = absurd (cc (came, is))
  disk_rose (Err Halt.DiskFault) phase was now (inl came) end rose is = rose refl
  disk_rose (Err Halt.ScriptFault) phase was now (inl came) end rose is = absurd end
  disk_rose (Err Halt.ReadFault) phase was now (inl came) end rose is = absurd end
  disk_rose (Err Halt.WriteFault) phase was now (inl came) end rose is = absurd end
  disk_rose (Err Halt.SetupDiffers) phase was now (inl came) end rose is = absurd end
  disk_rose r phase was now (inr came) end rose is = absurd (cc (came.0, is))

-- ================ where no count of what failed rose

pub soak_is_done : {V : Type 0} (M : Machine V) (B : Blocks) (count seed : ℕ) (falls : List ℕ) (old new : DiskState) (did status : Status) (taken given : Option (List ℕ)) (text : List ℕ)
    → SoakDid M B count seed falls old new did text → GivesLast did status taken given text → (status ≡ Status.WriteFault → ⊥) → (status ≡ Status.DiskFault → ⊥) → status ≡ Status.Done
soak_is_done M B count seed falls old new did status taken given text h (inr g) no_write no_disk = absurd (no_write g.0)
soak_is_done M B count seed falls old new Status.Done status taken given text h (inl g) no_write no_disk = g.0
soak_is_done M B count seed falls old new Status.DiskFault status taken given text h (inl g) no_write no_disk = absurd (no_disk g.0)
soak_is_done M B count seed falls old new _ status taken given text h (inl g) no_write no_disk = absurd h
