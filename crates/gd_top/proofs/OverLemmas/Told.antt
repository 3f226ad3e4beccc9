-- A whole run over an image, as it is told.
use Rattle.std.proofs.Common.{◌≡◌, ◌∙◌, ◌⊎◌, inl, inr, sym, subst, refl, ℕ, List, [], arith, false, Option, Result, Ok, Err}
use Rattle.gd_base.specs.Judging.Machine.{Machine, Blocks}
use Rattle.gd_base.specs.Outside.Causes.{Rose}
use Rattle.gd_disk.specs.Disk.{IsSynced}
use Rattle.gd_top.specs.Claims.ImageRuns.{WasOpened, image_beginning, laboratory}
use Rattle.gd_top.specs.Claims.MemoryLeft.{IsAtRest, IsSettled}
use Rattle.gd_top.specs.Claims.Runs.{GivesLast, IsCarried, Outer, RunTold, last_text, status_after}
use Rattle.gd_top.specs.Code.LinesDone.{EndedBefore, RunBy}
use Rattle.gd_top.specs.Code.Memory.{Fits, Leaves, Moment, Serves, outside}
use Rattle.gd_top.specs.Code.OverImage.{Ends, Stands, first_over, over}
use Rattle.gd_top.specs.Code.Standing.{Standing}
use Rattle.gd_top.specs.Run.Starts.{start_in}
use Rattle.gd_top.specs.Run.State.{Phase, On, Off, Locked}
use Rattle.gd_top.specs.declared.halt.Halt.{Halt}
use Rattle.gd_top.specs.declared.status.Status.{Status}
use Rattle.gd_top.proofs.RunLemmas.Legal.{legal_over_image}
use Rattle.gd_top.proofs.TrialLemmas.Told.{run_told}
use Rattle.gd_top.proofs.TrialLemmas.WholeRun.{BeginsAt}

-- it ends with one of the statuses of a trial
pub carried_so : (r : Result (Unit {0}) Halt) (phase : Phase) (status : Status) (taken gave : Option (List ℕ)) (text : List ℕ) → GivesLast (status_after r phase) status taken gave text → IsCarried status
carried_so r phase status taken gave text (inr last) = subst IsCarried (sym last.0) tt
carried_so (Ok done) On status taken gave text (inl last) = subst IsCarried (sym last.0) tt
carried_so (Ok done) Off status taken gave text (inl last) = subst IsCarried (sym last.0) tt
carried_so (Ok done) Locked status taken gave text (inl last) = subst IsCarried (sym last.0) tt
carried_so (Err Halt.ScriptFault) phase status taken gave text (inl last) = subst IsCarried (sym last.0) tt
carried_so (Err Halt.ReadFault) phase status taken gave text (inl last) = subst IsCarried (sym last.0) tt
carried_so (Err Halt.DiskFault) phase status taken gave text (inl last) = subst IsCarried (sym last.0) tt
carried_so (Err Halt.WriteFault) phase status taken gave text (inl last) = subst IsCarried (sym last.0) tt
carried_so (Err Halt.SetupDiffers) phase status taken gave text (inl last) = subst IsCarried (sym last.0) tt

-- how it begins
image_begins : {V : Type 0} (M : Machine V) (B : Blocks) (image : List ℕ) → BeginsAt (image_beginning M image) M B (first_over M image)
image_begins M B image = record {
  is_first = λ falls starts broken_at. refl;
  legal = legal_over_image M B (start_in M image);
  unarmed = refl;
  unfallen = refl;
  unsynced = refl;
  explained = λ none. absurd (omega (arith, none));
}

module _ {V : Type 0} (was now : Moment V) (left rest gave : Option (List ℕ)) (r0 r1 w2 : ℕ) (image : List ℕ) where
  abbrev M : Machine V
  M = was.machine

  abbrev old : Outer
  old = record { left = left; read_faults = r0; taken = was.taken; write_faults = was.faults; disk = was.disk }

  abbrev new : Outer
  new = record { left = rest; read_faults = r1; taken = gave; write_faults = w2; disk = now.disk }

  pub image_told : (r : Result (Unit {0}) Halt) (status : Status)
      → (later : List (List ℕ)) × WasOpened M image later × (Serves r → Stands image later now)
      × (EndedBefore ((c : List ℕ) → now.disk.may_find c → was.disk.may_find c) r (over [] was) (over later now)
      ⊎ ((t : Standing V) × (Serves r → Fits t (over later now)) × RunBy M was.blocks r (first_over M image) t (outside (over [] was)) (outside (over later now)) (over later now).disk left rest))
      → Ends r was now → was.counts.falls.items ≡ []
      → (now.is_stopped ≡ false → (now.phase ≡ Off → IsSettled now.disk) → (now.phase ≡ Locked → IsSynced now.disk) → IsAtRest now.phase now.disk)
      → (r ≡ Err Halt.ReadFault → Rose r0 r1) → GivesLast (status_after r now.phase) status now.taken gave (last_text now.machine r now.phase now.view now.counts.lines)
      → (images : List (List ℕ)) × WasOpened M image images × RunTold (image_beginning M image) M was.blocks status [] (laboratory [] old) (laboratory images new)
  image_told r status k ends fresh rested read last = (
    k.0,
    k.1,
    subst (λ (falls : List ℕ). RunTold (image_beginning M image) M was.blocks status falls (laboratory [] old) (laboratory k.0 new)) (ends.falls ∙ fresh)
        (run_told (over [] was) (over k.0 now) left rest gave r0 r1 w2 (image_beginning M image) (first_over M image) (image_begins M was.blocks image) (outside (over [] was))
        (record { found = refl; taken = refl; falls = fresh; synced = omega arith }) ((c : List ℕ) → now.disk.may_find c → was.disk.may_find c) r status (λ b. (b.found, b.left)) k.3 leaves at_rest read last),
  )
    where
      leaves : Leaves r (over [] was) (over k.0 now)
      leaves = record {
        sits = λ serves. (k.2 serves).sits;
        no_fault = ends.no_stop;
        disk_fault = ends.disk_fault;
        later = ends.later;
        write_fault = ends.write_fault;
        machine = ends.machine;
        blocks = ends.blocks;
      }

      at_rest : Serves r → IsAtRest now.phase (over k.0 now).disk
      at_rest serves =
          let sits = (k.2 serves).sits in
          rest_over now.phase (rested sits.runs sits.settled sits.synced)
        where
          rest_over : (p : Phase) → IsAtRest p now.disk → IsAtRest p (over k.0 now).disk
          rest_over On rests = rests
          rest_over Off rests = rests
          rest_over Locked rests = rests
