-- How a command ends where no count of what failed rose.
use Rattle.std.proofs.Common.{◌≡◌, ◌⊎◌, inl, inr, refl, ℕ, List, Option, Some}
use Rattle.gd_base.specs.Judging.Machine.{Machine, Blocks}
use Rattle.gd_base.specs.Outside.Causes.{Rose}
use Rattle.gd_base.specs.declared.step.What.{What}
use Rattle.gd_disk.specs.Disk.{DiskState}
use Rattle.gd_top.specs.Claims.Images.{CheckDid, InitDid, ShowDid}
use Rattle.gd_top.specs.Claims.Program.{World, CanEnd, CanEndAs, CommandCauses, CommandDone, DiskRose, HasNotFailed, in_lab}
use Rattle.gd_top.specs.Claims.Runs.{GivesLast, IsCarried, IsEnd, Outer, trial_beginning}
use Rattle.gd_top.specs.declared.status.Status.{Status}
use Rattle.gd_top.proofs.SoakLemmas.Told.{soak_is_done}
use Rattle.gd_top.proofs.TrialLemmas.Ends.{carried_as_told}
use Rattle.gd_words.specs.declared.words.Command.{Command}
use Rattle.gd_words.specs.declared.words.Words.{Words}

-- ================ a command that tells what it did

module _ (old new : DiskState) (taken given : Option (List ℕ)) (status : Status) (no_write : status ≡ Status.WriteFault → ⊥) (no_stop : Rose old.stops new.stops → ⊥) where
  init_ends : {V : Type 0} (M : Machine V) (did : Status) (text : List ℕ) → InitDid M old new did text → GivesLast did status taken given text
      → (status ≡ Status.Done) ⊎ (status ≡ Status.AlreadyMade)
  init_ends M did text h (inr g) = absurd (no_write g.0)
  init_ends M Status.Done text h (inl g) = inl g.0
  init_ends M Status.AlreadyMade text h (inl g) = inr g.0
  init_ends M Status.DiskFault text h (inl g) = absurd (no_stop h.0.cause)
  init_ends M _ text h (inl g) = absurd h

  check_ends : (did : Status) (text : List ℕ) → CheckDid old new did text → GivesLast did status taken given text → (status ≡ Status.Done) ⊎ (status ≡ Status.Locked)
  check_ends did text h (inr g) = absurd (no_write g.0)
  check_ends Status.Done text h (inl g) = inl g.0
  check_ends Status.Locked text h (inl g) = inr g.0
  check_ends Status.DiskFault text h (inl g) = absurd (no_stop h.0.cause)
  check_ends _ text h (inl g) = absurd h

  show_ends : {V : Type 0} (M : Machine V) (what : What) (did : Status) (text : List ℕ) → ShowDid M what old new did text → GivesLast did status taken given text
      → (status ≡ Status.Done) ⊎ ((status ≡ Status.Locked) ⊎ (status ≡ Status.SetupDiffers))
  show_ends M what did text h (inr g) = absurd (no_write g.0)
  show_ends M what Status.Done text h (inl g) = inl g.0
  show_ends M what Status.Locked text h (inl g) = inr (inl g.0)
  show_ends M what Status.SetupDiffers text h (inl g) = inr (inr g.0)
  show_ends M what Status.DiskFault text h (inl g) = absurd (no_stop h.0.cause)
  show_ends M what _ text h (inl g) = absurd h

-- a run over an image that no fault ended
ended_well : (status : Status) → IsCarried status → (status ≡ Status.ReadFault → ⊥) → (status ≡ Status.WriteFault → ⊥) → (status ≡ Status.DiskFault → ⊥) → IsEnd status
ended_well Status.Done h read write disk = tt
ended_well Status.ScriptFault h read write disk = tt
ended_well Status.Locked h read write disk = tt
ended_well Status.SetupDiffers h read write disk = tt
ended_well Status.ReadFault h read write disk = absurd (read refl)
ended_well Status.WriteFault h read write disk = absurd (write refl)
ended_well Status.DiskFault h read write disk = absurd (disk refl)
ended_well _ h read write disk = absurd h

-- ================ each command

module _ {V : Type 0} (M : Machine V) (B : Blocks) (falls : List ℕ) (was now : Outer) (old new : DiskState) where
  command_ends : (told : Type 0) (command : Command) (status : Status) → CommandDone told M B command status falls was now old new → CommandCauses command status was now old new
      → (Rose was.read_faults now.read_faults → ⊥) → (Rose was.write_faults now.write_faults → ⊥) → (DiskRose (in_lab command) was now old new → ⊥) → CanEnd command status
  command_ends told Command.Trial status h k read write disk =
      (carried_as_told (trial_beginning M) M B falls was now status h (record { read = k.read; write = k.write; disk = k.disk }) read write disk).0
  command_ends told (Command.Init image) status h k read write disk =
      init_ends old new was.taken now.taken status (λ is. write (k.write is)) disk M h.0 h.1 h.2 h.3
  command_ends told (Command.Show what image) status h k read write disk =
      show_ends old new was.taken now.taken status (λ is. write (k.write is)) disk M what h.0 h.1 h.2 h.3
  command_ends told (Command.Check image) status h k read write disk =
      check_ends old new was.taken now.taken status (λ is. write (k.write is)) disk h.0 h.1 h.2 h.3
  command_ends told (Command.Run image) status h k read write disk = ended_well status h.1.0 (λ is. read (k.read is)) (λ is. write (k.write is)) (λ is. disk (k.disk is))
  command_ends told (Command.Soak count seed) status h k read write disk =
      soak_is_done M B count seed falls was.disk now.disk h.0 status was.taken now.taken h.1 h.2 h.3 (λ is. write (k.write is)) (λ is. disk (k.disk is))

-- ================ the program

-- of a command that was carried out
pub carried_as : (was now : World) (falls : List ℕ) (status : Status) (w : Words) {V : Type 0} (told : Type 0) (M : Machine V) (B : Blocks) → CommandDone told M B w.command status falls was.outer now.outer was.image now.image
    → CommandCauses w.command status was.outer now.outer was.image now.image → HasNotFailed (Some w) was now → CanEndAs (Some w) status
carried_as was now falls status w told M B h k calm = inr (inr (command_ends M B falls was.outer now.outer was.image now.image told w.command status h k calm.read calm.write calm.disk))
