-- What the program does with its words.
use Rattle.std.specs.Prelude.{◌≡◌, ◌⊎◌, ℕ, Bool, true, false, List, [], Option, None, Some}
use Rattle.gd_base.specs.declared.setup.Setup.{Setup}
use Rattle.gd_base.specs.Judging.Machine.{Machine, Blocks}
use Rattle.gd_base.specs.Outside.Causes.{Rose}
use Rattle.gd_disk.specs.Disk.{DiskState}
use Rattle.gd_machine.specs.Meaning.{the_machine}
use Rattle.gd_top.specs.Claims.ImageRuns.{ImageRunDid}
use Rattle.gd_top.specs.Claims.Images.{CheckDid, InitDid, ShowDid, Tells}
use Rattle.gd_top.specs.Claims.Refusals.{IsRefusedAs, names_setup, refusal_status, refusal_text}
use Rattle.gd_top.specs.Claims.Runs.{GivesLast, IsEnd, Outer, TrialDone, outer}
use Rattle.gd_top.specs.Claims.Setups.{IsGiven}
use Rattle.gd_top.specs.Claims.Soak.{SoakDid}
use Rattle.gd_top.specs.declared.command.refusal.Refusal.{Refusal}
use Rattle.gd_top.specs.declared.status.Status.{Status}
use Rattle.gd_words.specs.declared.words.Command.{Command}
use Rattle.gd_words.specs.declared.words.Words.{Words}

-- ================ what a command touches of what it is handed

abbrev pub in_lab : Command → Bool
in_lab Command.Trial = true
in_lab (Command.Soak count seed) = true
in_lab _ = false

abbrev pub in_image : Command → Bool
in_image (Command.Init image) = true
in_image (Command.Run image) = true
in_image (Command.Show what image) = true
in_image (Command.Check image) = true
in_image _ = false

-- the laboratory or the image, with blocks of random words
abbrev pub plays : Command → Bool
plays (Command.Run image) = true
plays command = in_lab command

abbrev pub reads_script : Command → Bool
reads_script Command.Trial = true
reads_script (Command.Run image) = true
reads_script _ = false

-- of words that are in no row nothing is touched
abbrev pub asks : (Command → Bool) → Option Words → Bool
asks touches None = false
asks touches (Some w) = touches w.command

-- a setup's file is read only where the words name one
abbrev pub asks_setup : Option Words → Bool
asks_setup None = false
asks_setup (Some w) = names_setup w

-- ================ what was done

-- what stands outside of the program at a moment: the input, the sink and the laboratory, the image, and the setup's file
pub record World : Type 1 where
  pub outer : Outer
  pub image : DiskState
  pub setup_left : Option (List ℕ)  -- the bytes that the file has, where it tells them
  pub setup_faults : ℕ

abbrev pub world : {C S K L D : Type 0} → (C → Option (List ℕ)) → (C → ℕ) → (S → Option (List ℕ)) → (S → ℕ) → (K → Option (List ℕ)) → (K → ℕ) → (L → DiskState) → (D → DiskState)
    → C → S → K → L → D → World
world setup_left setup_faults left read_faults taken write_faults lab_state disk_state setup input output lab disk =
    record { outer = outer left read_faults taken write_faults lab_state input output lab; image = disk_state disk; setup_left = setup_left setup; setup_faults = setup_faults setup }

-- A command ended before anything was made or opened. Of a line that tells why all was written, or a front.
pub record IsRefused (meant : Option Words) (status : Status) (was now : World) : Type 0 where
  pub why : Refusal
  pub reason : IsRefusedAs meant was.setup_left was.setup_faults now.setup_faults why
  pub told : GivesLast (refusal_status why) status was.outer.taken now.outer.taken (refusal_text why)

-- By the command: over the input, the sink and the laboratory, and over the image. `told` is that each state of the disk tells what a
-- read gives.
abbrev pub CommandDone : {V : Type 0} → (told : Type 0) → Machine V → Blocks → Command → Status → List ℕ → (was now : Outer) → (old new : DiskState) → Type 0
CommandDone told M B (Command.Init image) status falls was now old new = Tells (InitDid M old new) status was.taken now.taken
CommandDone told M B Command.Trial status falls was now old new = TrialDone M B status falls was now
CommandDone told M B (Command.Run image) status falls was now old new = (falls ≡ []) × ImageRunDid told M B status (record was { disk = old }) (record now { disk = new })
CommandDone told M B (Command.Show what image) status falls was now old new = Tells (ShowDid M what old new) status was.taken now.taken
CommandDone told M B (Command.Check image) status falls was now old new = Tells (CheckDid old new) status was.taken now.taken
CommandDone told M B (Command.Soak count seed) status falls was now old new = Tells (SoakDid M B count seed falls was.disk now.disk) status was.taken now.taken

-- The command that the words say was carried out, under the setup that holds.
pub record IsCarriedOut (told : Type 0) (meant : Option Words) (B : Blocks) (status : Status) (falls : List ℕ) (was now : World) : Type 0 where
  pub words : Words
  pub said : meant ≡ Some words
  pub setup : Setup
  pub given : IsGiven (names_setup words) was.setup_left setup
  pub done : CommandDone told (the_machine setup) B words.command status falls was.outer now.outer was.image now.image

-- ================ causes

-- the disk of a command failed: a laboratory has a fault, and a plain disk stops
abbrev pub DiskRose : (in_lab : Bool) → (was now : Outer) → (old new : DiskState) → Type 0
DiskRose true was now old new = Rose was.disk.faults now.disk.faults
DiskRose false was now old new = Rose old.stops new.stops

-- a status has its cause: a count of what failed rose
pub record CommandCauses (command : Command) (status : Status) (was now : Outer) (old new : DiskState) : Type 0 where
  pub read : status ≡ Status.ReadFault → Rose was.read_faults now.read_faults
  pub write : status ≡ Status.WriteFault → Rose was.write_faults now.write_faults
  pub disk : status ≡ Status.DiskFault → DiskRose (in_lab command) was now old new

-- of the whole program, whose setup may fail too
pub record HasReasons (meant : Option Words) (status : Status) (was now : World) : Type 0 where
  pub read : status ≡ Status.ReadFault → Rose was.outer.read_faults now.outer.read_faults ⊎ Rose was.setup_faults now.setup_faults
  pub write : status ≡ Status.WriteFault → Rose was.outer.write_faults now.outer.write_faults
  pub disk : status ≡ Status.DiskFault → DiskRose (asks in_lab meant) was.outer now.outer was.image now.image

-- no count of what failed rose
pub record HasNotFailed (meant : Option Words) (was now : World) : Type 0 where
  pub read : Rose was.outer.read_faults now.outer.read_faults → ⊥
  pub setup : Rose was.setup_faults now.setup_faults → ⊥
  pub write : Rose was.outer.write_faults now.outer.write_faults → ⊥
  pub disk : DiskRose (asks in_lab meant) was.outer now.outer was.image now.image → ⊥

-- how a command can end then; which of these comes when is told by what it did
abbrev pub CanEnd : Command → Status → Type 0
CanEnd (Command.Init image) status = (status ≡ Status.Done) ⊎ (status ≡ Status.AlreadyMade)
CanEnd Command.Trial status = IsEnd status
CanEnd (Command.Run image) status = IsEnd status
CanEnd (Command.Show what image) status = (status ≡ Status.Done) ⊎ ((status ≡ Status.Locked) ⊎ (status ≡ Status.SetupDiffers))
CanEnd (Command.Check image) status = (status ≡ Status.Done) ⊎ (status ≡ Status.Locked)
CanEnd (Command.Soak count seed) status = status ≡ Status.Done

-- or it is refused, or for want of memory
abbrev pub CanEndAs : Option Words → Status → Type 0
CanEndAs None status = (status ≡ Status.Usage) ⊎ (status ≡ Status.OutOfMemory)
CanEndAs (Some w) status =
    (status ≡ Status.OutOfMemory) ⊎ (((status ≡ Status.SetupRefused) × (names_setup w ≡ true)) ⊎ CanEnd w.command status)
