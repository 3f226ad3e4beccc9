-- What the commands do that look at an image or make one, and carry out no script. What is said of an image is said where the
-- disk tells what a read gives.
use Rattle.std.specs.Prelude.{◌≡◌, ◌⊎◌, ℕ, Bool, true, false, ◌||◌, List, ◌++◌, codes, Option}
use Rattle.gd_base.specs.declared.step.What.{What}
use Rattle.gd_base.specs.Judging.Machine.{Machine}
use Rattle.gd_base.specs.Payloads.Spelled.{Shows, Foreign, Unreadable}
use Rattle.gd_cabinet.specs.Shown.{shows}
use Rattle.gd_disk.specs.Disk.{DiskState, IfTold, Rose, Unchanged}
use Rattle.gd_disk.specs.Runs.{LeavesOnly}
use Rattle.gd_store.specs.Copy.{HoldsBoth, found_in, is_sound}
use Rattle.gd_store.specs.Lost.{IsLost}
use Rattle.gd_store.specs.Making.{IsMakingAny}
use Rattle.gd_store.specs.Writing.{From}
use Rattle.gd_store.specs.declared.copy.layout.TheConstants.{LAYOUT}
use Rattle.gd_store.specs.declared.copy.states.Found.{Found}
use Rattle.gd_top.specs.Claims.Runs.{GivesLast}
use Rattle.gd_top.specs.Report.Lines.{copy_text, differs_line, locked_line}
use Rattle.gd_top.specs.declared.status.Status.{Status}

-- ================ what became of the disk

-- nothing was written: each image that might have been found since could be found before
pub record IsUnwritten (old new : DiskState) : Type 0 where
  pub images : LeavesOnly old new (From old Unchanged)
  pub syncs : new.syncs ≡ old.syncs

-- and the disk works: a read gives what it gave
pub record IsOnlyRead (old new : DiskState) : Type 0 where
  pub unwritten : IsUnwritten old new
  pub seen : new.seen ≡ old.seen

-- both copies hold the empty view, at sequence 0
pub record IsEmptyMemory {V : Type 0} (M : Machine V) (image : List ℕ) : Type 0 where
  pub payload : List ℕ
  pub spelled : M.spelled payload ≡ Shows M.empty
  pub both : HoldsBoth LAYOUT 0 payload image

-- in each image that may be found
abbrev pub HoldsEmpty : {V : Type 0} → Machine V → DiskState → Type 0
HoldsEmpty M disk = (image : List ℕ) → disk.may_find image → IsEmptyMemory M image

-- the making of an empty memory failed: each image that might have been found since is one of a moment of it
pub record IsHalfMade {V : Type 0} (M : Machine V) (old new : DiskState) : Type 0 where
  pub payload : List ℕ
  pub spelled : M.spelled payload ≡ Shows M.empty
  pub images : LeavesOnly old new (From old (IsMakingAny LAYOUT payload old.seen))

-- the disk failed
pub record HasFailed (text : List ℕ) (old new : DiskState) : Type 0 where
  pub told : text ≡ codes "disk fault\n"
  pub cause : Rose old.stops new.stops

-- ================ what was done, by the status that it has and the lines that it prints

abbrev pub has_sound : Found → Bool
has_sound found = is_sound found.a || is_sound found.b

-- `init`: where no copy is sound an empty memory is made
abbrev pub InitDid : {V : Type 0} → Machine V → (old new : DiskState) → Status → List ℕ → Type 0
InitDid M old new Status.Done text =
    (text ≡ codes "made\n") × IfTold old.seen (λ image. has_sound (found_in LAYOUT image) ≡ false) × HoldsEmpty M new
InitDid M old new Status.AlreadyMade text =
    (text ≡ codes "already made\n") × IfTold old.seen (λ image. has_sound (found_in LAYOUT image) ≡ true) × IsOnlyRead old new
InitDid M old new Status.DiskFault text = HasFailed text old new × (IsUnwritten old new ⊎ IsHalfMade M old new)
InitDid M old new _ text = ⊥

-- what is printed of the two copies
abbrev pub copies_text : Found → List ℕ
copies_text found = codes "a " ++ copy_text found.a ++ codes "\nb " ++ copy_text found.b ++ codes "\n"

-- `check`: the memory is locked where nothing can be booted; no payload is loaded
abbrev pub CheckDid : (old new : DiskState) → Status → List ℕ → Type 0
CheckDid old new Status.Done text =
    (found : Found) × (text ≡ copies_text found) × IfTold old.seen (λ image. (found ≡ found_in LAYOUT image) × (IsLost LAYOUT image → ⊥)) × IsOnlyRead old new
CheckDid old new Status.Locked text =
    (found : Found) × (text ≡ copies_text found ++ locked_line) × IfTold old.seen (λ image. (found ≡ found_in LAYOUT image) × IsLost LAYOUT image) × IsOnlyRead old new
CheckDid old new Status.DiskFault text = HasFailed text old new × IsUnwritten old new
CheckDid old new _ text = ⊥

-- `show`: the text of the view that the image shows
abbrev pub ShowDid : {V : Type 0} → Machine V → What → (old new : DiskState) → Status → List ℕ → Type 0
ShowDid {V} M what old new Status.Done text =
    (v : V) × (text ≡ M.text what v) × IfTold old.seen (λ image. shows M image ≡ Shows v) × IsOnlyRead old new
ShowDid M what old new Status.Locked text =
    (text ≡ locked_line) × IfTold old.seen (λ image. shows M image ≡ Unreadable) × IsOnlyRead old new
ShowDid M what old new Status.SetupDiffers text =
    (kept : List ℕ) × (text ≡ differs_line kept M.digest) × IfTold old.seen (λ image. shows M image ≡ Foreign kept) × IsOnlyRead old new
ShowDid M what old new Status.DiskFault text = HasFailed text old new × IsUnwritten old new
ShowDid M what old new _ text = ⊥

-- it was told: all lines were given, or a front of them where the sink failed
abbrev pub Tells : (Status → List ℕ → Type 0) → Status → (taken given : Option (List ℕ)) → Type 0
Tells Did status taken given = (did : Status) × (text : List ℕ) × Did did text × GivesLast did status taken given text

-- and its status has its cause: the sink failed, or the disk
pub record TellCauses (status : Status) (was_faults faults : ℕ) (old new : DiskState) : Type 0 where
  pub read : status ≡ Status.ReadFault → ⊥
  pub write : status ≡ Status.WriteFault → Rose was_faults faults
  pub disk : status ≡ Status.DiskFault → Rose old.stops new.stops
