-- What a run over an image wrote and left. It is said where each state of the disk tells what a read gives.
use Rattle.std.specs.Prelude.{◌≡◌, ◌⊎◌, ℕ, List, [], ◌∷◌, Some}
use Rattle.gd_base.specs.Judging.Machine.{Machine, Blocks}
use Rattle.gd_cabinet.specs.Shown.{IsInBoth}
use Rattle.gd_disk.specs.Disk.{DiskState}
use Rattle.gd_top.specs.Claims.Runs.{Beginning, IsCarried, Outer, RunTold}
use Rattle.gd_top.specs.Run.Life.{over_image}
use Rattle.gd_top.specs.Run.Starts.{start_in}
use Rattle.gd_top.specs.declared.status.Status.{Status}

-- each state of a disk tells what a read gives
abbrev pub TellsImages : {D : Type 0} → (D → DiskState) → Type 0
TellsImages {D} state = (disk : D) → (image : List ℕ) × ((state disk).seen ≡ Some image)

-- A plain disk as a laboratory that found these images at its power-ons: no cut is armed, and each call that failed is a fault.
abbrev pub as_lab : List (List ℕ) → DiskState → DiskState
as_lab images disk = record disk { armed = []; found = images; faults = disk.stops }

-- A memory was made in place of the image, and opened behind it: both its copies held the empty view.
pub record WasCleared {V : Type 0} (M : Machine V) (image : List ℕ) (images : List (List ℕ)) : Type 0 where
  pub made : List ℕ
  pub is : images ≡ image ∷ made ∷ []
  pub both : IsInBoth M M.empty made

-- what was opened: nothing, the image, or it and a memory that was made in its place
abbrev pub WasOpened : {V : Type 0} → Machine V → (image : List ℕ) → (images : List (List ℕ)) → Type 0
WasOpened M image images = (images ≡ []) ⊎ ((images ≡ image ∷ []) ⊎ WasCleared M image images)

-- what stands outside of a run over an image, as of one over such a laboratory
abbrev pub laboratory : List (List ℕ) → Outer → Outer
laboratory images o = record o { disk = as_lab images o.disk }

-- the image was not opened, and nothing was written
abbrev pub IsUntouched : (was now : Outer) → Type 0
IsUntouched was now = (now.disk.found ≡ []) × ((image : List ℕ) → now.disk.may_find image → was.disk.may_find image)

-- the run begins with the image as it is handed in, and nothing is made before
abbrev pub image_beginning : {V : Type 0} → Machine V → List ℕ → Beginning V
image_beginning M image = record { state = over_image M (start_in M image); syncs = 0; IsUnopened = IsUntouched }

-- It is told as a trial is, but for its beginning: with no cut and so no fall, over the image and what was made in its place. Where
-- the disk stands locked at the end, or a memory of another setup was found, it is left as it was opened.
abbrev pub ImageRunDone : {V : Type 0} → Machine V → Blocks → Status → (was now : Outer) → Type 0
ImageRunDone M B status was now =
    (image : List ℕ) → was.disk.seen ≡ Some image
    → (images : List (List ℕ)) × WasOpened M image images × RunTold (image_beginning M image) M B status [] (laboratory [] was) (laboratory images now)

-- and so it is where the disk tells its images; over any disk it ends with one of the statuses of a trial
abbrev pub ImageRunDid : {V : Type 0} → (told : Type 0) → Machine V → Blocks → Status → (was now : Outer) → Type 0
ImageRunDid told M B status was now = IsCarried status × (told → ImageRunDone M B status was now)
