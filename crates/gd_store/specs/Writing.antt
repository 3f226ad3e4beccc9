-- What the writing of one copy leaves.
use Rattle.std.specs.Prelude.{◌≡◌, ◌≢◌, ◌⊎◌, ℕ, ◌+◌, ◌<◌, ◌≤◌, List, [], ◌∷◌, length, slice_index, Result, OnOk, OnErr, Option, if◌then◌else◌, ◌==◌}
use Rattle.gd_store.specs.Copy.{part, boots, copy_a, copy_b, IsCopy}
use Rattle.gd_store.specs.declared.copy.layout.Layout.{Layout}
use Rattle.gd_disk.specs.Disk.{seen_with_bytes, DiskState, Torn}
use Rattle.gd_store.specs.declared.copy.layout.TheConstants.{OPEN}

-- the gate at this place isn't open
abbrev pub IsShut : ℕ → List ℕ → Type 0
IsShut at image = slice_index image at ≢ OPEN

-- no gate of the two copies is open
abbrev pub AreShut : Layout → List ℕ → Type 0
AreShut l image = IsShut l.a image × IsShut l.b image

-- what a read gives after a gate that held this byte is shut
abbrev pub seen_shut : ℕ → ℕ → Option (List ℕ) → Option (List ℕ)
seen_shut at gate seen = if gate == OPEN then seen_with_bytes at (0 ∷ []) seen else seen

-- while a gate is shut: all else stands, and the gate is shut or all stands
pub record IsShutting (at : ℕ) (old new : List ℕ) : Type 0 where
  pub elsewhere : Torn at 1 old new
  pub shut_or_same : IsShut at new ⊎ (new ≡ old)

-- a gate that held this byte is written over where it was open: all else stands
pub record IsOverOpen (at gate : ℕ) (old new : List ℕ) : Type 0 where
  pub elsewhere : Torn at 1 old new
  pub stands : gate ≢ OPEN → new ≡ old

-- while a copy is written over an image: all else stands, and the copy is the old one, or it's shut, or it's the new one
pub record IsWriting (at : ℕ) (copy old new : List ℕ) : Type 0 where
  pub elsewhere : Torn at (length copy) old new
  pub whole_or_shut : (part at (length copy) new ≡ part at (length copy) old) ⊎ (IsShut at new ⊎ (part at (length copy) new ≡ copy))

-- an image that may be found before, after this step
abbrev pub From : DiskState → (List ℕ → List ℕ → Type 0) → List ℕ → Type 0
From disk step image = (d : List ℕ) × disk.may_find d × step d image

-- how many syncs a run made: all of them where it succeeded, else fewer
pub record MadeSyncs {T E : Type 0} (n : ℕ) (result : Result T E) (old new : DiskState) : Type 0 where
  pub all : OnOk result (new.syncs ≡ old.syncs + n)
  pub fewer : OnErr result (new.syncs < old.syncs + n)
  pub no_less : old.syncs ≤ new.syncs

-- while copy a is written over by a commit: it's the old one, or it's shut, or it's the new one, and copy b is the old one
pub record IsCommittingA (l : Layout) (old new : ℕ × List ℕ) (image : List ℕ) : Type 0 where
  pub a : IsCopy l old.0 old.1 (copy_a l image) ⊎ (IsShut l.a image ⊎ IsCopy l new.0 new.1 (copy_a l image))
  pub b : IsCopy l old.0 old.1 (copy_b l image)

-- while copy b is written over: copy a is the new one
pub record IsCommittingB (l : Layout) (old new : ℕ × List ℕ) (image : List ℕ) : Type 0 where
  pub a : IsCopy l new.0 new.1 (copy_a l image)
  pub b : IsCopy l old.0 old.1 (copy_b l image) ⊎ (IsShut l.b image ⊎ IsCopy l new.0 new.1 (copy_b l image))

-- at a moment of a commit, from both copies at the old sequence and payload to both at the new: copy a, and then copy b
abbrev pub IsCommitting : Layout → ℕ × List ℕ → ℕ × List ℕ → List ℕ → Type 0
IsCommitting l old new image = IsCommittingA l old new image ⊎ IsCommittingB l old new image

-- an image that boots to what one that may be found before boots to
abbrev pub KeepsBoot : Layout → DiskState → List ℕ → Type 0
KeepsBoot l disk image = (d : List ℕ) × disk.may_find d × (boots l image ≡ boots l d)
