-- The making of a memory: what it answers, and what it leaves at each moment.
use Rattle.std.specs.Prelude.{◌≡◌, ◌⊎◌, ℕ, List, ◌∷◌, drop, slice_index, Option, Some, Result, Ok, Err}
use Rattle.gd_store.specs.Copy.{IsCopy, AreBad, boots, copy_a, copy_b}
use Rattle.gd_store.specs.Writing.{IsShut}
use Rattle.gd_store.specs.declared.copy.layout.Layout.{Layout}
use Rattle.gd_store.specs.declared.room.Room.{Room}
use Rattle.gd_store.specs.declared.making.Made.{Made}
use Rattle.gd_store.specs.declared.copy.layout.TheConstants.{OPEN}

-- the disk and the room that an answer holds
abbrev pub made_disk : {D : Type 0} → Made D → D
made_disk (Made.Done disk room) = disk
made_disk (Made.Off disk room) = disk

abbrev pub made_room : {D : Type 0} → Made D → Room
made_room (Made.Done disk room) = room
made_room (Made.Off disk room) = room

-- Off is a failure
abbrev pub made_outcome : {D : Type 0} → Made D → Result (Unit {0}) (Unit {0})
made_outcome (Made.Done disk room) = Ok tt
made_outcome (Made.Off disk room) = Err tt

-- while the gates are shut: each copy is the old one, or it's shut
pub record AreShutting (l : Layout) (old new : List ℕ) : Type 0 where
  pub a : IsShut l.a new ⊎ (copy_a l new ≡ copy_a l old)
  pub b : IsShut l.b new ⊎ (copy_b l new ≡ copy_b l old)

-- what a read gives of a disk has an open gate at this place, where the disk tells it
abbrev pub ReadsOpen : ℕ → Option (List ℕ) → Type 0
ReadsOpen at seen = (image : List ℕ) → seen ≡ Some image → slice_index image at ≡ OPEN

-- a copy behind an open gate
abbrev pub behind_open : List ℕ → List ℕ
behind_open copy = OPEN ∷ drop 1 copy

-- a copy while its gate is shut over any disk: as it was, or, where a read gave an open gate, as it was behind an open gate
abbrev pub IsOld : ℕ → Option (List ℕ) → List ℕ → List ℕ → Type 0
IsOld at seen old new = (new ≡ old) ⊎ (ReadsOpen at seen × (new ≡ behind_open old))

-- While the gates are shut over a disk where writes may wait for a sync, of which a read gives this: each copy is the old
-- one, or it's shut. An open gate that waits may be durable before what waits behind it.
pub record AreShuttingAny (l : Layout) (seen : Option (List ℕ)) (old new : List ℕ) : Type 0 where
  pub a : IsShut l.a new ⊎ IsOld l.a seen (copy_a l old) (copy_a l new)
  pub b : IsShut l.b new ⊎ IsOld l.b seen (copy_b l old) (copy_b l new)

-- while copy a is written: it's shut, or it holds the payload at sequence 0, and copy b is shut
pub record IsMakingA (l : Layout) (payload new : List ℕ) : Type 0 where
  pub a : IsShut l.a new ⊎ IsCopy l 0 payload (copy_a l new)
  pub b : IsShut l.b new

-- while copy b is written: copy a holds the payload
pub record IsMakingB (l : Layout) (payload new : List ℕ) : Type 0 where
  pub a : IsCopy l 0 payload (copy_a l new)
  pub b : IsShut l.b new ⊎ IsCopy l 0 payload (copy_b l new)

-- at a moment of a making over an image
abbrev pub IsMaking : Layout → List ℕ → List ℕ → List ℕ → Type 0
IsMaking l payload old new = AreShutting l old new ⊎ (IsMakingA l payload new ⊎ IsMakingB l payload new)

-- an image of a making over another: both copies are bad where they were, or the payload is booted
abbrev pub BootsOver : Layout → List ℕ → List ℕ → List ℕ → Type 0
BootsOver l payload old new = (AreBad l old → AreBad l new) ⊎ (boots l new ≡ Some (0, payload))

-- the same over a disk where writes may wait for a sync
abbrev pub IsMakingAny : Layout → List ℕ → Option (List ℕ) → List ℕ → List ℕ → Type 0
IsMakingAny l payload seen old new = AreShuttingAny l seen old new ⊎ (IsMakingA l payload new ⊎ IsMakingB l payload new)
