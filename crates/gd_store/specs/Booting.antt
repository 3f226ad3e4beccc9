-- What a boot answers.
use Rattle.std.specs.Prelude.{◌≡◌, ℕ, nat_lt, if◌then◌else◌, List, Result, Ok, Err, Option, Some, None}
use Rattle.gd_store.specs.Copy.{state_of, copy_a, copy_b, boots}
use Rattle.gd_store.specs.declared.copy.layout.Layout.{Layout}
use Rattle.gd_store.specs.declared.copy.states.Found.{Found}
use Rattle.gd_store.specs.declared.copy.states.CopyState.{CopyState}
use Rattle.gd_store.specs.declared.booting.Booted.{Booted}
use Rattle.gd_store.specs.declared.room.Room.{Room}

-- the states of the two copies
abbrev pub IsFound : Layout → Found → List ℕ → Type 0
IsFound l found image = (found.a ≡ state_of l (copy_a l image)) × (found.b ≡ state_of l (copy_b l image))

-- an answer is right of an image, with the payload in the room
abbrev pub BootedAs : Layout → Booted → List ℕ → List ℕ → Type 0
BootedAs l (Booted.Ready found sequence) payload image = IsFound l found image × (boots l image ≡ Some (sequence, payload))
BootedAs l (Booted.Lost found) payload image = IsFound l found image × (boots l image ≡ None)
BootedAs l Booted.Off payload image = Unit {0}

-- the later sequence of those at which a copy is sound
abbrev pub later_sequence : CopyState → CopyState → Option ℕ
later_sequence (CopyState.Sound m) (CopyState.Sound n) = Some (if nat_lt m n then n else m)
later_sequence (CopyState.Sound m) (CopyState.Bad why) = Some m
later_sequence (CopyState.Bad why) (CopyState.Sound n) = Some n
later_sequence (CopyState.Bad why) (CopyState.Bad other) = None

-- the sequence answered is the later one of what was found
abbrev pub IsLatest : Booted → Type 0
IsLatest (Booted.Ready found sequence) = later_sequence found.a found.b ≡ Some sequence
IsLatest (Booted.Lost found) = Unit {0}
IsLatest Booted.Off = Unit {0}

-- a room has the bytes of both copies of an image
abbrev pub HoldsCopies : Layout → Room → List ℕ → Type 0
HoldsCopies l room image = (room.a.items ≡ copy_a l image) × (room.b.items ≡ copy_b l image)

-- the room has the bytes of both copies, where they were read
abbrev pub BootedCopies : Layout → Booted → Room → List ℕ → Type 0
BootedCopies l (Booted.Ready found sequence) room image = HoldsCopies l room image
BootedCopies l (Booted.Lost found) room image = HoldsCopies l room image
BootedCopies l Booted.Off room image = Unit {0}

-- Off is a failure
abbrev pub outcome : Booted → Result (Unit {0}) (Unit {0})
outcome (Booted.Ready found sequence) = Ok tt
outcome (Booted.Lost found) = Ok tt
outcome Booted.Off = Err tt

-- a sequence with its payload
abbrev pub with_payload : Option ℕ → List ℕ → Option (ℕ × List ℕ)
with_payload None payload = None
with_payload (Some sequence) payload = Some (sequence, payload)
