-- Where nothing can be booted.
use Rattle.std.specs.Prelude.{◌≡◌, ◌≢◌, ℕ, List}
use Rattle.gd_store.specs.Copy.{state_of, stored_payload, copy_a, copy_b}
use Rattle.gd_store.specs.declared.copy.layout.Layout.{Layout}
use Rattle.gd_store.specs.declared.copy.states.CopyState.{CopyState}
use Rattle.gd_store.specs.declared.booting.Booted.{Booted}
use Rattle.gd_store.specs.declared.opening.Opened.{Opened}

-- of two copies in these states, with these payloads: no copy is sound, or both are at one sequence with different payloads
abbrev pub AreLost : CopyState → CopyState → List ℕ → List ℕ → Type 0
AreLost (CopyState.Sound m) (CopyState.Sound n) p q = (m ≡ n) × (p ≢ q)
AreLost (CopyState.Sound m) (CopyState.Bad why) p q = ⊥
AreLost (CopyState.Bad why) (CopyState.Sound n) p q = ⊥
AreLost (CopyState.Bad why) (CopyState.Bad other) p q = Unit {0}

-- of an image
abbrev pub IsLost : Layout → List ℕ → Type 0
IsLost l image = AreLost (state_of l (copy_a l image)) (state_of l (copy_b l image)) (stored_payload l (copy_a l image)) (stored_payload l (copy_b l image))

-- of two states alone: no copy is sound, or both are at one sequence
abbrev pub MayBeLost : CopyState → CopyState → Type 0
MayBeLost (CopyState.Sound m) (CopyState.Sound n) = m ≡ n
MayBeLost (CopyState.Sound m) (CopyState.Bad why) = ⊥
MayBeLost (CopyState.Bad why) (CopyState.Sound n) = ⊥
MayBeLost (CopyState.Bad why) (CopyState.Bad other) = Unit {0}

-- a boot answers Lost where a fact holds, and Ready where it doesn't
abbrev pub IsLostWhere : Booted → Type 0 → Type 0
IsLostWhere (Booted.Ready found sequence) P = P → ⊥
IsLostWhere (Booted.Lost found) P = P
IsLostWhere Booted.Off P = Unit {0}

-- what a boot finds where it answers Lost
abbrev pub LostFinds : Booted → Type 0
LostFinds (Booted.Ready found sequence) = Unit {0}
LostFinds (Booted.Lost found) = MayBeLost found.a found.b
LostFinds Booted.Off = Unit {0}

-- an opening answers Lost where a fact holds, and Ready where it doesn't
abbrev pub OpensLostWhere : {D : Type 0} {g : _} → Opened D g → Type 0 → Type 0
OpensLostWhere (Opened.Ready store found) P = P → ⊥
OpensLostWhere (Opened.Lost found disk room) P = P
OpensLostWhere (Opened.Off disk room) P = Unit {0}
