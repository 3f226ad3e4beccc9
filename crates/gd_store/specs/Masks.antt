-- Alterations at rest: what they make of an image, which copies they alter, and when an image that is found is forged.
use Rattle.std.specs.Prelude.{ℕ, ◌<◌, ◌+◌, ◌==◌, Bool, true, false, not, ◌&&◌, ◌||◌, if◌then◌else◌, List, [], ◌∷◌, bit_xor}
use Rattle.std.specs.List.{list_any}
use Rattle.gd_disk.specs.Disk.{with_mask}
use Rattle.gd_disk.specs.declared.lengths.TheConstants.{COPY_LEN}
use Rattle.gd_disk.specs.declared.side.Side.{Side}
use Rattle.gd_store.specs.Copy.{copy_a, copy_b, gate_at, is_sound, state_of}
use Rattle.gd_store.specs.Making.{behind_open}
use Rattle.gd_store.specs.declared.copy.layout.Layout.{Layout}
use Rattle.gd_store.specs.declared.copy.states.Found.{Found}

-- an alteration of a byte within a copy
pub record Mask : Type 0 where
  pub side : Side
  pub place : ℕ
  pub mask : ℕ

-- each lies within its copy
abbrev pub AreWithin : List Mask → Type 0
AreWithin [] = Unit {0}
AreWithin (m ∷ masks) = (m.place < COPY_LEN) × AreWithin masks

-- an image under masks, the newest first
abbrev pub masked : Layout → List Mask → List ℕ → List ℕ
masked l [] image = image
masked l (m ∷ masks) image = with_mask (gate_at l m.side + m.place) m.mask (masked l masks image)

-- ================ altered

abbrev pub is_side : Side → Side → Bool
is_side Side.A Side.A = true
is_side Side.B Side.B = true
is_side _ _ = false

-- all masks on one byte of a copy, combined
abbrev pub combined : Side → ℕ → List Mask → ℕ
combined side place [] = 0
combined side place (m ∷ masks) =
    if is_side m.side side && (m.place == place) then bit_xor m.mask (combined side place masks) else combined side place masks

-- the byte of the copy that a mask is on isn't what it was
abbrev pub is_changed : Side → List Mask → Mask → Bool
is_changed side masks m = is_side m.side side && not (combined side m.place masks == 0)

-- some byte of the copy isn't what it was
abbrev pub is_altered : Side → List Mask → Bool
is_altered side masks = list_any (λ m. is_changed side masks m) masks

-- some byte behind the gate isn't
abbrev pub is_altered_behind : Side → List Mask → Bool
is_altered_behind side masks = list_any (λ m. is_changed side masks m && not (m.place == 0)) masks

-- ================ forged

-- what the two copies of an image would be behind open gates
abbrev pub found_behind : Layout → List ℕ → Found
found_behind l image = record { a = state_of l (behind_open (copy_a l image)); b = state_of l (behind_open (copy_b l image)) }

-- an altered copy differs behind its gate from what stood there, and would be sound with its gate open
abbrev pub is_forged : List Mask → Found → Bool
is_forged masks behind = (is_altered_behind Side.A masks && is_sound behind.a) || (is_altered_behind Side.B masks && is_sound behind.b)
