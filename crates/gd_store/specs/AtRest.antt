-- What alterations at rest make of what an image boots to.
use Rattle.std.specs.Prelude.{◌≡◌, ◌⊎◌, ℕ, true, false, ◌&&◌, List, length, Some}
use Rattle.gd_disk.specs.declared.lengths.TheConstants.{DISK_LEN}
use Rattle.gd_disk.specs.declared.side.Side.{Side}
use Rattle.gd_store.specs.Copy.{boots, copy_at, is_sound, state_of, AreBad, HoldsBoth, IsCopy}
use Rattle.gd_store.specs.Making.{behind_open}
use Rattle.gd_store.specs.Masks.{found_behind, is_altered, is_altered_behind, is_forged, masked, AreWithin, Mask}
use Rattle.gd_store.specs.declared.copy.layout.TheConstants.{LAYOUT}

-- Of a payload in both copies, of which none is forged: it's booted, or both copies are altered and none is sound.
abbrev pub AlteredAtRest : Type 0
AlteredAtRest =
    (masks : List Mask) (image : List ℕ) (n : ℕ) (p : List ℕ)
    → HoldsBoth LAYOUT n p image
    → AreWithin masks
    → length image ≡ DISK_LEN
    → is_forged masks (found_behind LAYOUT (masked LAYOUT masks image)) ≡ false
    → (boots LAYOUT (masked LAYOUT masks image) ≡ Some (n, p))
    ⊎ ((is_altered Side.A masks ≡ true) × (is_altered Side.B masks ≡ true) × AreBad LAYOUT (masked LAYOUT masks image))

-- Masks that alter neither copy leave the image as it was.
abbrev pub Cancelled : Type 0
Cancelled =
    (masks : List Mask) (image : List ℕ)
    → AreWithin masks
    → length image ≡ DISK_LEN
    → is_altered Side.A masks ≡ false
    → is_altered Side.B masks ≡ false
    → masked LAYOUT masks image ≡ image

-- A sound copy that is altered, and isn't forged on its side, isn't sound any more.
abbrev pub AlteredIsBad : Type 0
AlteredIsBad =
    (side : Side) (masks : List Mask) (image : List ℕ) (n : ℕ) (p : List ℕ)
    → IsCopy LAYOUT n p (copy_at LAYOUT side image)
    → AreWithin masks
    → length image ≡ DISK_LEN
    → is_altered side masks ≡ true
    → (is_altered_behind side masks && is_sound (state_of LAYOUT (behind_open (copy_at LAYOUT side (masked LAYOUT masks image))))) ≡ false
    → is_sound (state_of LAYOUT (copy_at LAYOUT side (masked LAYOUT masks image))) ≡ false

-- A copy that isn't altered is byte for byte as it was, whatever is altered of the other.
abbrev pub AlteredAlone : Type 0
AlteredAlone =
    (side : Side) (masks : List Mask) (image : List ℕ)
    → AreWithin masks
    → length image ≡ DISK_LEN
    → is_altered side masks ≡ false
    → copy_at LAYOUT side (masked LAYOUT masks image) ≡ copy_at LAYOUT side image
