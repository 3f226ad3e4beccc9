-- The repair that an opening makes.
use Rattle.std.specs.Prelude.{◌≡◌, ℕ, ◌==◌, Bool, false, List, Some}
use Rattle.gd_store.specs.Copy.{copy_a, copy_b, boots, found_in}
use Rattle.gd_store.specs.Booting.{IsFound}
use Rattle.gd_store.specs.Repair.{repair_needed, syncs_of_repair}
use Rattle.gd_store.specs.declared.copy.layout.Layout.{Layout}
use Rattle.gd_store.specs.declared.copy.states.CopyState.{CopyState}
use Rattle.gd_store.specs.declared.copy.states.Found.{Found}

-- sound at this sequence
abbrev pub is_sound_at : CopyState → ℕ → Bool
is_sound_at (CopyState.Sound n) sequence = n == sequence
is_sound_at (CopyState.Bad why) sequence = false

-- both copies were read, and this is booted
pub record IsRead (l : Layout) (found : Found) (sequence : ℕ) (payload a b image : List ℕ) : Type 0 where
  pub states : IsFound l found image
  pub booted : boots l image ≡ Some (sequence, payload)
  pub copy_a : a ≡ copy_a l image
  pub copy_b : b ≡ copy_b l image

-- how many syncs the repair of an image makes: none where it is lost
abbrev pub repairs_of : Layout → List ℕ → ℕ
repairs_of l image = syncs_of_repair (repair_needed (found_in l image))
