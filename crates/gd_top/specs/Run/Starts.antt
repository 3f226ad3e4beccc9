-- What the power-ons find.
use Rattle.std.specs.Prelude.{ℕ, List, map}
use Rattle.gd_base.specs.Judging.Machine.{Machine}
use Rattle.gd_cabinet.specs.Shown.{spelled_boot}
use Rattle.gd_store.specs.Copy.{boots, found_in}
use Rattle.gd_store.specs.Masks.{found_behind}
use Rattle.gd_store.specs.declared.copy.layout.TheConstants.{LAYOUT}
use Rattle.gd_top.specs.Run.State.{Start}

-- what a power-on finds in an image
abbrev pub start_in : {V : Type 0} → Machine V → List ℕ → Start V
start_in M image = record { found = found_in LAYOUT image; behind = found_behind LAYOUT image; boots = spelled_boot M (boots LAYOUT image) }

-- image by image
abbrev pub starts_in : {V : Type 0} → Machine V → List (List ℕ) → List (Start V)
starts_in M images = map (start_in M) images
