-- The flags of doors and tilts, which are two fields of a view.
use Rattle.std.specs.Prelude.{Bool, List, slice_set}
use Rattle.gd_base.specs.declared.condition.Door.{Door}
use Rattle.gd_base.specs.declared.condition.Tilt.{Tilt}
use Rattle.gd_base.specs.Histories.Numbers.{door_place, tilt_place}

-- each list is in the order of its enum
pub record Flags : Type 0 where
  pub doors : List Bool  -- which are open
  pub tilts : List Bool  -- which stand

-- a door opened or shut, and every other as it was
abbrev pub with_door : Door → Bool → Flags → Flags
with_door door is_open flags = record flags { doors = slice_set flags.doors (door_place door) is_open }

-- a tilt raised or cleared, and every other as it was
abbrev pub with_tilt : Tilt → Bool → Flags → Flags
with_tilt tilt stands flags = record flags { tilts = slice_set flags.tilts (tilt_place tilt) stands }
