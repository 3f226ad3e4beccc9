-- The setup under which a command is carried out, and what is taken of its file.
use Rattle.std.specs.Prelude.{◌≡◌, ◌≤◌, ℕ, Bool, true, false, List, length, Option, IfSome}
use Rattle.std.specs.Io.KnownBytes.{Consumes}
use Rattle.gd_base.specs.declared.setup.Setup.{Setup}
use Rattle.gd_base.specs.Setups.BuiltIn.{built_in_setup}
use Rattle.gd_games.specs.File.{IsSetupOf}
use Rattle.gd_top.specs.declared.command.setup.TheConstants.{MOST_TAKEN}

-- The setup that holds: the built-in one where no file is named, and else the one that the file's bytes say. These are the bytes
-- of the source, where it tells them.
abbrev pub IsGiven : (is_named : Bool) → (left : Option (List ℕ)) → Setup → Type 0
IsGiven false left s = s ≡ built_in_setup
IsGiven true left s = (bytes : List ℕ) × IfSome left (λ all. all ≡ bytes) × IsSetupOf bytes s

-- at most so many bytes were taken of it
abbrev pub TookFront : (old new : Option (List ℕ)) → Type 0
TookFront old new = (front : List ℕ) × Consumes old new front × (length front ≤ MOST_TAKEN)
