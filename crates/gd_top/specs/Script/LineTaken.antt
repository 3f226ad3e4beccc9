-- What taking the next byte and the next line do to the bytes that are left. `old` and `new` are the bytes left before and after.
use Rattle.std.specs.Prelude.{ℕ, ◌≡◌, ◌≢◌, ◌⊎◌, true, false, Bool, List, [], ◌∷◌, ◌++◌, length, option_to_list, Result, Ok, Err, Option}
use Rattle.std.specs.Io.KnownBytes.{Consumes, IsAtEnd}
use Rattle.gd_script.specs.declared.limits.TheConstants.{LINE_LEN}
use Rattle.gd_top.specs.declared.halt.Halt.{Halt}

-- a byte, or none at the end; where the source failed, nothing was taken
abbrev pub TakesByte : Option (List ℕ) → Option (List ℕ) → Result (Option ℕ) Halt → Type 0
TakesByte old new (Ok byte) = Consumes old new (option_to_list byte)
TakesByte old new (Err Halt.ReadFault) = Consumes old new []
TakesByte old new (Err _) = ⊥

-- a line's 121st byte came, which isn't its LF
abbrev pub IsTooLong : Option (List ℕ) → Option (List ℕ) → List ℕ → Type 0
IsTooLong old new line = (b : ℕ) × (b ≢ 10) × (length line ≡ LINE_LEN) × Consumes old new (line ++ b ∷ [])

-- the input ended behind a line's first byte
abbrev pub IsUnended : Option (List ℕ) → Option (List ℕ) → List ℕ → Type 0
IsUnended old new line = (line ≢ []) × Consumes old new line × IsAtEnd new

-- the line is what came of it
abbrev pub TakesLine : Option (List ℕ) → Option (List ℕ) → List ℕ → Result Bool Halt → Type 0
TakesLine old new line (Ok true) = Consumes old new (line ++ 10 ∷ [])
TakesLine old new line (Ok false) = (line ≡ []) × Consumes old new line × IsAtEnd new
TakesLine old new line (Err Halt.ScriptFault) = IsTooLong old new line ⊎ IsUnended old new line
TakesLine old new line (Err Halt.ReadFault) = Consumes old new line
TakesLine old new line (Err Halt.DiskFault) = ⊥
TakesLine old new line (Err Halt.WriteFault) = ⊥
TakesLine old new line (Err Halt.SetupDiffers) = ⊥

-- the end, or a byte where none is allowed
abbrev pub TakesEnd : Option (List ℕ) → Option (List ℕ) → Result (Unit {0}) Halt → Type 0
TakesEnd old new (Ok done) = Consumes old new [] × IsAtEnd new
TakesEnd old new (Err Halt.ScriptFault) = (b : ℕ) × Consumes old new (b ∷ [])
TakesEnd old new (Err Halt.ReadFault) = Consumes old new []
TakesEnd old new (Err Halt.DiskFault) = ⊥
TakesEnd old new (Err Halt.WriteFault) = ⊥
TakesEnd old new (Err Halt.SetupDiffers) = ⊥
