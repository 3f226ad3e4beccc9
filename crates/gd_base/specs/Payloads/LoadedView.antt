-- What an opening makes of what a payload spells.
use Rattle.std.specs.Prelude.{ℕ, ◌==◌, if◌then◌else◌, Option, Some, None}
use Rattle.gd_base.specs.Judging.Machine.{Machine}
use Rattle.gd_base.specs.Payloads.Spelled.{Spelled, Shows, Foreign, Unreadable}

-- the view of the core that has loaded it: any but a view under the given setup leaves it cleared
abbrev pub view_loaded : {V : Type 0} → Machine V → Spelled V → V
view_loaded M (Shows v) = v
view_loaded M (Foreign kept) = M.empty
view_loaded M Unreadable = M.empty

-- A view whose count isn't the sequence of its copy is none. That of another setup stands, whatever its count.
abbrev pub at_sequence : {V : Type 0} → Machine V → ℕ → Spelled V → Spelled V
at_sequence M sequence (Shows v) = if M.count v == sequence then Shows v else Unreadable
at_sequence M sequence (Foreign kept) = Foreign kept
at_sequence M sequence Unreadable = Unreadable

-- what is found by an opening of a memory that boots to this sequence and payload, or to none
abbrev pub opens : {V : Type 0} → Machine V → Option (ℕ × Spelled V) → Spelled V
opens M None = Unreadable
opens M (Some booted) = at_sequence M booted.0 booted.1
