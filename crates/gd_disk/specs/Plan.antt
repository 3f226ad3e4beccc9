-- How the calls of a disk in memory are counted, and which of them has its fault.
use Rattle.std.specs.Prelude.{◌≡◌, ◌⊎◌, ℕ, ◌==◌, Bool, false, Option, Some, None}
use Rattle.gd_disk.specs.Disk.{next_count}

-- the call that has a fault, counted from 1 over reads, writes and syncs, and how many of these were made
pub record Plan : Type 0 where
  pub fail_at : Option ℕ
  pub calls : ℕ

-- whether the planned call is this one
abbrev pub is_planned : Option ℕ → ℕ → Bool
is_planned None call = false
is_planned (Some at) call = at == call

-- whether the call that comes next has the fault
abbrev pub is_due : Plan → Bool
is_due plan = is_planned plan.fail_at (next_count plan.calls)

-- one more call was made
abbrev pub next_call : Plan → Plan
next_call plan = record plan { calls = next_count plan.calls }

-- a count stays, or rises by one
abbrev pub RisesOnce : ℕ → ℕ → Type 0
RisesOnce before now = (now ≡ before) ⊎ (now ≡ next_count before)
