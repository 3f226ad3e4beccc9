-- What a soak prints and leaves, by its status.
use Rattle.std.specs.Prelude.{◌≡◌, ◌⊎◌, ℕ, List, codes, map, Option, None, Some}
use Rattle.std.specs.List.{range_with_len}
use Rattle.gd_base.specs.Judging.Machine.{Machine, Blocks}
use Rattle.gd_disk.specs.Disk.{DiskState}
use Rattle.gd_script.specs.Generated.{generated}
use Rattle.gd_script.specs.declared.item.Item.{Item}
use Rattle.gd_top.specs.Claims.MemoryLeft.{IsLeftBroken}
use Rattle.gd_top.specs.Claims.Runs.{Outer, FirstLines, IsUnmade, IsWhole, trial_beginning}
use Rattle.gd_top.specs.Run.Life.{soak_line, trial_meaning}
use Rattle.gd_top.specs.Run.Starts.{starts_in}
use Rattle.gd_top.specs.Run.State.{Part, On, Goes, Breaks}
use Rattle.gd_top.specs.declared.status.Status.{Status}

-- the items as lines, in order
abbrev pub soak_lines : (count seed : ℕ) → List (Option Item)
soak_lines count seed = map (λ k. Some (generated seed k)) (range_with_len 0 count)

-- a soak reads no input, and nothing of the run itself is printed
abbrev pub alone : DiskState → Outer
alone disk = record { left = None; read_faults = 0; taken = None; write_faults = 0; disk = disk }

-- all items were carried out, and the memory is open
pub record SoakedThrough {V : Type 0} (M : Machine V) (B : Blocks) (count seed : ℕ) (falls : List ℕ) (old new : DiskState) : Type 0 where
  pub run : Part V
  pub is_run : run ≡ trial_meaning M B (soak_lines count seed) falls (starts_in M new.found) None
  pub goes : run.outcome ≡ Goes
  pub on : run.state.phase ≡ On
  pub whole : IsWhole (trial_beginning M) M B run (alone old) (alone new)

-- the disk failed, in one of the items or before the first
pub record SoakBroke {V : Type 0} (M : Machine V) (B : Blocks) (count seed : ℕ) (falls : List ℕ) (old new : DiskState) : Type 0 where
  pub first : FirstLines (trial_beginning M) M B (soak_lines count seed) falls (alone old) (alone new)
  pub breaks : first.run.outcome ≡ Breaks
  pub left : IsUnmade (alone old) (alone new) ⊎ IsLeftBroken M first.run.state new

-- a soak ends with one of these, and the text that is told with it: no item is a script fault, and the memory is found neither
-- locked nor of another setup
abbrev pub SoakDid : {V : Type 0} → Machine V → Blocks → (count seed : ℕ) → List ℕ → (old new : DiskState) → Status → List ℕ → Type 0
SoakDid M B count seed falls old new Status.Done text = (s : SoakedThrough M B count seed falls old new) × (text ≡ soak_line M count s.run.state)
SoakDid M B count seed falls old new Status.DiskFault text = (text ≡ codes "disk fault\n") × SoakBroke M B count seed falls old new
SoakDid M B count seed falls old new _ text = ⊥
