-- How many good reads a reading of two copies, or of their gates, makes.
use Rattle.std.specs.Prelude.{◌≡◌, ◌⊎◌, ℕ}
use Rattle.gd_disk.specs.Disk.{next_count}

-- both were read
abbrev pub HasReadBoth : ℕ → ℕ → Type 0
HasReadBoth before now = now ≡ next_count (next_count before)

-- none was, or one
abbrev pub HasReadFewer : ℕ → ℕ → Type 0
HasReadFewer before now = (now ≡ before) ⊎ (now ≡ next_count before)

-- at most both were
abbrev pub HasReadSome : ℕ → ℕ → Type 0
HasReadSome before now = HasReadFewer before now ⊎ HasReadBoth before now
