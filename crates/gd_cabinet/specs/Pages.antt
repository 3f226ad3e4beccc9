-- The pages of a memory: which an event writes, and which is checked after another.
use Rattle.std.specs.Prelude.{◌≡◌, ℕ, ◌+◌, ◌==◌, if◌then◌else◌, List, Result, OnOk}
use Rattle.gd_base.specs.Judging.Machine.{Machine}
use Rattle.gd_base.specs.Payloads.Spelled.{Shows}
use Rattle.gd_disk.specs.Disk.{DiskState}
use Rattle.gd_disk.specs.Runs.{LeavesOnly}
use Rattle.gd_disk.specs.declared.lengths.TheConstants.{PAGE_COUNT}
use Rattle.gd_store.specs.Changes.{PagesStand}
use Rattle.gd_store.specs.declared.copy.layout.TheConstants.{LAYOUT}

-- A payload that spells a view is written over the kept one: each page at which the two don't differ stands in both copies
-- of every image meanwhile, and where that succeeds the payload is the kept one.
pub record WritesChanges {T E V : Type 0} (M : Machine V) (v : V) (kept after : List ℕ) (result : Result T E) (old new : DiskState) : Type 0 where
  pub payload : List ℕ
  pub spelled : M.spelled payload ≡ Shows v
  pub stand : LeavesOnly old new (PagesStand LAYOUT kept payload)
  pub is_kept : OnOk result (after ≡ payload)

-- the page that comes after another: the first one after the last
abbrev pub next_page : ℕ → ℕ
next_page page = if page + 1 == PAGE_COUNT then 0 else page + 1
