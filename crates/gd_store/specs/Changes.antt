-- The pages at which two payloads differ, and what a writing of these alone leaves.
use Rattle.std.specs.Prelude.{Bool, false, not, ◌≡◌, ℕ, ◌+◌, ◌*◌, ◌<◌, List, length, slice_index_or}
use Rattle.std.specs.Str.{bytes_eq}
use Rattle.gd_disk.specs.Disk.{Torn}
use Rattle.gd_disk.specs.declared.lengths.TheConstants.{PAGE_LEN}
use Rattle.gd_store.specs.Copy.{copy_a, copy_b, page, part, stored_payload}
use Rattle.gd_store.specs.declared.copy.layout.Layout.{Layout}

-- two payloads differ at page i
abbrev pub differ : ℕ → List ℕ → List ℕ → Bool
differ i old new = not (bytes_eq (page i old) (page i new))

-- an image has the pages that haven't changed, in a row of pages from a place on
abbrev pub ArePagesAt : ℕ → List Bool → List ℕ → List ℕ → Type 0
ArePagesAt at changed payload image =
    (i : ℕ) → i < length changed → slice_index_or changed i false ≡ false → part (at + PAGE_LEN * i) PAGE_LEN image ≡ page i payload

-- while a page is written that may have changed: all else stands, and it too where it hasn't
pub record IsOverPage (is_changed : Bool) (at n : ℕ) (old new : List ℕ) : Type 0 where
  pub elsewhere : Torn at n old new
  pub stands : is_changed ≡ false → new ≡ old

-- while a range is written that has a row of pages from its place `first` on: all else stands, and each page that hasn't changed
pub record KeepsPages (at n first : ℕ) (changed : List Bool) (old new : List ℕ) : Type 0 where
  pub elsewhere : Torn at n old new
  pub stands : (i : ℕ) → i < length changed → slice_index_or changed i false ≡ false → part (first + PAGE_LEN * i) PAGE_LEN new ≡ part (first + PAGE_LEN * i) PAGE_LEN old

-- each page at which two payloads don't differ stands in both copies
abbrev pub PagesStand : Layout → List ℕ → List ℕ → List ℕ → Type 0
PagesStand l old new image =
    (i : ℕ) → i < l.pages → differ i old new ≡ false
    → (page i (stored_payload l (copy_a l image)) ≡ page i old) × (page i (stored_payload l (copy_b l image)) ≡ page i old)
