-- What an image shows when it is opened.
use Rattle.std.specs.Prelude.{◌≡◌, ◌⊎◌, ℕ, List, Option, Some, None}
use Rattle.gd_base.specs.Judging.Machine.{Machine}
use Rattle.gd_base.specs.Payloads.LoadedView.{opens}
use Rattle.gd_base.specs.Payloads.Spelled.{Spelled, Shows}
use Rattle.gd_store.specs.Copy.{boots, HoldsBoth}
use Rattle.gd_store.specs.declared.copy.layout.TheConstants.{LAYOUT}

-- what is booted, with what its payload spells in place of the payload
abbrev pub spelled_boot : {V : Type 0} → Machine V → Option (ℕ × List ℕ) → Option (ℕ × Spelled V)
spelled_boot M None = None
spelled_boot M (Some booted) = Some (booted.0, M.spelled booted.1)

-- the view that an image shows, where it shows one
abbrev pub shows : {V : Type 0} → Machine V → List ℕ → Spelled V
shows M image = opens M (spelled_boot M (boots LAYOUT image))

-- an image shows one of two views
abbrev pub ShowsEither : {V : Type 0} → Machine V → V → V → List ℕ → Type 0
ShowsEither M v w image = (shows M image ≡ Shows v) ⊎ (shows M image ≡ Shows w)

-- both copies of an image hold a payload of this view, at the view's count
pub record IsInBoth {V : Type 0} (M : Machine V) (v : V) (image : List ℕ) : Type 0 where
  pub payload : List ℕ
  pub spelled : M.spelled payload ≡ Shows v
  pub both : HoldsBoth LAYOUT (M.count v) payload image
