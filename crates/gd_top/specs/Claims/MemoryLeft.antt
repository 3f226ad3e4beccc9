-- What the memory holds at an end, against what is told.
use Rattle.std.specs.Prelude.{◌≡◌, ◌⊎◌, ℕ, ◌≤◌, true, List, [], ◌∷◌, ◌++◌, length}
use Rattle.gd_base.specs.Judging.Machine.{Machine}
use Rattle.gd_base.specs.Payloads.Spelled.{Spelled, Shows, Foreign, Unreadable}
use Rattle.gd_cabinet.specs.Shown.{shows, ShowsEither, IsInBoth}
use Rattle.gd_disk.specs.Disk.{DiskState, IsSynced}
use Rattle.gd_store.specs.Making.{IsMaking}
use Rattle.gd_store.specs.Masks.{Mask, masked}
use Rattle.gd_store.specs.declared.copy.layout.TheConstants.{LAYOUT}
use Rattle.gd_top.specs.Run.State.{State, is_powered, Flight, Nothing, Recording, Making, Part, Phase, On, Off, Locked, Outcome, Goes, Stops, Differs, Breaks}

-- the syncs of the first making, which is no offer
abbrev pub first_syncs : ℕ
first_syncs = 5

-- where no image that was found is forged, each opening that found a view found one that the order of writing explains, none found a
-- memory of another setup, and each lock has its reason
abbrev pub IsExplained : {V : Type 0} → State V → Type 0
IsExplained s = s.forged ≡ 0 → (s.other_views ≡ 0) × (s.other_locks ≡ 0)

-- both copies had the view when the power was turned off, and since then these masks were put on
pub record IsMasked {V : Type 0} (M : Machine V) (v : V) (masks : List Mask) (image : List ℕ) : Type 0 where
  pub whole : List ℕ
  pub both : IsInBoth M v whole
  pub altered : image ≡ masked LAYOUT masks whole

-- the memory is the image that was found last, byte for byte, and this one shows no view under the given setup
pub record IsShutOver {V : Type 0} (M : Machine V) (shown : Spelled V) (disk : DiskState) : Type 0 where
  pub image : List ℕ
  pub earlier : List (List ℕ)
  pub last : disk.found ≡ earlier ++ image ∷ []
  pub only : (c : List ℕ) → disk.may_find c → c ≡ image
  pub shut : shows M image ≡ shown

-- the memory stands locked
abbrev pub IsShut : {V : Type 0} → Machine V → DiskState → Type 0
IsShut M disk = IsShutOver M Unreadable disk

-- the memory was made under another setup: nothing was written to it, and the power is on
pub record IsOfAnother {V : Type 0} (M : Machine V) (disk : DiskState) : Type 0 where
  pub kept : List ℕ
  pub shut : IsShutOver M (Foreign kept) disk
  pub is_on : disk.is_on ≡ true
  pub synced : IsSynced disk

-- what each image that may be found holds, by the phase
abbrev pub IsLeftIn : {V : Type 0} → Machine V → Phase → V → List Mask → DiskState → Type 0
IsLeftIn M On v masks disk = (image : List ℕ) → disk.may_find image → IsInBoth M v image
IsLeftIn M Off v masks disk = (image : List ℕ) → disk.may_find image → IsMasked M v masks image
IsLeftIn M Locked v masks disk = IsShut M disk

-- nothing waits for a sync: no two images may be found
abbrev pub IsSettled : DiskState → Type 0
IsSettled disk = (c d : List ℕ) → disk.may_find c → disk.may_find d → c ≡ d

-- with the power on, a read gives the one image that may be found; with the power off, there is one
abbrev pub IsAtRest : Phase → DiskState → Type 0
IsAtRest On disk = IsSynced disk
IsAtRest Off disk = IsSettled disk
IsAtRest Locked disk = IsSynced disk

-- the memory that a run leaves where neither the disk nor the sink failed
pub record IsLeft {V : Type 0} (M : Machine V) (s : State V) (disk : DiskState) : Type 0 where
  pub power : disk.is_on ≡ is_powered s.phase
  pub holds : IsLeftIn M s.phase s.view s.masks disk
  pub at_rest : IsAtRest s.phase disk

-- and by how the run ended, where it was not broken off
abbrev pub IsLeftAfter : {V : Type 0} → Machine V → Outcome → State V → DiskState → Type 0
IsLeftAfter M Goes s disk = IsLeft M s disk
IsLeftAfter M Stops s disk = IsLeft M s disk
IsLeftAfter M Differs s disk = IsOfAnother M disk
IsLeftAfter M Breaks s disk = ⊥

-- ================ where the disk or the sink failed

-- the making of an empty memory over a locked image that was found last, or last but one
pub record IsOfMaking {V : Type 0} (M : Machine V) (found : List (List ℕ)) (image : List ℕ) : Type 0 where
  pub old : List ℕ
  pub earlier : List (List ℕ)
  pub later : List (List ℕ)
  pub listed : found ≡ earlier ++ old ∷ later
  pub few : length later ≤ 1
  pub shut : shows M old ≡ Unreadable
  pub payload : List ℕ
  pub empty : M.spelled payload ≡ Shows M.empty
  pub making : IsMaking LAYOUT payload old image

-- an image that may be found shows the view, or the view with what was in flight
abbrev pub IsNear : {V : Type 0} → Machine V → Flight → State V → List (List ℕ) → List ℕ → Type 0
IsNear M Nothing s found image = IsMasked M s.view s.masks image ⊎ ((s.masks ≡ []) × (shows M image ≡ Shows s.view))
IsNear M (Recording e) s found image = ShowsEither M s.view (M.effect s.view e) image
IsNear M Making s found image = IsOfMaking M found image

-- the disk failed
abbrev pub IsLeftBroken : {V : Type 0} → Machine V → State V → DiskState → Type 0
IsLeftBroken M s disk = (image : List ℕ) → disk.may_find image → IsNear M s.flight s disk.found image

-- the sink failed, by how the part is told
abbrev pub IsLeftBy : {V : Type 0} → Machine V → Outcome → State V → DiskState → Type 0
IsLeftBy M Breaks s disk = IsLeftBroken M s disk
IsLeftBy M Goes s disk = IsLeftIn M s.phase s.view s.masks disk
IsLeftBy M Stops s disk = IsLeftIn M s.phase s.view s.masks disk
IsLeftBy M Differs s disk = IsOfAnother M disk

abbrev pub IsLeftAt : {V : Type 0} → Machine V → Part V → DiskState → Type 0
IsLeftAt M t disk = IsLeftBy M t.outcome t.state disk
