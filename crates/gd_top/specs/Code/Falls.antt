-- Armed cuts as a part of the code uses them up: what a whole offer leaves of those of the definition, and what a fall adds to the
-- falls that are given back.
use Rattle.std.specs.Prelude.{◌≡◌, ◌≤◌, ◌-◌, ℕ, Bool, true, false, List, [], ◌∷◌, map}
use Rattle.gd_disk.specs.declared.disk.ArmedCut.{ArmedCut}
use Rattle.gd_disk.specs.declared.disk.CutUnit.{CutUnit}
use Rattle.gd_disk.specs.declared.disk.CutUnit.TheVariants.{Call, Sync}

-- a cut that counts syncs has one to count at least
abbrev pub IsWaiting : CutUnit → ℕ → Type 0
IsWaiting Sync count = 1 ≤ count
IsWaiting Call count = Unit {0}

abbrev pub AreWaiting : List ArmedCut → Type 0
AreWaiting [] = Unit {0}
AreWaiting (cut ∷ later) = IsWaiting cut.unit cut.count × AreWaiting later

-- What a whole offer of so many syncs leaves of a first cut: one that counts syncs has as many less to count. One that counts
-- calls is told as it was.
abbrev pub spent_by : CutUnit → ℕ → ArmedCut → ArmedCut
spent_by Sync syncs cut = record cut { count = cut.count - syncs }
spent_by Call syncs cut = cut

-- and of all cuts
abbrev pub spent : ℕ → List ArmedCut → List ArmedCut
spent syncs [] = []
spent syncs (cut ∷ later) = spent_by cut.unit syncs cut ∷ later

-- the falls that are given back of a cut of this unit that came in the offer of this number: only cuts that count calls need it
abbrev pub fall_by : CutUnit → ℕ → List ℕ
fall_by Sync offer = []
fall_by Call offer = offer ∷ []

-- and where the first of these cuts came
abbrev pub fall_of : List ArmedCut → ℕ → List ℕ
fall_of [] offer = []
fall_of (cut ∷ later) offer = fall_by cut.unit offer

-- The code keeps of each armed cut whether it counts calls, in order. So it tells which falls are given back.
abbrev pub counts_calls : CutUnit → Bool
counts_calls Sync = false
counts_calls Call = true

abbrev pub AreCalls : List Bool → List ArmedCut → Type 0
AreCalls calls cuts = calls ≡ map (λ cut. counts_calls cut.unit) cuts

abbrev pub falls_by : List Bool → ℕ → List ℕ
falls_by [] offer = []
falls_by (true ∷ later) offer = offer ∷ []
falls_by (false ∷ later) offer = []
