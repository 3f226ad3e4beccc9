-- Offers: the calls of the memory in which a cut can come. An offer is an event that is offered, an opening together with
-- its start, or the making of a clearing.
use Rattle.std.specs.Prelude.{ℕ, ◌≡◌, ◌+◌, ◌-◌, ◌==◌, nat_le, ◌<◌, ◌≤◌, Bool, true, false, if◌then◌else◌, List, [], ◌∷◌, Option, None, Some}
use Rattle.gd_disk.specs.declared.disk.CutUnit.{CutUnit}
use Rattle.gd_disk.specs.declared.disk.CutUnit.TheVariants.{Call, Sync}
use Rattle.gd_disk.specs.declared.disk.ArmedCut.{ArmedCut}
use Rattle.gd_top.specs.Run.State.{State}

-- how an offer ended: whole, with the power cut in it, or with the run ending in it
pub data Fate : Type 0 where
  Whole : Fate
  Fell : Fate
  Broke : Fate

-- an offer's fate, and the state after it
pub record Offer (V : Type 0) : Type 0 where
  pub fate : Fate
  pub state : State V

-- An event is committed to both copies. Each has three syncs: its gate is shut, its body written, its gate opened.
abbrev pub syncs_of_event : ℕ
syncs_of_event = 6

-- A making shuts both gates before one sync, and then writes and opens each copy.
abbrev pub syncs_of_making : ℕ
syncs_of_making = 5

-- the list begins with this number
abbrev pub is_head : List ℕ → ℕ → Bool
is_head [] n = false
is_head (m ∷ ms) n = m == n

-- the list without its first number
abbrev pub tail : List ℕ → List ℕ
tail [] = []
tail (m ∷ ms) = ms

-- The power falls in the offer. This uses the first cut up, so that these are left armed.
abbrev pub fallen : {V : Type 0} → List ArmedCut → State V → Offer V
fallen cuts s = record { fate = Fell; state = record s { armed = cuts; fell = s.fell + 1 } }

-- An offer of so many syncs under the first armed cut, by its unit. A cut that counts syncs comes where the offer has as
-- many as it has still to count, or more; else it has as many less to count. In which offers a cut comes that counts calls
-- is told by `falls`, whose numbers rise.
abbrev pub under_unit : {V : Type 0} → CutUnit → ArmedCut → List ArmedCut → ℕ → State V → Offer V
under_unit Sync cut cuts syncs s =
    if nat_le cut.count syncs then fallen cuts s
    else record { fate = Whole; state = record s { armed = record cut { count = cut.count - syncs } ∷ cuts } }
under_unit Call cut cuts syncs s =
    if is_head s.falls s.offers then fallen cuts (record s { falls = tail s.falls })
    else record { fate = Whole; state = s }

-- only the first armed cut counts, and the others wait
abbrev pub under_cuts : {V : Type 0} → List ArmedCut → ℕ → State V → Offer V
under_cuts [] syncs s = record { fate = Whole; state = s }
under_cuts (cut ∷ cuts) syncs s = under_unit cut.unit cut cuts syncs s

-- whether the run is broken off in the offer of this number
abbrev pub is_broken : Option ℕ → ℕ → Bool
is_broken None n = false
is_broken (Some m) n = m == n

-- an offer in which the run is broken off has no cut
abbrev pub unless_broken : {V : Type 0} → Bool → ℕ → State V → Offer V
unless_broken true syncs s = record { fate = Broke; state = s }
unless_broken false syncs s = under_cuts s.armed syncs s

-- one offer more, of so many syncs
abbrev pub counted : {V : Type 0} → ℕ → State V → State V
counted syncs s = record s { offers = s.offers + 1; syncs = s.syncs + syncs }

-- the next offer, of so many syncs
abbrev pub offer : {V : Type 0} → ℕ → State V → Offer V
offer syncs s = unless_broken (is_broken s.broken_at (s.offers + 1)) syncs (counted syncs s)

-- these numbers rise, and the first comes after this one
abbrev pub Rise : ℕ → List ℕ → Type 0
Rise n [] = Unit {0}
Rise n (m ∷ ms) = (n < m) × Rise m ms

-- ================ the cuts of the definition, against those of the laboratory

-- What the first cut has still to count in the laboratory: one that counts syncs as much as the definition says, and one
-- that counts calls at most that.
abbrev pub IsStill : CutUnit → ℕ → ℕ → Type 0
IsStill Sync said now = now ≡ said
IsStill Call said now = now ≤ said

-- the cuts that are armed now are those that the definition says, in order
abbrev pub AreArmed : List ArmedCut → List ArmedCut → Type 0
AreArmed [] now = now ≡ []
AreArmed (cut ∷ later) now = (count : ℕ) × (now ≡ record cut { count = count } ∷ later) × IsStill cut.unit cut.count count
