-- Items that alter nothing, and states and parts of a trial in which nothing is altered.
use Rattle.std.specs.Prelude.{ℕ, ◌≡◌, ◌≤◌, ◌+◌, Bool, true, false, [], length}
use Rattle.gd_script.specs.Items.{is_cut}
use Rattle.gd_script.specs.declared.item.Item.{Item}
use Rattle.gd_top.specs.Run.Items.{at_limit}
use Rattle.gd_top.specs.Run.State.{State, Part, is_powered, Locked, Goes, Stops, Differs}

-- an event, or a cut that is armed
abbrev pub is_calm_item : Item → Bool
is_calm_item (Item.Event event) = true
is_calm_item (Item.OrderEvent kind order) = true
is_calm_item (Item.Cut unit count torn) = true
is_calm_item _ = false

-- how many cuts an item arms
abbrev pub cuts_armed : Item → ℕ
cuts_armed (Item.Cut unit count torn) = 1
cuts_armed _ = 0

-- the one reason why such an item is a script fault: it is a cut, and no line may lead to a further power-on
abbrev pub IsBeyondLimit : {V : Type 0} → Item → State V → Type 0
IsBeyondLimit item s = (is_cut item ≡ true) × (at_limit s ≡ true)

-- a trial in which nothing was altered, and no image found was forged; where it is locked, a lock without a reason was counted
pub record IsCalm {V : Type 0} (s : State V) : Type 0 where
  pub masks : s.masks ≡ []
  pub forged : s.forged ≡ 0
  pub trial : s.is_trial ≡ true
  pub locked : s.phase ≡ Locked → 1 ≤ s.other_locks

-- What a part of such a trial leaves. The power-ons that were made and those that the armed cuts may still lead to are at most so
-- many more than before. Where it is a script fault, this is why.
pub record IsCalmPart {V : Type 0} (more : ℕ) (Fault : Type 0) (s : State V) (t : Part V) : Type 0 where
  pub calm : IsCalm t.state
  pub powered : t.outcome ≡ Goes → is_powered t.state.phase ≡ true
  pub differs : t.outcome ≡ Differs → 1 ≤ t.state.other_views
  pub stops : t.outcome ≡ Stops → Fault
  pub power_ons : t.state.power_ons + length t.state.armed ≤ s.power_ons + length s.armed + more
  pub views : s.other_views ≤ t.state.other_views
  pub locks : s.other_locks ≤ t.state.other_locks
