-- How a run stands between two parts: a state of the definition without what is still to come. The code knows the view, the
-- phase and the counts of a standing. The rest is known to the definition alone.
use Rattle.std.specs.Prelude.{◌≡◌, ℕ, ◌≤◌, Bool, true, false, List, [], ◌++◌, Option}
use Rattle.gd_base.specs.Histories.Entry.{Entry}
use Rattle.gd_base.specs.Judging.Machine.{Machine}
use Rattle.gd_disk.specs.declared.disk.ArmedCut.{ArmedCut}
use Rattle.gd_store.specs.Masks.{Mask}
use Rattle.gd_top.specs.Run.Offers.{is_broken}
use Rattle.gd_top.specs.Run.State.{Start, State, Phase, Off, Nothing}

-- all of a state but what is still to come
pub record Standing (V : Type 0) : Type 0 where
  pub view : V
  pub opening : V
  pub history : List Entry
  pub lap : ℕ
  pub phase : Phase
  pub lines : ℕ
  pub power_ons : ℕ
  pub armed : List ArmedCut
  pub offers : ℕ
  pub syncs : ℕ
  pub fell : ℕ
  pub masks : List Mask
  pub forged : ℕ
  pub other_views : ℕ
  pub other_locks : ℕ
  pub is_trial : Bool

-- what is still to come: what the power-ons find, the offers in which cuts that count calls come, and the offer in which the run
-- ends, where it ends in one
pub record Later (V : Type 0) : Type 0 where
  pub starts : List (Start V)
  pub falls : List ℕ
  pub broken_at : Option ℕ

abbrev pub at : {V : Type 0} → Standing V → Later V → State V
at s x = record {
  view = s.view;
  opening = s.opening;
  history = s.history;
  lap = s.lap;
  phase = s.phase;
  lines = s.lines;
  power_ons = s.power_ons;
  armed = s.armed;
  offers = s.offers;
  syncs = s.syncs;
  fell = s.fell;
  masks = s.masks;
  forged = s.forged;
  other_views = s.other_views;
  other_locks = s.other_locks;
  flight = Nothing;
  falls = x.falls;
  starts = x.starts;
  broken_at = x.broken_at;
  is_trial = s.is_trial;
}

-- before what comes later
abbrev pub finds : {V : Type 0} → List (Start V) → List ℕ → Later V → Later V
finds starts falls x = record { starts = starts ++ x.starts; falls = falls ++ x.falls; broken_at = x.broken_at }

-- nothing comes later
abbrev pub only : {V : Type 0} → List (Start V) → List ℕ → Option ℕ → Later V
only starts falls broken_at = record { starts = starts; falls = falls; broken_at = broken_at }

-- the run doesn't end in the first n offers
abbrev pub EndsInNone : Option ℕ → ℕ → Type 0
EndsInNone broken_at n = (m : ℕ) → m ≤ n → is_broken broken_at m ≡ false

-- before the first power-on
abbrev pub first_standing : {V : Type 0} → Machine V → Standing V
first_standing M = record {
  view = M.empty;
  opening = M.empty;
  history = [];
  lap = 0;
  phase = Off;
  lines = 0;
  power_ons = 0;
  armed = [];
  offers = 0;
  syncs = 0;
  fell = 0;
  masks = [];
  forged = 0;
  other_views = 0;
  other_locks = 0;
  is_trial = true;
}
