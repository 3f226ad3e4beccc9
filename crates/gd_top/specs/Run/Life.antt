-- A whole run: its report, its status and what it leaves.
use Rattle.std.specs.Prelude.{ℕ, ◌+◌, Bool, true, false, List, [], ◌∷◌, ◌++◌, codes, decimal, Option, Some}
use Rattle.gd_base.specs.declared.step.What.{What}
use Rattle.gd_base.specs.Judging.Machine.{Machine, Blocks}
use Rattle.gd_base.specs.Payloads.LoadedView.{opens, view_loaded}
use Rattle.gd_base.specs.Payloads.Spelled.{Shows}
use Rattle.gd_script.specs.declared.item.Item.{Item}
use Rattle.gd_store.specs.declared.copy.states.CopyState.{CopyState}
use Rattle.gd_top.specs.declared.status.Status.{Status}
use Rattle.gd_top.specs.Report.Lines.{totals_line}
use Rattle.gd_top.specs.Run.Items.{lines_meaning}
use Rattle.gd_top.specs.Run.Openings.{Done, power_on}
use Rattle.gd_top.specs.Run.State.{Nothing, Start, State, Part, Phase, On, Off, Locked, Outcome, Goes, Stops, Differs, Breaks, followed_by, over}

-- before the first power-on, over the empty history
abbrev pub unopened : {V : Type 0} → Machine V → Bool → List ℕ → List (Start V) → Option ℕ → State V
unopened M is_trial falls starts broken_at = record {
  view = M.empty;
  opening = M.empty;
  history = [];
  lap = 0;
  phase = Off;
  lines = 0;
  power_ons = 0;
  armed = [];
  offers = 0;
  syncs = 0;
  fell = 0;
  masks = [];
  forged = 0;
  other_views = 0;
  other_locks = 0;
  flight = Nothing;
  falls = falls;
  starts = starts;
  broken_at = broken_at;
  is_trial = is_trial;
}

-- before the first power-on of a trial: the empty history
abbrev pub of_trial : {V : Type 0} → Machine V → List ℕ → List (Start V) → Option ℕ → State V
of_trial M falls starts broken_at = unopened M true falls starts broken_at

-- Before the opening of an image: the view that it shows, or the empty one where it shows none. Nothing is known of how the image
-- came to be, so it counts as forged.
abbrev pub over_image : {V : Type 0} → Machine V → Start V → List ℕ → List (Start V) → Option ℕ → State V
over_image M image falls starts broken_at = record (over (view_loaded M (opens M image.boots)) (unopened M false falls starts broken_at)) { forged = 1 }

-- the opening, and then the lines
abbrev pub run_meaning : {V : Type 0} → Machine V → Blocks → List (Option Item) → State V → Part V
run_meaning M blocks lines s = followed_by (power_on M blocks Nothing Done s) (λ u. lines_meaning M blocks lines u)

-- what a trial prints and leaves, once its first memory was made
abbrev pub trial_meaning : {V : Type 0} → Machine V → Blocks → List (Option Item) → List ℕ → List (Start V) → Option ℕ → Part V
trial_meaning M blocks lines falls starts broken_at = run_meaning M blocks lines (of_trial M falls starts broken_at)

-- In a run over an image the power stays on, so that at most one memory is cleared; in the one that is made both copies are sound
-- at 0.
abbrev pub made_memory : {V : Type 0} → Machine V → Start V
made_memory M = record { found = record { a = CopyState.Sound 0; b = CopyState.Sound 0 }; behind = record { a = CopyState.Sound 0; b = CopyState.Sound 0 }; boots = Some (0, Shows M.empty) }

abbrev pub image_meaning : {V : Type 0} → Machine V → Blocks → List (Option Item) → Start V → Option ℕ → Part V
image_meaning M blocks lines image broken_at = run_meaning M blocks lines (over_image M image [] (image ∷ made_memory M ∷ []) broken_at)

-- ================ the end

-- the last line, where the input was read to its end
abbrev pub end_line : {V : Type 0} → Machine V → Phase → V → List ℕ
end_line M On v = codes "end at " ++ decimal (M.count v) ++ codes " credit " ++ decimal (M.credit v) ++ codes "\n"
end_line M Off v = codes "end off\n"
end_line M Locked v = codes "end locked\n"

-- and the status then
abbrev pub end_status : Phase → Status
end_status On = Status.Done
end_status Off = Status.Done
end_status Locked = Status.Locked

-- the last line, by how the lines ended; that of a setup that differs was printed by the opening
abbrev pub last_line : {V : Type 0} → Machine V → Outcome → State V → List ℕ
last_line M Goes s = end_line M s.phase s.view
last_line M Stops s = codes "line " ++ decimal (s.lines + 1) ++ codes "\n"
last_line M Differs s = []
last_line M Breaks s = codes "disk fault\n"

-- the status, by how the lines ended
abbrev pub status_of : {V : Type 0} → Outcome → State V → Status
status_of Goes s = end_status s.phase
status_of Stops s = Status.ScriptFault
status_of Differs s = Status.SetupDiffers
status_of Breaks s = Status.DiskFault

-- the whole report, with its last line
abbrev pub report_of : {V : Type 0} → Machine V → Part V → List ℕ
report_of M t = t.report ++ last_line M t.outcome t.state

-- the report at a read fault, the lines that were taken whole having been carried out
abbrev pub report_at_read_fault : {V : Type 0} → Part V → List ℕ
report_at_read_fault t = t.report ++ codes "read fault\n"

-- a soak prints its summary alone, of so many items and power-ons, over the view at the end
abbrev pub soak_summary : {V : Type 0} → Machine V → (items power_ons : ℕ) → V → List ℕ
soak_summary M items power_ons v = totals_line items (M.count v) power_ons (M.credit v) ++ M.text What.Meters v

abbrev pub soak_line : {V : Type 0} → Machine V → ℕ → State V → List ℕ
soak_line M items s = soak_summary M items s.power_ons s.view
