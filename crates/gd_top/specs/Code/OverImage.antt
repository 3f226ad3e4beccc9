-- A run over an image at a moment, as a trial's: its disk as a laboratory's, and what each part of the code did then.
--
-- What is said of an image is said where each state of the disk tells what a read gives. Of any other disk it is said what the next
-- part relies on, and why a part ended.
use Rattle.std.specs.Prelude.{◌≡◌, ◌⊎◌, ◌≤◌, ℕ, true, false, List, [], ◌∷◌, ◌++◌, length, Option, Some, Result, Ok, Err}
use Rattle.gd_base.specs.Judging.Machine.{Machine, Blocks}
use Rattle.gd_base.specs.Laws.TellsViews.{TellsViews}
use Rattle.gd_base.specs.Outside.Causes.{Rose}
use Rattle.gd_base.specs.Payloads.LoadedView.{view_loaded}
use Rattle.gd_disk.specs.declared.lengths.TheConstants.{DISK_LEN}
use Rattle.gd_top.specs.Claims.ImageRuns.{WasOpened, as_lab}
use Rattle.gd_top.specs.Code.LinesDone.{EndedBefore, LinesDone, RunBy}
use Rattle.gd_top.specs.Code.Memory.{Agrees, Moment, Does, Fits, Leaves, OpensTo, Serves, Sits, as_opened, outside}
use Rattle.gd_top.specs.Code.Standing.{Standing, first_standing}
use Rattle.gd_top.specs.Run.Openings.{Done}
use Rattle.gd_top.specs.Run.State.{State, Part, Phase, On, Off, Locked, Nothing, is_powered}
use Rattle.gd_cabinet.specs.Shown.{shows}
use Rattle.gd_base.specs.Payloads.Spelled.{Shows, Unreadable}
use Rattle.gd_top.specs.declared.halt.Halt.{Halt}

-- with these images opened so far
abbrev pub over : {V : Type 0} → List (List ℕ) → Moment V → Moment V
over images m = record m { disk = as_lab images m.disk; is_trial = false }

-- ================ between two lines

-- what was opened, by the phase: with the power on over a locked image, this one alone
abbrev pub AreOpenedIn : {V : Type 0} → Machine V → List ℕ → Phase → List (List ℕ) → Type 0
AreOpenedIn M image On images = WasOpened M image images
AreOpenedIn M image Off images = ⊥
AreOpenedIn M image Locked images = images ≡ image ∷ []

pub record Stands {V : Type 0} (image : List ℕ) (images : List (List ℕ)) (m : Moment V) : Type 0 where
  pub opened : AreOpenedIn m.machine image m.phase images
  pub as_many : m.counts.power_ons ≡ length images
  pub falls : m.counts.falls.items ≡ []
  pub sits : Sits (over images m)

-- over any disk
pub record Rests {V : Type 0} (m : Moment V) : Type 0 where
  pub size : m.disk.size ≡ DISK_LEN
  pub powered : is_powered m.phase ≡ true
  pub runs : m.is_stopped ≡ false

-- what holds after a part over any disk
pub record Ends {V : Type 0} (ended : Result (Unit {0}) Halt) (was now : Moment V) : Type 0 where
  pub rests : Serves ended → Rests now
  pub no_stop : Serves ended → now.disk.stops ≡ was.disk.stops
  pub disk_fault : ended ≡ Err Halt.DiskFault → Rose was.disk.stops now.disk.stops
  pub later : was.faults ≤ now.faults
  pub write_fault : ended ≡ Err Halt.WriteFault → Rose was.faults now.faults
  pub machine : now.machine ≡ was.machine
  pub blocks : (lap index : ℕ) → now.blocks lap index ≡ was.blocks lap index
  pub falls : now.counts.falls.items ≡ was.counts.falls.items

-- A part did what it is told to do.
pub record DoesOver {V : Type 0} (told : Type 0) (tell : Machine V → Blocks → State V → Part V) (ended : Result (Unit {0}) Halt) (was now : Moment V) : Type 0 where
  pub does : told → (image : List ℕ) (images : List (List ℕ)) → Stands image images was
      → (later : List (List ℕ)) × WasOpened was.machine image later × (Serves ended → Stands image later now) × Does tell ended (over images was) (over later now)
  pub ends : Ends ended was now
  pub reads_nothing : ended ≡ Err Halt.ReadFault → ⊥

-- ---- the lines, once the image is open
abbrev pub LinesOver : {V : Type 0} → (told : Type 0) → Result (Unit {0}) Halt → (was now : Moment V) → (left rest : Option (List ℕ)) → Type 0
LinesOver told ended was now left rest = told → (image : List ℕ) (images : List (List ℕ)) → Stands image images was
    → (later : List (List ℕ)) × WasOpened was.machine image later × (Serves ended → Stands image later now) × LinesDone ended (over images was) (over later now) left rest × Leaves ended (over images was) (over later now)

-- ================ an opening

-- why the run ends here, unless the sink failed before
abbrev pub unless_given : Result (Unit {0}) Halt → Halt → Result (Unit {0}) Halt
unless_given (Ok done) halt = Err halt
unless_given (Err failed) halt = Err failed

-- What is known before an opening, of which this image is to be found: nothing was altered, and the standing has the view that it
-- shows. Where nothing is forged it shows one.
pub record Awaits {V : Type 0} (image : List ℕ) (images : List (List ℕ)) (s : Standing V) (m : Moment V) : Type 0 where
  pub agrees : Agrees s (over images m)
  pub masks : s.masks ≡ []
  pub view : (v : V) → shows m.machine image ≡ Shows v → v ≡ s.view
  pub known : s.forged ≡ 0 → shows m.machine image ≡ Shows s.view
  pub explained : s.forged ≡ 0 → (s.other_views ≡ 0) × (s.other_locks ≡ 0)

-- and of the counts
pub record IsUnopened {V : Type 0} (images : List (List ℕ)) (m : Moment V) : Type 0 where
  pub tells : TellsViews m.machine
  pub given : m.counts.given ≡ m.machine.digest
  pub laps : m.counts.lap ≤ m.counts.power_ons
  pub as_many : m.counts.power_ons ≡ length images
  pub few : length images ≤ 1
  pub calls : m.counts.calls.items ≡ []
  pub falls : m.counts.falls.items ≡ []

-- the copies could not be read
pub record IsUnread {V : Type 0} (ended : Result (Unit {0}) Halt) (was now : Moment V) : Type 0 where
  pub fault : ended ≡ Err Halt.DiskFault
  pub still : (c : List ℕ) → now.disk.may_find c → was.disk.may_find c
  pub taken : now.taken ≡ was.taken
  pub falls : now.counts.falls.items ≡ was.counts.falls.items

-- one opening
pub record OpensOver {V : Type 0} (told : Type 0) (ended : Result (Unit {0}) Halt) (was now : Moment V) : Type 0 where
  pub carried : told → (image : List ℕ) (images : List (List ℕ)) → IsUnopened images was → was.disk.seen ≡ Some image
      → IsUnread ended was now ⊎ ((s : Standing V) → Awaits image images s was → OpensTo (as_opened ended) Nothing Done s (over images was) (over (images ++ image ∷ []) now))
  pub sits : told → (image : List ℕ) (images : List (List ℕ)) → IsUnopened images was → was.disk.seen ≡ Some image → ended ≡ Ok tt → Sits (over (images ++ image ∷ []) now)
  pub locked : told → (image : List ℕ) → was.disk.seen ≡ Some image → ended ≡ Ok tt → now.phase ≡ Locked → shows was.machine image ≡ Unreadable
  pub ends : Ends ended was now
  pub no_stop : ended ≡ Err Halt.ScriptFault → ⊥
  pub no_read : ended ≡ Err Halt.ReadFault → ⊥

-- ================ a whole run

-- before the opening of an image
abbrev pub first_over : {V : Type 0} → Machine V → List ℕ → Standing V
first_over M image = let v = view_loaded M (shows M image) in record (first_standing M) { view = v; opening = v; forged = 1; is_trial = false }

-- the opening and the lines
abbrev pub RunOver : {V : Type 0} → (told : Type 0) → Result (Unit {0}) Halt → (was now : Moment V) → (left rest : Option (List ℕ)) → Type 0
RunOver {V} told ended was now left rest = told → (image : List ℕ) → was.disk.seen ≡ Some image
    → (later : List (List ℕ)) × WasOpened was.machine image later × (Serves ended → Stands image later now)
    × (EndedBefore ((c : List ℕ) → now.disk.may_find c → was.disk.may_find c) ended (over [] was) (over later now)
    ⊎ ((t : Standing V) × (Serves ended → Fits t (over later now))
    × RunBy was.machine was.blocks ended (first_over was.machine image) t (outside (over [] was)) (outside (over later now)) (over later now).disk left rest))
