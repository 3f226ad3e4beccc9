-- A trial at a moment: what its memory is, what the code has counted, and what the sink took. And what each part of the code
-- relies on and leaves.
use Rattle.std.specs.Prelude.{◌≡◌, ◌⊎◌, ◌≤◌, ◌<◌, ◌+◌, ℕ, Bool, true, false, List, [], ◌∷◌, ◌++◌, length, Option, None, Some, Result, Ok, Err, OnOk, OnErr}
use Rattle.gd_base.specs.Laws.TellsViews.{HasPayload, TellsViews}
use Rattle.gd_base.specs.Outside.Causes.{Rose}
use Rattle.gd_base.specs.Judging.Machine.{Machine, Blocks}
use Rattle.gd_base.specs.Payloads.Spelled.{Shows}
use Rattle.gd_cabinet.specs.Cabinet.{cabinet_core, cabinet_disk, cabinet_draws, cabinet_lap, cabinet_stopped}
use Rattle.gd_cabinet.specs.Shown.{IsInBoth, shows}
use Rattle.gd_cabinet.specs.declared.cabinet.Cabinet.{Cabinet}
use Rattle.gd_cabinet.specs.declared.cabinet.Parts.{Parts}
use Rattle.gd_disk.specs.CutRuns.{IsCompleteRun, IsCutOff, IsFaulted}
use Rattle.gd_disk.specs.Disk.{DiskState, IsSynced, Unchanged}
use Rattle.gd_disk.specs.Runs.{LeavesOnly}
use Rattle.gd_disk.specs.declared.disk.ArmedCut.{ArmedCut}
use Rattle.gd_disk.specs.declared.lengths.TheConstants.{DISK_LEN}
use Rattle.gd_store.specs.Copy.{AreBad}
use Rattle.gd_store.specs.Making.{BootsOver, IsMaking}
use Rattle.gd_store.specs.Masks.{Mask, AreWithin}
use Rattle.gd_store.specs.Writing.{From}
use Rattle.gd_store.specs.declared.copy.layout.TheConstants.{LAYOUT}
use Rattle.gd_top.specs.Claims.MemoryLeft.{IsExplained, IsLeftIn, IsNear, IsOfMaking, IsSettled, first_syncs}
use Rattle.gd_top.specs.Code.Falls.{AreCalls, AreWaiting}
use Rattle.gd_top.specs.Code.Parts.{Outside, Pending, Broken, Differing, Unwritten, CarriesBy}
use Rattle.gd_top.specs.Code.Standing.{Standing, at, only}
use Rattle.gd_top.specs.Run.Offers.{AreArmed, syncs_of_making}
use Rattle.gd_top.specs.Run.Openings.{Wanted, Cleared, locked_with, power_on, resumed, still_wanted}
use Rattle.gd_top.specs.Run.State.{State, Part, Flight, Nothing, Recording, Making, Phase, On, Off, Locked, Stops, ends, is_powered}
use Rattle.gd_top.specs.declared.halt.Halt.{Halt}
use Rattle.gd_top.specs.declared.item.opening.Opened.{Opened}
use Rattle.gd_top.specs.declared.memory.TheConstants.{MOST_POWER_ONS}
use Rattle.gd_top.specs.declared.memory.counts.Counts.{Counts}
use Rattle.gd_top.specs.declared.memory.Memory.{Memory}

-- ================ moments

pub record Moment (V : Type 0) : Type 1 where
  pub machine : Machine V
  pub blocks : Blocks
  pub view : V  -- that of the core
  pub phase : Phase
  pub disk : DiskState
  pub is_stopped : Bool  -- whether a commit of the cabinet has failed
  pub lap : ℕ  -- the lap that the cabinet's blocks are taken from
  pub counts : Counts
  pub taken : Option (List ℕ)  -- by the sink, where it tells
  pub faults : ℕ  -- of the sink
  pub is_trial : Bool

-- open, with the power on
abbrev pub moment_on : {V C D W K : Type 0} {g h i : _} → (C → Machine V) → (C → V) → (D → DiskState) → (W → Blocks) → (K → Option (List ℕ)) → (K → ℕ)
    → Cabinet C D W g h i → Counts → K → Moment V
moment_on meaning view state blocks taken faults cabinet counts sink = record {
  machine = meaning (cabinet_core cabinet);
  blocks = blocks (cabinet_draws cabinet);
  view = view (cabinet_core cabinet);
  phase = On;
  disk = state (cabinet_disk cabinet);
  is_stopped = cabinet_stopped cabinet;
  lap = cabinet_lap cabinet;
  counts = counts;
  taken = taken sink;
  faults = faults sink;
  is_trial = true;
}

-- closed, in this phase
abbrev pub moment_closed : {V C D W K : Type 0} → Phase → (C → Machine V) → (C → V) → (D → DiskState) → (W → Blocks) → (K → Option (List ℕ)) → (K → ℕ)
    → Parts C D W → Counts → K → Moment V
moment_closed phase meaning view state blocks taken faults parts counts sink = record {
  machine = meaning parts.core;
  blocks = blocks parts.draws;
  view = view parts.core;
  phase = phase;
  disk = state parts.disk;
  is_stopped = false;
  lap = 0;
  counts = counts;
  taken = taken sink;
  faults = faults sink;
  is_trial = true;
}

-- what a memory holds, open or closed
abbrev pub memory_core : {C D W : Type 0} {g h i : _} → Memory C D W g h i → C
memory_core (Memory.On cabinet) = cabinet_core cabinet
memory_core (Memory.Off parts) = parts.core
memory_core (Memory.Locked parts) = parts.core

abbrev pub memory_disk : {C D W : Type 0} {g h i : _} → Memory C D W g h i → D
memory_disk (Memory.On cabinet) = cabinet_disk cabinet
memory_disk (Memory.Off parts) = parts.disk
memory_disk (Memory.Locked parts) = parts.disk

abbrev pub memory_draws : {C D W : Type 0} {g h i : _} → Memory C D W g h i → W
memory_draws (Memory.On cabinet) = cabinet_draws cabinet
memory_draws (Memory.Off parts) = parts.draws
memory_draws (Memory.Locked parts) = parts.draws

abbrev pub memory_phase : {C D W : Type 0} {g h i : _} → Memory C D W g h i → Phase
memory_phase (Memory.On cabinet) = On
memory_phase (Memory.Off parts) = Off
memory_phase (Memory.Locked parts) = Locked

abbrev pub memory_stopped : {C D W : Type 0} {g h i : _} → Memory C D W g h i → Bool
memory_stopped (Memory.On cabinet) = cabinet_stopped cabinet
memory_stopped (Memory.Off parts) = false
memory_stopped (Memory.Locked parts) = false

abbrev pub memory_lap : {C D W : Type 0} {g h i : _} → Memory C D W g h i → ℕ
memory_lap (Memory.On cabinet) = cabinet_lap cabinet
memory_lap (Memory.Off parts) = 0
memory_lap (Memory.Locked parts) = 0

abbrev pub moment : {V C D W K : Type 0} {g h i : _} → (C → Machine V) → (C → V) → (D → DiskState) → (W → Blocks) → (K → Option (List ℕ)) → (K → ℕ)
    → Memory C D W g h i → Counts → K → Moment V
moment meaning view state blocks taken faults memory counts sink = record {
  machine = meaning (memory_core memory);
  blocks = blocks (memory_draws memory);
  view = view (memory_core memory);
  phase = memory_phase memory;
  disk = state (memory_disk memory);
  is_stopped = memory_stopped memory;
  lap = memory_lap memory;
  counts = counts;
  taken = taken sink;
  faults = faults sink;
  is_trial = true;
}

-- what the outside has of it
abbrev pub outside : {V : Type 0} → Moment V → Outside
outside m = record { found = m.disk.found; taken = m.taken; falls = m.counts.falls.items; syncs = m.disk.syncs }

-- ================ what the code relies on

-- of what begins with a power-on, a lap or a fall, so many have begun: with the power on there is one more
abbrev pub begun : Phase → ℕ → ℕ
begun On n = n + 1
begun Off n = n
begun Locked n = n + 1

-- what is kept of the armed cuts, and how much room the counts have
pub record AreCounted (k : Counts) (armed : List ArmedCut) : Type 0 where
  pub calls : AreCalls k.calls.items armed
  pub waiting : AreWaiting armed
  pub room : k.power_ons + length armed ≤ MOST_POWER_ONS

-- Between two lines. The code has the digest of the setup. With the memory closed and no cut in a commit, a power-on finds one image.
pub record Sits {V : Type 0} (m : Moment V) : Type 0 where
  pub tells : TellsViews m.machine
  pub given : m.counts.given ≡ m.machine.digest
  pub size : m.disk.size ≡ DISK_LEN
  pub power : m.disk.is_on ≡ is_powered m.phase
  pub runs : m.is_stopped ≡ false
  pub same_lap : m.phase ≡ On → m.lap ≡ m.counts.lap
  pub laps : begun m.phase m.counts.lap ≤ m.counts.power_ons
  pub falls : begun m.phase (length m.counts.falls.items) ≤ m.counts.power_ons
  pub counted : AreCounted m.counts m.disk.armed
  pub settled : m.phase ≡ Off → IsSettled m.disk
  pub synced : m.phase ≡ Locked → IsSynced m.disk

-- What the code knows of the view that is told and of the masks, by the phase. Open, the view is the core's; closed, the core may
-- have another.
abbrev pub IsKnownIn : {V : Type 0} → Phase → (view : V) → List Mask → (core : V) → Type 0
IsKnownIn On view masks core = (view ≡ core) × (masks ≡ [])
IsKnownIn Off view masks core = AreWithin masks
IsKnownIn Locked view masks core = masks ≡ []

-- how the memory stands against what is told, and what its images hold then; where nothing was forged no copy of a locked one is
-- sound
pub record Fits {V : Type 0} (s : Standing V) (m : Moment V) : Type 0 where
  pub phase : s.phase ≡ m.phase
  pub trial : s.is_trial ≡ m.is_trial
  pub known : IsKnownIn m.phase s.view s.masks m.view
  pub lines : s.lines ≡ m.counts.lines
  pub power_ons : s.power_ons ≡ m.counts.power_ons
  pub lap : s.lap ≡ m.counts.lap
  pub offers : s.offers ≡ m.counts.offers
  pub armed : AreArmed s.armed m.disk.armed
  pub spelled : HasPayload m.machine s.view
  pub holds : IsLeftIn m.machine m.phase s.view s.masks m.disk
  pub bad : m.phase ≡ Locked → s.forged ≡ 0 → (image : List ℕ) → m.disk.may_find image → AreBad LAYOUT image
  pub explained : IsExplained (at s (only [] [] None))

-- nothing was counted yet
pub record IsFresh (k : Counts) : Type 0 where
  pub lines : k.lines ≡ 0
  pub power_ons : k.power_ons ≡ 0
  pub lap : k.lap ≡ 0
  pub offers : k.offers ≡ 0
  pub calls : k.calls.items ≡ []
  pub falls : k.falls.items ≡ []

-- ================ between a fall and the opening that follows

-- with the power off, and room for one power-on more
pub record IsDown {V : Type 0} (m : Moment V) : Type 0 where
  pub tells : TellsViews m.machine
  pub given : m.counts.given ≡ m.machine.digest
  pub size : m.disk.size ≡ DISK_LEN
  pub is_off : m.disk.is_on ≡ false
  pub laps : m.counts.lap ≤ m.counts.power_ons
  pub falls : length m.counts.falls.items ≤ m.counts.power_ons
  pub calls : AreCalls m.counts.calls.items m.disk.armed
  pub waiting : AreWaiting m.disk.armed
  pub room : m.counts.power_ons + length m.disk.armed < MOST_POWER_ONS

-- what an image may be then, beside what is told of it: what was altered ended before anything was in flight, and a making over
-- two copies of which none was sound leaves none, or the empty view; it was over the image that was found last, and is one over
-- the last but one where a further image is found
abbrev pub IsFallen : {V : Type 0} → Machine V → Flight → Standing V → List (List ℕ) → List ℕ → Type 0
IsFallen M Nothing s found image = Unit {0}
IsFallen M (Recording e) s found image = s.masks ≡ []
IsFallen M Making s found image =
    (s.masks ≡ []) × (s.forged ≡ 0 → AreBad LAYOUT image ⊎ (shows M image ≡ Shows M.empty)) × ((next : List ℕ) → IsOfMaking M (found ++ next ∷ []) image)

-- how the memory stands then, with this in flight
pub record FitsDown {V : Type 0} (flight : Flight) (s : Standing V) (m : Moment V) : Type 0 where
  pub trial : s.is_trial ≡ m.is_trial
  pub lines : s.lines ≡ m.counts.lines
  pub power_ons : s.power_ons ≡ m.counts.power_ons
  pub lap : s.lap ≡ m.counts.lap
  pub offers : s.offers ≡ m.counts.offers
  pub armed : AreArmed s.armed m.disk.armed
  pub within : AreWithin s.masks
  pub spelled : HasPayload m.machine s.view
  pub near : (image : List ℕ) → m.disk.may_find image → IsNear m.machine flight (at s (only [] [] None)) m.disk.found image
  pub fallen : (image : List ℕ) → m.disk.may_find image → IsFallen m.machine flight s m.disk.found image
  pub explained : IsExplained (at s (only [] [] None))

-- What a standing with the power off has counted is what the code has, whatever is in flight.
pub record Agrees {V : Type 0} (s : Standing V) (m : Moment V) : Type 0 where
  pub trial : s.is_trial ≡ m.is_trial
  pub lines : s.lines ≡ m.counts.lines
  pub power_ons : s.power_ons ≡ m.counts.power_ons
  pub lap : s.lap ≡ m.counts.lap
  pub offers : s.offers ≡ m.counts.offers
  pub armed : AreArmed s.armed m.disk.armed
  pub spelled : HasPayload m.machine s.view

-- a memory that was made
pub record IsMade {V : Type 0} (M : Machine V) (v : V) (old made : DiskState) : Type 0 where
  pub size : made.size ≡ DISK_LEN
  pub spelled : HasPayload M v
  pub both : (image : List ℕ) → made.may_find image → IsInBoth M v image
  pub run : IsCompleteRun syncs_of_making old made
  pub found : made.found ≡ old.found

-- and the power was turned off then
pub record IsMadeOff {V : Type 0} (M : Machine V) (v : V) (old off : DiskState) : Type 0 where
  pub made : IsMade M v old off
  pub is_off : off.is_on ≡ false
  pub settled : IsSettled off

-- an image of a making of this view, over one that might be found before, and what it boots to over one that might be
pub record IsMakingOver {V : Type 0} (M : Machine V) (v : V) (old : DiskState) (image : List ℕ) : Type 0 where
  pub payload : List ℕ
  pub spelled : M.spelled payload ≡ Shows v
  pub before : List ℕ
  pub was_there : old.may_find before
  pub making : IsMaking LAYOUT payload before image
  pub other : List ℕ
  pub also_there : old.may_find other
  pub boots : BootsOver LAYOUT payload other image

-- a making that failed, with the power off: its first cut came, or a fault
pub record IsUnmade {V : Type 0} (M : Machine V) (v : V) (old left : DiskState) : Type 0 where
  pub size : left.size ≡ DISK_LEN
  pub is_off : left.is_on ≡ false
  pub found : left.found ≡ old.found
  pub failed : IsCutOff syncs_of_making old left ⊎ IsFaulted syncs_of_making old left
  pub fewer : left.syncs < old.syncs + first_syncs
  pub near : IsSynced old → (image : List ℕ) → left.may_find image → IsMakingOver M v old image

-- ================ what a part of the code leaves

-- the memory stands after it: neither the disk nor the sink failed, nor was it made under another setup
abbrev pub Serves : Result (Unit {0}) Halt → Type 0
Serves (Ok done) = Unit {0}
Serves (Err Halt.ScriptFault) = Unit {0}
Serves (Err Halt.ReadFault) = Unit {0}
Serves (Err Halt.DiskFault) = ⊥
Serves (Err Halt.WriteFault) = ⊥
Serves (Err Halt.SetupDiffers) = ⊥

-- What holds after a part whatever it was told to do: what the next part relies on, the causes of faults, and what no part changes.
pub record Leaves {V : Type 0} (ended : Result (Unit {0}) Halt) (was now : Moment V) : Type 0 where
  pub sits : Serves ended → Sits now
  pub no_fault : Serves ended → now.disk.faults ≡ was.disk.faults
  pub disk_fault : ended ≡ Err Halt.DiskFault → Rose was.disk.faults now.disk.faults
  pub later : was.faults ≤ now.faults
  pub write_fault : ended ≡ Err Halt.WriteFault → Rose was.faults now.faults
  pub machine : now.machine ≡ was.machine
  pub blocks : (lap index : ℕ) → now.blocks lap index ≡ was.blocks lap index

-- A part did what it is told to do, in each standing that fits.
abbrev pub CarriesOut : {V : Type 0} → (Machine V → Blocks → State V → Part V) → Result (Unit {0}) Halt → (was now : Moment V) → Type 0
CarriesOut {V} tell ended was now = (s : Standing V) → Fits s was
    → (t : Standing V) × (Serves ended → Fits t now) × CarriesBy ended was.machine (tell was.machine was.blocks) s t (outside was) (outside now) now.disk

-- and all that is known of the part; no part of a line reads the input
pub record Does {V : Type 0} (tell : Machine V → Blocks → State V → Part V) (ended : Result (Unit {0}) Halt) (was now : Moment V) : Type 0 where
  pub carried : CarriesOut tell ended was now
  pub leaves : Leaves ended was now
  pub reads_nothing : ended ≡ Err Halt.ReadFault → ⊥

-- ================ what an opening did

-- what is still to be told once the memory stands, open or locked
abbrev pub stands_with : {V : Type 0} → Machine V → Blocks → Phase → Wanted → State V → Part V
stands_with M B On wanted s = resumed M B (power_on M B) wanted s
stands_with M B Locked wanted s = locked_with M (power_on M B) wanted s
stands_with M B Off wanted s = ends Stops [] s

-- What is in flight, and what the line wants: a making and a cleared memory, or neither.
abbrev pub is_of_making : Flight → Bool
is_of_making Nothing = false
is_of_making (Recording e) = false
is_of_making Making = true

abbrev pub IsWantedIn : Bool → Flight → Wanted → Type 0
IsWantedIn true flight wanted = (flight ≡ Making) × (wanted ≡ Cleared)
IsWantedIn false flight wanted = (is_of_making flight ≡ false) × (still_wanted wanted ≡ wanted)

-- by how it ended, with this in flight, and what the line wants
abbrev pub OpensTo : {V : Type 0} → Result Opened Halt → Flight → Wanted → Standing V → (was now : Moment V) → Type 0
OpensTo {V} (Ok Opened.Stands) flight wanted s was now = (t : Standing V) × Fits t now
    × Pending was.machine (power_on was.machine was.blocks flight wanted) (stands_with was.machine was.blocks now.phase wanted) s t (outside was) (outside now)
OpensTo {V} (Ok Opened.Fell) flight wanted s was now = (next : Flight) × (is_of_making next ≡ false) × (t : Standing V) × FitsDown next t now
    × Pending was.machine (power_on was.machine was.blocks flight wanted) (power_on was.machine was.blocks next (still_wanted wanted)) s t (outside was) (outside now)
OpensTo (Err Halt.ScriptFault) flight wanted s was now = ⊥
OpensTo (Err Halt.ReadFault) flight wanted s was now = ⊥
OpensTo (Err Halt.DiskFault) flight wanted s was now = Broken was.machine (power_on was.machine was.blocks flight wanted) s (outside was) (outside now) now.disk
OpensTo (Err Halt.WriteFault) flight wanted s was now = Unwritten was.machine (power_on was.machine was.blocks flight wanted) s (outside was) (outside now) now.disk
OpensTo {V} (Err Halt.SetupDiffers) flight wanted s was now =
    (t : Standing V) × Differing was.machine (power_on was.machine was.blocks flight wanted) s t (outside was) (outside now) now.disk

-- one opening: what it did, what it leaves, and how many offers it made
pub record Opens {V : Type 0} (making : Bool) (ended : Result Opened Halt) (was now : Moment V) : Type 0 where
  pub carried : (flight : Flight) (wanted : Wanted) → IsWantedIn making flight wanted → (s : Standing V) → FitsDown flight s was → OpensTo ended flight wanted s was now
  pub stands : ended ≡ Ok Opened.Stands → Sits now
  pub powered : ended ≡ Ok Opened.Stands → is_powered now.phase ≡ true
  pub fell : ended ≡ Ok Opened.Fell → IsDown now
  pub closed : ended ≡ Ok Opened.Fell → now.phase ≡ Off
  pub fewer : ended ≡ Ok Opened.Fell → length now.disk.armed < length was.disk.armed
  pub no_fault : (kind : Opened) → ended ≡ Ok kind → now.disk.faults ≡ was.disk.faults
  pub disk_fault : ended ≡ Err Halt.DiskFault → Rose was.disk.faults now.disk.faults
  pub later : was.faults ≤ now.faults
  pub write_fault : ended ≡ Err Halt.WriteFault → Rose was.faults now.faults
  pub machine : now.machine ≡ was.machine
  pub blocks : (lap index : ℕ) → now.blocks lap index ≡ was.blocks lap index
  pub no_stop : ended ≡ Err Halt.ScriptFault → ⊥
  pub no_read : ended ≡ Err Halt.ReadFault → ⊥
  pub still : ended ≡ Ok Opened.Stands → length now.disk.armed ≤ length was.disk.armed
  pub another : (kind : Opened) → ended ≡ Ok kind → now.counts.power_ons ≡ was.counts.power_ons + 1
  pub offers : now.counts.offers + was.counts.power_ons ≤ was.counts.offers + now.counts.power_ons
  pub more : was.counts.power_ons ≤ now.counts.power_ons

-- openings one after another, until no cut comes any more
abbrev pub as_opened : Result (Unit {0}) Halt → Result Opened Halt
as_opened (Ok done) = Ok Opened.Stands
as_opened (Err halt) = Err halt

pub record Reopens {V : Type 0} (ended : Result (Unit {0}) Halt) (was now : Moment V) : Type 0 where
  pub carried : (flight : Flight) (wanted : Wanted) → IsWantedIn false flight wanted → (s : Standing V) → FitsDown flight s was → OpensTo (as_opened ended) flight wanted s was now
  pub leaves : Leaves ended was now
  pub powered : ended ≡ Ok tt → is_powered now.phase ≡ true
  pub no_stop : ended ≡ Err Halt.ScriptFault → ⊥
  pub no_read : ended ≡ Err Halt.ReadFault → ⊥
  pub still : ended ≡ Ok tt → length now.disk.armed ≤ length was.disk.armed
  pub another : ended ≡ Ok tt → was.counts.power_ons < now.counts.power_ons
  pub offers : now.counts.offers + was.counts.power_ons ≤ was.counts.offers + now.counts.power_ons
  pub more : was.counts.power_ons ≤ now.counts.power_ons

-- what comes next, unless a text before it could not be given
abbrev pub unless_failed : Result (Unit {0}) Halt → Result Opened Halt → Result Opened Halt
unless_failed (Ok done) next = next
unless_failed (Err halt) next = Err halt

-- the lap after the copies were read: with a making in flight it is raised where the empty memory is found
abbrev pub IsLapFound : {V : Type 0} → Bool → Machine V → DiskState → (old new : ℕ) → Type 0
IsLapFound false M disk old new = new ≡ old
IsLapFound true M disk old new = TellsViews M → (image : List ℕ) → disk.seen ≡ Some image
    → ((shows M image ≡ Shows M.empty) × (new ≡ old + 1)) ⊎ ((shows M image ≡ Shows M.empty → ⊥) × (new ≡ old))

-- the copies were read, or could not be: nothing was written
pub record LeavesDisk {T E : Type 0} (result : Result T E) (old new : DiskState) : Type 0 where
  pub images : LeavesOnly old new (From old Unchanged)
  pub size : new.size ≡ old.size
  pub found : new.found ≡ old.found
  pub armed : new.armed ≡ old.armed
  pub syncs : new.syncs ≡ old.syncs
  pub seen : OnOk result (new.seen ≡ old.seen)
  pub is_on : OnOk result (new.is_on ≡ true)
  pub no_fault : OnOk result (new.faults ≡ old.faults)
  pub fault : OnErr result (Rose old.faults new.faults)
