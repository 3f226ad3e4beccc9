-- How far the lines of a script have come, and how they ended. What lines tell is a parameter: lines alone, or a whole run.
use Rattle.std.specs.Prelude.{ℕ, ◌≡◌, ◌⊎◌, ◌<◌, ◌+◌, List, [], ◌∷◌, ◌++◌, IfSome, Option, Result, Ok, Err}
use Rattle.std.specs.Io.KnownBytes.{Consumes, IsAtEnd}
use Rattle.gd_base.specs.Judging.Machine.{Machine, Blocks}
use Rattle.gd_disk.specs.Disk.{DiskState}
use Rattle.gd_script.specs.declared.item.Item.{Item}
use Rattle.gd_top.specs.Claims.MemoryLeft.{first_syncs}
use Rattle.gd_top.specs.Code.Memory.{Moment, Fits, Serves, outside}
use Rattle.gd_top.specs.Code.Parts.{Outside, Carries, Broken, Differing, Unwritten}
use Rattle.gd_top.specs.Code.Standing.{Standing, first_standing}
use Rattle.gd_top.specs.Run.Items.{line_meaning, lines_meaning}
use Rattle.gd_top.specs.Run.Life.{run_meaning}
use Rattle.gd_top.specs.Run.Openings.{Done, power_on}
use Rattle.gd_top.specs.Run.State.{State, Nothing, Part, Outcome, Goes, Stops}
use Rattle.gd_top.specs.Script.Lines.{pieces_of, script_of, whole_lines, ShowsNoFault}
use Rattle.gd_top.specs.declared.halt.Halt.{Halt}

-- what lines tell
abbrev pub Telling : Type 0 → Type 0
Telling V = List (Option Item) → State V → Part V

-- The bytes that came were lines, all of them whole, and these lines were carried out. `left` and `rest` are the bytes
-- that the input had at first and has now.
pub record LinesSoFar {V : Type 0} (M : Machine V) (tell : Telling V) (was stands : Standing V) (old new : Outside) (left rest : Option (List ℕ)) : Type 0 where
  pub came : List ℕ
  pub consumed : Consumes left rest came
  pub whole : (pieces_of came).rest ≡ []
  pub carried : Carries M (tell (whole_lines came)) Goes was stands old new

-- a script, which is that of the source where it tells one
pub record ScriptOf (left : Option (List ℕ)) : Type 0 where
  pub script : List ℕ
  pub of_source : IfSome left (λ bytes. bytes ≡ script)

-- a whole script was carried out, or the lines before its first faulty one
pub record CarriedScript {V : Type 0} (M : Machine V) (tell : Telling V) (outcome : Outcome) (was stands : Standing V) (old new : Outside) (left : Option (List ℕ)) : Type 0 where
  pub source : ScriptOf left
  pub carried : Carries M (tell (script_of source.script)) outcome was stands old new

-- All the lines whose LF was taken were carried out, and a script goes on behind them. What was taken behind them shows no fault.
pub record CarriedTaken {V : Type 0} (M : Machine V) (tell : Telling V) (was stands : Standing V) (old new : Outside) (left rest : Option (List ℕ)) : Type 0 where
  pub came : List ℕ
  pub consumed : Consumes left rest came
  pub begins : (more : List ℕ) → (others : List (Option Item)) × (script_of (came ++ more) ≡ whole_lines came ++ others)
  pub faultless : ShowsNoFault came stands.lines
  pub carried : Carries M (tell (whole_lines came)) Goes was stands old new

-- a whole script was carried out, up to where a memory of another setup was found
pub record DifferingIn {V : Type 0} (M : Machine V) (tell : Telling V) (was stands : Standing V) (old new : Outside) (disk : DiskState) (left : Option (List ℕ)) : Type 0 where
  pub source : ScriptOf left
  pub differing : Differing M (tell (script_of source.script)) was stands old new disk

-- The first lines of a script were carried out, in the last of which the disk failed.
pub record BrokenIn {V : Type 0} (M : Machine V) (tell : Telling V) (was : Standing V) (old new : Outside) (disk : DiskState) (left : Option (List ℕ)) : Type 0 where
  pub source : ScriptOf left
  pub lines : List (Option Item)
  pub begins : (others : List (Option Item)) × (script_of source.script ≡ lines ++ others)
  pub broken : Broken M (tell lines) was old new disk

-- The lines of a script before one were carried out, and all that they print was written. Of what this one prints a front was
-- written.
pub record UnwrittenIn {V : Type 0} (M : Machine V) (B : Blocks) (tell : Telling V) (was : Standing V) (old new : Outside) (disk : DiskState) (left : Option (List ℕ)) : Type 0 where
  pub source : ScriptOf left
  pub earlier : List (Option Item)
  pub line : Option Item
  pub begins : (others : List (Option Item)) × (script_of source.script ≡ (earlier ++ line ∷ []) ++ others)
  pub stands : Standing V
  pub between : Outside
  pub carried : Carries M (tell earlier) Goes was stands old between
  pub unwritten : Unwritten M (line_meaning M B line) stands between new disk

-- what was done to the lines, by how they ended
abbrev pub DoneBy : {V : Type 0} → Machine V → Blocks → Telling V → Result (Unit {0}) Halt → (was stands : Standing V) → (old new : Outside) → DiskState → (left rest : Option (List ℕ)) → Type 0
DoneBy M B tell (Ok done) was stands old new disk left rest = CarriedScript M tell Goes was stands old new left × IsAtEnd rest
DoneBy M B tell (Err Halt.ScriptFault) was stands old new disk left rest = CarriedScript M tell Stops was stands old new left
DoneBy M B tell (Err Halt.ReadFault) was stands old new disk left rest = CarriedTaken M tell was stands old new left rest
DoneBy M B tell (Err Halt.DiskFault) was stands old new disk left rest = BrokenIn M tell was old new disk left
DoneBy M B tell (Err Halt.WriteFault) was stands old new disk left rest = UnwrittenIn M B tell was old new disk left
DoneBy M B tell (Err Halt.SetupDiffers) was stands old new disk left rest = DifferingIn M tell was stands old new disk left

-- the lines, once the memory is open, in each standing that fits
abbrev pub LinesDone : {V : Type 0} → Result (Unit {0}) Halt → (was now : Moment V) → (left rest : Option (List ℕ)) → Type 0
LinesDone {V} ended was now left rest = (s : Standing V) → Fits s was
    → (t : Standing V) × (Serves ended → Fits t now)
    × DoneBy was.machine was.blocks (lines_meaning was.machine was.blocks) ended s t (outside was) (outside now) now.disk left rest

-- the first opening and the lines: the sink may have failed in the lines that the opening prints
abbrev pub RunBy : {V : Type 0} → Machine V → Blocks → Result (Unit {0}) Halt → (was stands : Standing V) → (old new : Outside) → DiskState → (left rest : Option (List ℕ)) → Type 0
RunBy M B (Err Halt.WriteFault) was stands old new disk left rest =
    Unwritten M (power_on M B Nothing Done) was old new disk ⊎ UnwrittenIn M B (run_meaning M B) was old new disk left
RunBy M B ended was stands old new disk left rest = DoneBy M B (run_meaning M B) ended was stands old new disk left rest

-- ================ a whole run

-- the outside before the first opening, once a memory was made
abbrev pub made_outside : {V : Type 0} → Moment V → Outside
made_outside was = record { found = []; taken = was.taken; falls = []; syncs = was.disk.syncs + first_syncs }

-- The disk failed before the first opening of a run: nothing was found, and nothing printed. What else is known of the disk then is
-- a parameter.
pub record EndedBefore {V : Type 0} (Left : Type 0) (ended : Result (Unit {0}) Halt) (was now : Moment V) : Type 0 where
  pub fault : ended ≡ Err Halt.DiskFault
  pub found : now.disk.found ≡ []
  pub left : Left
  pub armed : now.disk.armed ≡ []
  pub falls : now.counts.falls.items ≡ []
  pub printed : now.taken ≡ was.taken

-- the making of the memory failed
abbrev pub IsFailedMaking : {V : Type 0} → Result (Unit {0}) Halt → (was now : Moment V) → Type 0
IsFailedMaking ended was now = EndedBefore (now.disk.syncs < was.disk.syncs + first_syncs) ended was now

-- a whole run
abbrev pub RunDone : {V : Type 0} → Result (Unit {0}) Halt → (was now : Moment V) → (left rest : Option (List ℕ)) → Type 0
RunDone {V} ended was now left rest = IsFailedMaking ended was now
    ⊎ ((t : Standing V) × (Serves ended → Fits t now)
    × RunBy was.machine was.blocks ended (first_standing was.machine) t (made_outside was) (outside now) now.disk left rest)
