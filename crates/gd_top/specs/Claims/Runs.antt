-- What a whole run wrote and left, by its status. Each fact speaks of what is told, on one side, and on the other of what the
-- sink took, of what the disk found and counted, and of the images that may be found. How the run begins is a parameter.
use Rattle.std.specs.Prelude.{◌≡◌, ◌⊎◌, ◌≤◌, ◌<◌, ℕ, ◌+◌, List, [], ◌∷◌, ◌++◌, length, codes, decimal, Option, None, IfSome, Result, Ok, Err}
use Rattle.std.specs.Io.KnownBytes.{Appends, Consumes, IsAtEnd}
use Rattle.gd_base.specs.Outside.Causes.{AppendsFront, Rose}
use Rattle.gd_base.specs.Judging.Machine.{Machine, Blocks}
use Rattle.gd_disk.specs.Disk.{DiskState}
use Rattle.gd_script.specs.declared.item.Item.{Item}
use Rattle.gd_top.specs.Claims.MemoryLeft.{IsExplained, IsLeftAfter, IsLeftAt, IsLeftBroken, first_syncs}
use Rattle.gd_top.specs.Claims.OneHistory.{HasLegalHistory}
use Rattle.gd_top.specs.Run.Life.{of_trial, run_meaning, report_of, report_at_read_fault, status_of, end_line, end_status, last_line}
use Rattle.gd_top.specs.Run.Offers.{AreArmed}
use Rattle.gd_top.specs.Run.Starts.{starts_in}
use Rattle.gd_top.specs.Run.State.{Start, State, Part, Phase, Goes, Breaks}
use Rattle.gd_top.specs.Script.Lines.{script_of, whole_lines, ShowsNoFault}
use Rattle.gd_top.specs.declared.halt.Halt.{Halt}
use Rattle.gd_top.specs.declared.status.Status.{Status}

-- what stands outside of a run at a moment: the input, the sink and the disk
pub record Outer : Type 1 where
  pub left : Option (List ℕ)  -- the bytes that the input has, where it tells them
  pub read_faults : ℕ
  pub taken : Option (List ℕ)  -- the bytes that the sink took, where it tells them
  pub write_faults : ℕ
  pub disk : DiskState

abbrev pub outer : {S K L : Type 0} → (S → Option (List ℕ)) → (S → ℕ) → (K → Option (List ℕ)) → (K → ℕ) → (L → DiskState) → S → K → L → Outer
outer left read_faults taken write_faults state input output lab =
    record { left = left input; read_faults = read_faults input; taken = taken output; write_faults = write_faults output; disk = state lab }

-- ================ how a run begins

-- How a run begins: the state before its first power-on, over the falls and the starts that are still to come and the offer in
-- which the run is broken off, where it is; how many syncs were made before that; and what is said of the memory where the run
-- ended before its first opening.
pub record Beginning (V : Type 0) : Type 1 where
  pub state : List ℕ → List (Start V) → Option ℕ → State V
  pub syncs : ℕ
  pub IsUnopened : (was now : Outer) → Type 0

-- the making of the first memory failed: of what it left nothing is said
abbrev pub IsUnmade : (was now : Outer) → Type 0
IsUnmade was now = (now.disk.found ≡ []) × (now.disk.syncs < was.disk.syncs + first_syncs)

-- a trial and a soak, over a memory that they make
abbrev pub trial_beginning : {V : Type 0} → Machine V → Beginning V
trial_beginning M = record { state = of_trial M; syncs = first_syncs; IsUnopened = IsUnmade }

-- ================ a run that neither the disk nor the sink ended

-- All that was found and all falls are used up, the cuts are those that are told, and without a fall the syncs are those of the
-- beginning and of the offers. The history is legal, and the memory is left as it is told.
pub record IsWhole {V : Type 0} (begin : Beginning V) (M : Machine V) (B : Blocks) (run : Part V) (was now : Outer) : Type 0 where
  pub legal : HasLegalHistory M B run.state
  pub used_up : (run.state.starts ≡ []) × (run.state.falls ≡ [])
  pub armed : AreArmed run.state.armed now.disk.armed
  pub synced : run.state.fell ≡ 0 → now.disk.syncs ≡ was.disk.syncs + begin.syncs + run.state.syncs
  pub explained : IsExplained run.state
  pub left : IsLeftAfter M run.outcome run.state now.disk

-- 0, 6, 7 and 11: the whole report of a script was written, with its last line, and the run is told to end with this status. The
-- script is that of the source, where it tells one.
pub record WroteReport {V : Type 0} (begin : Beginning V) (M : Machine V) (B : Blocks) (status : Status) (falls : List ℕ) (was now : Outer) : Type 0 where
  pub script : List ℕ
  pub of_source : IfSome was.left (λ bytes. bytes ≡ script)
  pub run : Part V
  pub is_run : run ≡ run_meaning M B (script_of script) (begin.state falls (starts_in M now.disk.found) None)
  pub ended : status_of run.outcome run.state ≡ status
  pub written : Appends was.taken now.taken (report_of M run)
  pub whole : IsWhole begin M B run was now

-- 3: the source failed. The lines whose LF was taken were carried out, whatever stands behind them, and what was taken shows no
-- script fault.
pub record WroteToFault {V : Type 0} (begin : Beginning V) (M : Machine V) (B : Blocks) (falls : List ℕ) (was now : Outer) : Type 0 where
  pub came : List ℕ
  pub consumed : Consumes was.left now.left came
  pub begins : (more : List ℕ) → (others : List (Option Item)) × (script_of (came ++ more) ≡ whole_lines came ++ others)
  pub run : Part V
  pub is_run : run ≡ run_meaning M B (whole_lines came) (begin.state falls (starts_in M now.disk.found) None)
  pub goes : run.outcome ≡ Goes
  pub faultless : ShowsNoFault came run.state.lines
  pub written : Appends was.taken now.taken (report_at_read_fault run)
  pub whole : IsWhole begin M B run was now

-- ================ a run that the disk or the sink ended

-- A run of the first of these lines, over all that was found, or all but the image that was found last. It may end in an offer,
-- or where no start is left.
pub record FirstLines {V : Type 0} (begin : Beginning V) (M : Machine V) (B : Blocks) (all : List (Option Item)) (falls : List ℕ) (was now : Outer) : Type 0 where
  pub lines : List (Option Item)
  pub begins : (others : List (Option Item)) × (all ≡ lines ++ others)
  pub starts : List (Start V)
  pub unread : List (Start V)
  pub of_found : starts_in M now.disk.found ≡ starts ++ unread
  pub few : length unread ≤ 1
  pub ends_at : Option ℕ
  pub run : Part V
  pub is_run : run ≡ run_meaning M B lines (begin.state falls starts ends_at)
  pub legal : HasLegalHistory M B run.state
  pub used_up : (run.state.starts ≡ []) × (run.state.falls ≡ [])
  pub armed : length now.disk.armed ≡ length run.state.armed
  pub explained : IsExplained run.state

-- 5: the disk failed. What is told up to there was written.
pub record WroteBroken {V : Type 0} (begin : Beginning V) (M : Machine V) (B : Blocks) (falls : List ℕ) (was now : Outer) : Type 0 where
  pub script : List ℕ
  pub of_source : IfSome was.left (λ bytes. bytes ≡ script)
  pub first : FirstLines begin M B (script_of script) falls was now
  pub breaks : first.run.outcome ≡ Breaks
  pub written : Appends was.taken now.taken (report_of M first.run)
  pub left : begin.IsUnopened was now ⊎ IsLeftBroken M first.run.state now.disk

-- Whether a run may have begun to write this last line: that of all the lines, one that tells a fault of the disk where its count
-- rose, or one that tells a fault of the source where its count rose.
abbrev pub IsLastLine : {V : Type 0} (begin : Beginning V) (M : Machine V) (B : Blocks) {all : List (Option Item)} {falls : List ℕ} {was now : Outer}
    → FirstLines begin M B all falls was now → List ℕ → Type 0
IsLastLine begin M B {all = all} {was = was} {now = now} first text =
    ((text ≡ last_line M first.run.outcome first.run.state) × (first.run.outcome ≡ Breaks → ⊥) × (all ≡ first.lines))
    ⊎ (((text ≡ codes "disk fault\n") × (first.run.outcome ≡ Breaks) × Rose was.disk.faults now.disk.faults)
    ⊎ ((text ≡ codes "read fault\n") × (first.run.outcome ≡ Goes) × Rose was.read_faults now.read_faults))

-- What was written where the sink failed: all that the run prints and a front of its last line, or a front of what the run prints.
-- All that is told before the last of these lines was written.
abbrev pub WroteSome : {V : Type 0} (begin : Beginning V) (M : Machine V) (B : Blocks) {all : List (Option Item)} {falls : List ℕ} {was now : Outer}
    → FirstLines begin M B all falls was now → Type 0
WroteSome begin M B {falls = falls} {was = was} {now = now} first =
    ((text : List ℕ) × IsLastLine begin M B first text × (part : List ℕ) × Appends was.taken now.taken (first.run.report ++ part) × (rest : List ℕ) × (part ++ rest ≡ text))
    ⊎ (AppendsFront was.taken now.taken first.run.report
    × ((first.lines ≡ [])
    ⊎ ((earlier : List (Option Item)) × (line : Option Item) × (first.lines ≡ earlier ++ line ∷ [])
    × (part : List ℕ) × Appends was.taken now.taken ((run_meaning M B earlier (begin.state falls first.starts first.ends_at)).report ++ part))))

-- 4: the sink failed
pub record WroteFront {V : Type 0} (begin : Beginning V) (M : Machine V) (B : Blocks) (falls : List ℕ) (was now : Outer) : Type 0 where
  pub script : List ℕ
  pub of_source : IfSome was.left (λ bytes. bytes ≡ script)
  pub first : FirstLines begin M B (script_of script) falls was now
  pub written : WroteSome begin M B first
  pub left : begin.IsUnopened was now ⊎ IsLeftAt M first.run now.disk

-- ================ by the status

-- a run ends with one of these
abbrev pub RunTold : {V : Type 0} → Beginning V → Machine V → Blocks → Status → List ℕ → (was now : Outer) → Type 0
RunTold begin M B Status.Done falls was now = WroteReport begin M B Status.Done falls was now × IsAtEnd now.left
RunTold begin M B Status.ScriptFault falls was now = WroteReport begin M B Status.ScriptFault falls was now
RunTold begin M B Status.Locked falls was now = WroteReport begin M B Status.Locked falls was now × IsAtEnd now.left
RunTold begin M B Status.SetupDiffers falls was now = WroteReport begin M B Status.SetupDiffers falls was now
RunTold begin M B Status.ReadFault falls was now = WroteToFault begin M B falls was now
RunTold begin M B Status.DiskFault falls was now = WroteBroken begin M B falls was now
RunTold begin M B Status.WriteFault falls was now = WroteFront begin M B falls was now
RunTold begin M B _ falls was now = ⊥

-- a trial ends so
abbrev pub TrialDone : {V : Type 0} → Machine V → Blocks → Status → List ℕ → (was now : Outer) → Type 0
TrialDone M B status falls was now = RunTold (trial_beginning M) M B status falls was now

-- a status has its cause: a count of what failed rose
pub record HasCauses (status : Status) (was now : Outer) : Type 0 where
  pub read : status ≡ Status.ReadFault → Rose was.read_faults now.read_faults
  pub write : status ≡ Status.WriteFault → Rose was.write_faults now.write_faults
  pub disk : status ≡ Status.DiskFault → Rose was.disk.faults now.disk.faults

-- ================ the last line

-- the status of a run that ended before the end of its input
abbrev pub halt_status : Halt → Status
halt_status Halt.ScriptFault = Status.ScriptFault
halt_status Halt.ReadFault = Status.ReadFault
halt_status Halt.DiskFault = Status.DiskFault
halt_status Halt.WriteFault = Status.WriteFault
halt_status Halt.SetupDiffers = Status.SetupDiffers

abbrev pub status_after : Result (Unit {0}) Halt → Phase → Status
status_after (Ok done) phase = end_status phase
status_after (Err halt) phase = halt_status halt

-- by how the run ended, with so many lines carried out; where the sink failed there is none, and that of a setup that differs was
-- printed by the opening
abbrev pub last_text : {V : Type 0} → Machine V → Result (Unit {0}) Halt → Phase → V → ℕ → List ℕ
last_text M (Ok done) phase v lines = end_line M phase v
last_text M (Err Halt.ScriptFault) phase v lines = codes "line " ++ decimal (lines + 1) ++ codes "\n"
last_text M (Err Halt.ReadFault) phase v lines = codes "read fault\n"
last_text M (Err Halt.DiskFault) phase v lines = codes "disk fault\n"
last_text M (Err Halt.WriteFault) phase v lines = []
last_text M (Err Halt.SetupDiffers) phase v lines = []

-- the last line was given whole, or else a front of it
abbrev pub GivesLast : (status result : Status) → (taken given : Option (List ℕ)) → List ℕ → Type 0
GivesLast status result taken given text =
    ((result ≡ status) × Appends taken given text) ⊎ ((result ≡ Status.WriteFault) × AppendsFront taken given text)

-- ================ the statuses of a run

-- a call over a core that is there ends with one of these
abbrev pub IsCarried : Status → Type 0
IsCarried Status.Done = Unit {0}
IsCarried Status.ReadFault = Unit {0}
IsCarried Status.WriteFault = Unit {0}
IsCarried Status.DiskFault = Unit {0}
IsCarried Status.ScriptFault = Unit {0}
IsCarried Status.Locked = Unit {0}
IsCarried Status.SetupDiffers = Unit {0}
IsCarried _ = ⊥

-- a run that no fault of the outside ended ends with one of these
abbrev pub IsEnd : Status → Type 0
IsEnd Status.Done = Unit {0}
IsEnd Status.ScriptFault = Unit {0}
IsEnd Status.Locked = Unit {0}
IsEnd Status.SetupDiffers = Unit {0}
IsEnd _ = ⊥

-- how the definition says that a run of this script ends, over what was found and what fell
abbrev pub status_meant : {V : Type 0} → Beginning V → Machine V → Blocks → (script falls : List ℕ) → DiskState → Status
status_meant begin M B script falls disk =
    let run = run_meaning M B (script_of script) (begin.state falls (starts_in M disk.found) None) in status_of run.outcome run.state

-- Where no fault of the outside came: the status that is told, one of these.
abbrev pub CarriesAsTold : {V : Type 0} → Beginning V → Machine V → Blocks → Status → List ℕ → (was now : Outer) → Type 0
CarriesAsTold begin M B status falls was now =
    IsEnd status × (script : List ℕ) × IfSome was.left (λ bytes. bytes ≡ script) × (status ≡ status_meant begin M B script falls now.disk)
