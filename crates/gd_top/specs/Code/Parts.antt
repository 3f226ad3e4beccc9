-- What a part of the code did, against what the definition tells: over all that was found and all that fell, whatever comes later.
use Rattle.std.specs.Prelude.{◌≡◌, ℕ, ◌+◌, ◌≤◌, List, [], ◌++◌, length, Option, None, Result, Ok, Err}
use Rattle.std.specs.Io.KnownBytes.{Appends}
use Rattle.gd_base.specs.Outside.Causes.{AppendsFront}
use Rattle.gd_base.specs.Judging.Machine.{Machine}
use Rattle.gd_disk.specs.Disk.{DiskState}
use Rattle.gd_top.specs.Claims.MemoryLeft.{IsExplained, IsLeftAt, IsLeftBroken, IsOfAnother}
use Rattle.gd_top.specs.Code.Standing.{Standing, Later, at, finds, only, EndsInNone}
use Rattle.gd_top.specs.Run.Offers.{AreArmed, Rise}
use Rattle.gd_top.specs.Run.Starts.{starts_in}
use Rattle.gd_top.specs.Run.State.{Start, State, Part, Outcome, Goes, Stops, Differs, Breaks, before}
use Rattle.gd_top.specs.declared.halt.Halt.{Halt}

-- what the outside has of a run: the images that the power-ons found, what the sink took, the falls that are given back, and how
-- many syncs succeeded
pub record Outside : Type 0 where
  pub found : List (List ℕ)
  pub taken : Option (List ℕ)
  pub falls : List ℕ
  pub syncs : ℕ

-- how the counts of a part go
pub record Moves {V : Type 0} (was stands : Standing V) (old new : Outside) (fell : List ℕ) : Type 0 where
  pub offers : was.offers ≤ stands.offers
  pub falls : was.fell ≤ stands.fell
  pub rising : (later : List ℕ) → Rise stands.offers later → Rise was.offers (fell ++ later)
  pub synced : stands.fell ≡ was.fell → new.syncs + was.syncs ≡ old.syncs + stands.syncs

-- what was printed, and then what is still to be told, is what is told
pub record Pending {V : Type 0} (M : Machine V) (tell rest : State V → Part V) (was stands : Standing V) (old new : Outside) : Type 0 where
  pub since : List (List ℕ)
  pub listed : new.found ≡ old.found ++ since
  pub fell : List ℕ
  pub fallen : new.falls ≡ old.falls ++ fell
  pub report : List ℕ
  pub printed : Appends old.taken new.taken report
  pub moves : Moves was stands old new fell
  pub tells : (x : Later V) → EndsInNone x.broken_at stands.offers → Rise stands.offers x.falls
      → tell (at was (finds (starts_in M since) fell x)) ≡ before report (rest (at stands x))

-- nothing is still to be told
abbrev pub Carries : {V : Type 0} → Machine V → (State V → Part V) → Outcome → (was stands : Standing V) → (old new : Outside) → Type 0
Carries M tell outcome was stands old new = Pending M tell (λ s. record { report = []; state = s; outcome = outcome }) was stands old new

-- The memory that was found was made under another setup: what was printed is what is told, up to the end of the run. What is
-- known of the standing then.
pub record Differing {V : Type 0} (M : Machine V) (tell : State V → Part V) (was stands : Standing V) (old new : Outside) (disk : DiskState) : Type 0 where
  pub carried : Carries M tell Differs was stands old new
  pub armed : AreArmed stands.armed disk.armed
  pub explained : IsExplained (at stands (only [] [] None))
  pub left : IsOfAnother M disk

-- the images that a part found, of which it read all, or all but the last
pub record FoundSince {V : Type 0} (M : Machine V) (old new : List (List ℕ)) : Type 0 where
  pub since : List (List ℕ)
  pub listed : new ≡ old ++ since
  pub used : List (Start V)
  pub unread : List (Start V)
  pub read : starts_in M since ≡ used ++ unread
  pub few : length unread ≤ 1

-- The run ended in a part, in an offer or where no start was left: over what was found and fell, the part is told so.
pub record Ending {V : Type 0} (M : Machine V) (tell : State V → Part V) (was : Standing V) (old new : Outside) : Type 0 where
  pub found : FoundSince M old.found new.found
  pub fell : List ℕ
  pub fallen : new.falls ≡ old.falls ++ fell
  pub rising : Rise was.offers fell
  pub broken_at : Option ℕ
  pub late : EndsInNone broken_at was.offers
  pub end : Part V
  pub tells : tell (at was (only found.used fell broken_at)) ≡ end
  pub used_up : (end.state.starts ≡ []) × (end.state.falls ≡ [])
  pub explained : IsExplained end.state

-- The disk failed: what was printed is what is told up to there.
pub record Broken {V : Type 0} (M : Machine V) (tell : State V → Part V) (was : Standing V) (old new : Outside) (disk : DiskState) : Type 0 where
  pub ending : Ending M tell was old new
  pub breaks : ending.end.outcome ≡ Breaks
  pub printed : Appends old.taken new.taken ending.end.report
  pub armed : length disk.armed ≡ length ending.end.state.armed
  pub left : IsLeftBroken M ending.end.state disk

-- The sink failed: a front of what is told was printed.
pub record Unwritten {V : Type 0} (M : Machine V) (tell : State V → Part V) (was : Standing V) (old new : Outside) (disk : DiskState) : Type 0 where
  pub ending : Ending M tell was old new
  pub printed : AppendsFront old.taken new.taken ending.end.report
  pub armed : length disk.armed ≡ length ending.end.state.armed
  pub left : IsLeftAt M ending.end disk

-- by how the part ended; no part of a line reads the input
abbrev pub CarriesBy : {V : Type 0} → Result (Unit {0}) Halt → Machine V → (State V → Part V) → (was stands : Standing V) → (old new : Outside) → DiskState → Type 0
CarriesBy (Ok done) M tell was stands old new disk = Carries M tell Goes was stands old new
CarriesBy (Err Halt.ScriptFault) M tell was stands old new disk = Carries M tell Stops was stands old new
CarriesBy (Err Halt.ReadFault) M tell was stands old new disk = ⊥
CarriesBy (Err Halt.DiskFault) M tell was stands old new disk = Broken M tell was old new disk
CarriesBy (Err Halt.WriteFault) M tell was stands old new disk = Unwritten M tell was old new disk
CarriesBy (Err Halt.SetupDiffers) M tell was stands old new disk = Differing M tell was stands old new disk

-- a text was given whole, or else a front of it
abbrev pub GivesText : Result (Unit {0}) Halt → Option (List ℕ) → Option (List ℕ) → List ℕ → Type 0
GivesText (Ok done) taken given text = Appends taken given text
GivesText (Err Halt.ScriptFault) taken given text = ⊥
GivesText (Err Halt.ReadFault) taken given text = ⊥
GivesText (Err Halt.DiskFault) taken given text = ⊥
GivesText (Err Halt.WriteFault) taken given text = AppendsFront taken given text
GivesText (Err Halt.SetupDiffers) taken given text = ⊥
