-- What a run knows at a moment, and what a part of it prints and leaves.
--
-- The meaning of a run is a function. Its inputs from outside are three lists that it uses up in order: the lines of
-- the script, `starts` (what each power-on found) and `falls` (in which offers a cut that counts calls came). Beside them
-- it is told in which offer the run is broken off, if in any. The machine beneath is a record of functions over a type of
-- views.
use Rattle.std.specs.Prelude.{ℕ, Bool, true, false, List, [], ◌∷◌, ◌++◌, Option}
use Rattle.gd_base.specs.Histories.Entry.{Entry}
use Rattle.gd_base.specs.Judging.Machine.{Machine}
use Rattle.gd_base.specs.Payloads.Spelled.{Spelled}
use Rattle.gd_disk.specs.declared.disk.ArmedCut.{ArmedCut}
use Rattle.gd_store.specs.Masks.{Mask}
use Rattle.gd_store.specs.declared.copy.states.Found.{Found}

-- What a power-on found: the two copies, what they would be behind open gates, and of the copy that is booted the sequence and
-- what its payload spells. None where nothing can be booted.
pub record Start (V : Type 0) : Type 0 where
  pub found : Found
  pub behind : Found
  pub boots : Option (ℕ × Spelled V)

-- what was being done when the power was lost: nothing, the recording of an entry, or the making of a clearing
pub data Flight : Type 0 where
  Nothing : Flight
  Recording : (entry : Entry) → Flight
  Making : Flight

-- The power is on and the memory open, or the power is off, or it is on over a memory that can't be opened.
pub data Phase : Type 0 where
  On : Phase
  Off : Phase
  Locked : Phase

-- a locked memory has the power on
abbrev pub is_powered : Phase → Bool
is_powered On = true
is_powered Off = false
is_powered Locked = true

-- what a run knows at a moment
pub record State (V : Type 0) : Type 0 where
  pub view : V
  pub opening : V  -- the view over which the history began
  pub history : List Entry  -- what was recorded since, the newest first; the view is that of this history, by a law
  pub lap : ℕ  -- memories cleared so far
  pub phase : Phase
  pub lines : ℕ  -- lines carried out
  pub power_ons : ℕ
  pub armed : List ArmedCut  -- the cuts that are armed; the first of unit sync with what it has still to count
  pub offers : ℕ  -- offers made so far
  pub syncs : ℕ  -- the syncs of these offers, as if no cut had come
  pub fell : ℕ  -- how many of them a cut came in
  pub masks : List Mask  -- what was altered since a line turned the power off, the newest first, until the copies are read
  pub forged : ℕ  -- images found in which an altered copy's seal still matches
  pub other_views : ℕ  -- openings that found a view which no order of writing explains, one of another setup among them
  pub other_locks : ℕ  -- openings that were locked though not both copies had been altered, nor a clearing cut
  pub flight : Flight  -- where the run was broken off: what was being done
  pub falls : List ℕ  -- the offers, still to come, in which a cut that counts calls comes
  pub starts : List (Start V)  -- what the power-ons still to come find
  pub broken_at : Option ℕ  -- the offer in which the run is broken off, where it is
  pub is_trial : Bool  -- a trial, whose power can be turned off, and not a run over an image

-- how a part of the run ends
pub data Outcome : Type 0 where
  Goes : Outcome
  -- a script fault: the line changed nothing
  Stops : Outcome
  -- the memory found was made under another setup
  Differs : Outcome
  -- broken off by a failure of the disk or of the sink, in an offer or at a power-on for which no start is left
  Breaks : Outcome

-- what a part of the run prints, and what it leaves
pub record Part (V : Type 0) : Type 0 where
  pub report : List ℕ
  pub state : State V
  pub outcome : Outcome

-- this is printed, and the run goes on
abbrev pub prints : {V : Type 0} → List ℕ → State V → Part V
prints report s = record { report = report; state = s; outcome = Goes }

-- this is printed, and the run ends
abbrev pub ends : {V : Type 0} → Outcome → List ℕ → State V → Part V
ends outcome report s = record { report = report; state = s; outcome = outcome }

-- the run is broken off with this in flight, and nothing more is printed
abbrev pub breaks : {V : Type 0} → Flight → State V → Part V
breaks flight s = ends Breaks [] (record s { flight = flight })

-- a text before what a part prints
abbrev pub before : {V : Type 0} → List ℕ → Part V → Part V
before text t = record { report = text ++ t.report; state = t.state; outcome = t.outcome }

-- what comes next is done only where the outcome lets the run go on
abbrev pub goes_on : {V : Type 0} → Outcome → Part V → (State V → Part V) → Part V
goes_on Goes t next = before t.report (next t.state)
goes_on Stops t next = t
goes_on Differs t next = t
goes_on Breaks t next = t

-- a part, and what comes next where it went on
abbrev pub followed_by : {V : Type 0} → Part V → (State V → Part V) → Part V
followed_by t next = goes_on t.outcome t next

-- the history with one entry more
abbrev pub with_entry : {V : Type 0} → Machine V → State V → Entry → State V
with_entry M s e = record s { view = M.effect s.view e; history = e ∷ s.history }

-- an empty history over a view
abbrev pub over : {V : Type 0} → V → State V → State V
over v s = record s { view = v; opening = v; history = [] }
