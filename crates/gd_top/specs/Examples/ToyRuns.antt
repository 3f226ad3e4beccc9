-- Runs over the toy machine: their lines, what their power-ons find, and what is seen of them.
use Rattle.std.specs.Prelude.{ℕ, ◌≡◌, List, [], ◌∷◌, codes, None, Some}
use Rattle.std.specs.declared.option.Option.{Option}
use Rattle.gd_base.specs.declared.event.Event.{Event}
use Rattle.gd_base.specs.declared.refusal.Reply.{Reply}
use Rattle.gd_base.specs.Payloads.Spelled.{Shows}
use Rattle.gd_disk.specs.declared.disk.CutUnit.{CutUnit}
use Rattle.gd_disk.specs.declared.side.Side.{Side}
use Rattle.gd_script.specs.declared.item.Item.{Item}
use Rattle.gd_store.specs.declared.copy.states.CopyState.{CopyState}
use Rattle.gd_store.specs.declared.copy.states.Why.{Why}
use Rattle.gd_top.specs.declared.status.Status.{Status}
use Rattle.gd_top.specs.Run.Life.{trial_meaning, image_meaning, report_of, status_of}
use Rattle.gd_top.specs.Run.State.{Start, State, Part}
use Rattle.gd_top.specs.Examples.Toy.{View, toy, zeros}

-- ================ lines

abbrev pub bill : ℕ → Option Item
bill x = Some (Item.Event (Event.Bill x))

abbrev pub off : Option Item
off = Some Item.Off

abbrev pub on : Option Item
on = Some Item.On

abbrev pub clear : Option Item
clear = Some Item.Clear

-- a cut at a sync that leaves the old bytes, and one that leaves the new ones
abbrev pub cut_sync : ℕ → Option Item
cut_sync n = Some (Item.Cut CutUnit.Sync n 0)

abbrev pub cut_after : ℕ → Option Item
cut_after n = Some (Item.Cut CutUnit.Sync n 1)

-- a cut at a call
abbrev pub cut_call : ℕ → Option Item
cut_call n = Some (Item.Cut CutUnit.Call n 0)

abbrev pub alter_a : ℕ → ℕ → Option Item
alter_a place mask = Some (Item.Alter Side.A place mask)

abbrev pub alter_b : ℕ → ℕ → Option Item
alter_b place mask = Some (Item.Alter Side.B place mask)

-- both copies are altered at rest, copy a in its gate and copy b in a page
abbrev pub lock_lines : List (Option Item)
lock_lines = off ∷ alter_a 0 255 ∷ alter_b 9000 1 ∷ on ∷ []

-- ================ what power-ons find

-- the view of n entries, with credit c, b bills and s starts
abbrev pub view : ℕ → ℕ → ℕ → ℕ → View
view n c b s = record { count = n; credit = c; bills = b; starts = s; kept = Reply.Taken }

-- two copies with open gates, of which a view is booted
abbrev pub start : CopyState → CopyState → ℕ → View → Start View
start a b n v = record { found = record { a = a; b = b }; behind = record { a = a; b = b }; boots = Some (n, Shows v) }

abbrev pub both : ℕ → View → Start View
both n v = start (CopyState.Sound n) (CopyState.Sound n) n v

abbrev pub shut : CopyState
shut = CopyState.Bad Why.Shut

abbrev pub page : ℕ → CopyState
page n = CopyState.Bad (Why.BadPage n)

-- copy a has a shut gate before a body that stands, and copy b is sound
abbrev pub a_shut : ℕ → View → Start View
a_shut n v = record { found = record { a = shut; b = CopyState.Sound n }; behind = record { a = CopyState.Sound n; b = CopyState.Sound n }; boots = Some (n, Shows v) }

-- the same with the copies the other way round
abbrev pub b_shut : ℕ → View → Start View
b_shut n v = record { found = record { a = CopyState.Sound n; b = shut }; behind = record { a = CopyState.Sound n; b = CopyState.Sound n }; boots = Some (n, Shows v) }

-- a memory that was just made, and the view after one start
abbrev pub made : Start View
made = both 0 (view 0 0 0 0)

abbrev pub once : View
once = view 1 0 0 1

-- what the lines above make of both copies
abbrev pub lost : Start View
lost = record { found = record { a = shut; b = page 15 }; behind = record { a = CopyState.Sound 1; b = page 15 }; boots = None }

-- ================ runs, and what is seen of them

abbrev pub run : List (Option Item) → List ℕ → List (Start View) → Part View
run lines falls starts = trial_meaning toy zeros lines falls starts None

-- broken off in this offer
abbrev pub broken_run : ℕ → List (Option Item) → List (Start View) → Part View
broken_run n lines starts = trial_meaning toy zeros lines [] starts (Some n)

-- over an image
abbrev pub over_image : List (Option Item) → Start View → Part View
over_image lines image = image_meaning toy zeros lines image None

-- how each report of a trial begins
abbrev pub begins : List ℕ
begins = codes "power 1: a sound 0, b sound 0\nstart at 1\n"

-- what is counted of a run
pub record Counts : Type 0 where
  pub forged : ℕ
  pub other_views : ℕ
  pub other_locks : ℕ
  pub laps : ℕ
  pub fell : ℕ
  pub offers : ℕ

abbrev pub counts_of : State View → Counts
counts_of s = record { forged = s.forged; other_views = s.other_views; other_locks = s.other_locks; laps = s.lap; fell = s.fell; offers = s.offers }

-- so many offers, in so many of which the power fell; no image was forged, all that was found is explained, and no memory was cleared
abbrev pub plain : ℕ → ℕ → Counts
plain offers fell = record { forged = 0; other_views = 0; other_locks = 0; laps = 0; fell = fell; offers = offers }

-- so over an image, which counts as forged
abbrev pub from_image : ℕ → Counts
from_image offers = record (plain offers 0) { forged = 1 }

-- the whole report, the status and the counts of a run
pub record Gives (t : Part View) (report : List ℕ) (status : Status) (counts : Counts) : Type 0 where
  pub written : report_of toy t ≡ report
  pub ended : status_of t.outcome t.state ≡ status
  pub counted : counts_of t.state ≡ counts
