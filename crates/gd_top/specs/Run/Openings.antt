-- Openings: what is found at a power-on, and how the line that was being carried out goes on from there.
use Rattle.std.specs.Prelude.{◌+◌, Bool, true, ◌&&◌, if◌then◌else◌, List, [], ◌∷◌, codes}
use Rattle.gd_base.specs.declared.event.Event.{Event}
use Rattle.gd_base.specs.declared.step.Numbered.{Numbered}
use Rattle.gd_base.specs.declared.step.Stepped.{Stepped}
use Rattle.gd_base.specs.Judging.Answer.{answer, entry_of, is_full}
use Rattle.gd_base.specs.Histories.Entry.{Entry, device_of}
use Rattle.gd_base.specs.Judging.Legal.{next_entry}
use Rattle.gd_base.specs.Judging.Machine.{Machine, Blocks}
use Rattle.gd_base.specs.Payloads.LoadedView.{opens}
use Rattle.gd_base.specs.Payloads.Spelled.{Spelled, Shows, Foreign, Unreadable}
use Rattle.gd_disk.specs.declared.side.Side.{Side}
use Rattle.gd_store.specs.declared.copy.states.Found.{Found}
use Rattle.gd_store.specs.Repair.{Repair, repair_needed, syncs_of_repair}
use Rattle.gd_top.specs.Report.Lines.{power_line, start_line, answer_line, step_line, full_line, locked_line, differs_line}
use Rattle.gd_store.specs.Masks.{Mask, is_altered, is_forged}
use Rattle.gd_top.specs.Run.Offers.{Fate, Whole, Fell, Broke, offer, counted, syncs_of_event, syncs_of_making}
use Rattle.gd_top.specs.Run.State.{Start, State, Flight, Nothing, Recording, Making, Part, On, Off, Locked, Differs, prints, ends, breaks, before, with_entry, over}

-- what the line wants once the memory is open again: nothing, the answer to an event, or a cleared memory
pub data Wanted : Type 0 where
  Done : Wanted
  Answer : (event : Numbered) → Wanted
  Cleared : Wanted

-- what a power-on prints and leaves, by what was in flight and what the line wants
abbrev pub Reopening : Type 0 → Type 0
Reopening V = Flight → Wanted → State V → Part V

-- ================ what a view that is found says of the history

-- a view that no order of writing explains: a history begins over it
abbrev pub unexplained : {V : Type 0} → V → State V → State V
unexplained v s = record (over v s) { other_views = s.other_views + 1 }

-- an empty memory in place of the locked one
abbrev pub cleared : {V : Type 0} → Machine V → State V → State V
cleared M s = record (over M.empty s) { lap = s.lap + 1 }

-- The history after an opening that shows a view: it stands, or what was in flight was done, or nothing explains the view.
-- After a making that was cut the empty view shows that the memory was cleared.
unfoldable pub resolved : {V : Type 0} → Machine V → Flight → V → State V → State V
resolved M Nothing v s = if M.same v s.view then s else unexplained v s
resolved M (Recording e) v s =
    if M.same v s.view then s
    else if M.same v (M.effect s.view e) then with_entry M s e
    else unexplained v s
resolved M Making v s =
    if M.same v M.empty then cleared M s
    else if M.same v s.view then s
    else unexplained v s

-- ================ locks

-- a lock has a reason where both copies were altered, or a clearing was cut
abbrev pub may_lock : Flight → List Mask → Bool
may_lock Making masks = true
may_lock Nothing masks = is_altered Side.A masks && is_altered Side.B masks
may_lock (Recording e) masks = is_altered Side.A masks && is_altered Side.B masks

-- The memory found is locked. An opening without a sync is an offer too, in which no cut comes. What was altered before it
-- ends here, since the copies were read.
abbrev pub locked : {V : Type 0} → Flight → State V → State V
locked flight s =
    record (counted 0 s) { phase = Locked; masks = []; other_locks = if may_lock flight s.masks then s.other_locks else s.other_locks + 1 }

-- The memory found was made under another setup, and so no order of writing explains it. This opening without a sync is an offer too.
abbrev pub of_another : {V : Type 0} → State V → State V
of_another s = record (counted 0 s) { other_views = s.other_views + 1 }

-- the power is on, and the copies were read: what was altered before ends here
abbrev pub turned_on : {V : Type 0} → State V → State V
turned_on s = record s { phase = On; masks = [] }

-- the power is off, and nothing was altered since
abbrev pub turned_off : {V : Type 0} → State V → State V
turned_off s = record s { phase = Off; masks = [] }

-- ================ events

-- The entry of an event was offered, with this fate. After a fall the event is offered again under its number.
abbrev pub recorded : {V : Type 0} → Machine V → Reopening V → Entry → Fate → State V → Part V
recorded M again e Whole s =
    prints (answer_line (codes "ack") (device_of e.event) e.number e.reply (M.count (M.effect s.view e))) (with_entry M s e)
recorded M again e Fell s = again (Recording e) (Answer (record { number = e.number; event = e.event })) s
recorded M again e Broke s = breaks (Recording e) s

-- the entry of an event is offered
abbrev pub record_entry : {V : Type 0} → Machine V → Reopening V → Entry → State V → Part V
record_entry M again e s = let o = offer syncs_of_event s in recorded M again e o.fate o.state

-- an event by its answer: only a new one is offered
abbrev pub answered_by : {V : Type 0} → Machine V → Blocks → Reopening V → Numbered → Stepped → State V → Part V
answered_by M blocks again e (Stepped.New reply) s = record_entry M again (entry_of M blocks s.lap s.view e) s
answered_by M blocks again e (Stepped.Again reply) s = prints (answer_line (codes "again") (device_of e.event) e.number reply (M.count s.view)) s
answered_by M blocks again e (Stepped.OutOfStep expected) s = prints (step_line (device_of e.event) expected) s
answered_by M blocks again e Stepped.HistoryFull s = prints (full_line (device_of e.event)) s

-- an event under its number, with the power on
unfoldable pub answered : {V : Type 0} → Machine V → Blocks → Reopening V → Numbered → State V → Part V
answered M blocks again e s = answered_by M blocks again e (answer M s.view e) s

-- ================ openings

-- the memory is open: what the line still wants
abbrev pub resumed : {V : Type 0} → Machine V → Blocks → Reopening V → Wanted → State V → Part V
resumed M blocks again Done s = prints [] s
resumed M blocks again (Answer e) s = answered M blocks again e s
resumed M blocks again Cleared s = prints [] s

-- What the line wants after the power fell in an opening. A line `clear` wants nothing more, once a memory was found open.
abbrev pub still_wanted : Wanted → Wanted
still_wanted Done = Done
still_wanted (Answer e) = Answer e
still_wanted Cleared = Done

-- the start under the next number of the power supply
abbrev pub start_entry : {V : Type 0} → Machine V → Blocks → State V → Entry
start_entry M blocks s = next_entry M blocks s.lap s.view Event.Start

-- The start was offered, with this fate. After a fall the start is in flight, and a further opening follows.
abbrev pub started : {V : Type 0} → Machine V → Blocks → Reopening V → Repair → Wanted → Fate → State V → Part V
started M blocks again repair wanted Whole s =
    let on = with_entry M s (start_entry M blocks s) in
    before (start_line (M.count on.view) repair) (resumed M blocks again wanted on)
started M blocks again repair wanted Fell s = again (Recording (start_entry M blocks s)) (still_wanted wanted) s
started M blocks again repair wanted Broke s = breaks (Recording (start_entry M blocks s)) s

-- the history is full: there is no start
abbrev pub opened_full : {V : Type 0} → Machine V → Blocks → Reopening V → Wanted → Fate → State V → Part V
opened_full M blocks again wanted Whole s = resumed M blocks again wanted s
opened_full M blocks again wanted Fell s = again Nothing (still_wanted wanted) s
opened_full M blocks again wanted Broke s = breaks Nothing s

-- the other copy is written anew where it has to be, and the start is recorded, in one offer
unfoldable pub opened : {V : Type 0} → Machine V → Blocks → Reopening V → Repair → Wanted → State V → Part V
opened M blocks again repair wanted s =
    if is_full M s.view
    then (let o = offer (syncs_of_repair repair) s in opened_full M blocks again wanted o.fate o.state)
    else (let o = offer (syncs_of_repair repair + syncs_of_event) s in started M blocks again repair wanted o.fate o.state)

-- The making of an empty memory was offered, with this fate. After one that is whole the power is off, and an opening follows.
abbrev pub made : {V : Type 0} → Machine V → Reopening V → Fate → State V → Part V
made M again Whole s = before (codes "cleared\n") (again Nothing Done (turned_off (cleared M s)))
made M again Fell s = again Making Cleared s
made M again Broke s = breaks Making s

-- the making of an empty memory in place of a locked one
abbrev pub make : {V : Type 0} → Machine V → Reopening V → State V → Part V
make M again s = let o = offer syncs_of_making s in made M again o.fate o.state

-- The memory found is locked. An event is given up, and a making that was cut is tried again.
abbrev pub locked_with : {V : Type 0} → Machine V → Reopening V → Wanted → State V → Part V
locked_with M again Done s = prints [] s
locked_with M again (Answer e) s = prints locked_line s
locked_with M again Cleared s = make M again s

-- the copies were read: the memory is locked, it was made under another setup, or it shows a view
abbrev pub found_open : {V : Type 0} → Machine V → Blocks → Reopening V → Spelled V → Found → Flight → Wanted → State V → Part V
found_open M blocks again Unreadable found flight wanted s = before locked_line (locked_with M again wanted (locked flight s))
found_open M blocks again (Foreign kept) found flight wanted s = ends Differs (differs_line kept M.digest) (of_another s)
found_open M blocks again (Shows v) found flight wanted s = opened M blocks again (repair_needed found) wanted (resolved M flight v (turned_on s))

-- one power-on more, which takes its start: an image that is forged is counted
abbrev pub powered : {V : Type 0} → Start V → List (Start V) → State V → State V
powered start starts s =
    record s { power_ons = s.power_ons + 1; starts = starts; forged = if is_forged s.masks start.behind then s.forged + 1 else s.forged }

-- The power is turned on, as often as it falls again: each power-on takes one start. Where no start is left, the run is
-- broken off before the copies were read, and what was in flight still is.
unfoldable pub reopen : {V : Type 0} → Machine V → Blocks → List (Start V) → Reopening V
reopen M blocks [] flight wanted s = breaks flight s
reopen M blocks (start ∷ starts) flight wanted s =
    before (power_line (s.power_ons + 1) start.found)
    (found_open M blocks (reopen M blocks starts) (opens M start.boots) start.found flight wanted (powered start starts s))

-- with the starts that are still to come
abbrev pub power_on : {V : Type 0} → Machine V → Blocks → Reopening V
power_on M blocks flight wanted s = reopen M blocks s.starts flight wanted s
