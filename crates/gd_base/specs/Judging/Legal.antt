-- Which histories are legal: each entry is the one that its event makes of the view before it.
use Rattle.std.specs.Prelude.{◌≡◌, ℕ, ◌+◌, ◌<◌, if◌then◌else◌, List, [], ◌∷◌, Option, Some, None}
use Rattle.gd_base.specs.declared.limits.TheConstants.{MOST_ENTRIES}
use Rattle.gd_base.specs.declared.event.Event.{Event}
use Rattle.gd_base.specs.Histories.Entry.{Entry, device_of}
use Rattle.gd_base.specs.Judging.Machine.{Machine, Blocks}

-- the view of a history over an opening view, the newest entry first
abbrev pub view_over : {V : Type 0} → Machine V → V → List Entry → V
view_over M opening [] = opening
view_over M opening (e ∷ past) = M.effect (view_over M opening past) e

-- a taken play records its one block, and nothing else draws
abbrev pub draw_of : {V : Type 0} → Machine V → Blocks → ℕ → V → Event → Option (ℕ × List ℕ)
draw_of M blocks lap v event = if M.is_drawn v event then Some (M.index v, blocks lap (M.index v)) else None

-- the entry that an event makes: nothing of it is free
abbrev pub next_entry : {V : Type 0} → Machine V → Blocks → ℕ → V → Event → Entry
next_entry M blocks lap v event =
    record { number = M.last v (device_of event) + 1; event = event; draw = draw_of M blocks lap v event; reply = M.rule v event }

-- the entry may follow what this view shows
pub record IsNext {V : Type 0} (M : Machine V) (blocks : Blocks) (lap : ℕ) (v : V) (e : Entry) : Type 0 where
  pub room : M.count v < MOST_ENTRIES
  pub made : e ≡ next_entry M blocks lap v e.event

abbrev pub IsLegal : {V : Type 0} → Machine V → Blocks → ℕ → V → List Entry → Type 0
IsLegal M blocks lap opening [] = Unit {0}
IsLegal M blocks lap opening (e ∷ past) = IsNext M blocks lap (view_over M opening past) e × IsLegal M blocks lap opening past

-- the history, the newest entry first, that events make one after another
abbrev pub after_events : {V : Type 0} → Machine V → Blocks → ℕ → V → List Entry → List Event → List Entry
after_events M blocks lap opening past [] = past
after_events M blocks lap opening past (event ∷ events) =
    after_events M blocks lap opening (next_entry M blocks lap (view_over M opening past) event ∷ past) events
