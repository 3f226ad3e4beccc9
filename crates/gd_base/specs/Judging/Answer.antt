-- What a numbered event is answered, by the view alone. A core's step, a cabinet's submission, a session's trace and
-- a run all mean this.
use Rattle.std.specs.Prelude.{◌≡◌, ℕ, ◌+◌, ◌==◌, Bool, true, false, not, ◌&&◌, nat_le, if◌then◌else◌, List, Option, Some, None}
use Rattle.gd_base.specs.declared.limits.TheConstants.{MOST_ENTRIES}
use Rattle.gd_base.specs.declared.step.Numbered.{Numbered}
use Rattle.gd_base.specs.declared.step.Stepped.{Stepped}
use Rattle.gd_base.specs.Histories.Entry.{Entry, device_of}
use Rattle.gd_base.specs.Judging.Legal.{draw_of}
use Rattle.gd_base.specs.Judging.Machine.{Machine, Blocks}

abbrev pub is_full : {V : Type 0} → Machine V → V → Bool
is_full M v = nat_le MOST_ENTRIES (M.count v)

-- the last number is a repeat, the next one is new where the history has room, and any other is out of step
abbrev pub answer_after : {V : Type 0} → Machine V → V → Numbered → ℕ → Stepped
answer_after M v e last =
    if not (last == 0) && (e.number == last) then Stepped.Again (M.kept v (device_of e.event))
    else if not (e.number == last + 1) then Stepped.OutOfStep (last + 1)
    else if is_full M v then Stepped.HistoryFull
    else Stepped.New (M.rule v e.event)

unfoldable pub answer : {V : Type 0} → Machine V → V → Numbered → Stepped
answer M v e = answer_after M v e (M.last v (device_of e.event))

-- the entry that a new event makes, on the draw that was handed in
abbrev pub entry_on : {V : Type 0} → Machine V → V → Numbered → Option (ℕ × List ℕ) → Entry
entry_on M v e draw = record { number = e.number; event = e.event; draw = draw; reply = M.rule v e.event }

-- and on its one block
abbrev pub entry_of : {V : Type 0} → Machine V → Blocks → ℕ → V → Numbered → Entry
entry_of M blocks lap v e = entry_on M v e (draw_of M blocks lap v e.event)

abbrev pub is_new : Stepped → Bool
is_new (Stepped.New reply) = true
is_new (Stepped.Again reply) = false
is_new (Stepped.OutOfStep expected) = false
is_new Stepped.HistoryFull = false

-- whether a block is needed to answer it
abbrev pub is_draw_needed : {V : Type 0} → Machine V → V → Numbered → Bool
is_draw_needed M v e = is_new (answer M v e) && M.is_drawn v e.event

-- the view after an answer: a new event is one entry more, and no other answer changes anything
abbrev pub after_answer : {V : Type 0} → Machine V → V → Numbered → Option (ℕ × List ℕ) → Stepped → V
after_answer M v e draw (Stepped.New reply) = M.effect v (entry_on M v e draw)
after_answer M v e draw (Stepped.Again reply) = v
after_answer M v e draw (Stepped.OutOfStep expected) = v
after_answer M v e draw Stepped.HistoryFull = v

-- a draw of the next index where a block is needed, else none
abbrev pub IsDraw : Bool → ℕ → Option (ℕ × List ℕ) → Type 0
IsDraw true index None = ⊥
IsDraw true index (Some draw) = draw.0 ≡ index
IsDraw false index draw = draw ≡ None

abbrev pub IsDrawFor : {V : Type 0} → Machine V → V → Numbered → Option (ℕ × List ℕ) → Type 0
IsDrawFor M v e draw = IsDraw (is_draw_needed M v e) (M.index v) draw

-- the draw that a block source hands to an event: where a block is needed, that of the lap and the next index
abbrev pub draw_for : {V : Type 0} → Machine V → Blocks → ℕ → V → Numbered → Option (ℕ × List ℕ)
draw_for M blocks lap v e = if is_draw_needed M v e then Some (M.index v, blocks lap (M.index v)) else None
