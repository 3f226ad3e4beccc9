-- What a taken event makes of a view, and the reply to what was tried.
use Rattle.std.specs.Prelude.{ℕ, List, Option, Some, None, Result, Ok, Err}
use Rattle.gd_base.specs.declared.condition.Tilt.{Tilt}
use Rattle.gd_base.specs.declared.event.Event.{Event}
use Rattle.gd_base.specs.declared.refusal.Refusal.{Refusal}
use Rattle.gd_base.specs.declared.refusal.Reply.{Reply}
use Rattle.gd_base.specs.declared.setup.Setup.{Setup}
use Rattle.gd_base.specs.Histories.View.{View}
use Rattle.gd_base.specs.Histories.ViewOf.{with_entry}

-- the view after the entry of a taken event, but for the count and what is kept of the device
abbrev pub acted : Setup → View → Event → Option (ℕ × List ℕ) → View
acted setup v event draw =
    record (with_entry setup v (record { number = 0; event = event; draw = draw; reply = Reply.Taken })) { count = v.count; kept = v.kept }

-- the reply to an event, by how it went
abbrev pub replied : Result (Unit {0}) Refusal → Reply
replied (Ok done) = Reply.Taken
replied (Err why) = Reply.Refused why

-- the fault of which an event tells that says nothing else
abbrev pub fault_of : Event → Option Tilt
fault_of Event.BillJam = Some Tilt.BillJam
fault_of Event.StackerFull = Some Tilt.StackerFull
fault_of Event.CoinJam = Some Tilt.CoinJam
fault_of Event.PaperOut = Some Tilt.PaperOut
fault_of _ = None
