-- Which event draws a block, and at which index.
use Rattle.std.specs.Prelude.{ℕ, ◌+◌, Bool, true, false, ◌&&◌, slice_index}
use Rattle.gd_base.specs.declared.event.Event.{Event}
use Rattle.gd_base.specs.declared.setup.Setup.{Setup}
use Rattle.gd_base.specs.Histories.Entry.{is_taken}
use Rattle.gd_base.specs.Judging.Rule.{rule}
use Rattle.gd_base.specs.Histories.View.{View}

abbrev pub is_play : Event → Bool
is_play (Event.Play game bet) = true
is_play _ = false

-- the index of the next play's block: plays and starts before
abbrev pub next_index : View → ℕ
next_index v = slice_index v.totals 9 + slice_index v.totals 11

-- a taken play draws a block, and nothing else draws
abbrev pub is_drawn : Setup → View → Event → Bool
is_drawn setup v event = is_play event && is_taken (rule setup v event)
