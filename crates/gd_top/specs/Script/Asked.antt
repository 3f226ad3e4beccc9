-- What a line about the machine asks of an open memory: an event under its number, or a text.
use Rattle.std.specs.Prelude.{◌≡◌, ◌≢◌, ℕ, List}
use Rattle.gd_base.specs.declared.step.Numbered.{Numbered}
use Rattle.gd_base.specs.Histories.Entry.{device_of}
use Rattle.gd_base.specs.Judging.Machine.{Machine}
use Rattle.gd_script.specs.Items.{order_event}
use Rattle.gd_script.specs.declared.item.Item.{Item}
use Rattle.gd_top.specs.Report.Lines.{none_line}
use Rattle.gd_top.specs.Run.Items.{next_numbered, order_of}

-- The line offers this event. To a repeat its event doesn't matter, but its device.
abbrev pub IsAsked : {V : Type 0} → Machine V → V → Item → Numbered → Type 0
IsAsked M v (Item.Event event) e = e ≡ next_numbered M event v
IsAsked M v (Item.OrderEvent kind order) e = e ≡ next_numbered M (order_event kind (order_of M order v)) v
IsAsked M v (Item.Again device) e = (device_of e.event ≡ device) × (e.number ≡ M.last v device) × (M.last v device ≢ 0)
IsAsked M v (Item.As number event) e = e ≡ record { number = number; event = event }
IsAsked M v _ e = ⊥

-- the line wants this text
abbrev pub IsTextAsked : {V : Type 0} → Machine V → V → Item → List ℕ → Type 0
IsTextAsked M v (Item.Again device) text = (M.last v device ≡ 0) × (text ≡ none_line device)
IsTextAsked M v (Item.Show what) text = text ≡ M.text what v
IsTextAsked M v _ text = ⊥
