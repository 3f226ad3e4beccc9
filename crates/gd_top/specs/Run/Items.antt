-- What each item of a script prints and leaves, and lines one after another.
use Rattle.std.specs.Prelude.{ℕ, ◌+◌, ◌==◌, nat_lt, nat_le, Bool, ◌&&◌, if◌then◌else◌, List, [], ◌∷◌, ◌++◌, length, codes, Option, None, Some}
use Rattle.gd_base.specs.declared.device.Device.{Device}
use Rattle.gd_base.specs.declared.event.Event.{Event}
use Rattle.gd_base.specs.declared.step.Numbered.{Numbered}
use Rattle.gd_base.specs.Histories.Entry.{device_of}
use Rattle.gd_base.specs.Judging.Machine.{Machine, Blocks}
use Rattle.gd_script.specs.declared.item.Item.{Item}
use Rattle.gd_script.specs.Items.{order_event}
use Rattle.gd_store.specs.Masks.{Mask}
use Rattle.gd_top.specs.declared.script.reader.TheConstants.{MOST_LINES}
use Rattle.gd_top.specs.declared.memory.TheConstants.{MOST_POWER_ONS}
use Rattle.gd_top.specs.Report.Lines.{answer_line, none_line, altered_line, locked_line}
use Rattle.gd_top.specs.Run.Openings.{Done, answered, make, power_on, turned_off}
use Rattle.gd_top.specs.Run.State.{State, Nothing, Part, Phase, On, Off, Locked, Stops, prints, ends, followed_by}

-- ================ where a line has its place

-- at the limit no line of a trial may lead to a further power-on
abbrev pub at_limit : {V : Type 0} → State V → Bool
at_limit s = s.is_trial && nat_le MOST_POWER_ONS (s.power_ons + length s.armed)

-- a line that may lead to a further power-on
abbrev pub below_limit : {V : Type 0} → State V → Part V → Part V
below_limit s t = if at_limit s then ends Stops [] s else t

-- a line that is only for trials
abbrev pub in_trial : {V : Type 0} → State V → Part V → Part V
in_trial s t = if s.is_trial then t else ends Stops [] s

-- a line about the machine: without the power it is a fault, and over a locked memory it prints that
abbrev pub with_power : {V : Type 0} → Phase → State V → Part V → Part V
with_power On s t = t
with_power Off s t = ends Stops [] s
with_power Locked s t = prints locked_line s

-- ================ items

-- the next number of the event's device
abbrev pub next_numbered : {V : Type 0} → Machine V → Event → V → Numbered
next_numbered M event v = record { number = M.last v (device_of event) + 1; event = event }

-- an event under its number
abbrev pub event_meaning : {V : Type 0} → Machine V → Blocks → Numbered → State V → Part V
event_meaning M blocks e s = with_power s.phase s (answered M blocks (power_on M blocks) e s)

-- the number of an order, where None is the word `open`
abbrev pub order_of : {V : Type 0} → Machine V → Option ℕ → V → ℕ
order_of M None v = M.open_order v
order_of M (Some n) v = n

-- the device repeats its last number, and gets the kept reply
abbrev pub again_meaning : {V : Type 0} → Machine V → Device → State V → Part V
again_meaning M device s =
    if M.last s.view device == 0 then prints (none_line device) s
    else prints (answer_line (codes "again") device (M.last s.view device) (M.kept s.view device) (M.count s.view)) s

-- the power is turned off, where the memory is open
abbrev pub off_meaning : {V : Type 0} → Phase → State V → Part V
off_meaning On s = prints (codes "off\n") (turned_off s)
off_meaning Off s = ends Stops [] s
off_meaning Locked s = ends Stops [] s

-- the power is turned on, where it is off
abbrev pub on_meaning : {V : Type 0} → Machine V → Blocks → Phase → State V → Part V
on_meaning M blocks Off s = below_limit s (power_on M blocks Nothing Done s)
on_meaning M blocks On s = ends Stops [] s
on_meaning M blocks Locked s = ends Stops [] s

-- a byte is altered, where the power is off
abbrev pub alter_meaning : {V : Type 0} → Mask → Phase → State V → Part V
alter_meaning m Off s = prints (altered_line m.side m.place) (record s { masks = m ∷ s.masks })
alter_meaning m On s = ends Stops [] s
alter_meaning m Locked s = ends Stops [] s

-- an empty memory is made, where the memory is locked
abbrev pub clear_meaning : {V : Type 0} → Machine V → Blocks → Phase → State V → Part V
clear_meaning M blocks Locked s = below_limit s (make M (power_on M blocks) s)
clear_meaning M blocks On s = ends Stops [] s
clear_meaning M blocks Off s = ends Stops [] s

-- what an item prints and leaves
unfoldable pub item_meaning : {V : Type 0} → Machine V → Blocks → Item → State V → Part V
item_meaning M blocks Item.Skip s = prints [] s
item_meaning M blocks (Item.Event event) s = event_meaning M blocks (next_numbered M event s.view) s
item_meaning M blocks (Item.OrderEvent kind order) s = event_meaning M blocks (next_numbered M (order_event kind (order_of M order s.view)) s.view) s
item_meaning M blocks (Item.Again device) s = with_power s.phase s (again_meaning M device s)
item_meaning M blocks (Item.As number event) s = event_meaning M blocks (record { number = number; event = event }) s
item_meaning M blocks Item.Off s = in_trial s (off_meaning s.phase s)
item_meaning M blocks Item.On s = in_trial s (on_meaning M blocks s.phase s)
item_meaning M blocks (Item.Cut unit count torn) s =
    in_trial s (below_limit s (prints (codes "armed\n") (record s { armed = s.armed ++ record { unit = unit; count = count; torn = torn } ∷ [] })))
item_meaning M blocks (Item.Alter side at mask) s = in_trial s (alter_meaning (record { side = side; place = at; mask = mask }) s.phase s)
item_meaning M blocks Item.Clear s = clear_meaning M blocks s.phase s
item_meaning M blocks (Item.Show what) s = with_power s.phase s (prints (M.text what s.view) s)

-- ================ lines

-- a line more was carried out
abbrev pub one_more : {V : Type 0} → State V → Part V
one_more s = prints [] (record s { lines = s.lines + 1 })

-- one line, where None is one that is no item, too long or cut short
abbrev pub line_meaning : {V : Type 0} → Machine V → Blocks → Option Item → State V → Part V
line_meaning M blocks None s = ends Stops [] s
line_meaning M blocks (Some item) s = if nat_lt s.lines MOST_LINES then followed_by (item_meaning M blocks item s) one_more else ends Stops [] s

-- lines in order, up to the first that ends the run
abbrev pub lines_meaning : {V : Type 0} → Machine V → Blocks → List (Option Item) → State V → Part V
lines_meaning M blocks [] s = prints [] s
lines_meaning M blocks (line ∷ lines) s = followed_by (line_meaning M blocks line s) (λ u. lines_meaning M blocks lines u)
