-- Kinds of items, and a line without its place among the lines.
use Rattle.std.specs.Prelude.{Bool, true, false, [], Option, None, Some}
use Rattle.gd_base.specs.Judging.Machine.{Machine, Blocks}
use Rattle.gd_script.specs.declared.item.Item.{Item}
use Rattle.gd_top.specs.Run.Items.{item_meaning}
use Rattle.gd_top.specs.Run.State.{State, Part, Stops, ends}

-- a comment or an empty line
abbrev pub is_comment : Item → Bool
is_comment Item.Skip = true
is_comment _ = false

-- an item about the machine
abbrev pub needs_memory : Item → Bool
needs_memory (Item.Event event) = true
needs_memory (Item.OrderEvent kind order) = true
needs_memory (Item.Again device) = true
needs_memory (Item.As number event) = true
needs_memory (Item.Show what) = true
needs_memory _ = false

-- None is a line that is no item, too long or cut short
abbrev pub line_alone : {V : Type 0} → Machine V → Blocks → Option Item → State V → Part V
line_alone M blocks None s = ends Stops [] s
line_alone M blocks (Some item) s = item_meaning M blocks item s
