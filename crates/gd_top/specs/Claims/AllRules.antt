-- What the view of each legal history from nothing keeps.
use Rattle.std.specs.Prelude.{◌≡◌, ℕ, IsTrue, List}
use Rattle.gd_base.specs.declared.setup.Setup.{Setup}
use Rattle.gd_base.specs.Histories.Entry.{Entry}
use Rattle.gd_base.specs.Histories.View.{View}
use Rattle.gd_base.specs.Judging.Legal.{IsLegal, view_over}
use Rattle.gd_base.specs.Judging.Machine.{Blocks}
use Rattle.gd_base.specs.Laws.Preserved.{HaveWidths}
use Rattle.gd_base.specs.Outside.Blocks.{AreBlocks}
use Rattle.gd_base.specs.Payloads.Bytes.{payload_of}
use Rattle.gd_base.specs.Payloads.Spelled.{Shows}
use Rattle.gd_base.specs.Payloads.ViewRules.{is_possible, is_possible_under}
use Rattle.gd_machine.specs.Meaning.{the_machine}

-- a view that keeps all rules of a view and those of its setup, and that its payload spells
pub record IsSpelled (setup : Setup) (v : View) : Type 0 where
  pub possible : IsTrue (is_possible v)
  pub under : IsTrue (is_possible_under setup v)
  pub spelled : (the_machine setup).spelled (payload_of v) ≡ Shows v

-- So is the view of each legal history from nothing, where blocks are of sixteen words of 64 bits, and the id of a voucher
-- has 64 bits.
abbrev pub SpellsEachHistory : Setup → Type 0
SpellsEachHistory setup =
    (blocks : Blocks) (lap : ℕ) (past : List Entry) → AreBlocks blocks → HaveWidths past
    → IsLegal (the_machine setup) blocks lap (the_machine setup).empty past
    → IsSpelled setup (view_over (the_machine setup) (the_machine setup).empty past)
