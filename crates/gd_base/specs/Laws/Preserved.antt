-- The next entry of the machine keeps all rules of a view, and so does a legal history.
use Rattle.std.specs.Prelude.{ℕ, ◌<◌, ◌^◌, IsTrue, List, [], ◌∷◌}
use Rattle.gd_base.specs.declared.event.Event.{Event}
use Rattle.gd_base.specs.declared.setup.Setup.{Setup}
use Rattle.gd_base.specs.Histories.Entry.{Entry}
use Rattle.gd_base.specs.Histories.View.{View}
use Rattle.gd_base.specs.Histories.ViewOf.{with_entry}
use Rattle.gd_base.specs.Judging.Legal.{IsNext, IsLegal, view_over}
use Rattle.gd_base.specs.Judging.Machine.{Blocks}
use Rattle.gd_base.specs.Judging.Product.{machine}
use Rattle.gd_base.specs.Outside.Blocks.{AreBlocks}
use Rattle.gd_base.specs.Payloads.Spelled.{Spelled}
use Rattle.gd_base.specs.Payloads.ViewRules.{is_possible, is_possible_under}

-- The numbers of an event that nothing bounds where it is taken: the id of a voucher. All others are bounded by being
-- taken, as a value by what is enabled and an order's number by that of the open one.
abbrev pub HasWidths : Event → Type 0
HasWidths (Event.VoucherIn id value) = id < 2 ^ 64
HasWidths _ = Unit {0}

-- the next entry over a view that keeps all rules, also those that name the setup, keeps them all
abbrev pub KeepsAllRules : Type 0
KeepsAllRules =
    (setup : Setup) (digest : List ℕ) (spelled : List ℕ → Spelled View) (blocks : Blocks) (lap : ℕ) (v : View) (e : Entry)
    → AreBlocks blocks → HasWidths e.event → IsTrue (is_possible v) → IsTrue (is_possible_under setup v)
    → IsNext (machine setup digest spelled) blocks lap v e
    → IsTrue (is_possible (with_entry setup v e)) × IsTrue (is_possible_under setup (with_entry setup v e))

-- of each entry of a history
abbrev pub HaveWidths : List Entry → Type 0
HaveWidths [] = Unit {0}
HaveWidths (e ∷ past) = HasWidths e.event × HaveWidths past

-- and so does a legal history over such a view
abbrev pub KeepsAllRulesOver : Type 0
KeepsAllRulesOver =
    (setup : Setup) (digest : List ℕ) (spelled : List ℕ → Spelled View) (blocks : Blocks) (lap : ℕ) (opening : View) (past : List Entry)
    → AreBlocks blocks → HaveWidths past → IsTrue (is_possible opening) → IsTrue (is_possible_under setup opening)
    → IsLegal (machine setup digest spelled) blocks lap opening past
    → (let v = view_over (machine setup digest spelled) opening past in IsTrue (is_possible v) × IsTrue (is_possible_under setup v))
