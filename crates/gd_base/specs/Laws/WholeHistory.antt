-- The view that moves entry by entry is the view of the whole history, as sums, the latest and the last n.
use Rattle.std.specs.Prelude.{◌≡◌, ℕ, IsTrue, List, ◌∷◌}
use Rattle.gd_base.specs.declared.setup.Setup.{Setup}
use Rattle.gd_base.specs.Histories.Entry.{Entry}
use Rattle.gd_base.specs.Histories.History.{Origin}
use Rattle.gd_base.specs.Judging.Legal.{view_over}
use Rattle.gd_base.specs.Payloads.Spelled.{Spelled}
use Rattle.gd_base.specs.Payloads.ViewRules.{is_possible, is_possible_under}
use Rattle.gd_base.specs.Judging.Product.{machine}
use Rattle.gd_base.specs.Histories.View.{View}
use Rattle.gd_base.specs.Histories.ViewOf.{view_after, from_view, with_entry, empty_view, IsItself}

-- A view is enough: what is seen with one entry more is told by what was seen and the entry.
abbrev pub IsViewEnough : Type 0
IsViewEnough = (o : Origin) (e : Entry) (past : List Entry) → view_after o (e ∷ past) ≡ with_entry o.setup (view_after o past) e

-- the machine's view after any entries, over a view that is itself
abbrev pub IsWholeHistory : Type 0
IsWholeHistory =
    (setup : Setup) (digest : List ℕ) (spelled : List ℕ → Spelled View) (opening : View) (past : List Entry) → IsItself setup opening
    → view_over (machine setup digest spelled) opening past ≡ view_after (from_view setup opening) past

-- each view that keeps the rules of a view is itself, and so is the empty one
abbrev pub AreThemselves : Type 0
AreThemselves =
    ((setup : Setup) (v : View) → IsTrue (is_possible v) → IsTrue (is_possible_under setup v) → IsItself setup v)
    × ((setup : Setup) (digest : List ℕ) → IsItself setup (empty_view digest))
