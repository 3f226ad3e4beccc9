-- A payload spells at most one view.
use Rattle.std.specs.Prelude.{◌≡◌, ℕ, IsTrue, List}
use Rattle.gd_base.specs.declared.setup.Setup.{Setup}
use Rattle.gd_base.specs.Payloads.Bytes.{payload_of}
use Rattle.gd_base.specs.Payloads.Spelled.{Spelled}
use Rattle.gd_base.specs.Payloads.Spelling.{SpelledAs}
use Rattle.gd_base.specs.Payloads.ViewRules.{is_possible}
use Rattle.gd_base.specs.Histories.View.{View}

-- two views that keep the rules of a view and have one payload are one
abbrev pub HasOneView : Type 0
HasOneView = (v w : View) → IsTrue (is_possible v) → IsTrue (is_possible w) → payload_of v ≡ payload_of w → v ≡ w

-- so what a payload spells under a setup is one thing
abbrev pub SpellsOneThing : Type 0
SpellsOneThing =
    (setup : Setup) (digest payload : List ℕ) (s t : Spelled View) → SpelledAs setup digest payload s → SpelledAs setup digest payload t → s ≡ t
