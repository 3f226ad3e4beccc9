-- What is known of the test on two views, and of a view with no entry, of those that payloads spell.
use Rattle.std.specs.Prelude.{◌≡◌, ℕ, true, List}
use Rattle.gd_base.specs.declared.step.What.{What}
use Rattle.gd_base.specs.Judging.Machine.{Machine}
use Rattle.gd_base.specs.Payloads.Spelled.{Shows}

-- there is a payload that spells this view
abbrev pub HasPayload : {V : Type 0} → Machine V → V → Type 0
HasPayload M v = (payload : List ℕ) × (M.spelled payload ≡ Shows v)

-- Two views that payloads spell, and that the test calls the same, are one. A view that a payload spells, with no entry
-- and with the text of the empty state, is the empty view. One view may have several payloads.
pub record TellsViews {V : Type 0} (M : Machine V) : Type 0 where
  pub same_is : (v w : V) → HasPayload M v → HasPayload M w → M.same v w ≡ true → v ≡ w
  pub empty_is : (v : V) → HasPayload M v → M.count v ≡ 0 → M.text What.State v ≡ M.text What.State M.empty → v ≡ M.empty
