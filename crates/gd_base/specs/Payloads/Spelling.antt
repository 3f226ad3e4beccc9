-- What a payload spells, as a relation: the view whose payload it is, where that view keeps the rules of a view.
use Rattle.std.specs.Prelude.{◌≡◌, ◌≢◌, ℕ, IsTrue, List}
use Rattle.gd_base.specs.declared.setup.Setup.{Setup}
use Rattle.gd_base.specs.Payloads.Bytes.{payload_of}
use Rattle.gd_base.specs.Payloads.Spelled.{Spelled, Shows, Foreign, Unreadable}
use Rattle.gd_base.specs.Payloads.ViewRules.{is_possible, is_possible_under}
use Rattle.gd_base.specs.Histories.View.{View}

-- the payload is that of this view
abbrev pub Spells : List ℕ → View → Type 0
Spells payload v = IsTrue (is_possible v) × (payload ≡ payload_of v)

-- What is spelled to a machine of this setup, whose digest is given, where these views are spelled at all: a view of this
-- digest that keeps the rules of the setup, the digest of a view of another, or none.
abbrev pub SpelledBy : (View → Type 0) → Setup → List ℕ → Spelled View → Type 0
SpelledBy S setup digest (Shows v) = S v × (v.digest ≡ digest) × IsTrue (is_possible_under setup v)
SpelledBy S setup digest (Foreign kept) = (v : View) × S v × (v.digest ≢ digest) × (v.digest ≡ kept)
SpelledBy S setup digest Unreadable = (v : View) → S v → ((v.digest ≡ digest) × IsTrue (is_possible_under setup v) → ⊥) × ((v.digest ≢ digest) → ⊥)

abbrev pub SpelledAs : Setup → List ℕ → List ℕ → Spelled View → Type 0
SpelledAs setup digest payload = SpelledBy (Spells payload) setup digest
