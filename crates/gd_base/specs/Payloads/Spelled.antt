-- What a payload spells, and what a core answers that loads it.
use Rattle.std.specs.Prelude.{◌≡◌, ◌⊎◌, refl, ℕ, List}
use Rattle.std.specs.Coded.{Coded, code_by, coded⊎, coded_list, coded_ℕ}
use base.Stored.{coded_unit}
use mathlib.Core.Logic.{inl, inr}
use Rattle.gd_base.specs.declared.step.Loaded.{Loaded}

-- a view under the given setup, one under another setup of this digest, or none
pub data Spelled (V : Type 0) : Type 0 where
  Shows : (view : V) → Spelled V
  Foreign : (kept : List ℕ) → Spelled V
  Unreadable : Spelled V

-- what a core answers that loads it
abbrev pub load_answer : {V : Type 0} → Spelled V → Loaded
load_answer (Shows v) = Loaded.Read
load_answer (Foreign kept) = Loaded.Differs kept
load_answer Unreadable = Loaded.Unreadable

-- ================ what is spelled is data, where views are

module _ {V : Type 0} where
  abbrev parts_of : Spelled V → List ℕ ⊎ (Unit {0} ⊎ V)
  parts_of (Shows v) = inr (inr v)
  parts_of (Foreign kept) = inl kept
  parts_of Unreadable = inr (inl tt)

  abbrev of_parts : List ℕ ⊎ (Unit {0} ⊎ V) → Spelled V
  of_parts (inl kept) = Foreign kept
  of_parts (inr (inl _)) = Unreadable
  of_parts (inr (inr v)) = Shows v

  pub of_parts_of : (s : Spelled V) → of_parts (parts_of s) ≡ s
  of_parts_of (Shows v) = refl
  of_parts_of (Foreign kept) = refl
  of_parts_of Unreadable = refl

  abbrev pub coded_spelled : Coded V → Coded (Spelled V)
  coded_spelled v = code_by (List ℕ ⊎ (Unit {0} ⊎ V)) (coded⊎ (coded_list coded_ℕ) (coded⊎ coded_unit v)) parts_of of_parts of_parts_of
