-- What each answer of an opening tells, and exactly where it comes: by what loading the booted payload answers.
use Rattle.std.specs.Prelude.{◌≡◌, ℕ, List, Option, Some, None}
use Rattle.gd_base.specs.Judging.Machine.{Machine}
use Rattle.gd_base.specs.Payloads.LoadedView.{at_sequence}
use Rattle.gd_base.specs.Payloads.Spelled.{load_answer}
use Rattle.gd_base.specs.declared.step.Loaded.{Loaded}
use Rattle.gd_cabinet.specs.declared.opening.Locked.{Locked}
use Rattle.gd_cabinet.specs.declared.opening.CabinetOpened.{CabinetOpened}

-- what loading what is booted answers, its count held against its sequence; nothing where none is booted
abbrev pub loading : {V : Type 0} → Machine V → Option (ℕ × List ℕ) → Option Loaded
loading M None = None
loading M (Some booted) = Some (load_answer (at_sequence M booted.0 (M.spelled booted.1)))

-- Each answer but Off comes exactly where this is so: they exclude one another.
abbrev pub AnswersTo : {C D W : Type 0} {g h i : _} → CabinetOpened C D W g h i → Option Loaded → Type 0
AnswersTo (CabinetOpened.Ready cabinet found) load = load ≡ Some Loaded.Read
AnswersTo (CabinetOpened.Locked Locked.Lost found parts) load = load ≡ None
AnswersTo (CabinetOpened.Locked Locked.Unreadable found parts) load = load ≡ Some Loaded.Unreadable
AnswersTo (CabinetOpened.Differs kept found parts) load = load ≡ Some (Loaded.Differs kept)
AnswersTo (CabinetOpened.Off found parts) load = Unit {0}

-- Locked as lost comes where a fact holds, and every other answer but Off where it doesn't
abbrev pub IsLostWhere : {C D W : Type 0} {g h i : _} → CabinetOpened C D W g h i → Type 0 → Type 0
IsLostWhere (CabinetOpened.Ready cabinet found) P = P → ⊥
IsLostWhere (CabinetOpened.Locked Locked.Lost found parts) P = P
IsLostWhere (CabinetOpened.Locked Locked.Unreadable found parts) P = P → ⊥
IsLostWhere (CabinetOpened.Differs kept found parts) P = P → ⊥
IsLostWhere (CabinetOpened.Off found parts) P = Unit {0}
