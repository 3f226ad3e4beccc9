-- Why a command ends before anything is made or opened, and what it prints then.
use Rattle.std.specs.Prelude.{◌≡◌, ℕ, Bool, true, List, ◌++◌, codes, Option, None, Some, IfSome, is_some}
use Rattle.gd_base.specs.Outside.Causes.{Rose}
use Rattle.gd_games.specs.File.{fault_name, setup_fault}
use Rattle.gd_top.specs.declared.command.refusal.Refusal.{Refusal}
use Rattle.gd_top.specs.declared.status.Status.{Status}
use Rattle.gd_words.specs.declared.words.Words.{Words}

abbrev pub refusal_status : Refusal → Status
refusal_status Refusal.Usage = Status.Usage
refusal_status Refusal.ReadFault = Status.ReadFault
refusal_status (Refusal.Setup fault) = Status.SetupRefused
refusal_status Refusal.OutOfMemory = Status.OutOfMemory

abbrev pub refusal_text : Refusal → List ℕ
refusal_text Refusal.Usage = codes "usage\n"
refusal_text Refusal.ReadFault = codes "read fault\n"
refusal_text (Refusal.Setup fault) = codes "setup " ++ fault_name fault ++ codes "\n"
refusal_text Refusal.OutOfMemory = codes "no memory\n"

-- Why no setup is given: its file failed, or its bytes are no setup, of whose rules they break this one first. Want of memory
-- says nothing of them.
abbrev pub IsRefusedSetup : (is_named : Bool) → (left : Option (List ℕ)) → (was_faults faults : ℕ) → Refusal → Type 0
IsRefusedSetup is_named left was_faults faults Refusal.Usage = ⊥
IsRefusedSetup is_named left was_faults faults Refusal.ReadFault = (is_named ≡ true) × Rose was_faults faults
IsRefusedSetup is_named left was_faults faults (Refusal.Setup fault) =
    (is_named ≡ true) × (bytes : List ℕ) × IfSome left (λ all. all ≡ bytes) × (setup_fault bytes ≡ Some fault)
IsRefusedSetup is_named left was_faults faults Refusal.OutOfMemory = Unit {0}

-- the words name a file for the setup
abbrev pub names_setup : Words → Bool
names_setup w = is_some w.setup

-- Why a command is refused: the words are in no row, or no setup is given to them. Memory may be wanted for each.
abbrev pub IsRefusedAs : (meant : Option Words) → (left : Option (List ℕ)) → (was_faults faults : ℕ) → Refusal → Type 0
IsRefusedAs None left was_faults faults Refusal.Usage = Unit {0}
IsRefusedAs None left was_faults faults Refusal.OutOfMemory = Unit {0}
IsRefusedAs None left was_faults faults _ = ⊥
IsRefusedAs (Some w) left was_faults faults why = IsRefusedSetup (names_setup w) left was_faults faults why
