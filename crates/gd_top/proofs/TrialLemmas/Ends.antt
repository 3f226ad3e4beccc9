-- Why a status came, and what a command did by its status.
use Rattle.std.proofs.Common.{◌≡◌, ◌⊎◌, inl, inr, ◌∙◌, ap, sym, refl, ◌≤◌, ℕ, List, arith, Result, Ok, Err}
use Rattle.gd_base.specs.Outside.Causes.{Rose}
use Rattle.gd_base.specs.Judging.Machine.{Machine, Blocks}
use Rattle.gd_top.specs.Claims.Runs.{Outer, Beginning, CarriesAsTold, HasCauses, IsEnd, RunTold, WroteReport, status_after}
use Rattle.gd_top.specs.Run.Life.{status_of}
use Rattle.gd_top.specs.Run.State.{Part, Phase, On, Off, Locked}
use Rattle.gd_top.specs.declared.halt.Halt.{Halt}
use Rattle.gd_top.specs.declared.status.Status.{Status}

risen : (a b c : ℕ) → Rose a b → b ≤ c → Rose a c
risen a b c h le = omega (arith, h, le)

later_risen : (a b c : ℕ) → a ≤ b → Rose b c → Rose a c
later_risen a b c le h = omega (arith, le, h)

module _ (status : Status) (was now : Outer) where
  uncaused : (s : Status) → status ≡ s → (s ≡ Status.ReadFault → ⊥) → (s ≡ Status.WriteFault → ⊥) → (s ≡ Status.DiskFault → ⊥) → HasCauses status was now
  uncaused s is a b d = record { read = λ e. absurd (a (sym is ∙ e)); write = λ e. absurd (b (sym is ∙ e)); disk = λ e. absurd (d (sym is ∙ e)) }

  -- each status has its cause
  pub causes : (r : Result (Unit {0}) Halt) (phase : Phase) (faults : ℕ) → (status ≡ status_after r phase) ⊎ ((status ≡ Status.WriteFault) × Rose faults now.write_faults)
      → was.write_faults ≤ faults → faults ≤ now.write_faults → (r ≡ Err Halt.ReadFault → Rose was.read_faults now.read_faults) → (r ≡ Err Halt.WriteFault → Rose was.write_faults faults)
      → (r ≡ Err Halt.DiskFault → Rose was.disk.faults now.disk.faults) → HasCauses status was now
  causes r phase faults (inr is) le later read write disk = record {
    read = λ e. absurd (cc (is.0, e));
    write = λ e. later_risen was.write_faults faults now.write_faults le is.1;
    disk = λ e. absurd (cc (is.0, e));
  }
  causes (Ok u) On faults (inl is) le later read write disk = uncaused Status.Done is (λ e. cc e) (λ e. cc e) (λ e. cc e)
  causes (Ok u) Off faults (inl is) le later read write disk = uncaused Status.Done is (λ e. cc e) (λ e. cc e) (λ e. cc e)
  causes (Ok u) Locked faults (inl is) le later read write disk = uncaused Status.Locked is (λ e. cc e) (λ e. cc e) (λ e. cc e)
  causes (Err Halt.ScriptFault) phase faults (inl is) le later read write disk = uncaused Status.ScriptFault is (λ e. cc e) (λ e. cc e) (λ e. cc e)
  causes (Err Halt.SetupDiffers) phase faults (inl is) le later read write disk = uncaused Status.SetupDiffers is (λ e. cc e) (λ e. cc e) (λ e. cc e)
  causes (Err Halt.ReadFault) phase faults (inl is) le later read write disk =
      record { read = λ e. read refl; write = λ e. absurd (cc (is, e)); disk = λ e. absurd (cc (is, e)) }
  causes (Err Halt.DiskFault) phase faults (inl is) le later read write disk =
      record { read = λ e. absurd (cc (is, e)); write = λ e. absurd (cc (is, e)); disk = λ e. disk refl }
  causes (Err Halt.WriteFault) phase faults (inl is) le later read write disk =
      record { read = λ e. absurd (cc (is, e)); write = λ e. risen was.write_faults faults now.write_faults (write refl) later; disk = λ e. absurd (cc (is, e)) }

module _ {V : Type 0} (begin : Beginning V) (M : Machine V) (B : Blocks) (falls : List ℕ) (was now : Outer) where
  -- where no count rose, it ends as the definition says
  ended_so : (status : Status) → IsEnd status → WroteReport begin M B status falls was now → CarriesAsTold begin M B status falls was now
  ended_so status end h = (end, h.script, h.of_source, sym h.ended ∙ ap (λ (t : Part V). status_of t.outcome t.state) h.is_run)

  pub carried_as_told : (status : Status) → RunTold begin M B status falls was now → HasCauses status was now → (Rose was.read_faults now.read_faults → ⊥)
      → (Rose was.write_faults now.write_faults → ⊥) → (Rose was.disk.faults now.disk.faults → ⊥) → CarriesAsTold begin M B status falls was now
  carried_as_told Status.Done h k read write disk = ended_so Status.Done tt h.0
  carried_as_told Status.ScriptFault h k read write disk = ended_so Status.ScriptFault tt h
  carried_as_told Status.Locked h k read write disk = ended_so Status.Locked tt h.0
  carried_as_told Status.SetupDiffers h k read write disk = ended_so Status.SetupDiffers tt h
  carried_as_told Status.ReadFault h k read write disk = absurd (read (k.read refl))
  carried_as_told Status.DiskFault h k read write disk = absurd (disk (k.disk refl))
  carried_as_told Status.WriteFault h k read write disk = absurd (write (k.write refl))
  carried_as_told _ h k read write disk = absurd h
