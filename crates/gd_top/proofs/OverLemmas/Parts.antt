-- What a part leaves over any disk, by what was given.
use Rattle.std.proofs.Common.{◌≡◌, ◌≤◌, refl, ℕ, List, Option, None, Some, Result, Ok, Err, IsErrOf, OnErr}
use Rattle.gd_base.specs.Outside.Causes.{Rose}
use Rattle.gd_cabinet.specs.OpenRuns.{FirstReading, HasRead}
use Rattle.gd_cabinet.specs.declared.cabinet.Parts.{Parts}
use Rattle.gd_cabinet.specs.declared.opening.CabinetOpened.{CabinetOpened}
use Rattle.gd_cabinet.specs.declared.submitting.Stop.{Stop}
use Rattle.gd_disk.specs.Disk.{DiskState}
use Rattle.gd_store.specs.declared.copy.states.Found.{Found}
use Rattle.gd_top.specs.Code.Memory.{Moment, Serves}
use Rattle.gd_top.specs.Code.OverImage.{Ends, Rests, unless_given}
use Rattle.gd_top.specs.Code.Parts.{GivesText}
use Rattle.gd_top.specs.declared.halt.Halt.{Halt}
use Rattle.gd_top.proofs.RunLemmas.Said.{gives_no_disk_fault, on_err_at}

-- the copies were read before an opening failed
pub read_before : {C D W : Type 0} (g h i : _) (found : Option Found) (parts : Parts C D W) (old new : DiskState) (f : Found) → FirstReading {C = C} {D = D} {W = W} {g = g} {h = h} {i = i} (CabinetOpened.Off found parts) old new → found ≡ Some f → HasRead old new
read_before g h i (Some found) parts old new f read is = read
read_before g h i None parts old new f read is = absurd (cc is)

-- an event got no answer since the disk failed in it
pub was_off : {T : Type 0} {P : Type 0} (stop : Stop) → (IsErrOf {T = T} (Err stop) Stop.Stopped → ⊥) → (IsErrOf {T = T} (Err stop) Stop.Off → P) → P
was_off Stop.Off runs off = off refl
was_off Stop.Stopped runs off = absurd (runs refl)

-- no other halt comes of what is given than a write fault
pub no_halt : (r : Result (Unit {0}) Halt) (taken given : Option (List ℕ)) (text : List ℕ) (halt : Halt) → GivesText r taken given text → (halt ≡ Halt.WriteFault → ⊥) → r ≡ Err halt → ⊥
no_halt (Ok done) taken given text halt gives other is = cc is
no_halt (Err Halt.ScriptFault) taken given text halt gives other is = gives
no_halt (Err Halt.ReadFault) taken given text halt gives other is = gives
no_halt (Err Halt.DiskFault) taken given text halt gives other is = gives
no_halt (Err Halt.WriteFault) taken given text halt gives other is = other (same halt is)
  where
    same : (h : Halt) → (let r : Result (Unit {0}) Halt = Err Halt.WriteFault in r) ≡ Err h → h ≡ Halt.WriteFault
    same h e = cc e
no_halt (Err Halt.SetupDiffers) taken given text halt gives other is = gives

pub no_halt_given : (r : Result (Unit {0}) Halt) (taken given : Option (List ℕ)) (text : List ℕ) (why halt : Halt) → GivesText r taken given text → (halt ≡ Halt.WriteFault → ⊥) → (why ≡ halt → ⊥) → unless_given r why ≡ Err halt → ⊥
no_halt_given (Ok done) taken given text why halt gives other differ is = differ (same why halt is)
  where
    same : (a b : Halt) → (let r : Result (Unit {0}) Halt = Err a in r) ≡ Err b → a ≡ b
    same a b e = cc e
no_halt_given (Err failed) taken given text why halt gives other differ is = no_halt (Err failed) taken given text halt gives other is

pub not_given_ok : (r : Result (Unit {0}) Halt) (why : Halt) → unless_given r why ≡ Ok tt → ⊥
not_given_ok (Ok done) why is = cc is
not_given_ok (Err failed) why is = cc is

module _ {V : Type 0} (was now : Moment V) (machine : now.machine ≡ was.machine) (blocks : (lap index : ℕ) → now.blocks lap index ≡ was.blocks lap index) (falls : now.counts.falls.items ≡ was.counts.falls.items)
    (r : Result (Unit {0}) Halt) (text : List ℕ) (gives : GivesText r was.taken now.taken text) (later : was.faults ≤ now.faults) (cause : OnErr r (Rose was.faults now.faults)) where
  -- a text was given, or a front of it, and the disk did not fail
  pub ends_given : (Serves r → Rests now) → now.disk.stops ≡ was.disk.stops → Ends r was now
  ends_given rests same = record {
    rests = rests;
    no_stop = λ serves. same;
    disk_fault = λ is. absurd (gives_no_disk_fault r _ _ _ gives is);
    later = later;
    write_fault = λ is. on_err_at r _ _ cause is;
    machine = machine;
    blocks = blocks;
    falls = falls;
  }

  -- and then the run ended so
  pub ends_failed : (why : Halt) → (why ≡ Halt.DiskFault → Rose was.disk.stops now.disk.stops) → (Serves (Err why) → ⊥) → (why ≡ Halt.WriteFault → ⊥) → Ends (unless_given r why) was now
  ends_failed why stop none other = record {
    rests = λ serves. absurd (no_serving r gives serves);
    no_stop = λ serves. absurd (no_serving r gives serves);
    disk_fault = λ is. by_given r gives is;
    later = later;
    write_fault = λ is. by_cause r cause is;
    machine = machine;
    blocks = blocks;
    falls = falls;
  }
    where
      no_serving : (q : Result (Unit {0}) Halt) → GivesText q was.taken now.taken text → Serves (unless_given q why) → ⊥
      no_serving (Ok done) g serves = none serves
      no_serving (Err Halt.ScriptFault) g serves = g
      no_serving (Err Halt.ReadFault) g serves = g
      no_serving (Err Halt.DiskFault) g serves = g
      no_serving (Err Halt.WriteFault) g serves = serves
      no_serving (Err Halt.SetupDiffers) g serves = g

      same : (a b : Halt) → (let q : Result (Unit {0}) Halt = Err a in q) ≡ Err b → a ≡ b
      same a b e = cc e

      by_given : (q : Result (Unit {0}) Halt) → GivesText q was.taken now.taken text → unless_given q why ≡ Err Halt.DiskFault → Rose was.disk.stops now.disk.stops
      by_given (Ok done) g is = stop (same why Halt.DiskFault is)
      by_given (Err failed) g is = absurd (gives_no_disk_fault (Err failed) _ _ _ g is)

      by_cause : (q : Result (Unit {0}) Halt) → OnErr q (Rose was.faults now.faults) → unless_given q why ≡ Err Halt.WriteFault → Rose was.faults now.faults
      by_cause (Ok done) rose is = absurd (other (same why Halt.WriteFault is))
      by_cause (Err failed) rose is = rose
