-- What an opening leaves of the syncs, the cuts and the faults, and exactly where each answer comes.
use Rattle.std.proofs.Common.{◌≡◌, ◌∙◌, sym, ap, subst, refl, arith, ◌+◌, ◌≤◌, ◌^◌, true, false, Bool, List, ℕ, Option, Some, None, Err}
use Rattle.std.proofs.lemmas.Bool.Decides.{nat_tests}
use Rattle.gd_base.specs.Judging.Answer.{answer, after_answer, is_full, is_new}
use Rattle.gd_base.specs.Judging.Legal.{draw_of}
use Rattle.gd_base.specs.Judging.Machine.{Machine, Blocks}
use Rattle.gd_base.specs.Payloads.Spelled.{Shows}
use Rattle.gd_disk.specs.CutRuns.{IsCompleteRun, RunOf}
use Rattle.gd_disk.specs.Disk.{DiskState, IfTold}
use Rattle.gd_disk.proofs.WholeRuns.{run_on, run_fails, after_none, whole_then}
use Rattle.gd_store.specs.Booting.{IsFound}
use Rattle.gd_store.specs.Copy.{boots}
use Rattle.gd_store.specs.Opening.{repairs_of}
use Rattle.gd_store.specs.Repair.{Repair, NoRepair, RepairA, RepairB, repair_needed, syncs_of_repair}
use Rattle.gd_store.specs.declared.copy.states.Found.{Found}
use Rattle.gd_store.specs.declared.copy.layout.TheConstants.{LAYOUT}
use Rattle.gd_base.proofs.AnswerLemmas.Answer.{answer_full}
use Rattle.gd_cabinet.specs.Answers.{syncs_of}
use Rattle.gd_cabinet.specs.OpenAnswer.{OpenedAs, OnReady}
use Rattle.gd_cabinet.specs.OpenMoments.{opening_syncs, start_of, view_started}
use Rattle.gd_cabinet.specs.OpenRuns.{RunsBy}
use Rattle.gd_cabinet.specs.Shown.{shows}
use Rattle.gd_cabinet.specs.Cabinet.{cabinet_core}
use Rattle.gd_cabinet.specs.declared.opening.CabinetOpened.{CabinetOpened}
use Rattle.gd_cabinet.proofs.Cutting.{starting, syncs_are}
use Rattle.gd_cabinet.proofs.Showing.{told_maps, as_found}

-- ---- the runs

-- reads, and then the rest of an opening
reads_then : {C D W : Type 0} {g h i : _} (r : CabinetOpened C D W g h i) (n : ℕ) (old mid new : DiskState) → old.is_on ≡ true → mid.is_on ≡ true → IsCompleteRun 0 old mid → RunsBy r n mid new → RunsBy r n old new
reads_then (CabinetOpened.Ready cabinet found) n old mid new was on first rest = after_none n old mid new first rest
reads_then (CabinetOpened.Locked why found parts) n old mid new was on first rest = after_none 0 old mid new first rest
reads_then (CabinetOpened.Differs kept found parts) n old mid new was on first rest = after_none 0 old mid new first rest
reads_then (CabinetOpened.Off found parts) n old mid new was on first rest = run_fails (0 + n) n tt (Err tt) old new refl (omega arith) (run_on 0 n (Err tt) old mid new was on first rest)

pub reads_before_told : {V C D W : Type 0} {g h i : _} (r : CabinetOpened C D W g h i) (M N : Machine V) (old mid new : DiskState) → N ≡ M → mid.seen ≡ old.seen → old.is_on ≡ true → mid.is_on ≡ true → IsCompleteRun 0 old mid
    → IfTold mid.seen (λ image. RunsBy r (opening_syncs N image) mid new) → IfTold old.seen (λ image. RunsBy r (opening_syncs M image) old new)
reads_before_told r M N old mid new same seen was on first told =
    let told_of = subst (λ (s : Option (List ℕ)). IfTold s (λ image. RunsBy r (opening_syncs M image) mid new)) seen (subst (λ K. IfTold mid.seen (λ image. RunsBy r (opening_syncs K image) mid new)) same told) in
    told_maps old.seen (λ image. RunsBy r (opening_syncs M image) mid new) (λ image. RunsBy r (opening_syncs M image) old new) (λ image run. reads_then r (opening_syncs M image) old mid new was on first run) told_of

-- what the repair and the start make is so by the image
pub by_image : {V : Type 0} (M : Machine V) (found : Found) (n : ℕ) (p : List ℕ) (v : V) (seen : Option (List ℕ)) (P : ℕ → Type 0) → IfTold seen (λ image. IsFound LAYOUT found image × (boots LAYOUT image ≡ Some (n, p)))
    → ((image : List ℕ) → boots LAYOUT image ≡ Some (n, p) → shows M image ≡ Shows v) → P (syncs_of_repair (repair_needed found) + starting M v) → IfTold seen (λ image. P (opening_syncs M image))
by_image M found n p v seen P told show here =
    told_maps seen (λ image. IsFound LAYOUT found image × (boots LAYOUT image ≡ Some (n, p))) (λ image. P (opening_syncs M image)) (λ image is.
    subst P (syncs_are M found v image (as_found LAYOUT found image is.0) (show image is.1)) here) told

-- a repair that failed
pub repair_failed_run : {V : Type 0} (M : Machine V) (old new : DiskState) → IfTold old.seen (λ image. RunOf {T = Unit {0}} {E = Unit {0}} (repairs_of LAYOUT image) (Err tt) old new) → IfTold old.seen (λ image. RunOf {T = Unit {0}} {E = Unit {0}} (opening_syncs M image) (Err tt) old new)
repair_failed_run M old new told = told_maps old.seen (λ image. RunOf {T = Unit {0}} {E = Unit {0}} (repairs_of LAYOUT image) (Err tt) old new) (λ image. RunOf {T = Unit {0}} {E = Unit {0}} (opening_syncs M image) (Err tt) old new)
    (λ image run. run_fails (repairs_of LAYOUT image) (opening_syncs M image) tt (Err tt) old new refl (omega arith) run) told

-- a first reading that failed
pub reading_failed_run : {V : Type 0} (M : Machine V) (old new : DiskState) → RunOf {T = Unit {0}} {E = Unit {0}} 0 (Err tt) old new → IfTold old.seen (λ image. RunOf {T = Unit {0}} {E = Unit {0}} (opening_syncs M image) (Err tt) old new)
reading_failed_run M old new run = of_each old.seen (λ image. run_fails 0 (opening_syncs M image) tt (Err tt) old new refl (omega arith) run)
  where
    of_each : {P : List ℕ → Type 0} (seen : Option (List ℕ)) → ((image : List ℕ) → P image) → IfTold seen P
    of_each None all = tt
    of_each (Some image) all = all image

few_syncs : (r : Repair) → syncs_of_repair r ≤ 3
few_syncs NoRepair = omega arith
few_syncs RepairA = omega arith
few_syncs RepairB = omega arith

few_starts : {V : Type 0} (M : Machine V) (v : V) → starting M v ≤ 6
few_starts M v = of_each (is_new (answer M v (start_of M v)))
  where
    of_each : (is : Bool) → syncs_of is ≤ 6
    of_each true = omega arith
    of_each false = omega arith

-- the start behind the repair: it was made, or it failed
pub start_made : {V : Type 0} (M N : Machine V) (j : ℕ) (v : V) (old mid new : DiskState) → N ≡ M → IsCompleteRun j old mid → IsCompleteRun (starting N v) mid new → IsCompleteRun (j + starting M v) old new
start_made M N j v old mid new same first second = subst (λ K. IsCompleteRun (j + starting K v) old new) same (whole_then j (starting N v) old mid new first second)

pub start_not_made : {V : Type 0} (M N : Machine V) (j : ℕ) (v : V) (old mid new : DiskState) → N ≡ M → old.is_on ≡ true → mid.is_on ≡ true → IsCompleteRun j old mid → RunOf {T = Unit {0}} {E = Unit {0}} (starting N v) (Err tt) mid new
    → RunOf {T = Unit {0}} {E = Unit {0}} (j + starting M v) (Err tt) old new
start_not_made M N j v old mid new same was on first rest = subst (λ K. RunOf {T = Unit {0}} {E = Unit {0}} (j + starting K v) (Err tt) old new) same (run_on j (starting N v) (Err tt) old mid new was on first rest)

pub started_as : {V : Type 0} (M N : Machine V) (blocks : Blocks) (lap : ℕ) (u v : V) → N ≡ M → u ≡ view_started N blocks lap v → u ≡ view_started M blocks lap v
started_as M N blocks lap u v same is = subst (λ K. u ≡ view_started K blocks lap v) same is

pub repair_at_most : (old new : DiskState) → RunOf {T = Unit {0}} {E = Unit {0}} 3 (Err tt) old new → RunOf {T = Unit {0}} {E = Unit {0}} 9 (Err tt) old new
repair_at_most old new run = run_fails 3 9 tt (Err tt) old new refl (omega arith) run

pub both_at_most : {V : Type 0} (M : Machine V) (repair : Repair) (v : V) (old new : DiskState) → RunOf {T = Unit {0}} {E = Unit {0}} (syncs_of_repair repair + starting M v) (Err tt) old new → RunOf {T = Unit {0}} {E = Unit {0}} 9 (Err tt) old new
both_at_most M repair v old new run =
    let few : syncs_of_repair repair ≤ 3 = few_syncs repair in
    let start : starting M v ≤ 6 = few_starts M v in
    run_fails (syncs_of_repair repair + starting M v) 9 tt (Err tt) old new refl (omega (arith, few, start)) run

-- ---- the start

no_room : {V : Type 0} (M : Machine V) (v : V) → is_full M v ≡ true → 2 ^ 36 ≤ M.count v
no_room M v full = grind (arith, nat_tests, full)

-- none is added where the history is full
stays_full : {V : Type 0} (M : Machine V) (blocks : Blocks) (lap : ℕ) (v : V) → is_full M v ≡ true → view_started M blocks lap v ≡ v
stays_full M blocks lap v full =
    let s = start_of M v in
    ap (λ a. after_answer M v s (draw_of M blocks lap v s.event) a) (answer_full M v s refl (no_room M v full))

full_view : {V : Type 0} (M : Machine V) (blocks : Blocks) (lap : ℕ) (image : List ℕ) (u v w : V) → shows M image ≡ Shows w → u ≡ view_started M blocks lap w → shows M image ≡ Shows v → is_full M v ≡ true → u ≡ v
full_view {V} M blocks lap image u v w is after shown full = after ∙ ap (view_started M blocks lap) (same_view w v (sym is ∙ shown)) ∙ stays_full M blocks lap v full
  where
    same_view : (w v : V) → Shows w ≡ Shows v → w ≡ v
    same_view w v same = cc

full_told : {V C D W : Type 0} {g h i : _} (M : Machine V) (view : C → V) (blocks : Blocks) (lap : ℕ) (r : CabinetOpened C D W g h i) (seen : Option (List ℕ)) → IfTold seen (OpenedAs M view blocks lap r)
    → OnReady r (λ cabinet found. IfTold seen (λ image. (v : V) → shows M image ≡ Shows v → is_full M v ≡ true → view (cabinet_core cabinet) ≡ v))
full_told {V} M view blocks lap (CabinetOpened.Ready cabinet found) seen told =
    told_maps seen (OpenedAs M view blocks lap (CabinetOpened.Ready cabinet found)) (λ image. (v : V) → shows M image ≡ Shows v → is_full M v ≡ true → view (cabinet_core cabinet) ≡ v)
    (λ image is v. full_view M blocks lap image (view (cabinet_core cabinet)) v is.1.0 is.1.1 is.1.2) told
full_told M view blocks lap (CabinetOpened.Locked why found parts) seen told = tt
full_told M view blocks lap (CabinetOpened.Differs kept found parts) seen told = tt
full_told M view blocks lap (CabinetOpened.Off found parts) seen told = tt

pub no_start_told : {V C D W : Type 0} {g h i : _} (M N : Machine V) (view : C → V) (blocks : Blocks) (lap : ℕ) (r : CabinetOpened C D W g h i) (old now : Option (List ℕ)) → N ≡ M → now ≡ old → IfTold now (OpenedAs N view blocks lap r)
    → OnReady r (λ cabinet found. IfTold old (λ image. (v : V) → shows M image ≡ Shows v → is_full M v ≡ true → view (cabinet_core cabinet) ≡ v))
no_start_told M N view blocks lap r old now same seen told =
    full_told M view blocks lap r old (subst (λ (s : Option (List ℕ)). IfTold s (OpenedAs M view blocks lap r)) seen (subst (λ K. IfTold now (OpenedAs K view blocks lap r)) same told))
