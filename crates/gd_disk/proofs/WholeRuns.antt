-- For callers: how the record of a run of calls is got, and how one run goes on after another.
use Rattle.std.proofs.Common.{◌≡◌, ◌⊎◌, inl, inr, ⊎_elim, ℕ, ◌+◌, ◌<◌, ◌≤◌, List, [], ◌∷◌, length, Result, Ok, Err, refl, sym, ◌∙◌, ap, subst, arith, true, false, OnOk, OnErr, is_err}
use Rattle.std.proofs.lemmas.Bool.{cases_lt}
use Rattle.gd_disk.specs.Disk.{DiskState, IsCut, CountsCuts, Answers, Rose, later_cuts}
use Rattle.gd_disk.specs.Runs.{IsLeft, CutsLeft, IsWithin, CanMeet}
use Rattle.gd_disk.specs.CutRuns.{IsCompleteRun, ComesBehind, FirstComes, IsCutOff, IsFaulted, RunOf}
use Rattle.gd_disk.proofs.Cuts.{no_call, after_write, after_sync, left_then, used_then}
use Rattle.gd_disk.specs.declared.disk.CutUnit.{CutUnit}
use Rattle.gd_disk.specs.declared.disk.CutUnit.TheVariants.{Call, Sync}
use Rattle.gd_disk.specs.declared.disk.ArmedCut.{ArmedCut}

-- no cut moves where the list stands
stands : (old new : List ArmedCut) → new ≡ old → CutsLeft 0 old new
stands old new same = subst (λ (l : List ArmedCut). CutsLeft 0 old l) (sym same) (no_call old)

-- the first cut comes at a write, and at a sync
write_unit : (u : CutUnit) (n t : ℕ) (later : List ArmedCut) → IsCut false (record { unit = u; count = n; torn = t } ∷ later) → ComesBehind 0 0 u n
write_unit Call n t later cut = tt
write_unit Sync n t later cut = absurd (clash cut.0)
  where
    clash : false ≡ true → ⊥
    clash e = cc

at_write : (armed : List ArmedCut) → IsCut false armed → FirstComes 0 0 armed
at_write [] cut = cut
at_write (first ∷ later) cut = write_unit first.unit first.count first.torn later cut

sync_unit : (u : CutUnit) (n : ℕ) → n ≤ 1 → ComesBehind 0 1 u n
sync_unit Call n le = tt
sync_unit Sync n le = (omega (arith, le), omega arith)

at_sync : (armed : List ArmedCut) → IsCut true armed → FirstComes 0 1 armed
at_sync [] cut = cut
at_sync (first ∷ later) cut = sync_unit first.unit first.count cut.1

-- of a run with no call
pub no_run : {T E : Type 0} (x : T) (disk : DiskState) → RunOf {T = T} {E = E} 0 (Ok x) disk disk
no_run x disk = record { whole = record { made = omega arith; left = no_call disk.armed; no_fault = refl }; failed = tt; was_off = λ off. record { syncs = refl; armed = refl; faults = refl } }

-- of a read
pub of_read : {T E : Type 0} (r : Result T E) (old new : DiskState) → new.syncs ≡ old.syncs → new.armed ≡ old.armed → OnErr r (old.is_on ≡ true → Rose old.faults new.faults) → (old.is_on ≡ false → new.faults ≡ old.faults) → Answers r old new → RunOf 0 r old new
of_read (Ok x) old new syncs armed fault off answer = record {
  whole = record { made = omega (arith, syncs); left = stands old.armed new.armed armed; no_fault = answer.no_fault };
  failed = tt;
  was_off = λ was. record { syncs = syncs; armed = armed; faults = off was };
}
of_read (Err e) old new syncs armed fault off answer = record {
  whole = tt;
  failed = λ on. inr (record { done = 0; within = omega arith; made = omega (arith, syncs); left = stands old.armed new.armed armed; fault = fault on });
  was_off = λ was. record { syncs = syncs; armed = armed; faults = off was };
}

-- of a write
pub of_write : {T E : Type 0} (r : Result T E) (old new : DiskState) → new.syncs ≡ old.syncs → CountsCuts false r old new → Answers r old new → RunOf 0 r old new
of_write (Ok x) old new syncs call answer = record {
  whole = record { made = omega (arith, syncs); left = after_write old.armed new.armed call.one_less call.no_cut; no_fault = answer.no_fault };
  failed = tt;
  was_off = λ was. record { syncs = syncs; armed = (call.was_off was).0; faults = (call.was_off was).1 };
}
of_write (Err e) old new syncs call answer = record {
  whole = tt;
  failed = λ on. ⊎_elim
      (λ cut. inl (record { done = 0; within = omega arith; made = omega (arith, syncs); came = at_write old.armed cut.0; used = cut.1; no_fault = cut.2 }))
      (λ fault. inr (record { done = 0; within = omega arith; made = omega (arith, syncs); left = stands old.armed new.armed fault.0; fault = fault.1 }))
      (call.cause on);
  was_off = λ was. record { syncs = syncs; armed = (call.was_off was).0; faults = (call.was_off was).1 };
}

-- of a sync
pub of_sync : {T E : Type 0} (r : Result T E) (old new : DiskState) → OnOk r (new.syncs ≡ old.syncs + 1) → OnErr r (new.syncs ≡ old.syncs) → CountsCuts true r old new → Answers r old new → RunOf 1 r old new
of_sync (Ok x) old new more none call answer = record {
  whole = record { made = more; left = after_sync old.armed new.armed call.one_less call.no_cut; no_fault = answer.no_fault };
  failed = tt;
  was_off = λ was. absurd (let on : old.is_on ≡ true = answer.was_on in let never : true ≡ false = sym on ∙ was in cc never);
}
of_sync (Err e) old new more none call answer = record {
  whole = tt;
  failed = λ on. ⊎_elim
      (λ cut. inl (record { done = 0; within = omega arith; made = omega (arith, none); came = at_sync old.armed cut.0; used = cut.1; no_fault = cut.2 }))
      (λ fault. inr (record { done = 0; within = omega arith; made = omega (arith, none); left = stands old.armed new.armed fault.0; fault = fault.1 }))
      (call.cause on);
  was_off = λ was. record { syncs = none; armed = (call.was_off was).0; faults = (call.was_off was).1 };
}

-- a cut that the rest of a run meets, behind the syncs of the first part
comes_at : (j d k : ℕ) (u : CutUnit) (n m : ℕ) → IsLeft j u n m → ComesBehind d k u m → ComesBehind (j + d) (j + k) u n
comes_at j d k Call n m first came = tt
comes_at j d k Sync n m first came = (⊎_elim (λ some. omega (arith, first.0, first.1 some, came.0)) (λ none. omega (arith, first.0, came.0, none)) (cases_lt 0 j), omega (arith, came.1))

comes_then : (j d k : ℕ) (a b : List ArmedCut) → CutsLeft j a b → FirstComes d k b → FirstComes (j + d) (j + k) a
comes_then j d k [] b first came = subst (λ (l : List ArmedCut). FirstComes d k l) first came
comes_then j d k (cut ∷ later) b first came = comes_at j d k cut.unit cut.count first.0 first.2 (subst (λ (l : List ArmedCut). FirstComes d k l) first.1 came)

failed_then : (j k : ℕ) (old mid new : DiskState) → IsCompleteRun j old mid → IsCutOff k mid new ⊎ IsFaulted k mid new → IsCutOff (j + k) old new ⊎ IsFaulted (j + k) old new
failed_then j k old mid new first failed = ⊎_elim
    (λ cut. inl (record {
      done = j + cut.done;
      within = omega (arith, cut.within);
      made = omega (arith, first.made, cut.made);
      came = comes_then j cut.done k old.armed mid.armed first.left cut.came;
      used = cut.used ∙ used_then j old.armed mid.armed first.left;
      no_fault = cut.no_fault ∙ first.no_fault;
    }))
    (λ fault. inr (record {
      done = j + fault.done;
      within = omega (arith, fault.within);
      made = omega (arith, first.made, fault.made);
      left = left_then j fault.done old.armed mid.armed new.armed first.left fault.left;
      fault = subst (λ (n : ℕ). Rose n new.faults) first.no_fault fault.fault;
    }))
    failed

never_off : {A : Type 0} (disk : DiskState) → disk.is_on ≡ true → disk.is_on ≡ false → A
never_off disk on off = let never : true ≡ false = sym on ∙ off in cc never

-- one run after another that was whole
pub run_on : {T E : Type 0} (j k : ℕ) (r : Result T E) (old mid new : DiskState) → old.is_on ≡ true → mid.is_on ≡ true → IsCompleteRun j old mid → RunOf k r mid new → RunOf (j + k) r old new
run_on j k (Ok x) old mid new was on first rest = record {
  whole = record { made = omega (arith, first.made, rest.whole.made); left = left_then j k old.armed mid.armed new.armed first.left rest.whole.left; no_fault = rest.whole.no_fault ∙ first.no_fault };
  failed = tt;
  was_off = λ off. never_off old was off;
}
run_on j k (Err e) old mid new was on first rest = record {
  whole = tt;
  failed = λ again. failed_then j k old mid new first (rest.failed on);
  was_off = λ off. never_off old was off;
}

more_comes : (d j n : ℕ) (u : CutUnit) (m : ℕ) → j ≤ n → ComesBehind d j u m → ComesBehind d n u m
more_comes d j n Call m le came = tt
more_comes d j n Sync m le came = (came.0, omega (arith, came.1, le))

more_first : (d j n : ℕ) (a : List ArmedCut) → j ≤ n → FirstComes d j a → FirstComes d n a
more_first d j n [] le came = came
more_first d j n (cut ∷ later) le came = more_comes d j n cut.unit cut.count le came

pub fails_more : (j n : ℕ) (old new : DiskState) → j ≤ n → IsCutOff j old new ⊎ IsFaulted j old new → IsCutOff n old new ⊎ IsFaulted n old new
fails_more j n old new le failed = ⊎_elim
    (λ cut. inl (record { done = cut.done; within = omega (arith, cut.within, le); made = cut.made; came = more_first cut.done j n old.armed le cut.came; used = cut.used; no_fault = cut.no_fault }))
    (λ fault. inr (record { done = fault.done; within = omega (arith, fault.within, le); made = fault.made; left = fault.left; fault = fault.fault }))
    failed

-- the first part of a run failed, so the run did
pub run_fails : {T E S F : Type 0} (j n : ℕ) (e : E) (r : Result S F) (old new : DiskState) → is_err r ≡ true → j ≤ n → RunOf {T = T} j (Err e) old new → RunOf n r old new
run_fails j n e (Ok x) old new is le run = absurd (clash is)
  where
    clash : false ≡ true → ⊥
    clash never = cc
run_fails j n e (Err f) old new is le run = record { whole = tt; failed = λ on. fails_more j n old new le (run.failed on); was_off = run.was_off }

-- the same run, under another answer
pub run_gives : {T E S F : Type 0} (n : ℕ) (x : T) (y : S) (old new : DiskState) → RunOf {T = T} {E = E} n (Ok x) old new → RunOf {T = S} {E = F} n (Ok y) old new
run_gives n x y old new run = record { whole = run.whole; failed = tt; was_off = run.was_off }

pub whole_then : (j k : ℕ) (old mid new : DiskState) → IsCompleteRun j old mid → IsCompleteRun k mid new → IsCompleteRun (j + k) old new
whole_then j k old mid new first second = record { made = omega (arith, first.made, second.made); left = left_then j k old.armed mid.armed new.armed first.left second.left; no_fault = second.no_fault ∙ first.no_fault }

-- calls that make no sync, and then a whole run
pub after_none : (k : ℕ) (old mid new : DiskState) → IsCompleteRun 0 old mid → IsCompleteRun k mid new → IsCompleteRun k old new
after_none k old mid new first second = subst (λ (n : ℕ). IsCompleteRun n old new) (omega arith) (whole_then 0 k old mid new first second)

-- a whole run that began with the power on
pub whole_run : {T E : Type 0} (n : ℕ) (x : T) (old new : DiskState) → old.is_on ≡ true → IsCompleteRun n old new → RunOf {T = T} {E = E} n (Ok x) old new
whole_run n x old new was whole = record { whole = whole; failed = tt; was_off = λ off. never_off old was off }

-- of a run with no call, whose number of syncs comes to none
pub no_syncs : {T E : Type 0} (n : ℕ) (x : T) (disk : DiskState) → n ≡ 0 → RunOf {T = T} {E = E} n (Ok x) disk disk
no_syncs {T} {E} n x disk none = subst (λ (k : ℕ). RunOf {T = T} {E = E} k (Ok x) disk disk) (sym none) (no_run x disk)

-- ---- for a caller that tells a cut from a fault by how many cuts are armed

meets_unit : (done syncs : ℕ) (u : CutUnit) (n : ℕ) → ComesBehind done syncs u n → IsWithin syncs u n
meets_unit done syncs Call n came = tt
meets_unit done syncs Sync n came = omega (arith, came.0, came.1)

meets : (done syncs : ℕ) (armed : List ArmedCut) → FirstComes done syncs armed → CanMeet syncs armed
meets done syncs [] came = came
meets done syncs (cut ∷ later) came = meets_unit done syncs cut.unit cut.count came

-- the cut that came is one that the run can meet
pub cut_met : (syncs : ℕ) (old new : DiskState) → IsCutOff syncs old new → CanMeet syncs old.armed
cut_met syncs old new cut = meets cut.done syncs old.armed cut.came

one_more : (done syncs : ℕ) (armed : List ArmedCut) → FirstComes done syncs armed → length armed ≡ length (later_cuts armed) + 1
one_more done syncs [] came = absurd came
one_more done syncs (cut ∷ later) came = omega arith

-- a cut leaves one less, and a fault as many
pub cut_lowers : (syncs : ℕ) (old new : DiskState) → IsCutOff syncs old new → length old.armed ≡ length new.armed + 1
cut_lowers syncs old new cut = one_more cut.done syncs old.armed cut.came ∙ ap (λ (l : List ArmedCut). length l + 1) (sym cut.used)

as_many : (syncs : ℕ) (old new : List ArmedCut) → CutsLeft syncs old new → length new ≡ length old
as_many syncs [] new left = ap length left
as_many syncs (cut ∷ later) new left = ap length left.1

pub fault_keeps : (syncs : ℕ) (old new : DiskState) → IsFaulted syncs old new → length new.armed ≡ length old.armed
fault_keeps syncs old new fault = as_many fault.done old.armed new.armed fault.left

-- a run that failed with the power on was cut where fewer cuts are armed after it
pub was_cut : {T E : Type 0} (syncs : ℕ) (e : E) (old new : DiskState) → RunOf {T = T} syncs (Err e) old new → old.is_on ≡ true → length new.armed < length old.armed → IsCutOff syncs old new
was_cut syncs e old new run on fewer = ⊎_elim (λ cut. cut) (λ fault. let same : length new.armed ≡ length old.armed = fault_keeps syncs old new fault in absurd (omega (arith, same, fewer))) (run.failed on)

-- and else it had a fault
pub was_fault : {T E : Type 0} (syncs : ℕ) (e : E) (old new : DiskState) → RunOf {T = T} syncs (Err e) old new → old.is_on ≡ true → length old.armed ≤ length new.armed → IsFaulted syncs old new
was_fault syncs e old new run on no_fewer = ⊎_elim (λ cut. let less : length old.armed ≡ length new.armed + 1 = cut_lowers syncs old new cut in absurd (omega (arith, less, no_fewer))) (λ fault. fault) (run.failed on)
