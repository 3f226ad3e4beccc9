-- What an event that is offered leaves.
use Rattle.std.proofs.Common.{◌≡◌, ◌∙◌, ◌⊎◌, inl, inr, ⊎_elim, sym, ap, subst, refl, arith, ℕ, ◌+◌, List, Result, Ok, Err, Option, Some, None, if◌then◌else◌, ◌&&◌}
use Rattle.gd_disk.specs.Disk.{DiskState}
use Rattle.gd_disk.specs.Runs.{LeavesOnly}
use Rattle.gd_disk.specs.CutRuns.{RunOf}
use Rattle.gd_disk.proofs.Runs.{started, weaker}
use Rattle.gd_disk.proofs.WholeRuns.{no_syncs, run_fails}
use Rattle.gd_base.specs.Judging.Answer.{answer, after_answer, is_new, draw_for}
use Rattle.gd_base.specs.Judging.Legal.{draw_of}
use Rattle.gd_base.specs.Judging.Machine.{Machine, Blocks}
use Rattle.gd_base.specs.Payloads.Spelled.{Shows}
use Rattle.gd_base.specs.declared.step.Numbered.{Numbered}
use Rattle.gd_base.specs.declared.step.Stepped.{Stepped}
use Rattle.gd_store.specs.Copy.{boots, HoldsBoth}
use Rattle.gd_store.specs.declared.copy.layout.TheConstants.{LAYOUT}
use Rattle.gd_cabinet.specs.Answers.{view_offered, syncs_of}
use Rattle.gd_cabinet.specs.Shown.{shows, ShowsEither}
use Rattle.gd_cabinet.proofs.Showing.{settled_shows}

-- a draw is handed in where the event is new; nowhere else does it matter
same_entry : {V : Type 0} (M : Machine V) (blocks : Blocks) (lap : ℕ) (v : V) (e : Numbered) (s : Stepped)
    → after_answer M v e (if is_new s && M.is_drawn v e.event then Some (M.index v, blocks lap (M.index v)) else None) s ≡ after_answer M v e (draw_of M blocks lap v e.event) s
same_entry M blocks lap v e (Stepped.New reply) = refl
same_entry M blocks lap v e (Stepped.Again reply) = refl
same_entry M blocks lap v e (Stepped.OutOfStep expected) = refl
same_entry M blocks lap v e Stepped.HistoryFull = refl

-- the view that a core has after its step
pub stepped_view : {V : Type 0} (M : Machine V) (blocks : Blocks) (lap : ℕ) (v w : V) (e : Numbered) (draw : Option (ℕ × List ℕ)) (s : Stepped)
    → draw ≡ draw_for M blocks lap v e → s ≡ answer M v e → w ≡ after_answer M v e draw s → w ≡ view_offered M blocks lap v e
stepped_view M blocks lap v w e draw s is_draw is_answer is =
    is ∙ ap (λ (d : Option (ℕ × List ℕ)). after_answer M v e d s) is_draw
    ∙ ap (λ (t : Stepped). after_answer M v e (draw_for M blocks lap v e) t) is_answer ∙ same_entry M blocks lap v e (answer M v e)

-- a commit of the payload that spells a view
pub commit_moments : {V : Type 0} (M : Machine V) (n : ℕ) (p q : List ℕ) (v : V) (s0 s1 : DiskState) → M.spelled q ≡ Shows v → M.count v ≡ n + 1
    → LeavesOnly s0 s1 (λ c. (boots LAYOUT c ≡ Some (n, p)) ⊎ (boots LAYOUT c ≡ Some (n + 1, q))) → LeavesOnly s0 s1 (λ c. (boots LAYOUT c ≡ Some (n, p)) ⊎ (shows M c ≡ Shows v))
commit_moments M n p q v s0 s1 spelled count run = weaker s0 s1 _ _ run (λ c either. ⊎_elim (λ old. inl old) (λ new. inr (settled_shows M (n + 1) q v c new spelled count)) either)

-- a commit of the next view
pub kept_moments : {V : Type 0} (M N : Machine V) (n : ℕ) (p : List ℕ) (v w x : V) (s0 s1 : DiskState) → N ≡ M → w ≡ x → M.spelled p ≡ Shows v → M.count v ≡ n
    → LeavesOnly s0 s1 (λ c. (boots LAYOUT c ≡ Some (n, p)) ⊎ (shows N c ≡ Shows w)) → LeavesOnly s0 s1 (ShowsEither M v x)
kept_moments M N n p v w x s0 s1 same is spelled count run = weaker s0 s1 _ _ run (λ c either. ⊎_elim
    (λ old. inl (settled_shows M n p v c old spelled count))
    (λ new. inr (ap (λ K. shows K c) (sym same) ∙ new ∙ ap Shows is)) either)

-- no call to the disk
pub no_moments : {V : Type 0} (M : Machine V) (n : ℕ) (p : List ℕ) (v x : V) (s : DiskState) → M.spelled p ≡ Shows v → M.count v ≡ n
    → ((c : List ℕ) → s.may_find c → HoldsBoth LAYOUT n p c × (boots LAYOUT c ≡ Some (n, p))) → LeavesOnly s s (ShowsEither M v x)
no_moments M n p v x s spelled count settled = started s _ (λ c may. inl (settled_shows M n p v c (settled c may).1 spelled count))

pub no_run : {V T E : Type 0} (M : Machine V) (v : V) (e : Numbered) (s : Stepped) (a : T) (disk : DiskState) → s ≡ answer M v e → syncs_of (is_new s) ≡ 0
    → RunOf {T = T} {E = E} (syncs_of (is_new (answer M v e))) (Ok a) disk disk
no_run M v e s a disk is none = no_syncs (syncs_of (is_new (answer M v e))) a disk (ap (λ (t : Stepped). syncs_of (is_new t)) (sym is) ∙ none)

-- a commit that failed
pub failed_run : {V T E S F : Type 0} (M : Machine V) (v : V) (e : Numbered) (s : Stepped) (x : E) (y : F) (old new : DiskState) → s ≡ answer M v e → syncs_of (is_new s) ≡ 6
    → RunOf {T = T} 6 (Err x) old new → RunOf {T = S} (syncs_of (is_new (answer M v e))) (Err y) old new
failed_run {V} {T} {E} {S} {F} M v e s x y old new is six run =
    let r : Result S F = Err y in
    subst (λ (n : ℕ). RunOf n r old new) (sym six ∙ ap (λ (t : Stepped). syncs_of (is_new t)) is) (run_fails {T = T} 6 6 x r old new refl (omega arith) run)
