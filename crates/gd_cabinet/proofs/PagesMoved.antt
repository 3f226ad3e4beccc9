-- The pages that an event leaves alone.
use Rattle.std.proofs.Common.{◌≡◌, ◌∙◌, ap, subst, refl, ℕ, List, Ok, Err, Some, false}
use Rattle.gd_disk.specs.Disk.{DiskState}
use Rattle.gd_disk.proofs.Runs.{started}
use Rattle.gd_base.specs.Judging.Answer.{after_answer, answer, is_new}
use Rattle.gd_base.specs.Judging.Legal.{draw_of}
use Rattle.gd_base.specs.Judging.Machine.{Blocks, Machine}
use Rattle.gd_base.specs.Payloads.Spelled.{Shows}
use Rattle.gd_base.specs.declared.step.Numbered.{Numbered}
use Rattle.gd_base.specs.declared.step.Stepped.{Stepped}
use Rattle.gd_store.specs.Changes.{PagesStand}
use Rattle.gd_store.specs.Copy.{boots, page, HoldsBoth}
use Rattle.gd_store.specs.declared.copy.layout.TheConstants.{LAYOUT}
use Rattle.gd_cabinet.specs.Answers.{view_offered}
use Rattle.gd_cabinet.specs.Pages.{WritesChanges}

-- a commit of the next view
pub pages_committed : {V T E S F : Type 0} (M N : Machine V) (w x : V) (kept after : List ℕ) (y : T) (z : S) (old new : DiskState) → N ≡ M → w ≡ x → WritesChanges {E = E} N w kept after (Ok y) old new → WritesChanges {E = F} M x kept after (Ok z) old new
pages_committed M N w x kept after y z old new same is writes = record {
  payload = writes.payload;
  spelled = subst (λ K. K.spelled writes.payload ≡ Shows w) same writes.spelled ∙ ap Shows is;
  stand = writes.stand;
  is_kept = writes.is_kept;
}

-- one that failed
pub pages_off : {V T E S F : Type 0} (M N : Machine V) (w x : V) (kept after : List ℕ) (y : E) (z : F) (old new : DiskState) → N ≡ M → w ≡ x → WritesChanges {T = T} N w kept after (Err y) old new → WritesChanges {T = S} M x kept after (Err z) old new
pages_off M N w x kept after y z old new same is writes = record {
  payload = writes.payload;
  spelled = subst (λ K. K.spelled writes.payload ≡ Shows w) same writes.spelled ∙ ap Shows is;
  stand = writes.stand;
  is_kept = tt;
}

-- an event that isn't new leaves the view as it is
same_view : {V : Type 0} (M : Machine V) (blocks : Blocks) (lap : ℕ) (v : V) (e : Numbered) (s : Stepped) → s ≡ answer M v e → is_new s ≡ false → v ≡ view_offered M blocks lap v e
same_view M blocks lap v e (Stepped.New reply) is none = absurd (cc none)
same_view M blocks lap v e (Stepped.Again reply) is none = ap (λ (t : Stepped). after_answer M v e (draw_of M blocks lap v e.event) t) is
same_view M blocks lap v e (Stepped.OutOfStep expected) is none = ap (λ (t : Stepped). after_answer M v e (draw_of M blocks lap v e.event) t) is
same_view M blocks lap v e Stepped.HistoryFull is none = ap (λ (t : Stepped). after_answer M v e (draw_of M blocks lap v e.event) t) is

-- no call to the disk
pub pages_stood : {V S F : Type 0} (M : Machine V) (blocks : Blocks) (lap : ℕ) (v : V) (e : Numbered) (s : Stepped) (n : ℕ) (p : List ℕ) (z : S) (disk : DiskState) → s ≡ answer M v e → is_new s ≡ false → M.spelled p ≡ Shows v
    → ((c : List ℕ) → disk.may_find c → HoldsBoth LAYOUT n p c × (boots LAYOUT c ≡ Some (n, p))) → WritesChanges {E = F} M (view_offered M blocks lap v e) p p (Ok z) disk disk
pages_stood M blocks lap v e s n p z disk is none spelled settled = record {
  payload = p;
  spelled = spelled ∙ ap Shows (same_view M blocks lap v e s is none);
  stand = started disk (PagesStand LAYOUT p p) (λ c may. let both = (settled c may).0 in (λ i lt same. (ap (λ (x : List ℕ). page i x) both.0.1, ap (λ (x : List ℕ). page i x) both.1.1)));
  is_kept = refl;
}
