-- What a boot and a load say of the image that a read gives.
use Rattle.std.proofs.Common.{◌≡◌, ◌∙◌, inl, inr, sym, ap, subst, refl, ℕ, List, Option, None, Some}
use Rattle.gd_base.specs.Judging.Machine.{Machine}
use Rattle.gd_base.specs.Payloads.LoadedView.{opens, at_sequence}
use Rattle.gd_base.specs.Payloads.Spelled.{Spelled, Unreadable, Foreign, Shows, load_answer}
use Rattle.gd_base.specs.declared.step.Loaded.{Loaded}
use Rattle.gd_cabinet.proofs.Showing.{as_found, told_maps}
use Rattle.gd_cabinet.specs.Shown.{shows, spelled_boot}
use Rattle.gd_disk.proofs.Runs.{and_then, at_end}
use Rattle.gd_disk.specs.Disk.{DiskState, IfTold, Unchanged}
use Rattle.gd_disk.specs.Runs.{LeavesOnly}
use Rattle.gd_store.specs.Booting.{IsFound}
use Rattle.gd_store.specs.Copy.{boots, copy_a, copy_b, found_in}
use Rattle.gd_store.specs.Making.{IsMakingAny}
use Rattle.gd_store.specs.Writing.{From}
use Rattle.gd_store.specs.declared.copy.layout.Layout.{Layout}
use Rattle.gd_store.specs.declared.copy.layout.TheConstants.{LAYOUT}
use Rattle.gd_store.specs.declared.copy.states.Found.{Found}

-- two facts about what a read gives
pub told_both : (seen : Option (List ℕ)) (P Q : List ℕ → Type 0) → IfTold seen P → IfTold seen Q → IfTold seen (λ image. P image × Q image)
told_both None P Q p q = tt
told_both (Some image) P Q p q = (p, q)

-- the states of both copies, beside another fact
pub told_found : (seen : Option (List ℕ)) (found : Found) (R P : List ℕ → Type 0) → IfTold seen (λ image. IsFound LAYOUT found image × R image) → IfTold seen P
    → IfTold seen (λ image. (found ≡ found_in LAYOUT image) × P image)
told_found seen found R P is more =
    told_maps seen (λ image. (IsFound LAYOUT found image × R image) × P image) (λ image. (found ≡ found_in LAYOUT image) × P image) (λ image h. (as_found LAYOUT found image h.0.0, h.1))
    (told_both seen (λ image. IsFound LAYOUT found image × R image) P is more)

-- what can't be read
unreadable : {V : Type 0} (s : Spelled V) → load_answer s ≡ Loaded.Unreadable → s ≡ Unreadable
unreadable (Shows v) is = absurd (is_not is)
  where
    is_not : Loaded.Read ≡ Loaded.Unreadable → ⊥
    is_not same = cc
unreadable (Foreign kept) is = absurd (is_not is)
  where
    is_not : Loaded.Differs kept ≡ Loaded.Unreadable → ⊥
    is_not same = cc
unreadable Unreadable is = refl

-- an image whose payload can't be read shows none
pub told_unreadable : {V : Type 0} (M : Machine V) (found : Found) (n : ℕ) (q p : List ℕ) (r : Loaded) (seen : Option (List ℕ)) → q ≡ p
    → r ≡ load_answer (at_sequence M n (M.spelled q)) → r ≡ Loaded.Unreadable → IfTold seen (λ image. IsFound LAYOUT found image × (boots LAYOUT image ≡ Some (n, p)))
    → IfTold seen (λ image. shows M image ≡ Unreadable)
told_unreadable M found n q p r seen is_p answer unread told =
    let same : at_sequence M n (M.spelled q) ≡ at_sequence M n (M.spelled p) = ap (λ (x : List ℕ). at_sequence M n (M.spelled x)) is_p in
    told_maps seen (λ image. IsFound LAYOUT found image × (boots LAYOUT image ≡ Some (n, p))) (λ image. shows M image ≡ Unreadable) (λ image is.
    ap (λ (b : Option (ℕ × List ℕ)). opens M (spelled_boot M b)) is.1 ∙ unreadable (at_sequence M n (M.spelled p)) (ap load_answer (sym same) ∙ sym answer ∙ unread)) told

-- a making behind reads that changed nothing
pub made_over : (l : Layout) (p : List ℕ) (old mid new : DiskState) → LeavesOnly old mid (From old Unchanged) → mid.seen ≡ old.seen
    → LeavesOnly mid new (From mid (IsMakingAny l p mid.seen)) → LeavesOnly old new (From old (IsMakingAny l p old.seen))
made_over l p old mid new reads same makes =
    and_then old mid new (From old Unchanged) (From mid (IsMakingAny l p mid.seen)) (From old (IsMakingAny l p old.seen)) reads makes
    (λ c h. (h.0, h.1, inl (record { a = inr (inl (ap (copy_a l) h.2)); b = inr (inl (ap (copy_b l) h.2)) })))
    (λ c h. let d = at_end old mid (From old Unchanged) reads h.0 h.1 in
    (d.0, d.1, subst (λ (s : Option (List ℕ)). IsMakingAny l p s d.0 c) same (subst (λ (b : List ℕ). IsMakingAny l p mid.seen b c) d.2 h.2)))
