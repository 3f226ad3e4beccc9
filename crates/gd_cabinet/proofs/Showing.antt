-- For callers: what an image shows that boots to a payload which was kept or loaded.
use Rattle.std.proofs.Common.{◌≡◌, ◌∙◌, sym, ap, subst, arith, ℕ, List, Option, Some, None, refl}
use Rattle.std.proofs.lemmas.Bool.Decides.{nat_tests}
use Rattle.gd_base.specs.Judging.Machine.{Machine}
use Rattle.gd_base.specs.Payloads.LoadedView.{opens, at_sequence, view_loaded}
use Rattle.gd_base.specs.Payloads.Spelled.{Spelled, Unreadable, Foreign, Shows, load_answer}
use Rattle.gd_base.specs.declared.step.Loaded.{Loaded}
use Rattle.gd_disk.specs.Disk.{IfTold}
use Rattle.gd_store.specs.Booting.{IsFound}
use Rattle.gd_store.specs.Copy.{boots, found_in}
use Rattle.gd_store.specs.declared.copy.states.Found.{Found}
use Rattle.gd_store.specs.declared.copy.layout.Layout.{Layout}
use Rattle.gd_store.specs.declared.copy.layout.TheConstants.{LAYOUT}
use Rattle.gd_cabinet.specs.Shown.{shows, spelled_boot}

at_count : {V : Type 0} (M : Machine V) (n : ℕ) (v : V) → M.count v ≡ n → at_sequence M n (Shows v) ≡ Shows v
at_count M n v same = grind (arith, nat_tests)

-- an image shows what its payload spells, where that has as many entries as the sequence says
pub settled_shows : {V : Type 0} (M : Machine V) (n : ℕ) (p : List ℕ) (v : V) (c : List ℕ) → boots LAYOUT c ≡ Some (n, p) → M.spelled p ≡ Shows v → M.count v ≡ n → shows M c ≡ Shows v
settled_shows M n p v c boot spelled count = ap (λ (b : Option (ℕ × List ℕ)). opens M (spelled_boot M b)) boot ∙ ap (at_sequence M n) spelled ∙ at_count M n v count

-- what was read is a view
read_shows : {V : Type 0} (M : Machine V) (s : Spelled V) → load_answer s ≡ Loaded.Read → s ≡ Shows (view_loaded M s)
read_shows M (Shows v) is = refl
read_shows M (Foreign kept) is = absurd (is_not is)
  where
    is_not : Loaded.Differs kept ≡ Loaded.Read → ⊥
    is_not same = cc
read_shows M Unreadable is = absurd (is_not is)
  where
    is_not : Loaded.Unreadable ≡ Loaded.Read → ⊥
    is_not same = cc

-- an image whose payload was loaded shows the view that was read
booted_shows : {V : Type 0} (M : Machine V) (n : ℕ) (p : List ℕ) (c : List ℕ) → boots LAYOUT c ≡ Some (n, p) → load_answer (at_sequence M n (M.spelled p)) ≡ Loaded.Read → shows M c ≡ Shows (view_loaded M (at_sequence M n (M.spelled p)))
booted_shows M n p c boot read = ap (λ (b : Option (ℕ × List ℕ)). opens M (spelled_boot M b)) boot ∙ read_shows M (at_sequence M n (M.spelled p)) read

-- the same of a payload that was handed over with its sequence, of what was answered, and of the view that the core then has
pub loaded_shows : {V : Type 0} (M : Machine V) (m n : ℕ) (q p : List ℕ) (r : Loaded) (v : V) → m ≡ n → q ≡ p → r ≡ load_answer (at_sequence M m (M.spelled q)) → r ≡ Loaded.Read → v ≡ view_loaded M (at_sequence M m (M.spelled q))
    → (c : List ℕ) → boots LAYOUT c ≡ Some (n, p) → shows M c ≡ Shows v
loaded_shows M m n q p r v is_n is_p answer read view c boot =
    let same : at_sequence M m (M.spelled q) ≡ at_sequence M n (M.spelled p) = ap (λ (k : ℕ). at_sequence M k (M.spelled q)) is_n ∙ ap (λ (x : List ℕ). at_sequence M n (M.spelled x)) is_p in
    booted_shows M n p c boot (ap load_answer (sym same) ∙ sym answer ∙ read) ∙ ap Shows (ap (view_loaded M) (sym same) ∙ sym view)

-- what differs was made under another setup
differs_shows : {V : Type 0} (kept : List ℕ) (s : Spelled V) → load_answer s ≡ Loaded.Differs kept → s ≡ Foreign kept
differs_shows kept (Shows v) is = absurd (is_not is)
  where
    is_not : Loaded.Read ≡ Loaded.Differs kept → ⊥
    is_not same = cc
differs_shows kept (Foreign other) is = ap (λ (k : List ℕ). Foreign k) (kept_is is)
  where
    kept_is : Loaded.Differs other ≡ Loaded.Differs kept → other ≡ kept
    kept_is same = cc
differs_shows kept Unreadable is = absurd (is_not is)
  where
    is_not : Loaded.Unreadable ≡ Loaded.Differs kept → ⊥
    is_not same = cc

pub told_maps : (seen : Option (List ℕ)) (P Q : List ℕ → Type 0) → ((c : List ℕ) → P c → Q c) → IfTold seen P → IfTold seen Q
told_maps None P Q from fact = fact
told_maps (Some c) P Q from fact = from c fact

-- the states of both copies as one value
pub as_found : (l : Layout) (found : Found) (c : List ℕ) → IsFound l found c → found ≡ found_in l c
as_found l found c is = λ i. record { a = is.0 i; b = is.1 i }

-- a boot of the image that a read gives
abbrev BootsTo : Found → ℕ → List ℕ → List ℕ → Type 0
BootsTo found n p c = IsFound LAYOUT found c × (boots LAYOUT c ≡ Some (n, p))

-- after reads that change nothing, and a payload that was read, the image shows a view
pub told_view : {V : Type 0} (M N : Machine V) (found : Found) (n : ℕ) (q p : List ℕ) (r : Loaded) (v : V) (seen now : Option (List ℕ)) → N ≡ M → now ≡ seen → q ≡ p
    → r ≡ load_answer (at_sequence M n (M.spelled q)) → r ≡ Loaded.Read → v ≡ view_loaded M (at_sequence M n (M.spelled q)) → IfTold seen (BootsTo found n p)
    → IfTold now (λ image. shows N image ≡ Shows v)
told_view {V} M N found n q p r v seen now same is_seen is_p answer read view told =
    subst (λ K. IfTold now (λ image. shows K image ≡ Shows v)) (sym same)
    (subst (λ (s : Option (List ℕ)). IfTold s (λ image. shows M image ≡ Shows v)) (sym is_seen)
    (told_maps seen (BootsTo found n p) (λ image. shows M image ≡ Shows v) (λ image is. loaded_shows M n n q p r v refl is_p answer read view image is.1) told))

-- and of a payload that differs
pub told_differs : {V : Type 0} (M : Machine V) (found : Found) (n : ℕ) (q p kept : List ℕ) (r : Loaded) (seen : Option (List ℕ)) → q ≡ p
    → r ≡ load_answer (at_sequence M n (M.spelled q)) → r ≡ Loaded.Differs kept → IfTold seen (BootsTo found n p) → IfTold seen (λ image. (found ≡ found_in LAYOUT image) × (shows M image ≡ Foreign kept))
told_differs M found n q p kept r seen is_p answer differs told =
    let same : at_sequence M n (M.spelled q) ≡ at_sequence M n (M.spelled p) = ap (λ (x : List ℕ). at_sequence M n (M.spelled x)) is_p in
    told_maps seen (BootsTo found n p) (λ image. (found ≡ found_in LAYOUT image) × (shows M image ≡ Foreign kept)) (λ image is.
    (as_found LAYOUT found image is.0, ap (λ (b : Option (ℕ × List ℕ)). opens M (spelled_boot M b)) is.1 ∙ differs_shows kept (at_sequence M n (M.spelled p)) (ap load_answer (sym same) ∙ sym answer ∙ differs))) told
