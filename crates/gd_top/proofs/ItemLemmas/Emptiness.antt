-- Whether an image shows the empty view, by the sequence and the payload that it boots to.
use Rattle.std.proofs.Common.{◌≡◌, ◌∙◌, ap, sym, subst, refl, inl, inr, ℕ, ◌+◌, ◌==◌, Bool, true, false, if◌then◌else◌, List, arith, Option, Some}
use Rattle.std.proofs.lemmas.Bool.Decides.{nat_tests}
use Rattle.gd_base.specs.Judging.Machine.{Machine}
use Rattle.gd_base.specs.Payloads.LoadedView.{at_sequence, opens, view_loaded}
use Rattle.gd_base.specs.Payloads.Spelled.{Spelled, Shows, Foreign, Unreadable}
use Rattle.gd_base.specs.Laws.TellsViews.{TellsViews}
use Rattle.gd_cabinet.specs.Shown.{shows, spelled_boot}
use Rattle.gd_cabinet.proofs.Showing.{settled_shows}
use Rattle.gd_disk.specs.Disk.{DiskState, IfTold}
use Rattle.gd_store.specs.Booting.{IsFound}
use Rattle.gd_store.specs.Copy.{boots}
use Rattle.gd_store.specs.declared.copy.layout.TheConstants.{LAYOUT}
use Rattle.gd_store.specs.declared.copy.states.Found.{Found}
use Rattle.gd_top.specs.Code.Memory.{IsLapFound}
use Rattle.gd_top.proofs.ItemLemmas.Images.{told_at}

is_number : (m n : ℕ) → (m == n) ≡ true → m ≡ n
is_number m n test = grind (arith, nat_tests, test)

module _ {V : Type 0} (M : Machine V) (sequence : ℕ) where
  -- what is empty at a sequence has no entry there
  at_empty : (sp : Spelled V) → at_sequence M sequence sp ≡ Shows M.empty → (sp ≡ Shows M.empty) × (sequence ≡ 0)
  at_empty (Shows v) is = by_test (M.count v == sequence) is_number_then is
    where
      is_number_then : (M.count v == sequence) ≡ true → M.count v ≡ sequence
      is_number_then = is_number (M.count v) sequence

      by_test : (b : Bool) → (b ≡ true → M.count v ≡ sequence) → (if b then Shows v else Unreadable) ≡ Shows M.empty → (Shows v ≡ Shows M.empty) × (sequence ≡ 0)
      by_test true number e =
          let same : v ≡ M.empty = ap (view_loaded M) e in
          (e, sym (number refl) ∙ ap M.count same ∙ M.count_empty)
      by_test false number e = absurd (cc e)
  at_empty (Foreign kept) is = absurd (cc is)
  at_empty Unreadable is = absurd (cc is)

  module _ (payload : List ℕ) where
    shown : (image : List ℕ) → boots LAYOUT image ≡ Some (sequence, payload) → shows M image ≡ at_sequence M sequence (M.spelled payload)
    shown image boot = ap (λ (b : Option (ℕ × List ℕ)). opens M (spelled_boot M b)) boot

    abbrev BootsAs : Found → List ℕ → Type 0
    BootsAs found image = IsFound LAYOUT found image × (boots LAYOUT image ≡ Some (sequence, payload))

    -- the empty memory is found
    pub lap_raised : (found : Found) (disk : DiskState) (making : Bool) (old : ℕ) → making ≡ true → IfTold disk.seen (BootsAs found) → sequence ≡ 0 → (TellsViews M → M.spelled payload ≡ Shows M.empty)
        → IsLapFound making M disk old (old + 1)
    lap_raised found disk making old is told zero empty =
        subst (λ (b : Bool). IsLapFound b M disk old (old + 1)) (sym is)
        (λ tells image seen. inl (settled_shows M sequence payload M.empty image (told_at disk.seen image (BootsAs found) seen told).1 (empty tells) (M.count_empty ∙ sym zero), refl))

    -- another
    pub lap_kept : (found : Found) (disk : DiskState) (making : Bool) (old : ℕ) → making ≡ true → IfTold disk.seen (BootsAs found) → (sequence ≡ 0 → M.spelled payload ≡ Shows M.empty → ⊥)
        → IsLapFound making M disk old old
    lap_kept found disk making old is told other =
        subst (λ (b : Bool). IsLapFound b M disk old old) (sym is)
        (λ tells image seen. inr ((λ e. let k = at_empty (M.spelled payload) (sym (shown image (told_at disk.seen image (BootsAs found) seen told).1) ∙ e) in other k.1 k.0), refl))
