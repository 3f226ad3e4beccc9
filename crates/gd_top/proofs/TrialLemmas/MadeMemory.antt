-- A memory that was made has the empty view in both copies.
use Rattle.std.proofs.Common.{◌≡◌, ◌∙◌, ap, sym, subst, refl, ℕ, List, Option, None, Some}
use Rattle.gd_base.specs.Judging.Machine.{Machine}
use Rattle.gd_base.specs.Payloads.Spelled.{Shows}
use Rattle.gd_cabinet.specs.Shown.{IsInBoth}
use Rattle.gd_disk.specs.Disk.{IfTold}
use Rattle.gd_store.specs.Copy.{HoldsBoth}
use Rattle.gd_store.specs.declared.copy.layout.TheConstants.{LAYOUT}
use Rattle.gd_top.proofs.ItemLemmas.Images.{told_at}

module _ {V : Type 0} (M : Machine V) where
  -- an image that a read gives
  pub made_in : (payload image : List ℕ) (v : V) (seen : Option (List ℕ)) → seen ≡ Some image → IfTold seen (HoldsBoth LAYOUT 0 payload) → M.spelled payload ≡ Shows v → v ≡ M.empty → IsInBoth M v image
  made_in payload image v seen is told spelled empty = record {
    payload = payload;
    spelled = spelled;
    both = subst (λ (n : ℕ). HoldsBoth LAYOUT n payload image) (sym (ap M.count empty ∙ M.count_empty)) (told_at seen image (HoldsBoth LAYOUT 0 payload) is told);
  }

  -- and where a read tells none
  pub made_told : (payload : List ℕ) (v : V) (seen : Option (List ℕ)) → IfTold seen (HoldsBoth LAYOUT 0 payload) → M.spelled payload ≡ Shows v → v ≡ M.empty → IfTold seen (IsInBoth M v)
  made_told payload v None told spelled empty = tt
  made_told payload v (Some image) told spelled empty = made_in payload image v (Some image) refl told spelled empty
