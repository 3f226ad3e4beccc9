-- What each moment of a repair leaves.
use Rattle.std.proofs.Common.{◌≡◌, ℕ, ◌+◌, ◌*◌, ◌^◌, ◌<◌, ◌≤◌, List, length, sym, ◌∙◌, ap, subst, arith, Option, Some}
use Rattle.gd_disk.specs.Disk.{DiskState, IfTold, IsSynced, with_bytes, seen_with_bytes}
use Rattle.gd_disk.specs.Runs.{LeavesOnly}
use Rattle.gd_disk.proofs.Runs.{weaker}
use Rattle.gd_store.specs.Copy.{sealed_copy, boots, copy_len, copy_at, gate_at, IsCopy, HoldsBoth, LiesWithin}
use Rattle.gd_store.specs.Writing.{IsWriting, From, KeepsBoot}
use Rattle.gd_store.specs.Repair.{other_side}
use Rattle.gd_disk.specs.declared.side.Side.{Side}
use Rattle.gd_store.proofs.CopyMoments.{told}
use Rattle.gd_store.proofs.Commit.{told_written}
use Rattle.gd_store.proofs.Boots.{carries, repair_a, repair_b, written_a, written_b}
use Rattle.gd_store.specs.declared.copy.layout.Layout.{Layout}
use Rattle.gd_disk.specs.declared.lengths.TheConstants.{PAGE_LEN}

-- each of the two copies lies within the disk
pub side_within : (l : Layout) (side : Side) (at size body : ℕ) → LiesWithin l size → at ≡ gate_at l side → body + 1 ≡ copy_len l.pages → at + 1 + body ≤ size
side_within l Side.A at size body within is long = omega (arith, within.apart, within.within, is, long)
side_within l Side.B at size body within is long = omega (arith, within.within, is, long)

module _ (l : Layout) (n : ℕ) (q copy : List ℕ) (range : n < 2 ^ 64) (long_q : length q ≡ PAGE_LEN * l.pages) (is_copy : copy ≡ sealed_copy l n q) (old new : DiskState) (fits : LiesWithin l old.size) (synced : IsSynced old) where
  -- one copy is written, and the other one is booted
  abbrev pub IsBootedBeside : Side → List ℕ → Type 0
  IsBootedBeside side image = IsCopy l n q (copy_at l (other_side side) image) × (boots l image ≡ Some (n, q))

  keeps : (side : Side) (d c : List ℕ) → IsBootedBeside side d → IsWriting (gate_at l side) (sealed_copy l n q) d c → boots l c ≡ Some (n, q)
  keeps Side.A d c here w = repair_a l n q range long_q fits.apart d c here.0 here.1 w
  keeps Side.B d c here w = repair_b l n q range long_q fits.apart d c here.0 here.1 w

  pub moments : (side : Side) (at : ℕ) → at ≡ gate_at l side → IfTold old.seen (IsBootedBeside side) → LeavesOnly old new (From old (IsWriting at copy)) → LeavesOnly old new (KeepsBoot l old)
  moments side at is booted run = weaker old new _ _ run (λ c from.
      let here = told old (IsBootedBeside side) from.0 synced from.1 booted in
      let writing = subst (λ (x : List ℕ). IsWriting (gate_at l side) x from.0 c) is_copy (subst (λ (k : ℕ). IsWriting k copy from.0 c) is from.2) in
      (from.0, from.1, keeps side from.0 c here writing ∙ sym here.1))

  over : (side : Side) (d : List ℕ) → l.b + copy_len l.pages ≤ length d → IsBootedBeside side d → HoldsBoth l n q (with_bytes (gate_at l side) (sealed_copy l n q) d)
  over Side.A d long here = let w = written_a l n q range long_q fits.apart d long in (w.0, carries l n q _ _ w.1 here.0)
  over Side.B d long here = let w = written_b l n q range long_q fits.apart d long in (carries l n q _ _ w.0 here.0, w.1)

  pub holds : (side : Side) (at : ℕ) → at ≡ gate_at l side → IfTold old.seen (IsBootedBeside side) → new.seen ≡ seen_with_bytes at copy old.seen → IfTold new.seen (HoldsBoth l n q)
  holds side at is booted seen = subst (λ (s : Option (List ℕ)). IfTold s (HoldsBoth l n q)) (sym (seen ∙ ap (λ (k : ℕ). seen_with_bytes k copy old.seen) is)) (told_written old.seen (gate_at l side) copy (IsBootedBeside side) (HoldsBoth l n q) (λ d is here.
      let long : length d ≡ old.size = old.whole d is in
      subst (λ (x : List ℕ). HoldsBoth l n q (with_bytes (gate_at l side) x d)) (sym is_copy) (over side d (omega (arith, long, fits.within)) here)) booted)
