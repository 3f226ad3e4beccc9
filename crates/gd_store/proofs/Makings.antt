-- What the calls of a making do.
use Rattle.std.proofs.Common.{◌≡◌, ℕ, ◌*◌, ◌<◌, ◌^◌, List, length, sym, subst, arith, Option}
use Rattle.gd_disk.specs.Disk.{DiskState, IfTold, with_bytes, seen_with_bytes}
use Rattle.gd_store.specs.Copy.{sealed_copy, IsCopy, HoldsBoth, LiesWithin, copy_a}
use Rattle.gd_store.specs.declared.copy.layout.Layout.{Layout}
use Rattle.gd_store.proofs.Boots.{carries, written_a, written_b}
use Rattle.gd_store.proofs.Commit.{told_written}
use Rattle.gd_store.proofs.Openings.{told_all}
use Rattle.gd_disk.specs.declared.lengths.TheConstants.{PAGE_LEN}

-- what a read gives after both copies are written
module _ (l : Layout) (n : ℕ) (p copy : List ℕ) (range : n < 2 ^ 64) (long : length p ≡ PAGE_LEN * l.pages) (is_copy : copy ≡ sealed_copy l n p) (s1 s2 s3 : DiskState) (within : LiesWithin l s1.size) (size : s2.size ≡ s1.size) where
  first : s2.seen ≡ seen_with_bytes l.a copy s1.seen → IfTold s2.seen (λ c. IsCopy l n p (copy_a l c))
  first seen = subst (λ (s : Option (List ℕ)). IfTold s (λ c. IsCopy l n p (copy_a l c))) (sym seen) (told_written s1.seen l.a copy (λ c. Unit {0}) (λ c. IsCopy l n p (copy_a l c)) (λ d is none.
      let whole : length d ≡ s1.size = s1.whole d is in
      subst (λ (x : List ℕ). IsCopy l n p (copy_a l (with_bytes l.a x d))) (sym is_copy) (written_a l n p range long within.apart d (omega (arith, whole, within.within))).0) (told_all s1.seen (λ c. Unit {0}) (λ c. tt)))

  pub made_both : s2.seen ≡ seen_with_bytes l.a copy s1.seen → s3.seen ≡ seen_with_bytes l.b copy s2.seen → IfTold s3.seen (HoldsBoth l n p)
  made_both seen_a seen_b = subst (λ (s : Option (List ℕ)). IfTold s (HoldsBoth l n p)) (sym seen_b) (told_written s2.seen l.b copy (λ c. IsCopy l n p (copy_a l c)) (HoldsBoth l n p) (λ d is here.
      let whole : length d ≡ s2.size = s2.whole d is in
      subst (λ (x : List ℕ). HoldsBoth l n p (with_bytes l.b x d)) (sym is_copy) (let w = written_b l n p range long within.apart d (omega (arith, whole, size, within.within)) in (carries l n p _ _ w.0 here, w.1))) (first seen_a))
