-- What each moment of a commit leaves.
use Rattle.std.proofs.Common.{◌≡◌, ◌⊎◌, inr, ℕ, ◌*◌, ◌^◌, ◌<◌, List, ◌∷◌, length, get_or, refl, sym, ap, subst, arith, Option, Some, None}
use Rattle.gd_disk.specs.Disk.{DiskState, IfTold, IsSynced, with_bytes, seen_with_bytes}
use Rattle.gd_disk.specs.Runs.{LeavesOnly}
use Rattle.gd_disk.proofs.Runs.{weaker, and_then}
use Rattle.gd_store.specs.Copy.{sealed_copy, body_of, boots, HoldsBoth, LiesWithin}
use Rattle.gd_store.specs.Writing.{IsWriting, IsCommitting, From}
use Rattle.gd_store.proofs.CopyMoments.{told}
use Rattle.gd_store.proofs.Boots.{carries, Holds, told_maps, open_a, open_b, boots_a, boots_b, order_a, order_b, written_a, written_b}
use Rattle.gd_store.specs.declared.copy.layout.Layout.{Layout}
use Rattle.gd_disk.specs.declared.lengths.TheConstants.{PAGE_LEN}

pub gate_a : (l : Layout) (m : ℕ) (p : List ℕ) (seen : Option (List ℕ)) → IfTold seen (HoldsBoth l m p) → IfTold seen (λ c. get_or c l.a 0 ≡ 0xA5)
gate_a l m p seen holds = told_maps seen _ _ (λ c is both. open_a l m p c both.0) holds

pub told_written : (seen : Option (List ℕ)) (at : ℕ) (bytes : List ℕ) (P Q : List ℕ → Type 0) → ((d : List ℕ) → seen ≡ Some d → P d → Q (with_bytes at bytes d)) → IfTold seen P → IfTold (seen_with_bytes at bytes seen) Q
told_written None at bytes P Q from fact = fact
told_written (Some d) at bytes P Q from fact = from d refl fact

-- an open copy is a gate and what stands behind it
pub opened : (l : Layout) (n : ℕ) (q body : List ℕ) → body ≡ body_of l n q → 0xA5 ∷ body ≡ sealed_copy l n q
unfolding sealed_copy
opened l n q body is = ap (λ (b : List ℕ). 0xA5 ∷ b) is

module _ (l : Layout) (m n : ℕ) (p q copy : List ℕ) (later : m < n) (range : n < 2 ^ 64) (long_p : length p ≡ PAGE_LEN * l.pages) (long_q : length q ≡ PAGE_LEN * l.pages) (is_copy : copy ≡ sealed_copy l n q) (old s1 : DiskState) (fits : LiesWithin l old.size) (synced : IsSynced old) (holds : IfTold old.seen (HoldsBoth l m p)) where
  abbrev pub Either : List ℕ → Type 0
  Either c = (boots l c ≡ Some (m, p)) ⊎ (boots l c ≡ Some (n, q))

  pub moments_a : LeavesOnly old s1 (From old (IsWriting l.a copy)) → LeavesOnly old s1 Either
  moments_a run = weaker old s1 _ _ run (λ c from.
      boots_a l n q range long_q fits.apart m p later from.0 c (told old (HoldsBoth l m p) from.0 synced from.1 holds) (subst (λ (x : List ℕ). IsWriting l.a x from.0 c) is_copy from.2))

  pub orders_a : LeavesOnly old s1 (From old (IsWriting l.a copy)) → LeavesOnly old s1 (IsCommitting l (m, p) (n, q))
  orders_a run = weaker old s1 _ _ run (λ c from.
      order_a l n q range long_q fits.apart m p later from.0 c (told old (HoldsBoth l m p) from.0 synced from.1 holds) (subst (λ (x : List ℕ). IsWriting l.a x from.0 c) is_copy from.2))

  pub holds_a : s1.seen ≡ seen_with_bytes l.a copy old.seen → IfTold s1.seen (Holds l (n, q) (m, p))
  holds_a seen = subst (λ (s : Option (List ℕ)). IfTold s (Holds l (n, q) (m, p))) (sym seen) (told_written old.seen l.a copy (HoldsBoth l m p) (Holds l (n, q) (m, p)) (λ d is both.
      let long : length d ≡ old.size = old.whole d is in
      subst (λ (x : List ℕ). Holds l (n, q) (m, p) (with_bytes l.a x d)) (sym is_copy) (let w = written_a l n q range long_q fits.apart d (omega (arith, long, fits.within)) in (w.0, carries l m p _ _ w.1 both.1))) holds)

  module _ (s2 : DiskState) (run_a : LeavesOnly old s1 (From old (IsWriting l.a copy))) (seen_a : s1.seen ≡ seen_with_bytes l.a copy old.seen) (synced_a : IsSynced s1) (size_1 : s1.size ≡ old.size) where
    pub moments_b : LeavesOnly s1 s2 (From s1 (IsWriting l.b copy)) → LeavesOnly old s2 Either
    moments_b run = and_then old s1 s2 _ _ _ (moments_a run_a) run (λ c p. p) (λ c from.
        inr (boots_b l n q range long_q fits.apart m p later from.0 c (told s1 (Holds l (n, q) (m, p)) from.0 synced_a from.1 (holds_a seen_a)) (subst (λ (x : List ℕ). IsWriting l.b x from.0 c) is_copy from.2)))

    pub orders_b : LeavesOnly s1 s2 (From s1 (IsWriting l.b copy)) → LeavesOnly old s2 (IsCommitting l (m, p) (n, q))
    orders_b run = and_then old s1 s2 _ _ _ (orders_a run_a) run (λ c p. p) (λ c from.
        order_b l n q range long_q fits.apart m p later from.0 c (told s1 (Holds l (n, q) (m, p)) from.0 synced_a from.1 (holds_a seen_a)) (subst (λ (x : List ℕ). IsWriting l.b x from.0 c) is_copy from.2))

    pub gate_b : IfTold s1.seen (λ c. get_or c l.b 0 ≡ 0xA5)
    gate_b = told_maps s1.seen _ _ (λ c is two. open_b l m p c two.1) (holds_a seen_a)

    pub both : s2.seen ≡ seen_with_bytes l.b copy s1.seen → IfTold s2.seen (HoldsBoth l n q)
    both seen = subst (λ (s : Option (List ℕ)). IfTold s (HoldsBoth l n q)) (sym seen) (told_written s1.seen l.b copy (Holds l (n, q) (m, p)) (HoldsBoth l n q) (λ d is two.
        let long : length d ≡ s1.size = s1.whole d is in
        subst (λ (x : List ℕ). HoldsBoth l n q (with_bytes l.b x d)) (sym is_copy) (let w = written_b l n q range long_q fits.apart d (omega (arith, long, size_1, fits.within)) in (carries l n q _ _ w.0 two.0, w.1))) (holds_a seen_a))
