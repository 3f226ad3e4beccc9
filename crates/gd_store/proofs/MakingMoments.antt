-- What each moment of a making leaves.
use Rattle.std.proofs.Common.{◌≡◌, ◌⊎◌, inl, inr, ⊎_elim, ℕ, ◌+◌, ◌*◌, ◌^◌, ◌<◌, ◌≤◌, ◌==◌, if◌then◌else◌, true, false, [], ◌∷◌, List, length, get_or, refl, sym, ◌∙◌, ap, subst, arith, Option, Some, None}
use Rattle.std.proofs.lemmas.Bool.{cases_eq}
use Rattle.gd_disk.specs.Disk.{DiskState, IfTold, IsSynced, Loses, Unchanged, with_bytes, seen_with_bytes}
use Rattle.gd_disk.specs.Runs.{LeavesOnly}
use Rattle.gd_disk.proofs.Runs.{and_then, at_end, goes_on, weaker}
use Rattle.gd_disk.proofs.Written.{byte_before, byte_behind, torn_refl, torn-written}
use Rattle.gd_store.specs.Copy.{part, copy_len, sealed_copy, IsCopy, LiesWithin, copy_a, copy_b}
use Rattle.gd_store.specs.Making.{AreShutting, IsMakingA, IsMakingB}
use Rattle.gd_store.specs.Writing.{AreShut, From, IsOverOpen, IsShut, IsWriting, seen_shut}
use Rattle.gd_store.specs.declared.copy.layout.Layout.{Layout}
use Rattle.gd_store.proofs.Boots.{carries, new_a, new_b, len_new, written_a}
use Rattle.gd_store.proofs.Commit.{told_written}
use Rattle.gd_store.proofs.CopyMoments.{shutting, told}
use Rattle.gd_store.proofs.Images.{first_of, part_before, part_behind}
use Rattle.gd_disk.specs.declared.lengths.TheConstants.{PAGE_LEN}

-- a gate that held this byte, after it was written over where it was open
shut_or_same : (at gate : ℕ) (d c : List ℕ) → at < length d → get_or d at 0 ≡ gate → IsOverOpen at gate d c → IsShut at c ⊎ (c ≡ d)
shut_or_same at gate d c lt is over = elim (cases_eq gate 0xA5) [
  | inl is_open ↦ (shutting at d c lt (is ∙ is_open) over.elsewhere).shut_or_same
  | inr other ↦ inr (over.stands other)
]

-- a gate is shut where the same byte is
pub shut_too : (at : ℕ) (m c : List ℕ) → get_or c at 0 ≡ get_or m at 0 → IsShut at m → IsShut at c
shut_too at m c same shut is_open = shut (sym same ∙ is_open)

gate_same : (at n : ℕ) (m c : List ℕ) → 0 < n → part at n c ≡ part at n m → get_or c at 0 ≡ get_or m at 0
gate_same at n m c lt same = sym (first_of at n c lt) ∙ ap (λ (x : List ℕ). get_or x 0 0) same ∙ first_of at n m lt

module _ (l : Layout) (apart : l.a + copy_len l.pages ≤ l.b) where
  all_stand : (d c : List ℕ) → c ≡ d → AreShutting l d c
  all_stand d c same = record { a = inr (ap (copy_a l) same); b = inr (ap (copy_b l) same) }

  over_a : (gate : ℕ) (d c : List ℕ) → l.a < length d → get_or d l.a 0 ≡ gate → IsOverOpen l.a gate d c → AreShutting l d c
  over_a gate d c lt is over = record {
    a = ⊎_elim (λ shut. inl shut) (λ same. inr (ap (copy_a l) same)) (shut_or_same l.a gate d c lt is over);
    b = inr (part_behind l.a 1 l.b (copy_len l.pages) d c (omega (arith, apart)) over.elsewhere);
  }

  over_b : (gate_a gate_b : ℕ) (d m c : List ℕ) → l.b < length d → get_or d l.a 0 ≡ gate_a → get_or d l.b 0 ≡ gate_b → IsOverOpen l.a gate_a d m → IsOverOpen l.b gate_b m c → AreShutting l d c
  over_b gate_a gate_b d m c lt is_a is_b first second = record {
    a = ⊎_elim (λ shut. inl (shut_too l.a m c (byte_before l.b 1 l.a m c (omega (arith, apart)) second.elsewhere) shut))
        (λ same. inr (part_before l.b 1 l.a (copy_len l.pages) m c apart second.elsewhere ∙ ap (copy_a l) same))
        (shut_or_same l.a gate_a d m (omega (arith, apart, lt)) is_a first);
    b = ⊎_elim (λ shut. inl shut)
        (λ same. inr (ap (copy_b l) same ∙ part_behind l.a 1 l.b (copy_len l.pages) d m (omega (arith, apart)) first.elsewhere))
        (shut_or_same l.b gate_b m c (omega (arith, first.elsewhere.same_length, lt)) (byte_behind l.a 1 l.b d m (omega (arith, apart)) first.elsewhere ∙ is_b) second);
  }

-- a fact of what a read gives, after a gate may have been written over
shut_told : (seen : Option (List ℕ)) (at gate : ℕ) (P Q : List ℕ → Type 0) → ((d : List ℕ) → seen ≡ Some d → P d → Q (with_bytes at (0 ∷ []) d)) → ((d : List ℕ) → P d → Q d) → IfTold seen P → IfTold (seen_shut at gate seen) Q
shut_told None at gate P Q from same fact = elim (gate == 0xA5) as (λ b. IfTold (if b then None else None) Q) [ true ↦ tt | false ↦ tt ]
shut_told (Some d) at gate P Q from same fact = elim (gate == 0xA5) as (λ b. IfTold (if b then Some (with_bytes at (0 ∷ []) d) else Some d) Q) [ true ↦ from d refl fact | false ↦ same d fact ]

-- gate b is as it was read, after gate a may have been written over
pub gate_b_stands : (l : Layout) (gate_a gate_b : ℕ) (disk : DiskState) → LiesWithin l disk.size → IfTold disk.seen (λ image. get_or image l.b 0 ≡ gate_b) → IfTold (seen_shut l.a gate_a disk.seen) (λ image. get_or image l.b 0 ≡ gate_b)
gate_b_stands l gate_a gate_b disk within fact = shut_told disk.seen l.a gate_a (λ image. get_or image l.b 0 ≡ gate_b) (λ image. get_or image l.b 0 ≡ gate_b) (λ d is here.
    let long : length d ≡ disk.size = disk.whole d is in
    byte_behind l.a 1 l.b d (with_bytes l.a (0 ∷ []) d) (omega (arith, within.apart)) (torn-written l.a (0 ∷ []) d (omega (arith, long, within.apart, within.within))) ∙ here) (λ d here. here) fact

-- one read after another
pub reads : (old s1 s2 : DiskState) → LeavesOnly old s1 (From old Unchanged) → LeavesOnly s1 s2 (From s1 Unchanged) → LeavesOnly old s2 (From old Unchanged)
reads old s1 s2 first second = and_then old s1 s2 _ _ _ first second (λ c p. p) (λ c from.
    let back = at_end old s1 _ first from.0 from.1 in
    (back.0, back.1, from.2 ∙ back.2))

-- and a write over a gate
pub over_read : (at gate : ℕ) (old s1 s2 : DiskState) → LeavesOnly old s1 (From old Unchanged) → LeavesOnly s1 s2 (From s1 (IsOverOpen at gate)) → LeavesOnly old s2 (From old (IsOverOpen at gate))
over_read at gate old s1 s2 first second = and_then old s1 s2 _ _ _ first second
    (λ c from. (from.0, from.1, subst (λ (x : List ℕ). IsOverOpen at gate from.0 x) (sym from.2) (record { elsewhere = torn_refl at 1 from.0; stands = λ other. refl })))
    (λ c from.
    let back = at_end old s1 _ first from.0 from.1 in
    (back.0, back.1, subst (λ (x : List ℕ). IsOverOpen at gate x c) back.2 from.2))

-- and a sync
pub and_sync : (S : List ℕ → List ℕ → Type 0) (old s1 s2 : DiskState) → LeavesOnly old s1 (From old S) → Loses Unchanged s1 s2 → LeavesOnly old s2 (From old S)
and_sync S old s1 s2 so_far sync = goes_on old s1 s2 _ Unchanged so_far sync (λ c may.
    let from = sync.now c may in
    subst (λ (x : List ℕ). From old S x) (sym from.2) (at_end old s1 _ so_far from.0 from.1))

module _ (l : Layout) (old : DiskState) (within : LiesWithin l old.size) (synced : IsSynced old) where
  pub while_reading : (s1 : DiskState) → LeavesOnly old s1 (From old Unchanged) → LeavesOnly old s1 (From old (AreShutting l))
  while_reading s1 run = weaker old s1 _ _ run (λ c from. (from.0, from.1, all_stand l within.apart from.0 c from.2))

  pub while_shutting_a : (gate : ℕ) (s1 : DiskState) → IfTold old.seen (λ image. get_or image l.a 0 ≡ gate) → LeavesOnly old s1 (From old (IsOverOpen l.a gate)) → LeavesOnly old s1 (From old (AreShutting l))
  while_shutting_a gate s1 is run = weaker old s1 _ _ run (λ c from.
      let long : length from.0 ≡ old.size = old.whole from.0 (synced from.0 from.1) in
      (from.0, from.1, over_a l within.apart gate from.0 c (omega (arith, long, within.apart, within.within)) (told old (λ image. get_or image l.a 0 ≡ gate) from.0 synced from.1 is) from.2))

  pub while_shutting_b : (gate_a gate_b : ℕ) (s1 s2 : DiskState) → IfTold old.seen (λ image. get_or image l.a 0 ≡ gate_a) → IfTold old.seen (λ image. get_or image l.b 0 ≡ gate_b) → LeavesOnly old s1 (From old (IsOverOpen l.a gate_a)) → LeavesOnly s1 s2 (From s1 (IsOverOpen l.b gate_b)) → LeavesOnly old s2 (From old (AreShutting l))
  while_shutting_b gate_a gate_b s1 s2 is_a is_b first second = and_then old s1 s2 _ _ _ (while_shutting_a gate_a s1 is_a first) second (λ c p. p) (λ c from.
      let back = at_end old s1 _ first from.0 from.1 in
      let long : length back.0 ≡ old.size = old.whole back.0 (synced back.0 back.1) in (
        back.0,
        back.1,
        over_b l within.apart gate_a gate_b back.0 from.0 c (omega (arith, long, within.apart, within.within))
            (told old (λ image. get_or image l.a 0 ≡ gate_a) back.0 synced back.1 is_a) (told old (λ image. get_or image l.b 0 ≡ gate_b) back.0 synced back.1 is_b) back.2 from.2,
      ))

module _ (l : Layout) (p copy : List ℕ) (long : length p ≡ PAGE_LEN * l.pages) (is_copy : copy ≡ sealed_copy l 0 p) (apart : l.a + copy_len l.pages ≤ l.b) where
  zero_range : 0 < 2 ^ 64
  zero_range = omega arith

  len_copy : length copy ≡ copy_len l.pages
  len_copy = ap length is_copy ∙ len_new l 0 p zero_range long apart

  writing_a : (m c : List ℕ) → AreShut l m → IsWriting l.a copy m c → IsMakingA l p c
  writing_a m c shut w = record {
    a = ⊎_elim (λ same. inl (shut_too l.a m c (gate_same l.a (length copy) m c (omega (arith, len_copy)) same) shut.0))
        (λ rest. ⊎_elim (λ now. inl now) (λ whole. inr (new_a l 0 p zero_range long apart c (subst (λ (x : List ℕ). part l.a (length x) c ≡ x) is_copy whole))) rest)
        w.whole_or_shut;
    b = shut_too l.b m c (byte_behind l.a (length copy) l.b m c (omega (arith, len_copy, apart)) w.elsewhere) shut.1;
  }

  writing_b : (m c : List ℕ) → IsCopy l 0 p (copy_a l m) → IsShut l.b m → IsWriting l.b copy m c → IsMakingB l p c
  writing_b m c is shut w = record {
    a = carries l 0 p (copy_a l m) (copy_a l c) (part_before l.b (length copy) l.a (copy_len l.pages) m c apart w.elsewhere) is;
    b = ⊎_elim (λ same. inl (shut_too l.b m c (gate_same l.b (length copy) m c (omega (arith, len_copy)) same) shut))
        (λ rest. ⊎_elim (λ now. inl now) (λ whole. inr (new_b l 0 p zero_range long apart c (subst (λ (x : List ℕ). part l.b (length x) c ≡ x) is_copy whole))) rest)
        w.whole_or_shut;
  }

  -- copy a is written, and copy b is shut
  abbrev IsHalf : List ℕ → Type 0
  IsHalf c = IsCopy l 0 p (copy_a l c) × IsShut l.b c

  half : (s1 s2 : DiskState) → l.b + copy_len l.pages ≤ s1.size → IfTold s1.seen (AreShut l) → s2.seen ≡ seen_with_bytes l.a copy s1.seen → IfTold s2.seen IsHalf
  half s1 s2 room shut seen = subst (λ (s : Option (List ℕ)). IfTold s IsHalf) (sym seen) (told_written s1.seen l.a copy (AreShut l) IsHalf (λ d is here.
      let whole : length d ≡ s1.size = s1.whole d is in
      let torn = torn-written l.a copy d (omega (arith, whole, room, len_copy, apart)) in (
        subst (λ (x : List ℕ). IsCopy l 0 p (copy_a l (with_bytes l.a x d))) (sym is_copy) (written_a l 0 p zero_range long apart d (omega (arith, whole, room))).0,
        shut_too l.b d (with_bytes l.a copy d) (byte_behind l.a (length copy) l.b d (with_bytes l.a copy d) (omega (arith, len_copy, apart)) torn) here.1,
      )) shut)

  -- a making whose first step leaves this
  abbrev pub Making : (List ℕ → List ℕ → Type 0) → List ℕ → List ℕ → Type 0
  Making S old new = S old new ⊎ (IsMakingA l p new ⊎ IsMakingB l p new)

  module _ (S : List ℕ → List ℕ → Type 0) (old s1 : DiskState) (shutting_run : LeavesOnly old s1 (From old S)) where
    pub made_shut : LeavesOnly old s1 (From old (Making S))
    made_shut = weaker old s1 _ _ shutting_run (λ c from. (from.0, from.1, inl from.2))

    module _ (s2 : DiskState) (synced_1 : IsSynced s1) (shut_1 : IfTold s1.seen (AreShut l)) (run_a : LeavesOnly s1 s2 (From s1 (IsWriting l.a copy))) where
      pub made_a : LeavesOnly old s2 (From old (Making S))
      made_a = and_then old s1 s2 _ _ _ made_shut run_a (λ c q. q) (λ c from.
          let back = at_end old s1 _ shutting_run from.0 from.1 in
          (back.0, back.1, inr (inl (writing_a from.0 c (told s1 (AreShut l) from.0 synced_1 from.1 shut_1) from.2))))

      pub made_b : (s3 : DiskState) → l.b + copy_len l.pages ≤ s1.size → IsSynced s2 → s2.seen ≡ seen_with_bytes l.a copy s1.seen → LeavesOnly s2 s3 (From s2 (IsWriting l.b copy)) → LeavesOnly old s3 (From old (Making S))
      made_b s3 room synced_2 seen_2 run_b = and_then old s2 s3 _ _ _ made_a run_b (λ c q. q) (λ c from.
          let back = at_end old s2 _ made_a from.0 from.1 in
          let here = told s2 IsHalf from.0 synced_2 from.1 (half s1 s2 room shut_1 seen_2) in
          (back.0, back.1, inr (inr (writing_b from.0 c here.0 here.1 from.2))))
