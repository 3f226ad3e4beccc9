-- What each moment of a making leaves over a disk where writes wait for a sync.
use Rattle.std.proofs.Common.{◌≡◌, ◌⊎◌, inl, inr, ⊎_elim, ℕ, zero, suc, ◌+◌, ◌<◌, ◌≤◌, ◌∷◌, List, length, take, drop, get_or, sym, ◌∙◌, ap, subst, arith, Option, Some, None}
use Rattle.std.proofs.lemmas.Bool.{cases_eq, cases_lt}
use Rattle.std.proofs.lemmas.List.{get_or_past}
use Rattle.gd_disk.specs.Disk.{DiskState, IfTold, Unchanged, Torn}
use Rattle.gd_disk.specs.Runs.{LeavesOnly}
use Rattle.gd_disk.proofs.Runs.{and_then, at_end, weaker}
use Rattle.gd_disk.proofs.Written.{at_byte, byte_before}
use Rattle.gd_store.specs.Copy.{part, copy_len, copy_a, copy_b}
use Rattle.gd_store.specs.Making.{ReadsOpen, behind_open, IsOld, AreShuttingAny}
use Rattle.gd_store.specs.Writing.{From, IsOverOpen, IsShut}
use Rattle.gd_store.specs.declared.copy.layout.Layout.{Layout}
use Rattle.gd_store.proofs.Images.{part_before, part_behind}
use Rattle.gd_store.proofs.MakingMoments.{shut_too}

-- an open byte stands within the image
open_within : (c : List ℕ) (at : ℕ) → get_or c at 0 ≡ 0xA5 → at < length c
open_within c at is_open = ⊎_elim (λ lt. lt) (λ le. let past : get_or c at 0 ≡ 0 = get_or_past c at 0 le in absurd (omega (arith, past, is_open))) (cases_lt at (length c))

-- a torn gate that comes out open has the old copy behind it
torn_open : (at n : ℕ) (d c : List ℕ) → 0 < n → Torn at 1 d c → get_or c at 0 ≡ 0xA5 → part at n c ≡ behind_open (part at n d)
torn_open at zero d c some torn is_open = absurd (omega (arith, some))
torn_open at (suc k) d c some torn is_open =
    let lt : at < length c = open_within c at is_open in
    let lt_old : at < length d = omega (arith, torn.same_length, lt) in
    ap (λ (x : List ℕ). take (suc k) x) (at_byte at c lt ∙ ap (λ (g : ℕ). g ∷ drop (at + 1) c) is_open ∙ ap (λ (x : List ℕ). 0xA5 ∷ x) torn.after)
    ∙ ap (λ (x : List ℕ). 0xA5 ∷ drop 1 (take (suc k) x)) (sym (at_byte at d lt_old))

-- a gate that was read as this byte, after it was written over where it was open
pub over_any : (at n gate : ℕ) (seen : Option (List ℕ)) (d c : List ℕ) → 0 < n → (gate ≡ 0xA5 → ReadsOpen at seen) → IsOverOpen at gate d c → IsShut at c ⊎ IsOld at seen (part at n d) (part at n c)
over_any at n gate seen d c some opens over = elim (cases_eq gate 0xA5) [
  | inl was_open ↦ elim (cases_eq (get_or c at 0) 0xA5) [
    | inl is_open ↦ inr (inr (opens was_open, torn_open at n d c some over.elsewhere is_open))
    | inr shut ↦ inl shut
  ]
  | inr other ↦ inr (inl (ap (part at n) (over.stands other)))
]

old_then : (at : ℕ) (seen : Option (List ℕ)) (x y z : List ℕ) → z ≡ y → IsOld at seen x y → IsOld at seen x z
old_then at seen x y z same old = ⊎_elim (λ stands. inl (same ∙ stands)) (λ opened. inr (opened.0, same ∙ opened.1)) old

old_from : (at : ℕ) (seen : Option (List ℕ)) (x y z : List ℕ) → y ≡ x → IsOld at seen y z → IsOld at seen x z
old_from at seen x y z same old = subst (λ (w : List ℕ). IsOld at seen w z) same old

-- a gate that was read as open is open in what a read gives
pub reads_open : (at gate : ℕ) (seen : Option (List ℕ)) → IfTold seen (λ image. get_or image at 0 ≡ gate) → gate ≡ 0xA5 → ReadsOpen at seen
reads_open at gate None told is image never = absurd (clash image never)
  where
    clash : (x : List ℕ) → None ≡ Some x → ⊥
    clash x e = cc
reads_open at gate (Some seen) told is image same =
    let that : seen ≡ image = cc in
    subst (λ (x : List ℕ). get_or x at 0 ≡ 0xA5) that (told ∙ is)

module _ (l : Layout) (apart : l.a + copy_len l.pages ≤ l.b) (seen : Option (List ℕ)) where
  stand_any : (d c : List ℕ) → c ≡ d → AreShuttingAny l seen d c
  stand_any d c same = record { a = inr (inl (ap (copy_a l) same)); b = inr (inl (ap (copy_b l) same)) }

  over_a_any : (gate : ℕ) (d c : List ℕ) → (gate ≡ 0xA5 → ReadsOpen l.a seen) → IsOverOpen l.a gate d c → AreShuttingAny l seen d c
  over_a_any gate d c opens over = record {
    a = over_any l.a (copy_len l.pages) gate seen d c (omega arith) opens over;
    b = inr (inl (part_behind l.a 1 l.b (copy_len l.pages) d c (omega (arith, apart)) over.elsewhere));
  }

  over_b_any : (gate_a gate_b : ℕ) (d m c : List ℕ) → (gate_a ≡ 0xA5 → ReadsOpen l.a seen) → (gate_b ≡ 0xA5 → ReadsOpen l.b seen) → IsOverOpen l.a gate_a d m → IsOverOpen l.b gate_b m c → AreShuttingAny l seen d c
  over_b_any gate_a gate_b d m c opens_a opens_b first second = record {
    a = ⊎_elim (λ shut. inl (shut_too l.a m c (byte_before l.b 1 l.a m c (omega (arith, apart)) second.elsewhere) shut))
        (λ old. inr (old_then l.a seen (copy_a l d) (copy_a l m) (copy_a l c) (part_before l.b 1 l.a (copy_len l.pages) m c apart second.elsewhere) old))
        (over_any l.a (copy_len l.pages) gate_a seen d m (omega arith) opens_a first);
    b = ⊎_elim (λ shut. inl shut)
        (λ old. inr (old_from l.b seen (copy_b l d) (copy_b l m) (copy_b l c) (part_behind l.a 1 l.b (copy_len l.pages) d m (omega (arith, apart)) first.elsewhere) old))
        (over_any l.b (copy_len l.pages) gate_b seen m c (omega arith) opens_b second);
  }

module _ (l : Layout) (old : DiskState) (apart : l.a + copy_len l.pages ≤ l.b) where
  pub while_reading_any : (s1 : DiskState) → LeavesOnly old s1 (From old Unchanged) → LeavesOnly old s1 (From old (AreShuttingAny l old.seen))
  while_reading_any s1 run = weaker old s1 _ _ run (λ c from. (from.0, from.1, stand_any l apart old.seen from.0 c from.2))

  pub while_a_any : (gate : ℕ) (s1 : DiskState) → IfTold old.seen (λ image. get_or image l.a 0 ≡ gate) → LeavesOnly old s1 (From old (IsOverOpen l.a gate)) → LeavesOnly old s1 (From old (AreShuttingAny l old.seen))
  while_a_any gate s1 is run = weaker old s1 _ _ run (λ c from. (from.0, from.1, over_a_any l apart old.seen gate from.0 c (reads_open l.a gate old.seen is) from.2))

  pub while_b_any : (gate_a gate_b : ℕ) (s1 s2 : DiskState) → IfTold old.seen (λ image. get_or image l.a 0 ≡ gate_a) → IfTold old.seen (λ image. get_or image l.b 0 ≡ gate_b) → LeavesOnly old s1 (From old (IsOverOpen l.a gate_a)) → LeavesOnly s1 s2 (From s1 (IsOverOpen l.b gate_b)) → LeavesOnly old s2 (From old (AreShuttingAny l old.seen))
  while_b_any gate_a gate_b s1 s2 is_a is_b first second = and_then old s1 s2 _ _ _ (while_a_any gate_a s1 is_a first) second (λ c p. p) (λ c from.
      let back = at_end old s1 _ first from.0 from.1 in
      (back.0, back.1, over_b_any l apart old.seen gate_a gate_b back.0 from.0 c (reads_open l.a gate_a old.seen is_a) (reads_open l.b gate_b old.seen is_b) back.2 from.2))
