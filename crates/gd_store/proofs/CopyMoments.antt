-- What each moment of the writing of a copy leaves.
use Rattle.std.proofs.Common.{◌≡◌, inl, inr, ⊎_elim, ℕ, ◌+◌, ◌<◌, ◌≤◌, List, [], ◌∷◌, ◌++◌, length, get_or, take, drop, refl, sym, ◌∙◌, ap, subst, arith, true, false, Option, Some, None, append_assoc}
use Rattle.std.proofs.lemmas.Bool.{cases_eq}
use Rattle.std.proofs.lemmas.List.{take_at}
use Rattle.std.proofs.Common.{if◌then◌else◌, ◌==◌}
use Rattle.gd_disk.specs.Runs.{LeavesOnly}
use Rattle.gd_disk.specs.Disk.{seen_with_bytes}
use Rattle.gd_disk.proofs.Runs.{and_then, weaker, at_end}
use Rattle.gd_store.specs.Copy.{part}
use Rattle.gd_store.specs.Writing.{seen_shut}
use Rattle.gd_store.proofs.Images.{first_of}
use Rattle.gd_disk.specs.Disk.{DiskState, Torn, IsSynced, IfTold, with_bytes}
use Rattle.gd_store.specs.Writing.{IsShut, IsShutting, IsWriting, From}
use Rattle.gd_disk.proofs.Written.{torn_refl, torn_trans, torn_wider, torn_byte, byte_before, torn-written, drop_at-written, at_byte}

-- what is told of what a read gives is so of each image that may be found, where nothing waits for a sync
pub told : (disk : DiskState) (P : List ℕ → Type 0) (d : List ℕ) → IsSynced disk → disk.may_find d → IfTold disk.seen P → P d
told disk P d synced may fact = subst (λ (s : Option (List ℕ)). IfTold s P) (synced d may) fact

-- a gate that was open is torn while it's shut
pub shutting : (at : ℕ) (d c : List ℕ) → at < length d → get_or d at 0 ≡ 0xA5 → Torn at 1 d c → IsShutting at d c
shutting at d c lt is_open torn = record {
  elsewhere = torn;
  shut_or_same = elim (cases_eq (get_or c at 0) 0xA5) [
    | inl same ↦ inr (torn_byte at d c lt torn (same ∙ sym is_open))
    | inr other ↦ inl other
  ];
}

some_is : (a b : List ℕ) → Some a ≡ Some b → a ≡ b
some_is a b same = cc

module _ (at : ℕ) (body : List ℕ) where
  one_le : at + 1 ≤ at + length (0xA5 ∷ body)
  one_le = omega arith

  body_le : at + 1 + length body ≤ at + length (0xA5 ∷ body)
  body_le = omega arith

  -- while the old copy is shut
  pub while_shutting : (d c : List ℕ) → IsShutting at d c → IsWriting at (0xA5 ∷ body) d c
  while_shutting d c s = record {
    elsewhere = torn_wider at 1 at (length (0xA5 ∷ body)) d c (omega arith) one_le s.elsewhere;
    whole_or_shut = ⊎_elim (λ shut. inr (inl shut)) (λ same. inl (ap (λ (x : List ℕ). part at (length (0xA5 ∷ body)) x) same)) s.shut_or_same;
  }

  -- while the body is written behind the shut gate
  pub while_filling : (d m c : List ℕ) → Torn at 1 d m → IsShut at m → Torn (at + 1) (length body) m c → IsWriting at (0xA5 ∷ body) d c
  while_filling d m c first shut torn = record {
    elsewhere = torn_trans at (length (0xA5 ∷ body)) d m c (torn_wider at 1 at (length (0xA5 ∷ body)) d m (omega arith) one_le first)
        (torn_wider (at + 1) (length body) at (length (0xA5 ∷ body)) m c (omega arith) body_le torn);
    whole_or_shut = inr (inl (λ is_open. shut (sym (byte_before (at + 1) (length body) at m c (omega arith) torn) ∙ is_open)));
  }

  -- while the gate of the new copy is opened
  pub while_opening : (d m c : List ℕ) → at + 1 + length body ≤ length d → Torn at 1 d m → Torn at 1 (with_bytes (at + 1) body m) c → IsWriting at (0xA5 ∷ body) d c
  while_opening d m c long first torn = record {
    elsewhere = torn_trans at (length (0xA5 ∷ body)) d w c (torn_trans at (length (0xA5 ∷ body)) d m w (torn_wider at 1 at (length (0xA5 ∷ body)) d m (omega arith) one_le first)
        (torn_wider (at + 1) (length body) at (length (0xA5 ∷ body)) m w (omega arith) body_le filled)) (torn_wider at 1 at (length (0xA5 ∷ body)) w c (omega arith) one_le torn);
    whole_or_shut = elim (cases_eq (get_or c at 0) 0xA5) [
      | inl is_open ↦ inr (inr (new_copy is_open))
      | inr shut ↦ inr (inl shut)
    ];
  }
    where
      w : List ℕ
      w = with_bytes (at + 1) body m

      long_m : at + 1 + length body ≤ length m
      long_m = omega (arith, first.same_length, long)

      filled : Torn (at + 1) (length body) m w
      filled = torn-written (at + 1) body m long_m

      new_copy : get_or c at 0 ≡ 0xA5 → part at (length (0xA5 ∷ body)) c ≡ 0xA5 ∷ body
      new_copy is_open =
          let lt : at < length c = omega (arith, torn.same_length, filled.same_length, long_m) in
          let from_gate : drop at c ≡ (0xA5 ∷ body) ++ drop (at + 1 + length body) m =
          at_byte at c lt ∙ ap (λ (g : ℕ). g ∷ drop (at + 1) c) is_open ∙ ap (λ (x : List ℕ). 0xA5 ∷ x) (torn.after ∙ drop_at-written (at + 1) body m long_m) in
          ap (λ (x : List ℕ). take (length (0xA5 ∷ body)) x) from_gate ∙ take_at (0xA5 ∷ body) (drop (at + 1 + length body) m) (length (0xA5 ∷ body)) refl

  -- while a copy is written over one that is shut
  pub after_shutting : (d m c : List ℕ) → Torn at 1 d m → IsShut at m → IsWriting at (0xA5 ∷ body) m c → IsWriting at (0xA5 ∷ body) d c
  after_shutting d m c first shut w = record {
    elsewhere = torn_trans at (length (0xA5 ∷ body)) d m c (torn_wider at 1 at (length (0xA5 ∷ body)) d m (omega arith) one_le first) w.elsewhere;
    whole_or_shut = ⊎_elim (λ same. inr (inl (still same))) (λ rest. inr rest) w.whole_or_shut;
  }
    where
      still : part at (length (0xA5 ∷ body)) c ≡ part at (length (0xA5 ∷ body)) m → IsShut at c
      still same is_open = shut (sym (first_of at (length (0xA5 ∷ body)) m (omega arith)) ∙ ap (λ (x : List ℕ). get_or x 0 0) (sym same) ∙ first_of at (length (0xA5 ∷ body)) c (omega arith) ∙ is_open)

  -- what body and gate make together
  pub written_whole : (d : List ℕ) → at + 1 + length body ≤ length d → with_bytes at (0xA5 ∷ []) (with_bytes (at + 1) body d) ≡ with_bytes at (0xA5 ∷ body) d
  written_whole d long =
      ap (λ (x : List ℕ). x ++ (0xA5 ∷ []) ++ drop (at + 1) w) (torn_wider (at + 1) (length body) at (length (0xA5 ∷ body)) d w (omega arith) body_le (torn-written (at + 1) body d long)).before
      ∙ ap (λ (x : List ℕ). take at d ++ (0xA5 ∷ []) ++ x) (drop_at-written (at + 1) body d long ∙ ap (λ (x : List ℕ). body ++ x) (ap (λ (k : ℕ). drop k d) sums))
      ∙ append_assoc (take at d) (0xA5 ∷ []) (body ++ drop (at + length (0xA5 ∷ body)) d)
      ∙ sym (append_assoc (take at d) (0xA5 ∷ body) (drop (at + length (0xA5 ∷ body)) d))
    where
      w : List ℕ
      w = with_bytes (at + 1) body d

      sums : at + 1 + length body ≡ at + length (0xA5 ∷ body)
      sums = omega arith

  -- what a copy and a shut gate under it make together
  written_over : (d : List ℕ) → at + 1 + length body ≤ length d → with_bytes at (0xA5 ∷ body) (with_bytes at (0 ∷ []) d) ≡ with_bytes at (0xA5 ∷ body) d
  written_over d long =
      let torn = torn-written at (0 ∷ []) d (omega (arith, long)) in
      let wide = torn_wider at 1 at (length (0xA5 ∷ body)) d (with_bytes at (0 ∷ []) d) (omega arith) one_le torn in
      ap (λ (x : List ℕ). x ++ (0xA5 ∷ body) ++ drop (at + length (0xA5 ∷ body)) (with_bytes at (0 ∷ []) d)) wide.before
      ∙ ap (λ (x : List ℕ). take at d ++ (0xA5 ∷ body) ++ x) wide.after

  -- what a read gives after body and gate
  pub seen_whole : (seen : Option (List ℕ)) → ((d : List ℕ) → seen ≡ Some d → at + 1 + length body ≤ length d) → seen_with_bytes at (0xA5 ∷ []) (seen_with_bytes (at + 1) body seen) ≡ seen_with_bytes at (0xA5 ∷ body) seen
  seen_whole None long = refl
  seen_whole (Some d) long = ap Some (written_whole d (long d refl))

  -- what a read gives after a gate is shut and the copy is written
  pub seen_over : (seen : Option (List ℕ)) (gate : ℕ) → ((d : List ℕ) → seen ≡ Some d → at + 1 + length body ≤ length d) → seen_with_bytes at (0xA5 ∷ body) (seen_shut at gate seen) ≡ seen_with_bytes at (0xA5 ∷ body) seen
  seen_over None gate long = elim (gate == 0xA5) as (λ b. seen_with_bytes at (0xA5 ∷ body) (if b then None else None) ≡ None) [ true ↦ refl | false ↦ refl ]
  seen_over (Some d) gate long = elim (gate == 0xA5) as (λ b. seen_with_bytes at (0xA5 ∷ body) (if b then Some (with_bytes at (0 ∷ []) d) else Some d) ≡ Some (with_bytes at (0xA5 ∷ body) d)) [
    | true ↦ ap Some (written_over d (long d refl))
    | false ↦ refl
  ]

  -- each moment of a write over a copy that is shut
  module _ (old s1 : DiskState) (synced : IsSynced old) (shut : IfTold old.seen (IsShut at)) (filling_run : LeavesOnly old s1 (From old (Torn (at + 1) (length body)))) where
    pub moments_1 : LeavesOnly old s1 (From old (IsWriting at (0xA5 ∷ body)))
    moments_1 = weaker old s1 _ _ filling_run (λ c from.
        (from.0, from.1, while_filling from.0 from.0 c (torn_refl at 1 from.0) (told old (IsShut at) from.0 synced from.1 shut) from.2))

    pub moments_2 : (s2 : DiskState) → at + 1 + length body ≤ old.size → IsSynced s1 → s1.seen ≡ seen_with_bytes (at + 1) body old.seen → LeavesOnly s1 s2 (From s1 (Torn at 1)) → LeavesOnly old s2 (From old (IsWriting at (0xA5 ∷ body)))
    moments_2 s2 fits synced_1 seen_1 opening_run = and_then old s1 s2 _ _ _ moments_1 opening_run (λ c p. p) (λ c from.
        let was = at_end old s1 (From old (Torn (at + 1) (length body))) filling_run from.0 from.1 in
        let is_written : with_bytes (at + 1) body was.0 ≡ from.0 = some_is _ _ (sym (ap (λ (s : Option (List ℕ)). seen_with_bytes (at + 1) body s) (synced was.0 was.1)) ∙ sym seen_1 ∙ synced_1 from.0 from.1) in
        let long : at + 1 + length body ≤ length was.0 = omega (arith, fits, old.whole was.0 (synced was.0 was.1)) in
        (was.0, was.1, while_opening was.0 was.0 c long (torn_refl at 1 was.0) (subst (λ (x : List ℕ). Torn at 1 x c) (sym is_written) from.2)))

  -- and of one over any copy
  module _ (old s1 : DiskState) (shutting_run : LeavesOnly old s1 (From old (IsShutting at))) where
    pub moments_shutting : LeavesOnly old s1 (From old (IsWriting at (0xA5 ∷ body)))
    moments_shutting = weaker old s1 _ _ shutting_run (λ c from. (from.0, from.1, while_shutting from.0 c from.2))

    pub moments_copy : (s2 : DiskState) → IsSynced s1 → IfTold s1.seen (IsShut at) → LeavesOnly s1 s2 (From s1 (IsWriting at (0xA5 ∷ body))) → LeavesOnly old s2 (From old (IsWriting at (0xA5 ∷ body)))
    moments_copy s2 synced_1 shut_1 writing_run = and_then old s1 s2 _ _ _ moments_shutting writing_run (λ c p. p) (λ c from.
        let here = at_end old s1 (From old (IsShutting at)) shutting_run from.0 from.1 in
        (here.0, here.1, after_shutting here.0 from.0 c here.2.elsewhere (told s1 (IsShut at) from.0 synced_1 from.1 shut_1) from.2))
