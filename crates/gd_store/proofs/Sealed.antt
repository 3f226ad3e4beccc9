-- For callers: equal bytes are found equal. A sealed copy is sound, and spells its payload.
use Rattle.std.proofs.Common.{◌≡◌, inl, inr, ℕ, zero, suc, ◌+◌, ◌*◌, ◌^◌, ◌<◌, ◌≤◌, List, ◌++◌, length, get_or, refl, sym, ◌∙◌, ap, subst, arith, true, None, length-append, nat_eq}
use Rattle.std.proofs.lemmas.Bool.{cases_eq}
use Rattle.std.proofs.lemmas.Nat.{from_be_bytes-to_be_bytes_8}
use Rattle.std.specs.Int.{w64, to_be_bytes, from_be_bytes}
use Rattle.std.specs.Str.{bytes_eq}
use Rattle.sha2.specs.Sha256.{sha256}
use Rattle.sha2.proofs.Facts256.{length-sha256}
use Rattle.std.proofs.lemmas.Slice.Eq.{bytes_eq-Decides}
use Rattle.gd_store.specs.Copy.{part, copy_len, header_start, page, digests, head_of, sealed_copy, body_of, state_of, page_matches, lowest_bad, stored_sequence, stored_head, stored_seal, stored_payload, stored_digest}
use Rattle.gd_store.proofs.Parts.{part_front, part_part, part_last, length-copy, part_start, part_number, part_head, part_digs, part_seal, part_payload}
use Rattle.gd_store.specs.declared.copy.layout.Layout.{Layout}
use Rattle.gd_store.specs.declared.copy.states.CopyState.TheVariants.{Sound}
use Rattle.gd_disk.specs.declared.lengths.TheConstants.{DIGEST_LEN, DIGESTS_AT, PAGE_LEN}

pub length-digests : (n : ℕ) (payload : List ℕ) → length (digests n payload) ≡ DIGEST_LEN * n
unfolding digests
length-digests zero payload = refl
length-digests (suc n) payload = omega (arith, length-append (digests n payload) (sha256 (page n payload)), length-digests n payload, length-sha256 (page n payload))

pub length-start : (l : Layout) → length (header_start l) ≡ 8
unfolding header_start
length-start l = refl

pub same_bytes : (xs ys : List ℕ) → xs ≡ ys → bytes_eq xs ys ≡ true
same_bytes xs ys same = (bytes_eq-Decides xs ys).1 same

-- the digest of page i among those of n pages
pub digest_at : (n i : ℕ) (payload : List ℕ) → i < n → part (DIGEST_LEN * i) DIGEST_LEN (digests n payload) ≡ sha256 (page i payload)
unfolding digests
digest_at zero i payload lt = absurd (omega arith)
digest_at (suc n) i payload lt = elim (cases_eq i n) [
  | inl same ↦ subst (λ (k : ℕ). part (DIGEST_LEN * k) DIGEST_LEN (digests n payload ++ sha256 (page n payload)) ≡ sha256 (page k payload)) (sym same) (part_last (digests n payload) (sha256 (page n payload)) (DIGEST_LEN * n) DIGEST_LEN (length-digests n payload) (length-sha256 (page n payload)))
  | inr other ↦
      let lower : i < n = omega (arith, lt, other) in
      let long = length-digests n payload in
      part_front (digests n payload) (sha256 (page n payload)) (DIGEST_LEN * i) DIGEST_LEN (omega (arith, long, lower)) ∙ digest_at n i payload lower
]

module _ (l : Layout) (sequence : ℕ) (payload : List ℕ) (range : sequence < 2 ^ 64) (long : length payload ≡ PAGE_LEN * l.pages) where
  abbrev digs : List ℕ
  digs = digests l.pages payload

  abbrev seal : List ℕ
  seal = sha256 (header_start l ++ to_be_bytes w64 sequence ++ digests l.pages payload)

  pub length-sealed : length (sealed_copy l sequence payload) ≡ copy_len l.pages
  unfolding sealed_copy body_of head_of
  length-sealed = length-copy (header_start l) (to_be_bytes w64 sequence) digs seal payload l.pages (length-start l) refl (length-digests l.pages payload) (length-sha256 _) long

  pub sealed_payload : stored_payload l (sealed_copy l sequence payload) ≡ payload
  unfolding sealed_copy body_of head_of stored_payload
  sealed_payload = part_payload (header_start l) (to_be_bytes w64 sequence) digs seal payload l.pages (length-start l) refl (length-digests l.pages payload) (length-sha256 _) long

  kept : (i : ℕ) → i < l.pages → part (DIGESTS_AT + DIGEST_LEN * i) DIGEST_LEN (sealed_copy l sequence payload) ≡ sha256 (page i payload)
  unfolding sealed_copy body_of head_of
  kept i lt = sym (part_part DIGESTS_AT (DIGEST_LEN * l.pages) (DIGEST_LEN * i) DIGEST_LEN _ (omega arith)) ∙ ap (λ (x : List ℕ). part (DIGEST_LEN * i) DIGEST_LEN x) (part_digs (header_start l) (to_be_bytes w64 sequence) digs seal payload l.pages (length-start l) refl (length-digests l.pages payload) (length-sha256 _) long) ∙ digest_at l.pages i payload lt

  page_ok : (i : ℕ) → i < l.pages → page_matches l (sealed_copy l sequence payload) i ≡ true
  unfolding page_matches stored_digest
  page_ok i lt = same_bytes _ _ (ap (λ (x : List ℕ). sha256 (page i x)) sealed_payload ∙ sym (kept i lt))

  none_bad : (i n : ℕ) → i + n ≤ l.pages → lowest_bad l (sealed_copy l sequence payload) i n ≡ None
  unfolding lowest_bad
  none_bad i zero le = refl
  none_bad i (suc n) le = rw (page_ok i (omega (arith, le))) (none_bad (i + 1) n (omega (arith, le)))

  gate_open : nat_eq (get_or (sealed_copy l sequence payload) 0 0) 0xA5 ≡ true
  unfolding sealed_copy
  gate_open = refl

  start_same : bytes_eq (part 1 8 (sealed_copy l sequence payload)) (header_start l) ≡ true
  unfolding sealed_copy body_of head_of
  start_same = same_bytes _ _ (part_start (header_start l) (to_be_bytes w64 sequence) digs seal payload l.pages (length-start l) refl (length-digests l.pages payload) (length-sha256 _) long)

  seal_same : bytes_eq (sha256 (stored_head l (sealed_copy l sequence payload))) (stored_seal l (sealed_copy l sequence payload)) ≡ true
  unfolding sealed_copy body_of head_of stored_head stored_seal
  seal_same = same_bytes _ _ (ap sha256 (part_head (header_start l) (to_be_bytes w64 sequence) digs seal payload l.pages (length-start l) refl (length-digests l.pages payload) (length-sha256 _) long) ∙ sym (part_seal (header_start l) (to_be_bytes w64 sequence) digs seal payload l.pages (length-start l) refl (length-digests l.pages payload) (length-sha256 _) long))

  number_same : stored_sequence (sealed_copy l sequence payload) ≡ sequence
  unfolding sealed_copy body_of head_of stored_sequence
  number_same = ap (λ (x : List ℕ). from_be_bytes w64 x) (part_number (header_start l) (to_be_bytes w64 sequence) digs seal payload l.pages (length-start l) refl (length-digests l.pages payload) (length-sha256 _) long) ∙ from_be_bytes-to_be_bytes_8 sequence range

  pub sealed_sound : state_of l (sealed_copy l sequence payload) ≡ Sound sequence
  unfolding state_of
  sealed_sound = rw (gate_open, start_same, seal_same, none_bad 0 l.pages (omega arith), number_same)
