-- The front of a copy: put together in a buffer, and its parts.
use Rattle.std.proofs.Common.{◌≡◌, ℕ, ◌+◌, ◌*◌, ◌-◌, List, ◌++◌, length, take, drop, refl, ◌∙◌, ap, arith, append_assoc, length-append, length-drop}
use Rattle.std.proofs.lemmas.List.{take_at, drop_at}
use Rattle.std.proofs.lemmas.Slice.{take-put_mid}
use borrow.Rule.Slice.PartMut.{put_mid}
use Rattle.std.specs.Int.{w64, to_be_bytes}
use Rattle.sha2.specs.Sha256.{sha256}
use Rattle.sha2.proofs.Facts256.{length-sha256}
use Rattle.gd_disk.specs.declared.lengths.TheConstants.{DIGEST_LEN, HEADER_LEN}
use Rattle.gd_store.specs.Copy.{body_of, digests, front_of, head_of, header_start, part}
use Rattle.gd_store.specs.declared.copy.layout.Layout.{Layout}
use Rattle.gd_store.proofs.Assembled.{length_put, put_end}
use Rattle.gd_store.proofs.Sealed.{length-digests, length-start}

-- header, digests and seal, written one after another
module _ (l : Layout) (sequence : ℕ) (payload b0 h digs seal : List ℕ) (h_is : h ≡ header_start l ++ to_be_bytes w64 sequence) (h_16 : length h ≡ HEADER_LEN) (digs_are : digs ≡ digests l.pages payload) (room : length b0 ≡ HEADER_LEN + DIGEST_LEN * l.pages + DIGEST_LEN) where
  len_1 : length (h ++ drop HEADER_LEN b0) ≡ length b0
  len_1 = omega (arith, length-append h (drop HEADER_LEN b0), length-drop HEADER_LEN b0, h_16, room)

  digs_n : length digs ≡ DIGEST_LEN * l.pages
  digs_n = ap length digs_are ∙ length-digests l.pages payload

  module _ (k1 : ℕ) (k1_is : k1 ≡ DIGEST_LEN * l.pages) (seal_is : seal ≡ sha256 (take (HEADER_LEN + DIGEST_LEN * l.pages) (put_mid HEADER_LEN k1 (h ++ drop HEADER_LEN b0) digs))) where
    take_2 : take (HEADER_LEN + DIGEST_LEN * l.pages) (put_mid HEADER_LEN k1 (h ++ drop HEADER_LEN b0) digs) ≡ head_of l sequence payload
    unfolding head_of
    take_2 = take-put_mid HEADER_LEN k1 (h ++ drop HEADER_LEN b0) digs (HEADER_LEN + DIGEST_LEN * l.pages) (omega (arith, digs_n)) (omega (arith, len_1, room)) ∙ ap (λ (x : List ℕ). x ++ digs) (take_at h (drop HEADER_LEN b0) HEADER_LEN h_16 ∙ h_is) ∙ ap (λ (x : List ℕ). header_start l ++ to_be_bytes w64 sequence ++ x) digs_are

    len_2 : length (put_mid HEADER_LEN k1 (h ++ drop HEADER_LEN b0) digs) ≡ length b0
    len_2 = length_put HEADER_LEN k1 (h ++ drop HEADER_LEN b0) digs (omega (arith, digs_n, k1_is)) (omega (arith, len_1, room, k1_is)) ∙ len_1

    seal_32 : length seal ≡ DIGEST_LEN
    seal_32 = ap length seal_is ∙ length-sha256 _

    pub front_assembled : (k3 : ℕ) → k3 ≡ length (put_mid HEADER_LEN k1 (h ++ drop HEADER_LEN b0) digs) - (HEADER_LEN + DIGEST_LEN * l.pages)
        → put_mid (HEADER_LEN + DIGEST_LEN * l.pages) k3 (put_mid HEADER_LEN k1 (h ++ drop HEADER_LEN b0) digs) seal ≡ front_of l sequence payload
    unfolding front_of
    front_assembled k3 k3_is =
        put_end (HEADER_LEN + DIGEST_LEN * l.pages) k3 (put_mid HEADER_LEN k1 (h ++ drop HEADER_LEN b0) digs) seal (omega (arith, k3_is, len_2, room, seal_32)) (omega (arith, k3_is, len_2, room))
        ∙ ap (λ (x : List ℕ). x ++ seal) take_2
        ∙ ap (λ (x : List ℕ). head_of l sequence payload ++ x) (seal_is ∙ ap sha256 take_2)

-- ================ its parts

module _ (l : Layout) (sequence : ℕ) (payload : List ℕ) where
  pub length-front : length (front_of l sequence payload) ≡ HEADER_LEN + DIGEST_LEN * l.pages + DIGEST_LEN
  unfolding front_of head_of
  length-front = omega (arith, length-append (header_start l ++ to_be_bytes w64 sequence ++ digests l.pages payload) (sha256 (header_start l ++ to_be_bytes w64 sequence ++ digests l.pages payload)), length-sha256 (header_start l ++ to_be_bytes w64 sequence ++ digests l.pages payload), length-append (header_start l ++ to_be_bytes w64 sequence) (digests l.pages payload), length-append (header_start l) (to_be_bytes w64 sequence), length-start l, length-digests l.pages payload)

  -- a copy is a gate, its front and its pages
  pub body_is : body_of l sequence payload ≡ front_of l sequence payload ++ payload
  unfolding body_of front_of
  body_is = refl

  -- the digests in it
  pub front_digests : part HEADER_LEN (DIGEST_LEN * l.pages) (front_of l sequence payload) ≡ digests l.pages payload
  unfolding front_of head_of
  front_digests =
      let h = header_start l ++ to_be_bytes w64 sequence in
      let s = sha256 (header_start l ++ to_be_bytes w64 sequence ++ digests l.pages payload) in
      let h_16 : length (header_start l ++ to_be_bytes w64 sequence) ≡ HEADER_LEN = omega (arith, length-append (header_start l) (to_be_bytes w64 sequence), length-start l) in
      ap (λ (x : List ℕ). take (DIGEST_LEN * l.pages) (drop HEADER_LEN x)) (append_assoc h (digests l.pages payload) s)
      ∙ ap (λ (x : List ℕ). take (DIGEST_LEN * l.pages) x) (drop_at h (digests l.pages payload ++ s) HEADER_LEN h_16)
      ∙ take_at (digests l.pages payload) s (DIGEST_LEN * l.pages) (length-digests l.pages payload)
