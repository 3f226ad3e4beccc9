-- The writing of a copy's digests and body into a buffer.
use Rattle.std.proofs.Common.{◌≡◌, ℕ, suc, ◌+◌, ◌*◌, ◌-◌, ◌≤◌, List, [], ◌∷◌, ◌++◌, length, take, drop, refl, sym, ◌∙◌, ap, subst, arith, length-append, length-take, length-drop, slice_set}
use Rattle.std.proofs.lemmas.List.{take_all, drop_all, append-nil, take_at}
use Rattle.std.proofs.lemmas.Slice.{take-put_mid, put_mid-paste}
use borrow.Rule.Slice.PartMut.{put_mid}
use Rattle.std.specs.Int.{w64, to_be_bytes}
use Rattle.sha2.specs.Sha256.{sha256}
use Rattle.sha2.proofs.Facts256.{length-sha256}
use Rattle.gd_store.specs.Copy.{page, digests, header_start, head_of, body_of}
use Rattle.gd_store.specs.declared.copy.layout.Layout.{Layout}
use Rattle.gd_disk.specs.declared.lengths.TheConstants.{DIGEST_LEN, HEADER_LEN, PAGE_LEN}

pub no_digests : (payload : List ℕ) → [] ≡ digests 0 payload
unfolding digests
no_digests payload = refl

one_more : (i : ℕ) (payload : List ℕ) → digests i payload ++ sha256 (page i payload) ≡ digests (i + 1) payload
unfolding digests
one_more i payload = let e : suc i ≡ i + 1 = omega arith in subst (λ (k : ℕ). digests i payload ++ sha256 (page i payload) ≡ digests k payload) e refl

pub digests_more : (i k : ℕ) (payload xs ys : List ℕ) → take (DIGEST_LEN * i) xs ≡ digests i payload → ys ≡ sha256 (page i payload) → DIGEST_LEN * i ≤ length xs → take (DIGEST_LEN * (i + 1)) (put_mid (DIGEST_LEN * i) k xs ys) ≡ digests (i + 1) payload
digests_more i k payload xs ys so_far is le =
    take-put_mid (DIGEST_LEN * i) k xs ys (DIGEST_LEN * (i + 1)) (omega (arith, ap length is, length-sha256 (page i payload))) le
    ∙ ap (λ (l : List ℕ). l ++ ys) so_far ∙ ap (λ (l : List ℕ). digests i payload ++ l) is ∙ one_more i payload

put_is : (a k : ℕ) (xs ys : List ℕ) → length ys ≡ k → put_mid a k xs ys ≡ take a xs ++ ys ++ drop (a + k) xs
put_is a k xs ys is = put_mid-paste a k xs ys ys k refl refl (sym is) ∙ ap (λ (l : List ℕ). take a xs ++ l ++ drop (a + k) xs) (take_all k ys (omega (arith, is)))

pub length_put : (a k : ℕ) (xs ys : List ℕ) → length ys ≡ k → a + k ≤ length xs → length (put_mid a k xs ys) ≡ length xs
length_put a k xs ys is le = ap length (put_is a k xs ys is) ∙ omega (arith, is, le, length-append (take a xs ++ ys) (drop (a + k) xs), length-append (take a xs) ys, length-drop (a + k) xs, length-take a xs)

-- the last write fills the buffer
pub put_end : (a k : ℕ) (xs ys : List ℕ) → length ys ≡ k → a + k ≡ length xs → put_mid a k xs ys ≡ take a xs ++ ys
put_end a k xs ys is sums = put_is a k xs ys is ∙ ap (λ (l : List ℕ). take a xs ++ ys ++ l) (drop_all (a + k) xs (omega (arith, sums))) ∙ append-nil (take a xs ++ ys)

-- header, digests, seal and payload, written one after another
module _ (l : Layout) (sequence : ℕ) (payload b0 h digs seal pay : List ℕ) (h_is : h ≡ header_start l ++ to_be_bytes w64 sequence) (h_16 : length h ≡ HEADER_LEN) (digs_are : digs ≡ digests l.pages payload) (digs_n : length digs ≡ DIGEST_LEN * l.pages) (room : length b0 ≡ HEADER_LEN + DIGEST_LEN + DIGEST_LEN * l.pages + PAGE_LEN * l.pages) (long : length payload ≡ PAGE_LEN * l.pages) (pay_is : pay ≡ payload) where
  len_1 : length (h ++ drop HEADER_LEN b0) ≡ length b0
  len_1 = omega (arith, length-append h (drop HEADER_LEN b0), length-drop HEADER_LEN b0, h_16, room)

  take_1 : take HEADER_LEN (h ++ drop HEADER_LEN b0) ≡ h
  take_1 = take_at h (drop HEADER_LEN b0) HEADER_LEN h_16

  module _ (k1 k2 : ℕ) (k1_is : k1 ≡ DIGEST_LEN * l.pages) (k2_is : k2 ≡ DIGEST_LEN) (seal_is : seal ≡ sha256 (take (HEADER_LEN + DIGEST_LEN * l.pages) (put_mid HEADER_LEN k1 (h ++ drop HEADER_LEN b0) digs))) where
    take_2 : take (HEADER_LEN + DIGEST_LEN * l.pages) (put_mid HEADER_LEN k1 (h ++ drop HEADER_LEN b0) digs) ≡ head_of l sequence payload
    unfolding head_of
    take_2 = take-put_mid HEADER_LEN k1 (h ++ drop HEADER_LEN b0) digs (HEADER_LEN + DIGEST_LEN * l.pages) (omega (arith, digs_n)) (omega (arith, len_1, room)) ∙ ap (λ (x : List ℕ). x ++ digs) (take_1 ∙ h_is) ∙ ap (λ (x : List ℕ). header_start l ++ to_be_bytes w64 sequence ++ x) digs_are

    len_2 : length (put_mid HEADER_LEN k1 (h ++ drop HEADER_LEN b0) digs) ≡ length b0
    len_2 = length_put HEADER_LEN k1 (h ++ drop HEADER_LEN b0) digs (omega (arith, digs_n, k1_is)) (omega (arith, len_1, room, k1_is)) ∙ len_1

    seal_32 : length seal ≡ DIGEST_LEN
    seal_32 = ap length seal_is ∙ length-sha256 _

    seal_of : seal ≡ sha256 (head_of l sequence payload)
    seal_of = seal_is ∙ ap sha256 take_2

    len_3 : length (put_mid (HEADER_LEN + DIGEST_LEN * l.pages) k2 (put_mid HEADER_LEN k1 (h ++ drop HEADER_LEN b0) digs) seal) ≡ length b0
    len_3 = length_put (HEADER_LEN + DIGEST_LEN * l.pages) k2 (put_mid HEADER_LEN k1 (h ++ drop HEADER_LEN b0) digs) seal (omega (arith, seal_32, k2_is)) (omega (arith, len_2, room, k2_is)) ∙ len_2

    take_3 : take (HEADER_LEN + DIGEST_LEN * l.pages + DIGEST_LEN) (put_mid (HEADER_LEN + DIGEST_LEN * l.pages) k2 (put_mid HEADER_LEN k1 (h ++ drop HEADER_LEN b0) digs) seal) ≡ head_of l sequence payload ++ sha256 (head_of l sequence payload)
    take_3 = take-put_mid (HEADER_LEN + DIGEST_LEN * l.pages) k2 (put_mid HEADER_LEN k1 (h ++ drop HEADER_LEN b0) digs) seal (HEADER_LEN + DIGEST_LEN * l.pages + DIGEST_LEN) (omega (arith, seal_32)) (omega (arith, len_2, room)) ∙ ap (λ (x : List ℕ). x ++ seal) take_2 ∙ ap (λ (x : List ℕ). head_of l sequence payload ++ x) seal_of

    pub assembled : (k3 : ℕ) → k3 ≡ length (put_mid (HEADER_LEN + DIGEST_LEN * l.pages) k2 (put_mid HEADER_LEN k1 (h ++ drop HEADER_LEN b0) digs) seal) - (HEADER_LEN + DIGEST_LEN * l.pages + DIGEST_LEN)
        → put_mid (HEADER_LEN + DIGEST_LEN * l.pages + DIGEST_LEN) k3 (put_mid (HEADER_LEN + DIGEST_LEN * l.pages) k2 (put_mid HEADER_LEN k1 (h ++ drop HEADER_LEN b0) digs) seal) pay ≡ body_of l sequence payload
    unfolding body_of
    assembled k3 k3_is = put_end (HEADER_LEN + DIGEST_LEN * l.pages + DIGEST_LEN) k3 (put_mid (HEADER_LEN + DIGEST_LEN * l.pages) k2 (put_mid HEADER_LEN k1 (h ++ drop HEADER_LEN b0) digs) seal) pay (omega (arith, k3_is, len_3, room, long, ap length pay_is)) (omega (arith, k3_is, len_3, room, long)) ∙ ap (λ (x : List ℕ). x ++ pay) take_3 ∙ ap (λ (x : List ℕ). head_of l sequence payload ++ sha256 (head_of l sequence payload) ++ x) pay_is

pub gate_set : (copy body : List ℕ) → 1 ≤ length copy → slice_set (take 1 copy ++ body) 0 0xA5 ≡ 0xA5 ∷ body
gate_set [] body lt = absurd (omega (arith, lt))
gate_set (x ∷ xs) body lt = refl
