-- Which bytes a write marks, and what a loss leaves of them.
use Rattle.std.proofs.Common.{◌≡◌, ◌⊎◌, inl, inr, ⊎_elim, ℕ, zero, suc, ◌+◌, ◌-◌, ◌/◌, ◌<◌, ◌≤◌, List, [], ◌∷◌, length, get_or, refl, sym, ◌∙◌, ap, arith, length-append}
use Rattle.std.proofs.Math.ListN.{replicate}
use Rattle.std.proofs.lemmas.List.{ext_get_or, get_or_append_left, get_or-append_right, get_or-replicate, length-replicate}
use Rattle.std.proofs.lemmas.Bool.{cases_lt}
use Rattle.gd_disk.specs.Disk.{with_bytes}
use Rattle.gd_disk.specs.Image.{CanBe, IsMarked, IsSpan}
use Rattle.gd_disk.specs.Laboratory.{halves, left_of, torn_image}
use Rattle.gd_disk.specs.declared.medium.TheConstants.{UNMARKED, FIRST_HALF, SECOND_HALF}
use Rattle.gd_disk.proofs.Lab.{in_span, byte_within, outside}
use Rattle.gd_disk.proofs.Written.{torn-written, length-written}

-- a write has as many marks as bytes
pub length-halves : (n : ℕ) → length (halves n) ≡ n
length-halves n = omega (arith, length-append (replicate (n / 2) FIRST_HALF) (replicate (n - n / 2) SECOND_HALF), length-replicate (n / 2) FIRST_HALF, length-replicate (n - n / 2) SECOND_HALF)

-- the mark of a place in the first half
first_half : (n k : ℕ) → k < n / 2 → get_or (halves n) k 0 ≡ FIRST_HALF
first_half n k lt =
    get_or_append_left (replicate (n / 2) FIRST_HALF) (replicate (n - n / 2) SECOND_HALF) 0 k (omega (arith, lt, length-replicate (n / 2) FIRST_HALF))
    ∙ get_or-replicate (n / 2) k FIRST_HALF 0 lt

-- and in the second
second_half : (n k : ℕ) → n / 2 ≤ k → k < n → get_or (halves n) k 0 ≡ SECOND_HALF
second_half n k le lt =
    get_or-append_right (replicate (n / 2) FIRST_HALF) (replicate (n - n / 2) SECOND_HALF) (n / 2) k 0 (length-replicate (n / 2) FIRST_HALF) le
    ∙ get_or-replicate (n - n / 2) (k - n / 2) SECOND_HALF 0 (omega (arith, le, lt))

-- what two spans of marks make of them
module _ (at n : ℕ) (old mid new : List ℕ) (fits : at + n ≤ length old) (mid_long : length mid ≡ length old) (new_long : length new ≡ length mid) (out_first : (i : ℕ) → (i < at) ⊎ (at + n / 2 ≤ i) → get_or mid i 0 ≡ get_or old i 0) (in_first : (i : ℕ) → at ≤ i → i < at + n / 2 → get_or mid i 0 ≡ FIRST_HALF) (out_second : (i : ℕ) → (i < at + n / 2) ⊎ (at + n ≤ i) → get_or new i 0 ≡ get_or mid i 0) (in_second : (i : ℕ) → at + n / 2 ≤ i → i < at + n → get_or new i 0 ≡ SECOND_HALF) where
  -- the marks stand within the list
  fits_marks : at + length (halves n) ≤ length old
  fits_marks = omega (arith, fits, length-halves n)

  -- a place of the write has the mark of its half
  in_halves : (i : ℕ) → at ≤ i → i < at + n → (i < at + n / 2) ⊎ (at + n / 2 ≤ i) → get_or new i 0 ≡ get_or (halves n) (i - at) 0
  in_halves i low high (inl lt) = out_second i (inl lt) ∙ in_first i low lt ∙ sym (first_half n (i - at) (omega (arith, low, lt)))
  in_halves i low high (inr le) = in_second i le high ∙ sym (second_half n (i - at) (omega (arith, low, le)) (omega (arith, low, high)))

  -- each place is before the second half or not
  in_first_or_second : (i : ℕ) → (i < at + n / 2) ⊎ (at + n / 2 ≤ i)
  in_first_or_second i = cases_lt i (at + n / 2)

  -- each place has the mark that stands there after the write
  each : (i : ℕ) → ((i < at) ⊎ (at + n ≤ i)) ⊎ ((at ≤ i) × (i < at + n)) → get_or new i 0 ≡ get_or (with_bytes at (halves n) old) i 0
  each i (inl out) =
      out_second i (⊎_elim (λ before. inl (omega (arith, before))) (λ behind. inr behind) out)
      ∙ out_first i (⊎_elim (λ before. inl before) (λ behind. inr (omega (arith, behind))) out)
      ∙ sym (outside at (length (halves n)) i old (with_bytes at (halves n) old) (torn-written at (halves n) old fits_marks) (⊎_elim (λ before. inl before) (λ behind. inr (omega (arith, behind, length-halves n))) out))
  each i (inr within) =
      in_halves i within.0 within.1 (in_first_or_second i)
      ∙ sym (byte_within at (halves n) old i fits_marks within.0 (omega (arith, within.1, length-halves n)))

  -- so the two spans are the halves of one write
  pub marked_halves : new ≡ with_bytes at (halves n) old
  marked_halves = ext_get_or 0 new (with_bytes at (halves n) old) (new_long ∙ mid_long ∙ sym (length-written at (halves n) old fits_marks)) (λ i lt. each i (in_span at (at + n) i))

-- no marks at all
pub no_marks : (n : ℕ) (marks : List ℕ) → length marks ≡ n → ((i : ℕ) → get_or marks i 0 ≡ UNMARKED) → marks ≡ replicate n UNMARKED
no_marks n marks long none = ext_get_or 0 marks (replicate n UNMARKED) (long ∙ sym (length-replicate n UNMARKED)) (λ i lt. none i ∙ sym (get_or-replicate n i UNMARKED 0 (omega (arith, lt, long))))

-- a loss leaves as many bytes
pub length-torn_image : (torn : ℕ) (durable current marks : List ℕ) → length current ≡ length durable → length marks ≡ length durable → length (torn_image torn durable current marks) ≡ length durable
length-torn_image torn [] current marks c_long m_long = refl
length-torn_image torn (old ∷ durable) [] marks c_long m_long = absurd (omega (arith, c_long))
length-torn_image torn (old ∷ durable) (new ∷ current) [] c_long m_long = absurd (omega (arith, m_long))
length-torn_image torn (old ∷ durable) (new ∷ current) (mark ∷ marks) c_long m_long = ap suc (length-torn_image torn durable current marks (omega (arith, c_long)) (omega (arith, m_long)))

-- and at each place what it leaves there
pub get_or-torn_image : (torn : ℕ) (durable current marks : List ℕ) (i : ℕ) → i < length durable → length current ≡ length durable → length marks ≡ length durable → get_or (torn_image torn durable current marks) i 0 ≡ left_of torn (get_or durable i 0) (get_or current i 0) (get_or marks i 0)
get_or-torn_image torn [] current marks i lt c_long m_long = absurd (omega (arith, lt))
get_or-torn_image torn (old ∷ durable) [] marks i lt c_long m_long = absurd (omega (arith, c_long))
get_or-torn_image torn (old ∷ durable) (new ∷ current) [] i lt c_long m_long = absurd (omega (arith, m_long))
get_or-torn_image torn (old ∷ durable) (new ∷ current) (mark ∷ marks) zero lt c_long m_long = refl
get_or-torn_image torn (old ∷ durable) (new ∷ current) (mark ∷ marks) (suc i) lt c_long m_long = get_or-torn_image torn durable current marks i (omega (arith, lt)) (omega (arith, c_long)) (omega (arith, m_long))

-- a byte with no mark is the old one, so this is an image that may be found
pub torn_can_be : (torn : ℕ) (durable current marks : List ℕ) → IsMarked durable current marks → CanBe marks durable (torn_image torn durable current marks)
torn_can_be torn durable current marks is = record {
  same_length = length-torn_image torn durable current marks is.can.same_length is.marks_length;
  stands = λ i lt none. get_or-torn_image torn durable current marks i lt is.can.same_length is.marks_length ∙ ap (λ (m : ℕ). left_of torn (get_or durable i 0) (get_or current i 0) m) none;
}

-- where each byte of the marked span is what a loss leaves there, and no other byte has changed, the whole is torn
pub torn_whole : (torn low high : ℕ) (durable current marks now : List ℕ) → IsMarked durable current marks → IsSpan low high marks → length now ≡ length current → ((k : ℕ) → low ≤ k → k < high → get_or now k 0 ≡ left_of torn (get_or durable k 0) (get_or current k 0) (get_or marks k 0)) → ((k : ℕ) → (k < low) ⊎ (high ≤ k) → get_or now k 0 ≡ get_or current k 0) → now ≡ torn_image torn durable current marks
torn_whole torn low high durable current marks now is span long within out = ext_get_or 0 now (torn_image torn durable current marks) (long ∙ is.can.same_length ∙ sym (length-torn_image torn durable current marks is.can.same_length is.marks_length))
    (λ i lt. each i (omega (arith, lt, long, is.can.same_length)) (in_span low high i) ∙ sym (get_or-torn_image torn durable current marks i (omega (arith, lt, long, is.can.same_length)) is.can.same_length is.marks_length))
  where
    -- each byte is what a loss leaves there
    each : (i : ℕ) → i < length durable → ((i < low) ⊎ (high ≤ i)) ⊎ ((low ≤ i) × (i < high)) → get_or now i 0 ≡ left_of torn (get_or durable i 0) (get_or current i 0) (get_or marks i 0)
    each i lt (inl beyond) = out i beyond ∙ is.can.stands i lt (span.elsewhere i beyond) ∙ sym (ap (λ (m : ℕ). left_of torn (get_or durable i 0) (get_or current i 0) m) (span.elsewhere i beyond))
    each i lt (inr in_it) = within i in_it.0 in_it.1
