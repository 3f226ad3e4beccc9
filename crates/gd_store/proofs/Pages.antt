-- The search for the lowest bad page.
use Rattle.std.proofs.Common.{◌≡◌, ℕ, suc, ◌+◌, ◌*◌, ◌-◌, ◌<◌, ◌≤◌, List, length, take, drop, refl, sym, ◌∙◌, ap, arith, Bool, true, false, Some, None, not, if◌then◌else◌}
use Rattle.std.specs.Str.{bytes_eq}
use Rattle.sha2.specs.Sha256.{sha256}
use Rattle.gd_store.specs.Copy.{copy_len, part, page, page_matches, lowest_bad, stored_payload, stored_digest}
use Rattle.gd_store.proofs.Parts.{part_part}
use Rattle.gd_store.specs.declared.copy.layout.Layout.{Layout}
use Rattle.gd_disk.specs.declared.lengths.TheConstants.{DIGEST_LEN, DIGESTS_AT, FRAME_LEN, PAGE_LEN}

module _ (l : Layout) (copy : List ℕ) (i pages : ℕ) where
  split : i < pages → pages - i ≡ suc (pages - (i + 1))
  split lt = omega (arith, lt)

  pub bad_here : i < pages → page_matches l copy i ≡ false → lowest_bad l copy i (pages - i) ≡ Some i
  unfolding lowest_bad
  bad_here lt bad = ap (λ (n : ℕ). lowest_bad l copy i n) (split lt) ∙ ap (λ (b : Bool). if b then lowest_bad l copy (i + 1) (pages - (i + 1)) else Some i) bad

  pub bad_later : i < pages → page_matches l copy i ≡ true → lowest_bad l copy i (pages - i) ≡ lowest_bad l copy (i + 1) (pages - (i + 1))
  unfolding lowest_bad
  bad_later lt good = ap (λ (n : ℕ). lowest_bad l copy i n) (split lt) ∙ ap (λ (b : Bool). if b then lowest_bad l copy (i + 1) (pages - (i + 1)) else Some i) good

  pub bad_none : pages ≤ i → lowest_bad l copy i (pages - i) ≡ None
  unfolding lowest_bad
  bad_none le = let e : pages - i ≡ 0 = omega (arith, le) in ap (λ (n : ℕ). lowest_bad l copy i n) e

  -- the test of the code
  pub test_is : i < l.pages → (digest kept : List ℕ) → digest ≡ sha256 (part (FRAME_LEN + DIGEST_LEN * l.pages + PAGE_LEN * i) PAGE_LEN copy) → kept ≡ part (DIGESTS_AT + DIGEST_LEN * i) DIGEST_LEN copy → bytes_eq digest kept ≡ page_matches l copy i
  unfolding page_matches stored_payload stored_digest
  test_is lt digest kept digest_is kept_is =
      let same : page i (part (FRAME_LEN + DIGEST_LEN * l.pages) (PAGE_LEN * l.pages) copy) ≡ part (FRAME_LEN + DIGEST_LEN * l.pages + PAGE_LEN * i) PAGE_LEN copy = part_part (FRAME_LEN + DIGEST_LEN * l.pages) (PAGE_LEN * l.pages) (PAGE_LEN * i) PAGE_LEN copy (omega (arith, lt)) in
      ap (λ (x : List ℕ). bytes_eq x kept) (digest_is ∙ ap sha256 (sym same)) ∙ ap (λ (x : List ℕ). bytes_eq (sha256 (page i (part (FRAME_LEN + DIGEST_LEN * l.pages) (PAGE_LEN * l.pages) copy))) x) kept_is

-- the slice behind the front of a copy
pub slice_payload : (l : Layout) (copy : List ℕ) → length copy ≡ copy_len l.pages → take (length copy - (FRAME_LEN + DIGEST_LEN * l.pages)) (drop (FRAME_LEN + DIGEST_LEN * l.pages) copy) ≡ stored_payload l copy
unfolding stored_payload
slice_payload l copy long = let sums : length copy - (FRAME_LEN + DIGEST_LEN * l.pages) ≡ PAGE_LEN * l.pages = omega (arith, long) in ap (λ (k : ℕ). take k (drop (FRAME_LEN + DIGEST_LEN * l.pages) copy)) sums

not_equal : (r b : Bool) → r ≡ not b → r ≡ true → b ≡ false
not_equal r true is h = absurd (clash (sym h ∙ is))
  where
    clash : true ≡ false → ⊥
    clash e = cc
not_equal r false is h = refl

pub differs : (r b m : Bool) → r ≡ not b → r ≡ true → b ≡ m → m ≡ false
differs r b m is h same = sym same ∙ not_equal r b is h

equal : (r b : Bool) → r ≡ not b → r ≡ false → b ≡ true
equal r true is h = refl
equal r false is h = absurd (clash (sym is ∙ h))
  where
    clash : true ≡ false → ⊥
    clash e = cc

pub agrees : (r b m : Bool) → r ≡ not b → r ≡ false → b ≡ m → m ≡ true
agrees r b m is h same = sym same ∙ equal r b is h
