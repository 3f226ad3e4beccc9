-- The pages of both copies while a commit writes, and while they are checked.
use Rattle.std.proofs.Common.{◌≡◌, ℕ, ◌+◌, ◌*◌, ◌-◌, ◌<◌, ◌≤◌, Bool, true, false, not, List, length, take, drop, get_or, refl, sym, ◌∙◌, ap, subst, arith, Option, Some, None}
use Rattle.std.proofs.lemmas.Slice.Eq.{bytes_eq-Decides}
use Rattle.std.specs.Str.{bytes_eq}
use Rattle.sha2.specs.Sha256.{sha256}
use Rattle.gd_disk.specs.Disk.{DiskState, IfTold, IsSynced}
use Rattle.gd_disk.specs.Runs.{LeavesOnly}
use Rattle.gd_disk.proofs.Runs.{and_then, at_end, weaker}
use Rattle.gd_disk.specs.declared.lengths.TheConstants.{DIGEST_LEN, FRAME_LEN, PAGE_LEN}
use Rattle.gd_store.specs.Changes.{differ, ArePagesAt, KeepsPages, PagesStand}
use Rattle.gd_store.specs.Checking.{IsChecked}
use Rattle.gd_store.specs.Copy.{copy_b, copy_len, digests, page, part, stored_payload, HoldsBoth, IsCopy}
use Rattle.gd_store.specs.Writing.{From}
use Rattle.gd_store.specs.declared.copy.layout.Layout.{Layout}
use Rattle.gd_store.proofs.Boots.{told_maps}
use Rattle.gd_store.proofs.CopyMoments.{told}
use Rattle.gd_store.proofs.Images.{part_before, part_behind}
use Rattle.gd_store.proofs.Parts.{part_part}
use Rattle.gd_store.proofs.Sealed.{digest_at}

-- the place of a page on the disk
pub page_place : (l : Layout) (at i : ℕ) (image : List ℕ) → i < l.pages → page i (stored_payload l (part at (copy_len l.pages) image)) ≡ part (at + (FRAME_LEN + DIGEST_LEN * l.pages + PAGE_LEN * i)) PAGE_LEN image
unfolding stored_payload
page_place l at i image lt =
    part_part (FRAME_LEN + DIGEST_LEN * l.pages) (PAGE_LEN * l.pages) (PAGE_LEN * i) PAGE_LEN (part at (copy_len l.pages) image) (omega (arith, lt))
    ∙ part_part at (copy_len l.pages) (FRAME_LEN + DIGEST_LEN * l.pages + PAGE_LEN * i) PAGE_LEN image (omega (arith, lt))

-- pages that don't differ are equal
test_true : (b : Bool) → not b ≡ false → b ≡ true
test_true true is = refl
test_true false is = absurd (cc is)

pub same_page : (i : ℕ) (p q : List ℕ) → differ i p q ≡ false → page i p ≡ page i q
same_page i p q same = (bytes_eq-Decides (page i p) (page i q)).0 (test_true (bytes_eq (page i p) (page i q)) same)

-- the kept digest of a page that hasn't changed
pub kept_digest : (n i : ℕ) (p q kept : List ℕ) (changed : List Bool) → kept ≡ digests n p → i < n → get_or changed i false ≡ differ i p q → get_or changed i false ≡ false → part (DIGEST_LEN * i) DIGEST_LEN kept ≡ sha256 (page i q)
kept_digest n i p q kept changed are lt is same =
    ap (λ (x : List ℕ). part (DIGEST_LEN * i) DIGEST_LEN x) are ∙ digest_at n i p lt ∙ ap sha256 (same_page i p q (sym is ∙ same))

-- ================ checks

pub both_checked : (l : Layout) (i : ℕ) (payload digest : List ℕ) (a b : Bool) (seen now : Option (List ℕ)) → digest ≡ sha256 (page i payload) → i < l.pages → now ≡ seen
    → IfTold seen (λ image. a ≡ bytes_eq (sha256 (part (l.a + (FRAME_LEN + DIGEST_LEN * l.pages + PAGE_LEN * i)) PAGE_LEN image)) digest)
    → IfTold now (λ image. b ≡ bytes_eq (sha256 (part (l.b + (FRAME_LEN + DIGEST_LEN * l.pages + PAGE_LEN * i)) PAGE_LEN image)) digest)
    → IfTold seen (IsChecked l i payload (record { a = a; b = b }))
both_checked l i payload digest a b seen now is lt same told_a told_b =
    checked seen told_a (subst (λ (s : Option (List ℕ)). IfTold s (λ image. b ≡ bytes_eq (sha256 (part (l.b + (FRAME_LEN + DIGEST_LEN * l.pages + PAGE_LEN * i)) PAGE_LEN image)) digest)) same told_b)
  where
    one : (at : ℕ) (r : Bool) (image : List ℕ) → r ≡ bytes_eq (sha256 (part (at + (FRAME_LEN + DIGEST_LEN * l.pages + PAGE_LEN * i)) PAGE_LEN image)) digest → r ≡ bytes_eq (sha256 (page i (stored_payload l (part at (copy_len l.pages) image)))) (sha256 (page i payload))
    one at r image tells = tells ∙ ap (λ (x : List ℕ). bytes_eq (sha256 x) digest) (sym (page_place l at i image lt)) ∙ ap (λ (x : List ℕ). bytes_eq (sha256 (page i (stored_payload l (part at (copy_len l.pages) image)))) x) is

    checked : (seen : Option (List ℕ)) → IfTold seen (λ image. a ≡ bytes_eq (sha256 (part (l.a + (FRAME_LEN + DIGEST_LEN * l.pages + PAGE_LEN * i)) PAGE_LEN image)) digest)
        → IfTold seen (λ image. b ≡ bytes_eq (sha256 (part (l.b + (FRAME_LEN + DIGEST_LEN * l.pages + PAGE_LEN * i)) PAGE_LEN image)) digest) → IfTold seen (IsChecked l i payload (record { a = a; b = b }))
    checked None first second = tt
    checked (Some image) first second = record { a = one l.a a image first; b = one l.b b image second }

-- ================ a commit

module _ (l : Layout) (m : ℕ) (p q : List ℕ) (changed : List Bool) (few : length changed ≡ l.pages) (are : (i : ℕ) → i < length changed → get_or changed i false ≡ differ i p q) where
  -- a copy of the kept payload has the pages that haven't changed
  pages_of : (at first : ℕ) (image : List ℕ) → first ≡ at + (FRAME_LEN + DIGEST_LEN * l.pages) → IsCopy l m p (part at (copy_len l.pages) image) → ArePagesAt first changed q image
  pages_of at first image is copy = λ i lt same.
      let lt_page : i < l.pages = omega (arith, lt, few) in
      let place : first + PAGE_LEN * i ≡ at + (FRAME_LEN + DIGEST_LEN * l.pages + PAGE_LEN * i) = omega (arith, is) in
      ap (λ (k : ℕ). part k PAGE_LEN image) place ∙ sym (page_place l at i image lt_page) ∙ ap (λ (x : List ℕ). page i x) copy.1 ∙ same_page i p q (sym (are i lt) ∙ same)

  pub pages_in_a : (first : ℕ) (seen : Option (List ℕ)) → first ≡ l.a + (FRAME_LEN + DIGEST_LEN * l.pages) → IfTold seen (HoldsBoth l m p) → IfTold seen (ArePagesAt first changed q)
  pages_in_a first seen is holds = told_maps seen (HoldsBoth l m p) (ArePagesAt first changed q) (λ image told both. pages_of l.a first image is both.0) holds

  pub pages_in_b : (first : ℕ) (seen : Option (List ℕ)) (Q : List ℕ → Type 0) → first ≡ l.b + (FRAME_LEN + DIGEST_LEN * l.pages) → IfTold seen (λ image. Q image × IsCopy l m p (copy_b l image)) → IfTold seen (ArePagesAt first changed q)
  pages_in_b first seen Q is holds = told_maps seen (λ image. Q image × IsCopy l m p (copy_b l image)) (ArePagesAt first changed q) (λ image told both. pages_of l.b first image is both.1) holds

  held : (d : List ℕ) → HoldsBoth l m p d → PagesStand l p q d
  held d both = λ i lt same. (ap (λ (x : List ℕ). page i x) both.0.1, ap (λ (x : List ℕ). page i x) both.1.1)

  -- a page of a copy that is written over
  stays : (at n first : ℕ) (d c : List ℕ) → first ≡ at + (FRAME_LEN + DIGEST_LEN * l.pages) → KeepsPages at n first changed d c → (i : ℕ) → i < l.pages → differ i p q ≡ false
      → page i (stored_payload l (part at (copy_len l.pages) c)) ≡ page i (stored_payload l (part at (copy_len l.pages) d))
  stays at n first d c is keeps i lt same =
      let lt_page : i < length changed = omega (arith, lt, few) in
      let place : first + PAGE_LEN * i ≡ at + (FRAME_LEN + DIGEST_LEN * l.pages + PAGE_LEN * i) = omega (arith, is) in
      page_place l at i c lt ∙ ap (λ (k : ℕ). part k PAGE_LEN c) (sym place) ∙ keeps.stands i lt_page (are i lt_page ∙ same) ∙ ap (λ (k : ℕ). part k PAGE_LEN d) place ∙ sym (page_place l at i d lt)

  step_a : (n first : ℕ) (d c : List ℕ) → first ≡ l.a + (FRAME_LEN + DIGEST_LEN * l.pages) → l.a + n ≤ l.b → PagesStand l p q d → KeepsPages l.a n first changed d c → PagesStand l p q c
  step_a n first d c is apart stand keeps = λ i lt same. (
    stays l.a n first d c is keeps i lt same ∙ (stand i lt same).0,
    ap (λ (x : List ℕ). page i (stored_payload l x)) (part_behind l.a n l.b (copy_len l.pages) d c apart keeps.elsewhere) ∙ (stand i lt same).1,
  )

  step_b : (n first : ℕ) (d c : List ℕ) → first ≡ l.b + (FRAME_LEN + DIGEST_LEN * l.pages) → l.a + copy_len l.pages ≤ l.b → PagesStand l p q d → KeepsPages l.b n first changed d c → PagesStand l p q c
  step_b n first d c is apart stand keeps = λ i lt same. (
    ap (λ (x : List ℕ). page i (stored_payload l x)) (part_before l.b n l.a (copy_len l.pages) d c apart keeps.elsewhere) ∙ (stand i lt same).0,
    stays l.b n first d c is keeps i lt same ∙ (stand i lt same).1,
  )

  module _ (n first : ℕ) (old s1 : DiskState) (n_is : n ≡ copy_len l.pages) (first_is : first ≡ l.a + (FRAME_LEN + DIGEST_LEN * l.pages)) (apart : l.a + copy_len l.pages ≤ l.b) (synced : IsSynced old) (holds : IfTold old.seen (HoldsBoth l m p)) where
    pub stand_a : LeavesOnly old s1 (From old (KeepsPages l.a n first changed)) → LeavesOnly old s1 (PagesStand l p q)
    stand_a run = weaker old s1 _ _ run (λ c from. step_a n first from.0 c first_is (omega (arith, n_is, apart)) (held from.0 (told old (HoldsBoth l m p) from.0 synced from.1 holds)) from.2)

    pub stand_b : (s2 : DiskState) (next : ℕ) → next ≡ l.b + (FRAME_LEN + DIGEST_LEN * l.pages) → LeavesOnly old s1 (From old (KeepsPages l.a n first changed)) → LeavesOnly s1 s2 (From s1 (KeepsPages l.b n next changed)) → LeavesOnly old s2 (PagesStand l p q)
    stand_b s2 next next_is run_a run_b = and_then old s1 s2 _ _ _ (stand_a run_a) run_b (λ c stand. stand) (λ c from.
        step_b n next from.0 c next_is apart (at_end old s1 (PagesStand l p q) (stand_a run_a) from.0 from.1) from.2)

-- a slice of the kept digests
pub digest_of : (n i : ℕ) (payload kept : List ℕ) → i < n → kept ≡ digests n payload → take (DIGEST_LEN * i + DIGEST_LEN - DIGEST_LEN * i) (drop (DIGEST_LEN * i) kept) ≡ sha256 (page i payload)
digest_of n i payload kept lt are =
    let sums : DIGEST_LEN * i + DIGEST_LEN - DIGEST_LEN * i ≡ DIGEST_LEN = omega arith in
    ap (λ (k : ℕ). take k (drop (DIGEST_LEN * i) kept)) sums ∙ ap (λ (x : List ℕ). part (DIGEST_LEN * i) DIGEST_LEN x) are ∙ digest_at n i payload lt
