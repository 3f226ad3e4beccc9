-- What an image with one copy being written boots to.
use Rattle.std.proofs.Common.{◌≡◌, ◌≢◌, ◌⊎◌, inl, inr, ⊎_elim, ℕ, ◌+◌, ◌*◌, ◌^◌, ◌<◌, ◌≤◌, List, length, get_or, refl, sym, ◌∙◌, ap, subst, arith, Option, Some, None}
use Rattle.std.proofs.lemmas.Bool.{cases_eq}
use Rattle.std.proofs.lemmas.Bool.Decides.{nat_tests}
use Rattle.gd_store.specs.Copy.{part, copy_len, sealed_copy, state_of, stored_payload, copy_a, copy_b, latest_copy, boots, IsCopy}
use Rattle.gd_store.specs.Writing.{IsShut, IsWriting, IsCommitting}
use Rattle.gd_store.proofs.Images.{part_before, part_behind, first_of}
use Rattle.gd_disk.specs.Disk.{IfTold, with_bytes}
use Rattle.gd_disk.proofs.Written.{torn-written, part-written}
use Rattle.gd_store.proofs.Sealed.{same_bytes, length-sealed, sealed_sound, sealed_payload}
use Rattle.gd_store.specs.declared.copy.layout.Layout.{Layout}
use Rattle.gd_store.specs.declared.copy.states.Why.TheVariants.{Shut}
use Rattle.gd_store.specs.declared.copy.states.CopyState.{CopyState}
use Rattle.gd_store.specs.declared.copy.states.CopyState.TheVariants.{Sound, Bad}
use Rattle.gd_disk.specs.declared.lengths.TheConstants.{PAGE_LEN}

pub shut_state : (l : Layout) (copy : List ℕ) → (get_or copy 0 0 ≢ 0xA5) → state_of l copy ≡ Bad Shut
unfolding state_of
shut_state l copy shut = grind (arith, nat_tests)

-- the states of two copies decide, with their payloads, what is booted
pub from_states : (l : Layout) (image : List ℕ) (s t : CopyState) (p q : List ℕ) → state_of l (copy_a l image) ≡ s → state_of l (copy_b l image) ≡ t → stored_payload l (copy_a l image) ≡ p → stored_payload l (copy_b l image) ≡ q → boots l image ≡ latest_copy s t p q
from_states l image s t p q is_s is_t is_p is_q = cc

pub told_maps : (seen : Option (List ℕ)) (P Q : List ℕ → Type 0) → ((c : List ℕ) → seen ≡ Some c → P c → Q c) → IfTold seen P → IfTold seen Q
told_maps None P Q from fact = fact
told_maps (Some c) P Q from fact = from c refl fact

pub chosen_same : (m : ℕ) (p : List ℕ) → latest_copy (Sound m) (Sound m) p p ≡ Some (m, p)
chosen_same m p = let same = same_bytes p p refl in grind (arith, nat_tests)

chosen_first : (m n : ℕ) (p q : List ℕ) → m < n → latest_copy (Sound n) (Sound m) q p ≡ Some (n, q)
chosen_first m n p q later = grind (arith, nat_tests)

-- what is booted follows from the two copies alone
pub boots_from : (l : Layout) (image a b : List ℕ) → a ≡ copy_a l image → b ≡ copy_b l image → boots l image ≡ latest_copy (state_of l a) (state_of l b) (stored_payload l a) (stored_payload l b)
boots_from l image a b is_a is_b = from_states l image _ _ _ _ (ap (state_of l) (sym is_a)) (ap (state_of l) (sym is_b)) (ap (stored_payload l) (sym is_a)) (ap (stored_payload l) (sym is_b))

-- the copies of an image hold these
abbrev pub Holds : Layout → ℕ × List ℕ → ℕ × List ℕ → List ℕ → Type 0
Holds l a b image = IsCopy l a.0 a.1 (copy_a l image) × IsCopy l b.0 b.1 (copy_b l image)

clash : (m : ℕ) → Bad Shut ≡ Sound m → ⊥
clash m same = cc

-- a sound copy is open
pub sound_open : (l : Layout) (m : ℕ) (copy : List ℕ) → state_of l copy ≡ Sound m → get_or copy 0 0 ≡ 0xA5
sound_open l m copy sound = elim (cases_eq (get_or copy 0 0) 0xA5) [
  | inl is_open ↦ is_open
  | inr shut ↦ absurd (clash m (sym (shut_state l copy shut) ∙ sound))
]

pub open_a : (l : Layout) (m : ℕ) (p image : List ℕ) → IsCopy l m p (copy_a l image) → get_or image l.a 0 ≡ 0xA5
open_a l m p image is = sym (first_of l.a (copy_len l.pages) image (omega arith)) ∙ sound_open l m (copy_a l image) is.0

pub open_b : (l : Layout) (m : ℕ) (p image : List ℕ) → IsCopy l m p (copy_b l image) → get_or image l.b 0 ≡ 0xA5
open_b l m p image is = sym (first_of l.b (copy_len l.pages) image (omega arith)) ∙ sound_open l m (copy_b l image) is.0

-- a copy carried along
carried : (l : Layout) (m : ℕ) (p x y : List ℕ) → y ≡ x → IsCopy l m p x → IsCopy l m p y
carried l m p x y same is = (ap (state_of l) same ∙ is.0, ap (stored_payload l) same ∙ is.1)

module _ (l : Layout) (n : ℕ) (q : List ℕ) (range : n < 2 ^ 64) (long_q : length q ≡ PAGE_LEN * l.pages) (apart : l.a + copy_len l.pages ≤ l.b) where
  pub len_new : length (sealed_copy l n q) ≡ copy_len l.pages
  len_new = length-sealed l n q range long_q

  new_is : (x : List ℕ) → x ≡ sealed_copy l n q → IsCopy l n q x
  new_is x is = (ap (state_of l) is ∙ sealed_sound l n q range long_q, ap (stored_payload l) is ∙ sealed_payload l n q range long_q)

  -- one copy is being written over another: what stands is the other copy, and this one is the old one, or shut, or new
  shut_a : (c : List ℕ) → IsShut l.a c → state_of l (copy_a l c) ≡ Bad Shut
  shut_a c shut = shut_state l (copy_a l c) (λ is_open. shut (sym (first_of l.a (copy_len l.pages) c (omega arith)) ∙ is_open))

  shut_b : (c : List ℕ) → IsShut l.b c → state_of l (copy_b l c) ≡ Bad Shut
  shut_b c shut = shut_state l (copy_b l c) (λ is_open. shut (sym (first_of l.b (copy_len l.pages) c (omega arith)) ∙ is_open))

  b_stands : (d c : List ℕ) → IsWriting l.a (sealed_copy l n q) d c → copy_b l c ≡ copy_b l d
  b_stands d c w = part_behind l.a (length (sealed_copy l n q)) l.b (copy_len l.pages) d c (omega (arith, len_new, apart)) w.elsewhere

  a_stands : (d c : List ℕ) → IsWriting l.b (sealed_copy l n q) d c → copy_a l c ≡ copy_a l d
  a_stands d c w = part_before l.b (length (sealed_copy l n q)) l.a (copy_len l.pages) d c apart w.elsewhere

  old_a : (d c : List ℕ) → part l.a (length (sealed_copy l n q)) c ≡ part l.a (length (sealed_copy l n q)) d → copy_a l c ≡ copy_a l d
  old_a d c same = subst (λ (k : ℕ). part l.a k c ≡ part l.a k d) len_new same

  old_b : (d c : List ℕ) → part l.b (length (sealed_copy l n q)) c ≡ part l.b (length (sealed_copy l n q)) d → copy_b l c ≡ copy_b l d
  old_b d c same = subst (λ (k : ℕ). part l.b k c ≡ part l.b k d) len_new same

  pub new_a : (c : List ℕ) → part l.a (length (sealed_copy l n q)) c ≡ sealed_copy l n q → IsCopy l n q (copy_a l c)
  new_a c whole = new_is (copy_a l c) (subst (λ (k : ℕ). part l.a k c ≡ sealed_copy l n q) len_new whole)

  pub new_b : (c : List ℕ) → part l.b (length (sealed_copy l n q)) c ≡ sealed_copy l n q → IsCopy l n q (copy_b l c)
  new_b c whole = new_is (copy_b l c) (subst (λ (k : ℕ). part l.b k c ≡ sealed_copy l n q) len_new whole)

  -- while a copy that isn't the booted one is written over with what is booted, this is booted
  pub repair_a : (d c : List ℕ) → IsCopy l n q (copy_b l d) → boots l d ≡ Some (n, q) → IsWriting l.a (sealed_copy l n q) d c → boots l c ≡ Some (n, q)
  repair_a d c holds booted w = ⊎_elim
      (λ same. boots_from l c (copy_a l d) (copy_b l d) (sym (old_a d c same)) (sym (b_stands d c w)) ∙ booted)
      (λ rest. ⊎_elim
      (λ shut. from_states l c (Bad Shut) (Sound n) (stored_payload l (copy_a l c)) q (shut_a c shut) there.0 refl there.1)
      (λ whole. from_states l c (Sound n) (Sound n) q q (new_a c whole).0 there.0 (new_a c whole).1 there.1 ∙ chosen_same n q)
      rest)
      w.whole_or_shut
    where
      there : IsCopy l n q (copy_b l c)
      there = carried l n q (copy_b l d) (copy_b l c) (b_stands d c w) holds

  pub repair_b : (d c : List ℕ) → IsCopy l n q (copy_a l d) → boots l d ≡ Some (n, q) → IsWriting l.b (sealed_copy l n q) d c → boots l c ≡ Some (n, q)
  repair_b d c holds booted w = ⊎_elim
      (λ same. boots_from l c (copy_a l d) (copy_b l d) (sym (a_stands d c w)) (sym (old_b d c same)) ∙ booted)
      (λ rest. ⊎_elim
      (λ shut. from_states l c (Sound n) (Bad Shut) q (stored_payload l (copy_b l c)) there.0 (shut_b c shut) there.1 refl)
      (λ whole. from_states l c (Sound n) (Sound n) q q there.0 (new_b c whole).0 there.1 (new_b c whole).1 ∙ chosen_same n q)
      rest)
      w.whole_or_shut
    where
      there : IsCopy l n q (copy_a l c)
      there = carried l n q (copy_a l d) (copy_a l c) (a_stands d c w) holds

  module _ (m : ℕ) (p : List ℕ) (later : m < n) where
    -- while copy a is written over with a later payload, copy b being an old one
    pub boots_a : (d c : List ℕ) → Holds l (m, p) (m, p) d → IsWriting l.a (sealed_copy l n q) d c → (boots l c ≡ Some (m, p)) ⊎ (boots l c ≡ Some (n, q))
    boots_a d c holds w = ⊎_elim
        (λ same. inl (from_states l c (Sound m) (Sound m) p p (ap (state_of l) (old_a d c same) ∙ holds.0.0) there.0 (ap (stored_payload l) (old_a d c same) ∙ holds.0.1) there.1 ∙ chosen_same m p))
        (λ rest. ⊎_elim
        (λ shut. inl (from_states l c (Bad Shut) (Sound m) (stored_payload l (copy_a l c)) p (shut_a c shut) there.0 refl there.1))
        (λ whole. inr (from_states l c (Sound n) (Sound m) q p (new_a c whole).0 there.0 (new_a c whole).1 there.1 ∙ chosen_first m n p q later))
        rest)
        w.whole_or_shut
      where
        there : IsCopy l m p (copy_b l c)
        there = carried l m p (copy_b l d) (copy_b l c) (b_stands d c w) holds.1

    -- while copy b is written over, copy a being the new one
    pub boots_b : (d c : List ℕ) → Holds l (n, q) (m, p) d → IsWriting l.b (sealed_copy l n q) d c → boots l c ≡ Some (n, q)
    boots_b d c holds w = ⊎_elim
        (λ same. from_states l c (Sound n) (Sound m) q p there.0 (ap (state_of l) (old_b d c same) ∙ holds.1.0) there.1 (ap (stored_payload l) (old_b d c same) ∙ holds.1.1) ∙ chosen_first m n p q later)
        (λ rest. ⊎_elim
        (λ shut. from_states l c (Sound n) (Bad Shut) q (stored_payload l (copy_b l c)) there.0 (shut_b c shut) there.1 refl)
        (λ whole. from_states l c (Sound n) (Sound n) q q there.0 (new_b c whole).0 there.1 (new_b c whole).1 ∙ chosen_same n q)
        rest)
        w.whole_or_shut
      where
        there : IsCopy l n q (copy_a l c)
        there = carried l n q (copy_a l d) (copy_a l c) (a_stands d c w) holds.0

    -- what stands of the two copies meanwhile
    pub order_a : (d c : List ℕ) → Holds l (m, p) (m, p) d → IsWriting l.a (sealed_copy l n q) d c → IsCommitting l (m, p) (n, q) c
    order_a d c holds w = inl (record {
      a = ⊎_elim (λ same. inl (carried l m p (copy_a l d) (copy_a l c) (old_a d c same) holds.0)) (λ rest. inr (⊎_elim (λ shut. inl shut) (λ whole. inr (new_a c whole)) rest)) w.whole_or_shut;
      b = carried l m p (copy_b l d) (copy_b l c) (b_stands d c w) holds.1;
    })

    pub order_b : (d c : List ℕ) → Holds l (n, q) (m, p) d → IsWriting l.b (sealed_copy l n q) d c → IsCommitting l (m, p) (n, q) c
    order_b d c holds w = inr (record {
      a = carried l n q (copy_a l d) (copy_a l c) (a_stands d c w) holds.0;
      b = ⊎_elim (λ same. inl (carried l m p (copy_b l d) (copy_b l c) (old_b d c same) holds.1)) (λ rest. inr (⊎_elim (λ shut. inl shut) (λ whole. inr (new_b c whole)) rest)) w.whole_or_shut;
    })

  -- what a read gives after copy a is written, and after copy b
  pub written_a : (d : List ℕ) → l.b + copy_len l.pages ≤ length d → IsCopy l n q (copy_a l (with_bytes l.a (sealed_copy l n q) d)) × (copy_b l (with_bytes l.a (sealed_copy l n q) d) ≡ copy_b l d)
  written_a d long = (
    new_a (with_bytes l.a (sealed_copy l n q) d) (part-written l.a (sealed_copy l n q) d (omega (arith, len_new, apart, long))),
    part_behind l.a (length (sealed_copy l n q)) l.b (copy_len l.pages) d (with_bytes l.a (sealed_copy l n q) d) (omega (arith, len_new, apart)) (torn-written l.a (sealed_copy l n q) d (omega (arith, len_new, apart, long))),
  )

  pub written_b : (d : List ℕ) → l.b + copy_len l.pages ≤ length d → (copy_a l (with_bytes l.b (sealed_copy l n q) d) ≡ copy_a l d) × IsCopy l n q (copy_b l (with_bytes l.b (sealed_copy l n q) d))
  written_b d long = (
    part_before l.b (length (sealed_copy l n q)) l.a (copy_len l.pages) d (with_bytes l.b (sealed_copy l n q) d) apart (torn-written l.b (sealed_copy l n q) d (omega (arith, len_new, long))),
    new_b (with_bytes l.b (sealed_copy l n q) d) (part-written l.b (sealed_copy l n q) d (omega (arith, len_new, long))),
  )

pub carries : (l : Layout) (m : ℕ) (p x y : List ℕ) → y ≡ x → IsCopy l m p x → IsCopy l m p y
carries l m p x y same is = carried l m p x y same is
