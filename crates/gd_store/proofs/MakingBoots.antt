-- What an image of a making boots to.
use Rattle.std.proofs.Common.{◌≡◌, inl, inr, ⊎_elim, ℕ, List, refl, sym, ◌∙◌, ap, subst, arith, false, Some}
use Rattle.gd_disk.specs.Disk.{DiskState}
use Rattle.gd_disk.specs.Runs.{LeavesOnly}
use Rattle.gd_disk.proofs.Runs.{weaker}
use Rattle.gd_store.specs.Copy.{copy_len, state_of, stored_payload, copy_a, copy_b, latest_copy, boots, is_sound}
use Rattle.gd_store.specs.Making.{IsMaking, BootsOver}
use Rattle.gd_store.specs.Writing.{IsShut, From}
use Rattle.gd_store.specs.declared.copy.layout.Layout.{Layout}
use Rattle.gd_store.specs.declared.copy.states.CopyState.{CopyState}
use Rattle.gd_store.specs.declared.copy.states.CopyState.TheVariants.{Sound, Bad}
use Rattle.gd_store.proofs.Boots.{shut_state, from_states, chosen_same}
use Rattle.gd_store.proofs.Images.{first_of}

-- a shut copy is bad
bad_a : (l : Layout) (c : List ℕ) → IsShut l.a c → is_sound (state_of l (copy_a l c)) ≡ false
bad_a l c shut = ap is_sound (shut_state l (copy_a l c) (λ is_open. shut (sym (first_of l.a (copy_len l.pages) c (omega arith)) ∙ is_open)))

bad_b : (l : Layout) (c : List ℕ) → IsShut l.b c → is_sound (state_of l (copy_b l c)) ≡ false
bad_b l c shut = ap is_sound (shut_state l (copy_b l c) (λ is_open. shut (sym (first_of l.b (copy_len l.pages) c (omega arith)) ∙ is_open)))

-- beside a bad copy a sound one is booted
pub chosen_one : (n : ℕ) (p q : List ℕ) (t : CopyState) → is_sound t ≡ false → latest_copy (Sound n) t p q ≡ Some (n, p)
chosen_one n p q (Sound m) bad = absurd (cc bad)
chosen_one n p q (Bad why) bad = refl

one_sound : (l : Layout) (c p : List ℕ) → state_of l (copy_a l c) ≡ Sound 0 → stored_payload l (copy_a l c) ≡ p → is_sound (state_of l (copy_b l c)) ≡ false → boots l c ≡ Some (0, p)
one_sound l c p sound is bad =
    from_states l c (Sound 0) (state_of l (copy_b l c)) p (stored_payload l (copy_b l c)) sound refl is refl ∙ chosen_one 0 p (stored_payload l (copy_b l c)) (state_of l (copy_b l c)) bad

-- at each moment of a making both copies are bad where they were, or the payload is booted
pub boots_over : (l : Layout) (p old new : List ℕ) → IsMaking l p old new → BootsOver l p old new
boots_over l p old new (inl shutting) = inl (λ bad. record {
  a = ⊎_elim (λ shut. bad_a l new shut) (λ same. ap (λ c. is_sound (state_of l c)) same ∙ bad.a) shutting.a;
  b = ⊎_elim (λ shut. bad_b l new shut) (λ same. ap (λ c. is_sound (state_of l c)) same ∙ bad.b) shutting.b;
})
boots_over l p old new (inr (inl first)) = ⊎_elim
    (λ shut. inl (λ bad. record { a = bad_a l new shut; b = bad_b l new first.b }))
    (λ copy. inr (one_sound l new p copy.0 copy.1 (bad_b l new first.b)))
    first.a
boots_over l p old new (inr (inr second)) = inr (⊎_elim
    (λ shut. one_sound l new p second.a.0 second.a.1 (bad_b l new shut))
    (λ copy. from_states l new (Sound 0) (Sound 0) p p second.a.0 copy.0 second.a.1 copy.1 ∙ chosen_same 0 p)
    second.b)

pub moments_boot : (l : Layout) (p q : List ℕ) (old new : DiskState) → q ≡ p → LeavesOnly old new (From old (IsMaking l q)) → LeavesOnly old new (From old (BootsOver l p))
moments_boot l p q old new same run = weaker old new _ _ run (λ c from. (from.0, from.1, subst (λ (x : List ℕ). BootsOver l x from.0 c) same (boots_over l q from.0 c from.2)))
