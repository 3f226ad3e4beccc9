-- For callers: what an image boots to after alterations at rest.
use Rattle.std.proofs.Common.{◌≡◌, ◌⊎◌, inl, inr, ◌∙◌, ap, refl, ℕ, ◌&&◌, ◌||◌, Bool, true, false, List, length, arith, Option, None, Some}
use Rattle.std.proofs.lemmas.Bool.Decides.{nat_tests}
use Rattle.gd_disk.specs.declared.lengths.TheConstants.{DISK_LEN}
use Rattle.gd_disk.specs.declared.side.Side.{Side}
use Rattle.gd_store.specs.AtRest.{AlteredAtRest}
use Rattle.gd_store.specs.Booting.{later_sequence}
use Rattle.gd_store.specs.Copy.{boots, copy_a, copy_at, copy_b, is_sound, latest_copy, state_of, stored_payload, AreBad, IsCopy}
use Rattle.gd_store.specs.Making.{behind_open}
use Rattle.gd_store.specs.Masks.{is_altered, is_altered_behind, masked, AreWithin, Mask}
use Rattle.gd_store.specs.declared.copy.layout.Layout.{Layout}
use Rattle.gd_store.specs.declared.copy.layout.TheConstants.{LAYOUT}
use Rattle.gd_store.specs.declared.copy.states.CopyState.{CopyState}
use Rattle.gd_store.specs.declared.copy.states.CopyState.TheVariants.{Sound, Bad}
use Rattle.gd_store.proofs.Alterations.{altered_is_bad, masked_length, unaltered}
use Rattle.gd_store.proofs.Boots.{carries, chosen_same, from_states}
use Rattle.gd_store.proofs.MakingBoots.{chosen_one}

-- masks change no length
pub length_masked : (l : Layout) (masks : List Mask) (image : List ℕ) → length (masked l masks image) ≡ length image
length_masked l masks image = masked_length l masks image

-- ================ what two copies boot to

none_chosen : (s t : CopyState) (p q : List ℕ) → is_sound s ≡ false → is_sound t ≡ false → latest_copy s t p q ≡ None
none_chosen (Sound m) t p q a b = absurd (cc a)
none_chosen (Bad why) (Sound n) p q a b = absurd (cc b)
none_chosen (Bad why) (Bad other) p q a b = refl

-- two bad copies boot to nothing
pub bad_boots : (l : Layout) (image : List ℕ) → AreBad l image → boots l image ≡ None
bad_boots l image bad = none_chosen (state_of l (copy_a l image)) (state_of l (copy_b l image)) (stored_payload l (copy_a l image)) (stored_payload l (copy_b l image)) bad.a bad.b

-- the sequence of what is booted
abbrev sequence_in : Option (ℕ × List ℕ) → Option ℕ
sequence_in None = None
sequence_in (Some booted) = Some booted.0

latest_chosen : (s t : CopyState) (p q : List ℕ) (n : ℕ) (r : List ℕ) → latest_copy s t p q ≡ Some (n, r) → later_sequence s t ≡ Some n
latest_chosen (Sound k) (Sound m) p q n r is = grind (arith, nat_tests, is)
latest_chosen (Sound k) (Bad why) p q n r is = ap sequence_in is
latest_chosen (Bad why) (Sound m) p q n r is = ap sequence_in is
latest_chosen (Bad why) (Bad other) p q n r is = absurd (cc is)

-- what is booted is at the later sequence of those at which a copy is sound
pub latest_is : (l : Layout) (image : List ℕ) (n : ℕ) (p : List ℕ) → boots l image ≡ Some (n, p) → later_sequence (state_of l (copy_a l image)) (state_of l (copy_b l image)) ≡ Some n
latest_is l image n p is = latest_chosen (state_of l (copy_a l image)) (state_of l (copy_b l image)) (stored_payload l (copy_a l image)) (stored_payload l (copy_b l image)) n p is

chosen_other : (n : ℕ) (p q : List ℕ) (s : CopyState) → is_sound s ≡ false → latest_copy s (Sound n) p q ≡ Some (n, q)
chosen_other n p q (Sound m) bad = absurd (cc bad)
chosen_other n p q (Bad why) bad = refl

-- ================ alterations at rest

or_false : (a b : Bool) → (a || b) ≡ false → (a ≡ false) × (b ≡ false)
or_false false b is = (refl, is)
or_false true b is = absurd (cc is)

-- a copy under masks is as it was, or it was altered and is bad
abbrev CopyUnder : Side → List Mask → List ℕ → Type 0
CopyUnder side masks image =
    (copy_at LAYOUT side (masked LAYOUT masks image) ≡ copy_at LAYOUT side image)
    ⊎ ((is_altered side masks ≡ true) × (is_sound (state_of LAYOUT (copy_at LAYOUT side (masked LAYOUT masks image))) ≡ false))

copy_under : (side : Side) (masks : List Mask) (image : List ℕ) (n : ℕ) (p : List ℕ) → IsCopy LAYOUT n p (copy_at LAYOUT side image) → AreWithin masks → length image ≡ DISK_LEN
    → (is_altered_behind side masks && is_sound (state_of LAYOUT (behind_open (copy_at LAYOUT side (masked LAYOUT masks image))))) ≡ false → CopyUnder side masks image
copy_under side masks image n p was within long unforged = by_masks (is_altered side masks) refl
  where
    by_masks : (b : Bool) → is_altered side masks ≡ b → CopyUnder side masks image
    by_masks false none = inl (unaltered side masks image within long none)
    by_masks true some = inr (some, altered_is_bad side masks image n p was within long some unforged)

-- where it isn't forged, an image boots to what was in both copies, or both copies were altered and both are bad
pub masked_boots : AlteredAtRest
masked_boots masks image n p both within long unforged = by_copies
    (copy_under Side.A masks image n p both.0 within long sides.0)
    (copy_under Side.B masks image n p both.1 within long sides.1)
  where
    new : List ℕ
    new = masked LAYOUT masks image

    Forged : Side → Bool
    Forged side = is_altered_behind side masks && is_sound (state_of LAYOUT (behind_open (copy_at LAYOUT side new)))

    sides : (Forged Side.A ≡ false) × (Forged Side.B ≡ false)
    sides = or_false (Forged Side.A) (Forged Side.B) unforged

    by_copies : CopyUnder Side.A masks image → CopyUnder Side.B masks image
        → (boots LAYOUT new ≡ Some (n, p)) ⊎ ((is_altered Side.A masks ≡ true) × (is_altered Side.B masks ≡ true) × AreBad LAYOUT new)
    by_copies (inl e) (inl f) =
        let x = carries LAYOUT n p (copy_a LAYOUT image) (copy_a LAYOUT new) e both.0 in
        let y = carries LAYOUT n p (copy_b LAYOUT image) (copy_b LAYOUT new) f both.1 in
        inl (from_states LAYOUT new (Sound n) (Sound n) p p x.0 y.0 x.1 y.1 ∙ chosen_same n p)
    by_copies (inl e) (inr f) =
        let x = carries LAYOUT n p (copy_a LAYOUT image) (copy_a LAYOUT new) e both.0 in
        let t = state_of LAYOUT (copy_b LAYOUT new) in
        let q = stored_payload LAYOUT (copy_b LAYOUT new) in
        inl (from_states LAYOUT new (Sound n) t p q x.0 refl x.1 refl ∙ chosen_one n p q t f.1)
    by_copies (inr e) (inl f) =
        let y = carries LAYOUT n p (copy_b LAYOUT image) (copy_b LAYOUT new) f both.1 in
        let s = state_of LAYOUT (copy_a LAYOUT new) in
        let q = stored_payload LAYOUT (copy_a LAYOUT new) in
        inl (from_states LAYOUT new s (Sound n) q p refl y.0 refl y.1 ∙ chosen_other n q p s e.1)
    by_copies (inr e) (inr f) = inr (e.0, f.0, record { a = e.1; b = f.1 })
