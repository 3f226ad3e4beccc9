-- What alterations at rest make of the bytes of an image, and of its two copies.
use Rattle.std.proofs.Common.{◌≡◌, ◌≢◌, ◌⊎◌, inl, inr, ⊎_elim, ◌∙◌, sym, ap, refl, ℕ, ◌+◌, ◌-◌, ◌<◌, ◌≤◌, ◌==◌, ◌&&◌, ◌||◌, not, if◌then◌else◌, Bool, true, false, List, [], ◌∷◌, length, get_or, drop, arith, length-take, length-drop}
use Rattle.std.proofs.lemmas.Bool.{cases_lt}
use Rattle.std.proofs.lemmas.Bool.Decides.{nat_tests}
use Rattle.std.proofs.lemmas.List.{ext_get_or, get_or-take, get_or-drop, get_or-set_same, get_or-set_other, length-set}
use Rattle.std.proofs.lemmas.Nat.{xor_comm}
use Rattle.std.specs.Int.Bits.{bit_xor, xor_assoc, xor_self, xor_zero_r}
use Rattle.std.specs.List.{list_any}
use Rattle.gd_disk.specs.Disk.{with_mask}
use Rattle.gd_disk.specs.declared.lengths.TheConstants.{COPY_LEN, DISK_LEN}
use Rattle.gd_disk.specs.declared.side.Side.{Side}
use Rattle.gd_store.specs.AtRest.{AlteredAlone, AlteredIsBad, Cancelled}
use Rattle.gd_store.specs.Copy.{copy_at, copy_len, gate_at, is_sound, part, state_of}
use Rattle.gd_store.specs.Making.{behind_open}
use Rattle.gd_store.specs.Masks.{combined, is_altered, is_altered_behind, is_changed, is_side, masked, AreWithin, Mask}
use Rattle.gd_store.specs.declared.copy.layout.Layout.{Layout}
use Rattle.gd_store.specs.declared.copy.layout.TheConstants.{LAYOUT}
use Rattle.gd_store.specs.declared.copy.states.CopyState.{CopyState}
use Rattle.gd_store.specs.declared.copy.states.CopyState.TheVariants.{Sound, Bad}
use Rattle.gd_store.proofs.Boots.{sound_open}

-- ================ bytes

pub masked_length : (l : Layout) (masks : List Mask) (image : List ℕ) → length (masked l masks image) ≡ length image
masked_length l [] image = refl
masked_length l (m ∷ masks) image =
    let at = gate_at l m.side + m.place in
    length-set (masked l masks image) at (bit_xor (get_or (masked l masks image) at 0) m.mask) ∙ masked_length l masks image

-- one place on the disk is one byte of one copy
same_place : (s t : Side) (i j : ℕ) → (is_side s t && (i == j)) ≡ true → gate_at LAYOUT s + i ≡ gate_at LAYOUT t + j
same_place Side.A Side.A i j is = grind (arith, nat_tests, is)
same_place Side.B Side.B i j is = grind (arith, nat_tests, is)
same_place Side.A Side.B i j is = absurd (cc is)
same_place Side.B Side.A i j is = absurd (cc is)

other_place : (s t : Side) (i j : ℕ) → i < COPY_LEN → j < COPY_LEN → (is_side s t && (i == j)) ≡ false → gate_at LAYOUT t + j ≢ gate_at LAYOUT s + i
other_place Side.A Side.A i j a b is = λ e. absurd (grind (arith, nat_tests, is, e))
other_place Side.B Side.B i j a b is = λ e. absurd (grind (arith, nat_tests, is, e))
other_place Side.A Side.B i j a b is = λ e. absurd (omega (arith, a, b, e))
other_place Side.B Side.A i j a b is = λ e. absurd (omega (arith, a, b, e))

within_disk : (s : Side) (i : ℕ) → i < COPY_LEN → gate_at LAYOUT s + i < DISK_LEN
within_disk Side.A i lt = omega (arith, lt)
within_disk Side.B i lt = omega (arith, lt)

-- each byte is combined with all masks on it
byte_masked : (side : Side) (place : ℕ) (masks : List Mask) (image : List ℕ) → place < COPY_LEN → AreWithin masks → length image ≡ DISK_LEN
    → get_or (masked LAYOUT masks image) (gate_at LAYOUT side + place) 0 ≡ bit_xor (get_or image (gate_at LAYOUT side + place) 0) (combined side place masks)
byte_masked side place [] image lt within long = sym (xor_zero_r (get_or image (gate_at LAYOUT side + place) 0))
byte_masked side place (m ∷ masks) image lt within long =
    one_more side place m masks image lt within.0 long (is_side m.side side && (m.place == place)) refl (byte_masked side place masks image lt within.1 long)
  where
    one_more : (side : Side) (place : ℕ) (m : Mask) (masks : List Mask) (image : List ℕ) → place < COPY_LEN → m.place < COPY_LEN → length image ≡ DISK_LEN
        → (b : Bool) → (is_side m.side side && (m.place == place)) ≡ b
        → get_or (masked LAYOUT masks image) (gate_at LAYOUT side + place) 0 ≡ bit_xor (get_or image (gate_at LAYOUT side + place) 0) (combined side place masks)
        → get_or (with_mask (gate_at LAYOUT m.side + m.place) m.mask (masked LAYOUT masks image)) (gate_at LAYOUT side + place) 0
        ≡ bit_xor (get_or image (gate_at LAYOUT side + place) 0) (if b then bit_xor m.mask (combined side place masks) else combined side place masks)
    one_more side place m masks image lt near long true is so_far =
        let p = gate_at LAYOUT m.side + m.place in
        let q = gate_at LAYOUT side + place in
        let below = masked LAYOUT masks image in
        let here : p ≡ q = same_place m.side side m.place place is in
        let fits : p < length below = omega (arith, within_disk m.side m.place near, masked_length LAYOUT masks image, long) in
        ap (λ (k : ℕ). get_or (with_mask p m.mask below) k 0) (sym here)
        ∙ get_or-set_same below p (bit_xor (get_or below p 0) m.mask) 0 fits
        ∙ ap (λ (k : ℕ). bit_xor (get_or below k 0) m.mask) here
        ∙ ap (λ (x : ℕ). bit_xor x m.mask) so_far
        ∙ xor_assoc (get_or image q 0) (combined side place masks) m.mask
        ∙ ap (λ (x : ℕ). bit_xor (get_or image q 0) x) (xor_comm (combined side place masks) m.mask)
    one_more side place m masks image lt near long false is so_far =
        let p = gate_at LAYOUT m.side + m.place in
        let q = gate_at LAYOUT side + place in
        let below = masked LAYOUT masks image in
        get_or-set_other below p q (bit_xor (get_or below p 0) m.mask) 0 (other_place m.side side m.place place near lt is) ∙ so_far

-- ================ copies that aren't altered

first_false : (a b : Bool) → (a || b) ≡ false → (a ≡ false) × (b ≡ false)
first_false false b is = (refl, is)
first_false true b is = absurd (cc is)

left_true : (a b : Bool) → (a && b) ≡ true → (a ≡ true) × (b ≡ true)
left_true true b is = (refl, is)
left_true false b is = absurd (cc is)

number_is : (i j : ℕ) → (i == j) ≡ true → i ≡ j
number_is i j is = grind (arith, nat_tests, is)

unchanged_by : (s : Bool) (c : ℕ) → (s && not (c == 0)) ≡ false → s ≡ true → c ≡ 0
unchanged_by true c is e = grind (arith, nat_tests, is)
unchanged_by false c is e = absurd (cc e)

-- masks that cancel on each byte that they are on leave nothing on any byte
any_of : (side : Side) (place : ℕ) (all masks : List Mask) → list_any (λ m. is_changed side all m) masks ≡ false → (combined side place masks ≡ 0) ⊎ (combined side place all ≡ 0)
any_of side place all [] none = inl refl
any_of side place all (m ∷ masks) none =
    let both = first_false (is_changed side all m) (list_any (λ m. is_changed side all m) masks) none in
    one_of side place all m masks both.0 (any_of side place all masks both.1) (is_side m.side side && (m.place == place)) refl
  where
    one_of : (side : Side) (place : ℕ) (all : List Mask) (m : Mask) (masks : List Mask) → is_changed side all m ≡ false → (combined side place masks ≡ 0) ⊎ (combined side place all ≡ 0)
        → (b : Bool) → (is_side m.side side && (m.place == place)) ≡ b → ((if b then bit_xor m.mask (combined side place masks) else combined side place masks) ≡ 0) ⊎ (combined side place all ≡ 0)
    one_of side place all m masks still rest true is =
        let here = left_true (is_side m.side side) (m.place == place) is in
        inr (ap (λ (k : ℕ). combined side k all) (sym (number_is m.place place here.1)) ∙ unchanged_by (is_side m.side side) (combined side m.place all) still here.0)
    one_of side place all m masks still rest false is = rest

none_left : (side : Side) (place : ℕ) (masks : List Mask) → is_altered side masks ≡ false → combined side place masks ≡ 0
none_left side place masks none = ⊎_elim (λ e. e) (λ e. e) (any_of side place masks masks none)

-- each byte of a copy that isn't altered is as it was
byte_stands : (side : Side) (place : ℕ) (masks : List Mask) (image : List ℕ) → place < COPY_LEN → AreWithin masks → length image ≡ DISK_LEN → is_altered side masks ≡ false
    → get_or (masked LAYOUT masks image) (gate_at LAYOUT side + place) 0 ≡ get_or image (gate_at LAYOUT side + place) 0
byte_stands side place masks image lt within long none =
    byte_masked side place masks image lt within long
    ∙ ap (λ (c : ℕ). bit_xor (get_or image (gate_at LAYOUT side + place) 0) c) (none_left side place masks none)
    ∙ xor_zero_r (get_or image (gate_at LAYOUT side + place) 0)

copy_long : copy_len LAYOUT.pages ≡ COPY_LEN
copy_long = refl

byte_of_part : (at n : ℕ) (image : List ℕ) (i : ℕ) → i < n → get_or (part at n image) i 0 ≡ get_or image (at + i) 0
byte_of_part at n image i lt = get_or-take n (drop at image) i 0 lt ∙ get_or-drop at image i 0

byte_of : (side : Side) (image : List ℕ) (i : ℕ) → i < COPY_LEN → get_or (copy_at LAYOUT side image) i 0 ≡ get_or image (gate_at LAYOUT side + i) 0
byte_of Side.A image i lt = byte_of_part LAYOUT.a (copy_len LAYOUT.pages) image i lt
byte_of Side.B image i lt = byte_of_part LAYOUT.b (copy_len LAYOUT.pages) image i lt

length-copy_at : (side : Side) (image : List ℕ) → length image ≡ DISK_LEN → length (copy_at LAYOUT side image) ≡ COPY_LEN
length-copy_at Side.A image long = omega (arith, long, length-take (copy_len LAYOUT.pages) (drop LAYOUT.a image), length-drop LAYOUT.a image)
length-copy_at Side.B image long = omega (arith, long, length-take (copy_len LAYOUT.pages) (drop LAYOUT.b image), length-drop LAYOUT.b image)

pub unaltered : AlteredAlone
unaltered side masks image within long none =
    let new = masked LAYOUT masks image in
    let long_new : length new ≡ DISK_LEN = masked_length LAYOUT masks image ∙ long in
    ext_get_or 0 (copy_at LAYOUT side new) (copy_at LAYOUT side image) (length-copy_at side new long_new ∙ sym (length-copy_at side image long)) (λ i lt.
    let lt_copy : i < COPY_LEN = omega (arith, lt, length-copy_at side new long_new) in
    byte_of side new i lt_copy ∙ byte_stands side i masks image lt_copy within long none ∙ sym (byte_of side image i lt_copy))

pub cancelled : Cancelled
cancelled masks image within long none_a none_b =
    let new = masked LAYOUT masks image in
    ext_get_or 0 new image (masked_length LAYOUT masks image) (λ i lt. by_side i (omega (arith, lt, masked_length LAYOUT masks image, long)) (cases_lt i COPY_LEN))
  where
    by_side : (i : ℕ) → i < DISK_LEN → (i < COPY_LEN) ⊎ (COPY_LEN ≤ i) → get_or (masked LAYOUT masks image) i 0 ≡ get_or image i 0
    by_side i lt (inl first) =
        let at : gate_at LAYOUT Side.A + i ≡ i = omega arith in
        ap (λ (k : ℕ). get_or (masked LAYOUT masks image) k 0) (sym at)
        ∙ byte_stands Side.A i masks image first within long none_a
        ∙ ap (λ (k : ℕ). get_or image k 0) at
    by_side i lt (inr second) =
        let at : gate_at LAYOUT Side.B + (i - COPY_LEN) ≡ i = omega (arith, second) in
        ap (λ (k : ℕ). get_or (masked LAYOUT masks image) k 0) (sym at)
        ∙ byte_stands Side.B (i - COPY_LEN) masks image (omega (arith, lt, second)) within long none_b
        ∙ ap (λ (k : ℕ). get_or image k 0) at

-- ================ copies that are altered

xor_out : (c : ℕ) → 0xA5 ≡ bit_xor 0xA5 c → c ≡ 0
xor_out c e =
    sym (xor_zero_r c) ∙ xor_comm c 0
    ∙ ap (λ (k : ℕ). bit_xor k c) (sym (xor_self 0xA5)) ∙ xor_assoc 0xA5 0xA5 c
    ∙ ap (λ (k : ℕ). bit_xor 0xA5 k) (sym e) ∙ xor_self 0xA5

behind_itself : (copy : List ℕ) → get_or copy 0 0 ≡ 0xA5 → behind_open copy ≡ copy
behind_itself [] is = absurd (cc is)
behind_itself (b ∷ bytes) is = λ i. sym is i ∷ bytes

-- a mask that changes a byte, where none is left on the gate, changes one behind it
changed_behind : (s : Bool) (c place : ℕ) → (place ≡ 0 → c ≡ 0) → (s && not (c == 0)) ≡ true → ((s && not (c == 0)) && not (place == 0)) ≡ true
changed_behind s c place gate is = grind (arith, nat_tests, is, gate)

any_behind : (side : Side) (all masks : List Mask) → combined side 0 all ≡ 0 → list_any (λ m. is_changed side all m) masks ≡ true → list_any (λ m. is_changed side all m && not (m.place == 0)) masks ≡ true
any_behind side all [] gate some = absurd (cc some)
any_behind side all (m ∷ masks) gate some =
    one_behind side all m masks gate (is_changed side all m) refl some (λ more. any_behind side all masks gate more)
  where
    or_rest : (b r : Bool) → r ≡ true → (b || r) ≡ true
    or_rest true r e = refl
    or_rest false r e = e

    tail_of : (b r : Bool) → b ≡ false → (b || r) ≡ true → r ≡ true
    tail_of false r e is = is
    tail_of true r e is = absurd (cc e)

    one_behind : (side : Side) (all : List Mask) (m : Mask) (masks : List Mask) → combined side 0 all ≡ 0 → (b : Bool) → is_changed side all m ≡ b
        → (is_changed side all m || list_any (λ m. is_changed side all m) masks) ≡ true
        → (list_any (λ m. is_changed side all m) masks ≡ true → list_any (λ m. is_changed side all m && not (m.place == 0)) masks ≡ true)
        → ((is_changed side all m && not (m.place == 0)) || list_any (λ m. is_changed side all m && not (m.place == 0)) masks) ≡ true
    one_behind side all m masks gate true is some more =
        ap (λ (b : Bool). b || list_any (λ m. is_changed side all m && not (m.place == 0)) masks)
        (changed_behind (is_side m.side side) (combined side m.place all) m.place (λ e. ap (λ (k : ℕ). combined side k all) e ∙ gate) is)
    one_behind side all m masks gate false is some more =
        or_rest (is_changed side all m && not (m.place == 0)) (list_any (λ m. is_changed side all m && not (m.place == 0)) masks)
        (more (tail_of (is_changed side all m) (list_any (λ m. is_changed side all m) masks) is some))

-- an altered copy that is sound again differs behind its gate, and is what it would be behind an open gate
sound_again : (side : Side) (masks : List Mask) (image : List ℕ) (n k : ℕ) → AreWithin masks → length image ≡ DISK_LEN → state_of LAYOUT (copy_at LAYOUT side image) ≡ Sound n → is_altered side masks ≡ true
    → state_of LAYOUT (copy_at LAYOUT side (masked LAYOUT masks image)) ≡ Sound k
    → (is_altered_behind side masks ≡ true) × (state_of LAYOUT (behind_open (copy_at LAYOUT side (masked LAYOUT masks image))) ≡ Sound k)
sound_again side masks image n k within long was some now =
    let new = masked LAYOUT masks image in
    let first : 0 < COPY_LEN = omega arith in
    let gate_was = sound_open LAYOUT n (copy_at LAYOUT side image) was in
    let gate_now = sound_open LAYOUT k (copy_at LAYOUT side new) now in
    let none : combined side 0 masks ≡ 0 =
    xor_out (combined side 0 masks) (sym gate_now ∙ byte_of side new 0 first ∙ byte_masked side 0 masks image first within long
    ∙ ap (λ (x : ℕ). bit_xor x (combined side 0 masks)) (sym (byte_of side image 0 first) ∙ gate_was)) in
    (any_behind side masks masks none some, ap (state_of LAYOUT) (behind_itself (copy_at LAYOUT side new) gate_now) ∙ now)

not_forged : (a b : Bool) → (a && b) ≡ false → a ≡ true → b ≡ false
not_forged true b is e = is
not_forged false b is e = absurd (cc e)

pub altered_is_bad : AlteredIsBad
altered_is_bad side masks image n p was within long some unforged = by_state (state_of LAYOUT new) refl
  where
    new : List ℕ
    new = copy_at LAYOUT side (masked LAYOUT masks image)

    by_state : (s : CopyState) → state_of LAYOUT new ≡ s → is_sound s ≡ false
    by_state (Bad why) is = refl
    by_state (Sound k) is =
        let again = sound_again side masks image n k within long was.0 some is in
        absurd (cc (not_forged (is_altered_behind side masks) (is_sound (state_of LAYOUT (behind_open new))) unforged again.0, again.1))
