-- The digits of a hold.
use Rattle.std.proofs.Common.{◌≡◌, ℕ, zero, suc, ◌+◌, ◌*◌, ◌<◌, ◌≤◌, ◌==◌, ◌/◌, ◌%◌, Bool, true, false, if◌then◌else◌, List, [], ◌∷◌, ◌++◌, codes, length, take, Option, None, Some, refl, sym, ap, append_assoc, subst, ◌∙◌, arith}
use Rattle.std.proofs.lemmas.Bool.Decides.{nat_tests}
use Rattle.gd_base.specs.Games.Chance.{has_bit}
use Rattle.gd_base.specs.Texts.OfViews.{bits}
use Rattle.gd_script.specs.Reading.{bit_of, hold_of, mask_of}

-- ================ printed

one_digit : (b : Bool) → (if b then 49 else 48) ∷ [] ≡ (if b then codes "1" else codes "0")
one_digit true = refl
one_digit false = refl

pub next_bit : (mask card : ℕ) → card < 5 → take (card + 1) (bits mask 0 5) ≡ take card (bits mask 0 5) ++ (if has_bit mask card then codes "1" else codes "0")
next_bit mask zero h = one_digit (has_bit mask 0)
next_bit mask (suc zero) h = ap (λ ds. take 1 (bits mask 0 5) ++ ds) (one_digit (has_bit mask 1))
next_bit mask (suc (suc zero)) h = ap (λ ds. take 2 (bits mask 0 5) ++ ds) (one_digit (has_bit mask 2))
next_bit mask (suc (suc (suc zero))) h = ap (λ ds. take 3 (bits mask 0 5) ++ ds) (one_digit (has_bit mask 3))
next_bit mask (suc (suc (suc (suc zero)))) h = ap (λ ds. take 4 (bits mask 0 5) ++ ds) (one_digit (has_bit mask 4))
next_bit mask (suc (suc (suc (suc (suc n))))) h = absurd (omega arith)

-- the digits so far, and one more
pub more_bits : (mask card : ℕ) (before now digit : List ℕ) → card < 5 → now ≡ before ++ take card (bits mask 0 5) → digit ≡ (if has_bit mask card then codes "1" else codes "0") → now ++ digit ≡ before ++ take (card + 1) (bits mask 0 5)
more_bits mask card before now digit lt e f =
    ap (λ text. text ++ digit) e ∙ (append_assoc before (take card (bits mask 0 5)) digit ∙ ap (λ text. before ++ text) (ap (λ text. take card (bits mask 0 5) ++ text) f ∙ sym (next_bit mask card lt)))

-- ================ read

digit : Bool → ℕ
digit b = if b then 49 else 48

value : Bool → ℕ
value b = if b then 1 else 0

mask : Bool → Bool → Bool → Bool → Bool → ℕ
mask a b c d e = value a + 2 * value b + 4 * value c + 8 * value d + 16 * value e

-- each of the 32 masks
spelled : (a b c d e : Bool) → bits (mask a b c d e) 0 5 ≡ digit a ∷ digit b ∷ digit c ∷ digit d ∷ digit e ∷ []
unfolding digit value mask
spelled false false false false false = refl
spelled false false false false true = refl
spelled false false false true false = refl
spelled false false false true true = refl
spelled false false true false false = refl
spelled false false true false true = refl
spelled false false true true false = refl
spelled false false true true true = refl
spelled false true false false false = refl
spelled false true false false true = refl
spelled false true false true false = refl
spelled false true false true true = refl
spelled false true true false false = refl
spelled false true true false true = refl
spelled false true true true false = refl
spelled false true true true true = refl
spelled true false false false false = refl
spelled true false false false true = refl
spelled true false false true false = refl
spelled true false false true true = refl
spelled true false true false false = refl
spelled true false true false true = refl
spelled true false true true false = refl
spelled true false true true true = refl
spelled true true false false false = refl
spelled true true false false true = refl
spelled true true false true false = refl
spelled true true false true true = refl
spelled true true true false false = refl
spelled true true true false true = refl
spelled true true true true false = refl
spelled true true true true true = refl

at_most_one : (b : Bool) → value b ≤ 1
unfolding value
at_most_one true = omega arith
at_most_one false = omega arith

all_held : (a b c d e : Bool) → mask a b c d e ≤ 31
unfolding mask
all_held a b c d e = omega (arith, at_most_one a, at_most_one b, at_most_one c, at_most_one d, at_most_one e)

-- the bit that a digit tells
abbrev Tells : ℕ → Option ℕ → Type 0
Tells c o = (n : ℕ) → o ≡ Some n → (b : Bool) × (c ≡ digit b) × (n ≡ value b)

tells : (c : ℕ) (is_zero is_one : Bool) → (c == 48) ≡ is_zero → (c == 49) ≡ is_one → Tells c (if is_zero then Some 0 else if is_one then Some 1 else None)
unfolding digit value
tells c true one e f n h = (false, grind (arith, nat_tests), cc)
tells c false true e f n h = (true, grind (arith, nat_tests), cc)
tells c false false e f n h = absurd (cc)

bit_said : (c : ℕ) → Tells c (bit_of c)
bit_said c = tells c (c == 48) (c == 49) refl refl

bit_back : (b : Bool) → bit_of (digit b) ≡ Some (value b)
unfolding digit value
bit_back true = refl
bit_back false = refl

five : (n : ℕ) (o : Option ℕ) (m : ℕ) → (if n == 5 then o else None) ≡ Some m → n ≡ 5
five n o m h = tested (n == 5) refl h
  where
    tested : (b : Bool) → (n == 5) ≡ b → (if b then o else None) ≡ Some m → n ≡ 5
    tested true e h = grind (arith, nat_tests)
    tested false e h = absurd (cc)

-- the mask that five digits tell, and those digits
IsHold : List ℕ → ℕ → Type 0
IsHold word m = (m ≤ 31) × (word ≡ bits m 0 5)

said : (a b c d e : ℕ) (v w x y z : Option ℕ) (m : ℕ) → Tells a v → Tells b w → Tells c x → Tells d y → Tells e z → mask_of v w x y z ≡ Some m → IsHold (a ∷ b ∷ c ∷ d ∷ e ∷ []) m
unfolding IsHold mask
said a b c d e (Some v) (Some w) (Some x) (Some y) (Some z) m f g i j k h =
    let p = f v refl in let q = g w refl in let r = i x refl in let s = j y refl in let t = k z refl in
    let total : v + 2 * w + 4 * x + 8 * y + 16 * z ≡ m = cc in
    let is : mask p.0 q.0 r.0 s.0 t.0 ≡ m = omega (arith, total, p.2, q.2, r.2, s.2, t.2) in
    let same : a ∷ b ∷ c ∷ d ∷ e ∷ [] ≡ digit p.0 ∷ digit q.0 ∷ digit r.0 ∷ digit s.0 ∷ digit t.0 ∷ [] = cc (p.1, q.1, r.1, s.1, t.1) in
    subst (λ (n : ℕ). (n ≤ 31) × (a ∷ b ∷ c ∷ d ∷ e ∷ [] ≡ bits n 0 5)) is (all_held p.0 q.0 r.0 s.0 t.0, same ∙ sym (spelled p.0 q.0 r.0 s.0 t.0))
said a b c d e _ _ _ _ _ m f g i j k h = absurd (cc)

-- five digits are read as the mask that they spell, and no other word is one
pub hold_said : (word : List ℕ) (m : ℕ) → hold_of word ≡ Some m → (m ≤ 31) × (word ≡ bits m 0 5)
unfolding hold_of IsHold
hold_said (a ∷ b ∷ c ∷ d ∷ e ∷ []) m h = said a b c d e (bit_of a) (bit_of b) (bit_of c) (bit_of d) (bit_of e) m (bit_said a) (bit_said b) (bit_said c) (bit_said d) (bit_said e) h
hold_said (a ∷ b ∷ c ∷ d ∷ e ∷ f ∷ rest) m h = let n : length (a ∷ b ∷ c ∷ d ∷ e ∷ f ∷ rest) ≡ 5 = five _ _ m h in absurd (omega arith)
hold_said _ m h = absurd (cc)

low_value : (r : ℕ) → r < 2 → value (r == 1) ≡ r
unfolding value
low_value zero h = refl
low_value (suc zero) h = refl
low_value (suc (suc r)) h = absurd (omega arith)

low_bit : (n : ℕ) → value (n % 2 == 1) ≡ n % 2
low_bit n = low_value (n % 2) (omega arith)

from_bits : (m : ℕ) → m ≤ 31 → mask (has_bit m 0) (has_bit m 1) (has_bit m 2) (has_bit m 3) (has_bit m 4) ≡ m
unfolding mask
from_bits m h = omega (arith, low_bit (m / 1), low_bit (m / 2), low_bit (m / 4), low_bit (m / 8), low_bit (m / 16))

told : {a b c d e : Option ℕ} {v w x y z : ℕ} → a ≡ Some v → b ≡ Some w → c ≡ Some x → d ≡ Some y → e ≡ Some z → mask_of a b c d e ≡ Some (v + 2 * w + 4 * x + 8 * y + 16 * z)
told {a} {b} {c} {d} {e} {v} {w} {x} {y} {z} f g h i j = rw (f, g, h, i, j) refl

back : (a b c d e : Bool) → hold_of (digit a ∷ digit b ∷ digit c ∷ digit d ∷ digit e ∷ []) ≡ Some (mask a b c d e)
unfolding hold_of mask
back a b c d e = told (bit_back a) (bit_back b) (bit_back c) (bit_back d) (bit_back e)

pub hold_read : (m : ℕ) → m ≤ 31 → hold_of (bits m 0 5) ≡ Some m
unfolding digit
hold_read m h = back (has_bit m 0) (has_bit m 1) (has_bit m 2) (has_bit m 3) (has_bit m 4) ∙ ap Some (from_bits m h)
