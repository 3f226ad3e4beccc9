-- A text as a number: it is one exactly where it is the number's decimal digits.
use Rattle.std.proofs.Common.{◌≡◌, ◌≢◌, ℕ, zero, suc, ◌<◌, ◌^◌, ◌↔◌, nat_lt, Bool, true, false, ◌&&◌, if◌then◌else◌, List, decimal, get_or, length, None, Some, Result, Ok, Err, refl, sym, ap, subst, ◌∙◌, arith}
use Rattle.std.proofs.lemmas.Bool.Decides.{nat_tests}
use Rattle.std.proofs.lemmas.Fmt.{decimal-digits_value, decimal_digit, digits_value-decimal, digits_decimal, decimal_nonempty, first_decimal}
use Rattle.std.proofs.lemmas.Slice.Eq.{bytes_eq-Decides}
use Rattle.std.proofs.lemmas.Str.Parse.{IsNumeralModel, not_in_digits, numerals_by_value, parse_plain, tells_digits}
use Rattle.std.specs.Result.{OkIff, result_ok}
use Rattle.std.specs.Str.{bytes_eq}
use Rattle.std.specs.Str.Parse.{AllDigits, ParsesUnsigned, digits_value}
use Rattle.gd_words.specs.Numbers.{number_of}

own : IsNumeralModel (AllDigits 10) (digits_value 10)
own = numerals_by_value _ tells_digits

-- ================ tests

false_from : (b : Bool) → (b ≡ true → ⊥) → b ≡ false
false_from true h = absurd (h refl)
false_from false h = refl

below : (m n : ℕ) → m < n → nat_lt m n ≡ true
below m n h = grind (arith, nat_tests)

from_below : (m n : ℕ) → nat_lt m n ≡ true → m < n
from_below m n h = grind (arith, nat_tests)

both : (a b : Bool) → (a && b) ≡ true → (a ≡ true) × (b ≡ true)
both true b e = (refl, e)
both false b e = absurd (cc)

both_true : (a b : Bool) → a ≡ true → b ≡ true → (a && b) ≡ true
both_true a b e f = ap (λ x. x && b) e ∙ f

chosen : (b : Bool) (m n : ℕ) → (if b then Some m else None) ≡ Some n → (b ≡ true) × (m ≡ n)
chosen true m n e = (refl, cc)
chosen false m n e = absurd (cc)

-- ================ the digits of a number

-- the text is the decimal digits of the number
abbrev Writes : List ℕ → ℕ → Type 0
Writes text n = (n < 2 ^ 64) × (text ≡ decimal n)

test : List ℕ → ℕ → Bool
test text n = nat_lt n (2 ^ 64) && bytes_eq text (decimal n)

tested : (text : List ℕ) (n : ℕ) → test text n ≡ true → Writes text n
unfolding test
tested text n e = let h = both _ _ e in (from_below n _ h.0, (bytes_eq-Decides text (decimal n)).0 h.1)

passes : (text : List ℕ) (n : ℕ) → Writes text n → test text n ≡ true
unfolding test
passes text n w = both_true _ _ (below n _ w.0) ((bytes_eq-Decides text (decimal n)).1 w.1)

number_tested : (text : List ℕ) → number_of text ≡ (if test text (digits_value 10 text) then Some (digits_value 10 text) else None)
unfolding number_of test
number_tested text = refl

no_number : (text : List ℕ) → (Writes text (digits_value 10 text) → ⊥) → None ≡ number_of text
no_number text deny =
    sym (number_tested text ∙ ap (λ (b : Bool). if b then Some (digits_value 10 text) else None) (false_from _ (λ e. deny (tested text _ e))))

number_here : (text : List ℕ) → Writes text (digits_value 10 text) → Some (digits_value 10 text) ≡ number_of text
number_here text w = sym (number_tested text ∙ ap (λ (b : Bool). if b then Some (digits_value 10 text) else None) (passes text _ w))

-- a number is read from its decimal digits, and from no other text
pub round_trip : (text : List ℕ) (n : ℕ) → (number_of text ≡ Some n) ↔ Writes text n
round_trip text n = (there, back)
  where
    there : number_of text ≡ Some n → Writes text n
    there e =
        let c = chosen (test text (digits_value 10 text)) (digits_value 10 text) n (sym (number_tested text) ∙ e) in
        subst (Writes text) c.1 (tested text _ c.0)

    back : Writes text n → number_of text ≡ Some n
    back w =
        let value : digits_value 10 text ≡ n = ap (digits_value 10) w.1 ∙ digits_value-decimal own n w.0 in
        sym (number_here text (subst (Writes text) (sym value) w)) ∙ ap Some value

-- ================ how it is read

-- the text begins as a number does
abbrev Begins : List ℕ → Type 0
Begins text = (0 < length text) × (get_or text 0 0 ≢ 43) × (get_or text 0 0 ≡ 48 → length text ≡ 1)

zero_alone : (n : ℕ) → n < 2 ^ 64 → get_or (decimal n) 0 0 ≡ 48 → length (decimal n) ≡ 1
zero_alone zero h e = ap length (decimal_digit 0 (omega arith))
zero_alone (suc m) h e = absurd (omega (arith, first_decimal (suc m) (omega arith) h))

decimal_begins : (n : ℕ) → n < 2 ^ 64 → Begins (decimal n)
decimal_begins n h = (
  decimal_nonempty n h,
  not_in_digits own (decimal n) 43 (digits_decimal own n h) (λ r. omega arith) 0 (decimal_nonempty n h),
  zero_alone n h,
)

pub not_plain : (text : List ℕ) → (Begins text → ⊥) → None ≡ number_of text
not_plain text deny = no_number text (λ w. deny (subst Begins (sym w.1) (decimal_begins _ w.0)))

pub parsed : {E : Type 0} → (text : List ℕ) (r : Result ℕ E) → Begins text → ParsesUnsigned 64 10 text r → result_ok r ≡ number_of text
parsed text r plain h = go r (parse_plain own 64 text r h plain.1)
  where
    go : {E : Type 0} → (r : Result ℕ E) → OkIff r (AllDigits 10 text × (0 < length text) × (digits_value 10 text < 2 ^ 64)) (digits_value 10 text) → result_ok r ≡ number_of text
    go (Ok n) k =
        ap Some k.1 ∙ number_here text (k.0.2, sym (decimal-digits_value own text k.0.0 plain.0 plain.2 k.0.2))
    go (Err e) deny =
        no_number text (λ w. deny (subst (AllDigits 10) (sym w.1) (digits_decimal own _ w.0), plain.0, w.0))
