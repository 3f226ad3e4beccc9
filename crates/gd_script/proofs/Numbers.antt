-- Numbers: the digits of a word, its value, and the decimal digits of that.
use Rattle.std.proofs.Common.{◌≡◌, ℕ, zero, suc, ◌+◌, ◌-◌, ◌*◌, ◌<◌, ◌≤◌, ◌^◌, nat_le, Bool, true, false, ◌&&◌, if◌then◌else◌, List, decimal, get_or, length, take, None, Some, refl, sym, ap, subst, ◌∙◌, arith, length-take, take_all}
use Rattle.std.proofs.lemmas.Bool.Decides.{nat_tests}
use Rattle.std.proofs.lemmas.Fmt.{decimal-digits_value, decimal_digit, digits_value-decimal, digits_decimal, length-decimal-le, decimal_nonempty, first_decimal}
use Rattle.std.proofs.lemmas.Int.Digits.{digits_value_more}
use Rattle.std.proofs.lemmas.List.{get_or-take}
use Rattle.std.proofs.lemmas.Slice.Eq.{bytes_eq-Decides}
use Rattle.std.proofs.lemmas.Str.{digit_value_digit}
use Rattle.std.proofs.lemmas.Str.Parse.{IsNumeralModel, numerals_by_value, tells_all_ascii_digits, tells_by_index, digits_value_short}
use Rattle.std.specs.Int.{IsInRange}
use Rattle.std.specs.Str.{all_ascii_digits, bytes_eq}
use Rattle.std.specs.Str.Parse.{digits_value}
use Rattle.gd_script.specs.Reading.{number_in}

-- ================ digits

-- by a test, and by their places
own : IsNumeralModel (λ ds. all_ascii_digits ds ≡ true) (digits_value 10)
own = numerals_by_value _ tells_all_ascii_digits

by_places : IsNumeralModel (λ ds. (i : ℕ) → i < length ds → IsInRange 48 57 (get_or ds i 0)) (digits_value 10)
by_places = numerals_by_value _ tells_by_index

all_digits : (ds : List ℕ) → ((i : ℕ) → i < length ds → IsInRange 48 57 (get_or ds i 0)) → all_ascii_digits ds ≡ true
all_digits ds h = own.from ds (by_places.to ds h)

digit_in : (ds : List ℕ) → all_ascii_digits ds ≡ true → (i : ℕ) → i < length ds → IsInRange 48 57 (get_or ds i 0)
digit_in ds h = by_places.from ds (own.to ds h)

pub false_from : (b : Bool) → (b ≡ true → ⊥) → b ≡ false
false_from true h = absurd (h refl)
false_from false h = refl

-- digits that were all read are a number
pub number_read : (ds : List ℕ) (i v : ℕ) → length ds ≤ i → i ≤ length ds → ((j : ℕ) → j < i → IsInRange 48 57 (get_or ds j 0)) → v ≡ digits_value 10 (take i ds)
    → Some v ≡ (if all_ascii_digits ds then Some (digits_value 10 ds) else None)
number_read ds i v m n h e =
    let whole : take i ds ≡ ds = take_all i ds m in
    ap Some (e ∙ ap (digits_value 10) whole) ∙ sym (ap (λ (b : Bool). if b then Some (digits_value 10 ds) else None) (all_digits ds (λ j lt. h j (omega arith))))

-- with another byte they are none
pub no_number : (ds : List ℕ) (i : ℕ) → i < length ds → (IsInRange 48 57 (get_or ds i 0) → ⊥) → None ≡ (if all_ascii_digits ds then Some (digits_value 10 ds) else None)
no_number ds i lt n = sym (ap (λ (b : Bool). if b then Some (digits_value 10 ds) else None) (false_from (all_ascii_digits ds) (λ e. n (digit_in ds e i lt))))

-- the value so far is below the power of ten of the digits so far
pub front_value : (ds : List ℕ) (i k : ℕ) → ((j : ℕ) → j < i → IsInRange 48 57 (get_or ds j 0)) → i ≤ k → i ≤ length ds → digits_value 10 (take i ds) < 10 ^ k
front_value ds i k h le len =
    digits_value_short by_places (take i ds) k (λ j lt. rw (get_or-take i ds j 0 (omega (arith, length-take i ds))) (h j (omega (arith, length-take i ds)))) (omega (arith, length-take i ds))

-- one digit more
pub next_value : (ds : List ℕ) (i : ℕ) → i < length ds → IsInRange 48 57 (get_or ds i 0) → digits_value 10 (take (i + 1) ds) ≡ 10 * digits_value 10 (take i ds) + (get_or ds i 0 - 48)
next_value ds i h d = omega (arith, digits_value_more 10 ds i h, digit_value_digit (get_or ds i 0) d)

-- ================ words

decimal_start : (n : ℕ) → n < 2 ^ 64 → get_or (decimal n) 0 0 ≡ 48 → length (decimal n) ≡ 1
decimal_start zero h e = ap length (decimal_digit 0 (omega arith))
decimal_start (suc m) h e = absurd (omega (arith, first_decimal (suc m) (omega arith) h))

pub at_most : (m n : ℕ) → m ≤ n → nat_le m n ≡ true
at_most m n h = grind (arith, nat_tests)

pub from_at_most : (m n : ℕ) → nat_le m n ≡ true → m ≤ n
from_at_most m n h = grind (arith, nat_tests)

pub both : (a b : Bool) → (a && b) ≡ true → (a ≡ true) × (b ≡ true)
both true b e = (refl, e)
both false b e = absurd (cc)

pub both_true : (a b : Bool) → a ≡ true → b ≡ true → (a && b) ≡ true
both_true a b e f = ap (λ x. x && b) e ∙ f

chosen : (b : Bool) (m n : ℕ) → (if b then Some m else None) ≡ Some n → (b ≡ true) × (m ≡ n)
chosen true m n e = (refl, cc)
chosen false m n e = absurd (cc)

-- the word is a number in the range
abbrev Writes : ℕ → ℕ → List ℕ → ℕ → Type 0
Writes least most word n = (least ≤ n) × (n ≤ most) × (word ≡ decimal n)

tests : ℕ → ℕ → List ℕ → ℕ → Bool
tests least most word n = nat_le least n && nat_le n most && bytes_eq word (decimal n)

tested : (least most : ℕ) (word : List ℕ) (n : ℕ) → tests least most word n ≡ true → Writes least most word n
unfolding tests
tested least most word n e =
    let outer = both _ _ e in
    let inner = both _ _ outer.0 in
    (from_at_most least n inner.0, from_at_most n most inner.1, (bytes_eq-Decides word (decimal n)).0 outer.1)

passes : (least most : ℕ) (word : List ℕ) (n : ℕ) → Writes least most word n → tests least most word n ≡ true
unfolding tests
passes least most word n w =
    both_true _ _ (both_true _ _ (at_most least n w.0) (at_most n most w.1)) ((bytes_eq-Decides word (decimal n)).1 w.2)

tested_number : (least most : ℕ) (word : List ℕ) → number_in least most word ≡ (if tests least most word (digits_value 10 word) then Some (digits_value 10 word) else None)
unfolding number_in tests
tested_number least most word = refl

-- a word that is not written so is no number
pub no_number_in : (least most : ℕ) (word : List ℕ) → (Writes least most word (digits_value 10 word) → ⊥) → None ≡ number_in least most word
no_number_in least most word deny =
    sym (tested_number least most word ∙ ap (λ (b : Bool). if b then Some (digits_value 10 word) else None) (false_from _ (λ e. deny (tested least most word _ e))))

pub number_here : (least most : ℕ) (word : List ℕ) → Writes least most word (digits_value 10 word) → Some (digits_value 10 word) ≡ number_in least most word
number_here least most word w = sym (tested_number least most word ∙ ap (λ (b : Bool). if b then Some (digits_value 10 word) else None) (passes least most word _ w))

-- a number is read from its decimal digits, and from no other word
pub number_in_decimal : (least most n : ℕ) → most < 2 ^ 64 → least ≤ n → n ≤ most → number_in least most (decimal n) ≡ Some n
number_in_decimal least most n m a b =
    let value : digits_value 10 (decimal n) ≡ n = digits_value-decimal own n (omega arith) in
    sym (number_here least most (decimal n) (omega (arith, value), omega (arith, value), ap decimal (sym value))) ∙ ap Some value

pub decimal_of_number : (least most : ℕ) (word : List ℕ) (n : ℕ) → number_in least most word ≡ Some n → Writes least most word n
decimal_of_number least most word n e =
    let c = chosen (tests least most word (digits_value 10 word)) (digits_value 10 word) n (sym (tested_number least most word) ∙ e) in
    subst (Writes least most word) c.1 (tested least most word _ c.0)

-- ================ what the tests of a word find

pub not_plain : (least most : ℕ) (word : List ℕ) → most < 2 ^ 64 → ((0 < length word) × (get_or word 0 0 ≡ 48 → length word ≡ 1) → ⊥) → None ≡ number_in least most word
not_plain least most word m deny =
    no_number_in least most word (λ w. let e : decimal (digits_value 10 word) ≡ word = sym w.2 in let small : digits_value 10 word < 2 ^ 64 = omega arith in
    deny (subst (λ ds. (0 < length ds) × (get_or ds 0 0 ≡ 48 → length ds ≡ 1)) e (decimal_nonempty _ small, decimal_start _ small)))

pub too_long : (least most : ℕ) (word : List ℕ) → most < 2 ^ 64 → 20 < length word → None ≡ number_in least most word
too_long least most word m l =
    no_number_in least most word (λ w. let e : length word ≡ length (decimal (digits_value 10 word)) = ap length w.2 in
    absurd (omega (arith, e, length-decimal-le 20 (digits_value 10 word) (omega arith) (omega arith) (omega arith))))

pub not_digits : (least most : ℕ) (word : List ℕ) → most < 2 ^ 64 → None ≡ (if all_ascii_digits word then Some (digits_value 10 word) else None) → None ≡ number_in least most word
not_digits least most word m none =
    no_number_in least most word (λ w. absurd (let digits : all_ascii_digits word ≡ true = ap all_ascii_digits w.2 ∙ digits_decimal own (digits_value 10 word) (omega arith) in
    let e = ap (λ (b : Bool). if b then Some (digits_value 10 word) else None) digits in cc))

pub digits_read : (word : List ℕ) (v : ℕ) → Some v ≡ (if all_ascii_digits word then Some (digits_value 10 word) else None) → (all_ascii_digits word ≡ true) × (v ≡ digits_value 10 word)
digits_read word v e = let c = chosen (all_ascii_digits word) (digits_value 10 word) v (sym e) in (c.0, sym c.1)

pub out_of_range : (least most : ℕ) (word : List ℕ) (v : ℕ) → Some v ≡ (if all_ascii_digits word then Some (digits_value 10 word) else None) → (least ≤ v → v ≤ most → ⊥) → None ≡ number_in least most word
out_of_range least most word v e deny =
    no_number_in least most word (λ w. let r : v ≡ digits_value 10 word = (digits_read word v e).1 in deny (omega (arith, r)) (omega (arith, r)))

pub in_range : (least most : ℕ) (word : List ℕ) (v : ℕ)
    → most < 2 ^ 64 → (0 < length word) × (get_or word 0 0 ≡ 48 → length word ≡ 1) → Some v ≡ (if all_ascii_digits word then Some (digits_value 10 word) else None) → least ≤ v → v ≤ most
    → Some v ≡ number_in least most word
in_range least most word v m plain e a b =
    let r = digits_read word v e in
    let w : Writes least most word (digits_value 10 word) = (omega (arith, r.1), omega (arith, r.1), sym (decimal-digits_value own word r.0 plain.0 plain.1 (omega (arith, r.1)))) in
    ap Some r.1 ∙ number_here least most word w

-- a word with another byte is the decimal of no number
pub not_decimal : (n : ℕ) (word : List ℕ) → n < 2 ^ 64 → all_ascii_digits word ≡ false → bytes_eq (decimal n) word ≡ false
not_decimal n word h no_digits =
    false_from _ (λ e. let same : decimal n ≡ word = (bytes_eq-Decides (decimal n) word).0 e in let digits : all_ascii_digits word ≡ true = ap all_ascii_digits (sym same) ∙ digits_decimal own n h in cc)

pub decimal_digit_at : (n : ℕ) → n < 2 ^ 64 → (i : ℕ) → i < length (decimal n) → IsInRange 48 57 (get_or (decimal n) i 0)
decimal_digit_at n h i lt = digit_in (decimal n) (digits_decimal own n h) i lt
