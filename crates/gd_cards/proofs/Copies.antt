-- How often a card stands in a list, and what that says of hands.
use Rattle.std.proofs.Common.{◌≡◌, ◌≢◌, ◌<◌, ◌≤◌, ◌+◌, ℕ, zero, suc, Bool, true, false, not, cond, ◌&&◌, ◌||◌, ◌==◌, nat_lt, List, [], ◌∷◌, length, get_or, filter, refl, sym, ap, subst, ◌∙◌, arith}
use Rattle.std.specs.Prelude.{remove}
use Rattle.std.proofs.lemmas.Bool.Decides.{nat_tests}
use Rattle.gd_base.proofs.BoolTests.{both, is_so, is_equal}
use Rattle.gd_base.specs.Judging.Product.{both_hold}
use Rattle.gd_base.specs.Setups.Tables.{deck}
use Rattle.gd_cards.specs.Hands.{has_card, are_distinct, are_of_deck}

abbrev pub one : Bool → ℕ
one true = 1
one false = 0

abbrev pub copies : ℕ → List ℕ → ℕ
copies c [] = 0
copies c (x ∷ xs) = one (x == c) + copies c xs

-- ================ tests of single cards

pub itself : (x : ℕ) → (x == x) ≡ true
itself x = is_equal x x refl

pub is_other : (x y : ℕ) → (x == y) ≡ false → x ≢ y
is_other x y h = λ e. absurd (cc (h, is_equal x y e))

pub differs : (x y : ℕ) → x ≢ y → (x == y) ≡ false
differs x y h = grind (arith, nat_tests, h)

-- what follows whether a test holds or not
pub either : {P : Type 0} (t : Bool) → (t ≡ true → P) → (t ≡ false → P) → P
either true yes_it no_it = yes_it refl
either false yes_it no_it = no_it refl

pub one-same : (x c : ℕ) → x ≡ c → one (x == c) ≡ 1
one-same x c h = ap one (is_equal x c h)

pub one-other : (x c : ℕ) → x ≢ c → one (x == c) ≡ 0
one-other x c h = ap one (differs x c h)

one-most : (t : Bool) → one t ≤ 1
one-most true = omega arith
one-most false = omega arith

-- ================ whether a card is among some

absent-step : (a b : Bool) (n : ℕ) → (a || b) ≡ false → (b ≡ false → n ≡ 0) → one a + n ≡ 0
absent-step true b n h k = absurd (cc h)
absent-step false b n h k = omega (arith, k h)

pub absent : (xs : List ℕ) (c : ℕ) → has_card xs c ≡ false → copies c xs ≡ 0
absent [] c h = refl
absent (x ∷ xs) c h = absent-step (x == c) (has_card xs c) (copies c xs) h (absent xs c)

present-step : (a b : Bool) (n : ℕ) → (a || b) ≡ true → (b ≡ true → 1 ≤ n) → 1 ≤ one a + n
present-step true b n h k = omega arith
present-step false b n h k = omega (arith, k h)

pub present : (xs : List ℕ) (c : ℕ) → has_card xs c ≡ true → 1 ≤ copies c xs
present [] c h = absurd (cc h)
present (x ∷ xs) c h = present-step (x == c) (has_card xs c) (copies c xs) h (present xs c)

-- ================ hands

pub once : (xs : List ℕ) (c : ℕ) → are_distinct xs ≡ true → copies c xs ≤ 1
once [] c h = omega arith
once (x ∷ xs) c h =
    let parts = both (not (has_card xs x)) (are_distinct xs) h in
    let rest = once xs c parts.1 in
    either (x == c)
    (λ e. let none = subst (λ k. copies k xs ≡ 0) (is_so x c e) (absent xs x (not_so (has_card xs x) parts.0)) in omega (arith, none, one-most (x == c)))
    (λ e. omega (arith, rest, ap one e))
  where
    not_so : (t : Bool) → not t ≡ true → t ≡ false
    not_so true h = absurd (cc h)
    not_so false h = refl

pub distinct : (xs : List ℕ) → ((c : ℕ) → copies c xs ≤ 1) → are_distinct xs ≡ true
distinct [] h = refl
distinct (x ∷ xs) h =
    both_hold (not (has_card xs x)) (are_distinct xs)
    (either (has_card xs x)
    (λ e. absurd (omega (arith, h x, one-same x x refl, present xs x e)))
    (λ e. ap not e))
    (distinct xs (λ c. omega (arith, h c)))

pub of_deck_none : (xs : List ℕ) (c : ℕ) → are_of_deck xs ≡ true → 52 ≤ c → copies c xs ≡ 0
of_deck_none [] c h beyond = refl
of_deck_none (x ∷ xs) c h beyond =
    let parts = both (nat_lt x 52) (are_of_deck xs) h in
    let low : x < 52 = below x parts.0 in
    omega (arith, of_deck_none xs c parts.1 beyond, one-other x c (λ e. absurd (omega (arith, e, low, beyond))))
  where
    below : (y : ℕ) → nat_lt y 52 ≡ true → y < 52
    below y h = grind (arith, nat_tests, h)

pub of_deck : (xs : List ℕ) → ((c : ℕ) → 52 ≤ c → copies c xs ≡ 0) → are_of_deck xs ≡ true
of_deck [] h = refl
of_deck (x ∷ xs) h =
    both_hold (nat_lt x 52) (are_of_deck xs)
    (either (nat_lt x 52) (λ e. e) (λ e. let beyond : 52 ≤ x = above x e in absurd (omega (arith, h x beyond, one-same x x refl))))
    (of_deck xs (λ c beyond. omega (arith, h c beyond)))
  where
    above : (y : ℕ) → nat_lt y 52 ≡ false → 52 ≤ y
    above y h = grind (arith, nat_tests, h)

pub deck_once : (c : ℕ) → copies c deck ≤ 1
deck_once c = once deck c refl

pub deck_none : (c : ℕ) → 52 ≤ c → copies c deck ≡ 0
deck_none c beyond = of_deck_none deck c refl beyond

-- ================ removal

pub copies-remove : (c : ℕ) (xs : List ℕ) (i : ℕ) → i < length xs → copies c (remove xs i) + one (get_or xs i 0 == c) ≡ copies c xs
copies-remove c [] i h = absurd (omega (arith, h))
copies-remove c (x ∷ xs) zero h = omega arith
copies-remove c (x ∷ xs) (suc i) h = let inner = copies-remove c xs i (omega (arith, h)) in omega (arith, inner)

pub stands_at : (xs : List ℕ) (i : ℕ) → i < length xs → 1 ≤ copies (get_or xs i 0) xs
stands_at xs i h = omega (arith, copies-remove (get_or xs i 0) xs i h, one-same (get_or xs i 0) (get_or xs i 0) refl)

-- ================ filters

cond-fewer : (t : Bool) (c x : ℕ) (xs : List ℕ) (n : ℕ) → copies c xs ≤ n → copies c (cond t (x ∷ xs) xs) ≤ one (x == c) + n
cond-fewer true c x xs n h = omega (arith, h)
cond-fewer false c x xs n h = omega (arith, h)

pub filter-fewer : (p : ℕ → Bool) (c : ℕ) (xs : List ℕ) → copies c (filter p xs) ≤ copies c xs
filter-fewer p c [] = omega arith
filter-fewer p c (x ∷ xs) = cond-fewer (p x) c x (filter p xs) (copies c xs) (filter-fewer p c xs)

pub filter-none : (p : ℕ → Bool) (c : ℕ) (xs : List ℕ) → p c ≡ false → copies c (filter p xs) ≡ 0
filter-none p c [] h = refl
filter-none p c (x ∷ xs) h =
    either (p x)
    (λ e. ap (λ t. copies c (cond t (x ∷ filter p xs) (filter p xs))) e
    ∙ omega (arith, filter-none p c xs h, one-other x c (λ same. absurd (cc (e, h, same)))))
    (λ e. ap (λ t. copies c (cond t (x ∷ filter p xs) (filter p xs))) e ∙ filter-none p c xs h)

-- a card that isn't there
pub filter-absent : (c : ℕ) (xs : List ℕ) → copies c xs ≡ 0 → filter (λ y. not (c == y)) xs ≡ xs
filter-absent c [] h = refl
filter-absent c (x ∷ xs) h =
    let rest = filter-absent c xs (omega (arith, h)) in
    let apart : (c == x) ≡ false = either (c == x) (λ e. absurd (omega (arith, h, one-same x c (sym (is_so c x e))))) (λ e. e) in
    ap (λ t. cond (not t) (x ∷ filter (λ y. not (c == y)) xs) (filter (λ y. not (c == y)) xs)) apart ∙ ap (λ ys. x ∷ ys) rest

-- where no card stands twice, a removal is a filter
pub remove-filter : (xs : List ℕ) (i : ℕ) → ((c : ℕ) → copies c xs ≤ 1) → i < length xs → remove xs i ≡ filter (λ y. not (get_or xs i 0 == y)) xs
remove-filter [] i h lt = absurd (omega (arith, lt))
remove-filter (x ∷ xs) zero h lt =
    let none : copies x xs ≡ 0 = omega (arith, h x, one-same x x refl) in
    sym (ap (λ t. cond (not t) (x ∷ filter (λ y. not (x == y)) xs) (filter (λ y. not (x == y)) xs)) (itself x) ∙ filter-absent x xs none)
remove-filter (x ∷ xs) (suc i) h lt =
    let g = get_or xs i 0 in
    let rest = remove-filter xs i (λ c. omega (arith, h c)) (omega (arith, lt)) in
    let stands = stands_at xs i (omega (arith, lt)) in
    let apart : (g == x) ≡ false = either (g == x) (λ e. absurd (omega (arith, h g, stands, one-same x g (sym (is_so g x e))))) (λ e. e) in
    ap (λ ys. x ∷ ys) rest ∙ sym (ap (λ t. cond (not t) (x ∷ filter (λ y. not (g == y)) xs) (filter (λ y. not (g == y)) xs)) apart)

-- ================ what a filter leaves of a list

cond-cond : (a b : Bool) (x : ℕ) (xs : List ℕ) (q : ℕ → Bool) → q x ≡ b → filter q (cond a (x ∷ xs) xs) ≡ cond (a && b) (x ∷ filter q xs) (filter q xs)
cond-cond true b x xs q h = ap (λ t. cond t (x ∷ filter q xs) (filter q xs)) h
cond-cond false b x xs q h = refl

pub filter-filter : (p q : ℕ → Bool) (xs : List ℕ) → filter q (filter p xs) ≡ filter (λ x. p x && q x) xs
filter-filter p q [] = refl
filter-filter p q (x ∷ xs) = cond-cond (p x) (q x) x (filter p xs) q refl ∙ ap (λ ys. cond (p x && q x) (x ∷ ys) ys) (filter-filter p q xs)

pub filter-same : (p q : ℕ → Bool) (xs : List ℕ) → ((x : ℕ) → p x ≡ q x) → filter p xs ≡ filter q xs
filter-same p q [] h = refl
filter-same p q (x ∷ xs) h = ap (λ t. cond t (x ∷ filter p xs) (filter p xs)) (h x) ∙ ap (λ ys. cond (q x) (x ∷ ys) ys) (filter-same p q xs h)

pub filter-all : (xs : List ℕ) → filter (λ x. true) xs ≡ xs
filter-all [] = refl
filter-all (x ∷ xs) = ap (λ ys. x ∷ ys) (filter-all xs)

pub not-or : (a b : Bool) → not (a || b) ≡ (not a && not b)
not-or true b = refl
not-or false b = refl

cond-length : (t : Bool) (x : ℕ) (xs : List ℕ) → length (cond (not t) (x ∷ xs) xs) + one t ≡ suc (length xs)
cond-length true x xs = omega arith
cond-length false x xs = omega arith

length-without : (c : ℕ) (xs : List ℕ) → length (filter (λ y. not (c == y)) xs) + copies c xs ≡ length xs
length-without c [] = refl
length-without c (x ∷ xs) =
    let inner = length-without c xs in
    let turned : one (x == c) ≡ one (c == x) = either (c == x) (λ e. one-same x c (sym (is_so c x e)) ∙ sym (ap one e)) (λ e. one-other x c (λ same. is_other c x e (sym same)) ∙ sym (ap one e)) in
    omega (arith, inner, turned, cond-length (c == x) x (filter (λ y. not (c == y)) xs))

-- a filter that takes the cards of a hand away, card by card
pub without-more : (card : ℕ) (hand xs : List ℕ)
    → filter (λ y. not (has_card (card ∷ hand) y)) xs ≡ filter (λ y. not (has_card hand y)) (filter (λ y. not (card == y)) xs)
without-more card hand xs =
    filter-same (λ y. not ((card == y) || has_card hand y)) (λ y. not (card == y) && not (has_card hand y)) xs (λ y. not-or (card == y) (has_card hand y))
    ∙ sym (filter-filter (λ y. not (card == y)) (λ y. not (has_card hand y)) xs)

pub length-left : (hand xs : List ℕ) → ((c : ℕ) → copies c xs ≤ 1) → length xs ≤ length (filter (λ y. not (has_card hand y)) xs) + length hand
length-left [] xs h = omega (arith, ap length (filter-all xs))
length-left (card ∷ hand) xs h =
    let fewer : (c : ℕ) → copies c (filter (λ y. not (card == y)) xs) ≤ 1 = λ c. omega (arith, h c, filter-fewer (λ y. not (card == y)) c xs) in
    let inner = length-left hand (filter (λ y. not (card == y)) xs) fewer in
    omega (arith, inner, length-without card xs, h card, ap length (without-more card hand xs))
