-- Cards that words take from those that are left.
use Rattle.std.proofs.Common.{◌≡◌, ◌<◌, ◌≤◌, ◌*◌, ◌^◌, ◌++◌, ℕ, suc, not, List, [], ◌∷◌, length, get_or, filter, refl, sym, ap, ◌∙◌, arith}
use Rattle.std.specs.Prelude.{remove}
use Rattle.std.proofs.Math.Nat.{div-lt_iff_lt-mul, mul-lt-mul_of_pos_right}
use Rattle.std.proofs.lemmas.List.Edits.{length-remove}
use Rattle.gd_base.specs.Games.Chance.{cards_from, pick}
use Rattle.gd_cards.specs.Hands.{has_card}
use Rattle.gd_cards.proofs.Copies.{copies, copies-remove, remove-filter, without-more, filter-all}

-- words are below 2^64
abbrev pub AreWords : List ℕ → Type 0
AreWords words = (i : ℕ) → get_or words i 0 < 2 ^ 64

pub pick_below : (word n : ℕ) → word < 2 ^ 64 → 0 < n → pick word n < n
pick_below word n h some =
    let product : word * n < 2 ^ 64 * n = mul-lt-mul_of_pos_right h some in
    (div-lt_iff_lt-mul {k = 2 ^ 64} {x = word * n} {y = n} (omega arith)).1 (omega (arith, product))

pub length-cards_from : (left words : List ℕ) → length (cards_from left words) ≡ length words
length-cards_from left [] = refl
length-cards_from left (w ∷ ws) = ap suc (length-cards_from (remove left (pick w (length left))) ws)

-- what is left after some words
abbrev pub left_after : List ℕ → List ℕ → List ℕ
left_after left [] = left
left_after left (w ∷ ws) = left_after (remove left (pick w (length left))) ws

pub cards_from-append : (left us vs : List ℕ) → cards_from left (us ++ vs) ≡ cards_from left us ++ cards_from (left_after left us) vs
cards_from-append left [] vs = refl
cards_from-append left (w ∷ ws) vs = ap (λ cs. get_or left (pick w (length left)) 0 ∷ cs) (cards_from-append (remove left (pick w (length left))) ws vs)

-- no card is taken that isn't left, nor one twice
pub cards_from-fewer : (c : ℕ) (left words : List ℕ) → AreWords words → length words ≤ length left → copies c (cards_from left words) ≤ copies c left
cards_from-fewer c left [] fits enough = omega arith
cards_from-fewer c left (w ∷ ws) fits enough =
    let place = pick w (length left) in
    let below = pick_below w (length left) (fits 0) (omega (arith, enough)) in
    let shorter = length-remove left place below in
    let inner = cards_from-fewer c (remove left place) ws (λ i. fits (suc i)) (omega (arith, enough, shorter)) in
    omega (arith, inner, copies-remove c left place below)

-- what is left is what wasn't taken
pub left_after-is : (left words : List ℕ) → ((c : ℕ) → copies c left ≤ 1) → AreWords words → length words ≤ length left
    → left_after left words ≡ filter (λ y. not (has_card (cards_from left words) y)) left
left_after-is left [] h fits enough = sym (filter-all left)
left_after-is left (w ∷ ws) h fits enough =
    let place = pick w (length left) in
    let below = pick_below w (length left) (fits 0) (omega (arith, enough)) in
    let rest = remove left place in
    let shorter = length-remove left place below in
    let inner = left_after-is rest ws (λ c. omega (arith, h c, copies-remove c left place below)) (λ i. fits (suc i)) (omega (arith, enough, shorter)) in
    inner
    ∙ ap (filter (λ y. not (has_card (cards_from rest ws) y))) (remove-filter left place h below)
    ∙ sym (without-more (get_or left place 0) (cards_from rest ws) left)

-- ================ five words, one after another

pub one_more : (card : ℕ) (left after cards : List ℕ) (word : ℕ) (words : List ℕ)
    → card ≡ get_or left (pick word (length left)) 0 → after ≡ remove left (pick word (length left)) → cards ≡ cards_from after words
    → card ∷ cards ≡ cards_from left (word ∷ words)
one_more card left after cards word words taken rest more = cc (taken, rest, more)

pub five_words : (words : List ℕ) → length words ≡ 5
    → words ≡ get_or words 0 0 ∷ get_or words 1 0 ∷ get_or words 2 0 ∷ get_or words 3 0 ∷ get_or words 4 0 ∷ []
five_words [] h = absurd (omega (arith, h))
five_words (a ∷ []) h = absurd (omega (arith, h))
five_words (a ∷ b ∷ []) h = absurd (omega (arith, h))
five_words (a ∷ b ∷ c ∷ []) h = absurd (omega (arith, h))
five_words (a ∷ b ∷ c ∷ d ∷ []) h = absurd (omega (arith, h))
five_words (a ∷ b ∷ c ∷ d ∷ e ∷ []) h = refl
five_words (a ∷ b ∷ c ∷ d ∷ e ∷ f ∷ others) h = absurd (omega (arith, h))
