-- A hand that is dealt, and one with other cards in the place of those that aren't held.
use Rattle.std.proofs.Common.{◌≡◌, ◌<◌, ◌≤◌, ◌+◌, ◌++◌, ℕ, zero, suc, Bool, true, false, not, if◌then◌else◌, ◌==◌, List, [], ◌∷◌, length, get_or, set, take, drop, filter, refl, sym, ap, ◌∙◌, append_assoc, append-nil, take_all, drop_of_length-le, arith}
use Rattle.std.proofs.Math.Seq.{take-add, take-append_seam, drop-append_seam}
use Rattle.std.proofs.lemmas.List.{length-take-le, take_more, take_more_set, drop_more, drop-set-lt}
use Rattle.gd_base.specs.Games.Chance.{cards_from, dealt_cards, exchanged_cards, final_hand, hand, has_bit}
use Rattle.gd_base.specs.Setups.Tables.{deck}
use Rattle.gd_cards.specs.Hands.{are_distinct, are_of_deck, cards_left, has_card, replaced_hand}
use Rattle.gd_cards.proofs.Copies.{absent, copies, deck_none, deck_once, distinct, either, filter-fewer, filter-none, of_deck, of_deck_none, once, one}
use Rattle.gd_cards.proofs.Drawn.{AreWords, cards_from-append, cards_from-fewer, left_after, left_after-is, length-cards_from}

-- ================ a deal

pub words_of : (n : ℕ) (words : List ℕ) → AreWords words → AreWords (take n words)
words_of zero words fits i = omega arith
words_of (suc n) [] fits i = omega arith
words_of (suc n) (w ∷ ws) fits zero = fits 0
words_of (suc n) (w ∷ ws) fits (suc i) = words_of n ws (λ k. fits (suc k)) i

pub words_past : (n : ℕ) (words : List ℕ) → AreWords words → AreWords (drop n words)
words_past zero words fits i = fits i
words_past (suc n) [] fits i = omega arith
words_past (suc n) (w ∷ ws) fits i = words_past n ws (λ k. fits (suc k)) i

-- the ten cards of a deal: a hand, and those that five more words take of what is left
ten_cards : (words : List ℕ)
    → dealt_cards words ≡ cards_from deck (take 5 words) ++ cards_from (left_after deck (take 5 words)) (take 5 (drop 5 words))
ten_cards words = ap (cards_from deck) (take-add 5 5 words) ∙ cards_from-append deck (take 5 words) (take 5 (drop 5 words))

five_first : (words : List ℕ) → length words ≡ 16 → length (cards_from deck (take 5 words)) ≡ 5
five_first words h = length-cards_from deck (take 5 words) ∙ length-take-le 5 words (omega (arith, h))

pub hand_is : (words : List ℕ) → length words ≡ 16 → hand words ≡ cards_from deck (take 5 words)
hand_is words h =
    let first = cards_from deck (take 5 words) in
    let next = cards_from (left_after deck (take 5 words)) (take 5 (drop 5 words)) in
    ap (take 5) (ten_cards words) ∙ sym (ap (λ n. take n (first ++ next)) (five_first words h)) ∙ take-append_seam first next

next_is : (words : List ℕ) → length words ≡ 16 → drop 5 (dealt_cards words) ≡ cards_from (left_after deck (take 5 words)) (take 5 (drop 5 words))
next_is words h =
    let first = cards_from deck (take 5 words) in
    let next = cards_from (left_after deck (take 5 words)) (take 5 (drop 5 words)) in
    ap (drop 5) (ten_cards words) ∙ sym (ap (λ n. drop n (first ++ next)) (five_first words h)) ∙ drop-append_seam first next

-- what a deal leaves is the deck without the hand
left_is : (words : List ℕ) → length words ≡ 16 → AreWords words → left_after deck (take 5 words) ≡ cards_left (hand words)
left_is words h fits =
    let enough : length (take 5 words) ≤ length deck = omega (arith, length-take-le 5 words (omega (arith, h))) in
    left_after-is deck (take 5 words) deck_once (words_of 5 words fits) enough
    ∙ ap (λ cards. filter (λ y. not (has_card cards y)) deck) (sym (hand_is words h))

pub final_is : (words : List ℕ) (mask : ℕ) → length words ≡ 16 → AreWords words → final_hand words mask ≡ replaced_hand (hand words) mask words
final_is words mask h fits =
    ap (exchanged_cards mask 0 (hand words))
    (next_is words h ∙ ap (λ left. cards_from left (take 5 (drop 5 words))) (left_is words h fits))

-- ================ hands

pub dealt_distinct : (words : List ℕ) → AreWords words → length words ≡ 5 → are_distinct (cards_from deck words) ≡ true
dealt_distinct words fits h =
    let enough : length words ≤ length deck = omega (arith, h) in
    distinct (cards_from deck words) (λ c. omega (arith, cards_from-fewer c deck words fits enough, deck_once c))

pub dealt_of_deck : (words : List ℕ) → AreWords words → length words ≡ 5 → are_of_deck (cards_from deck words) ≡ true
dealt_of_deck words fits h =
    let enough : length words ≤ length deck = omega (arith, h) in
    of_deck (cards_from deck words) (λ c beyond. omega (arith, cards_from-fewer c deck words fits enough, deck_none c beyond))

exchanged-step : (t : Bool) (c card new m n : ℕ) (kept other : List ℕ) → copies c kept ≤ m + (one (new == c) + n) → copies c other ≤ m + n
    → copies c (if t then card ∷ kept else new ∷ other) ≤ (one (card == c) + m) + (one (new == c) + n)
exchanged-step true c card new m n kept other p q = omega (arith, p)
exchanged-step false c card new m n kept other p q = omega (arith, q)

-- each card that stands in the new hand stood in the old one or among the next ones
exchanged-fewer : (c mask i : ℕ) (cards next : List ℕ) → copies c (exchanged_cards mask i cards next) ≤ copies c cards + copies c next
exchanged-fewer c mask i [] next = omega arith
exchanged-fewer c mask i (card ∷ cards) [] = omega arith
exchanged-fewer c mask i (card ∷ cards) (new ∷ next) =
    exchanged-step (has_bit mask i) c card new (copies c cards) (copies c next)
    (exchanged_cards mask (i + 1) cards (new ∷ next)) (exchanged_cards mask (i + 1) cards next)
    (exchanged-fewer c mask (i + 1) cards (new ∷ next)) (exchanged-fewer c mask (i + 1) cards next)

module _ (cards words : List ℕ) (mask : ℕ) (fits : AreWords words) (five : length words ≡ 5) (enough : 5 ≤ length (cards_left cards)) where
  abbrev next : List ℕ
  next = cards_from (cards_left cards) words

  next-fewer : (c : ℕ) → copies c next ≤ copies c (cards_left cards)
  next-fewer c = cards_from-fewer c (cards_left cards) words fits (omega (arith, five, enough))

  left-fewer : (c : ℕ) → copies c (cards_left cards) ≤ copies c deck
  left-fewer c = filter-fewer (λ y. not (has_card cards y)) c deck

  pub replaced_distinct : are_distinct cards ≡ true → are_distinct (exchanged_cards mask 0 cards next) ≡ true
  replaced_distinct h = distinct (exchanged_cards mask 0 cards next) (λ c. either (has_card cards c)
      (λ e. omega (arith, exchanged-fewer c mask 0 cards next, next-fewer c, filter-none (λ y. not (has_card cards y)) c deck (ap not e), once cards c h))
      (λ e. omega (arith, exchanged-fewer c mask 0 cards next, next-fewer c, left-fewer c, deck_once c, absent cards c e)))

  pub replaced_of_deck : are_of_deck cards ≡ true → are_of_deck (exchanged_cards mask 0 cards next) ≡ true
  replaced_of_deck h = of_deck (exchanged_cards mask 0 cards next) (λ c beyond.
      omega (arith, exchanged-fewer c mask 0 cards next, next-fewer c, left-fewer c, deck_none c beyond, of_deck_none cards c h beyond))

-- ================ one place more

-- the cards up to a place are told, and the rest is still to be exchanged
abbrev pub IsExchangedTo : ℕ → ℕ → ℕ → List ℕ → List ℕ → List ℕ → Type 0
IsExchangedTo mask place used cards dealt next =
    take place cards ++ exchanged_cards mask place (drop place dealt) (drop used next) ≡ exchanged_cards mask 0 dealt next

kept_one : (mask place card : ℕ) (cards next : List ℕ) → has_bit mask place ≡ true
    → exchanged_cards mask place (card ∷ cards) next ≡ card ∷ exchanged_cards mask (place + 1) cards next
kept_one mask place card [] [] held = refl
kept_one mask place card (x ∷ xs) [] held = refl
kept_one mask place card cards (new ∷ next) held =
    ap (λ t. if t then card ∷ exchanged_cards mask (place + 1) cards (new ∷ next) else new ∷ exchanged_cards mask (place + 1) cards next) held

replaced_one : (mask place card new : ℕ) (cards next : List ℕ) → has_bit mask place ≡ false
    → exchanged_cards mask place (card ∷ cards) (new ∷ next) ≡ new ∷ exchanged_cards mask (place + 1) cards next
replaced_one mask place card new cards next free =
    ap (λ t. if t then card ∷ exchanged_cards mask (place + 1) cards (new ∷ next) else new ∷ exchanged_cards mask (place + 1) cards next) free

module _ (place : ℕ) (cards dealt : List ℕ) (c_in : place < length cards) (d_in : place < length dealt) (same : drop place cards ≡ drop place dealt) where
  both_more : get_or cards place 0 ∷ drop (place + 1) cards ≡ get_or dealt place 0 ∷ drop (place + 1) dealt
  both_more = sym (drop_more cards place 0 c_in) ∙ same ∙ drop_more dealt place 0 d_in

  pub same_kept : drop (place + 1) cards ≡ drop (place + 1) dealt
  same_kept = ap (drop 1) both_more

  pub same_replaced : (new : ℕ) → drop (place + 1) (set cards place new) ≡ drop (place + 1) dealt
  same_replaced new = drop-set-lt (place + 1) cards place new (omega arith) ∙ same_kept

  pub exchanged_kept : (mask used : ℕ) (next : List ℕ) → has_bit mask place ≡ true → IsExchangedTo mask place used cards dealt next → IsExchangedTo mask (place + 1) used cards dealt next
  exchanged_kept mask used next held so_far =
      let rest = exchanged_cards mask (place + 1) (drop (place + 1) dealt) (drop used next) in
      ap (λ cs. cs ++ rest) (take_more cards place 0 c_in)
      ∙ append_assoc (take place cards) (get_or cards place 0 ∷ []) rest
      ∙ ap (λ card. take place cards ++ (card ∷ rest)) (ap (λ cs. get_or cs 0 0) both_more)
      ∙ sym (ap (λ cs. take place cards ++ cs)
      (ap (λ cs. exchanged_cards mask place cs (drop used next)) (drop_more dealt place 0 d_in)
      ∙ kept_one mask place (get_or dealt place 0) (drop (place + 1) dealt) (drop used next) held))
      ∙ so_far

  pub exchanged_replaced : (mask used : ℕ) (next : List ℕ) → used < length next → has_bit mask place ≡ false → IsExchangedTo mask place used cards dealt next
      → IsExchangedTo mask (place + 1) (used + 1) (set cards place (get_or next used 0)) dealt next
  exchanged_replaced mask used next n_in free so_far =
      let new = get_or next used 0 in
      let rest = exchanged_cards mask (place + 1) (drop (place + 1) dealt) (drop (used + 1) next) in
      ap (λ cs. cs ++ rest) (take_more_set cards place new c_in)
      ∙ append_assoc (take place cards) (new ∷ []) rest
      ∙ sym (ap (λ cs. take place cards ++ cs)
      (ap (λ cs. exchanged_cards mask place cs (drop used next)) (drop_more dealt place 0 d_in)
      ∙ ap (exchanged_cards mask place (get_or dealt place 0 ∷ drop (place + 1) dealt)) (drop_more next used 0 n_in)
      ∙ replaced_one mask place (get_or dealt place 0) new (drop (place + 1) dealt) (drop (used + 1) next) free))
      ∙ so_far

pub told_alike : (mask place used used' : ℕ) (cards cards' dealt next : List ℕ) → used' ≡ used → cards' ≡ cards
    → IsExchangedTo mask place used cards dealt next → IsExchangedTo mask place used' cards' dealt next
told_alike mask place used used' cards cards' dealt next u k so_far =
    ap (λ cs. take place cs ++ exchanged_cards mask place (drop place dealt) (drop used' next)) k
    ∙ ap (λ n. take place cards ++ exchanged_cards mask place (drop place dealt) (drop n next)) u
    ∙ so_far

pub all_exchanged : (mask place used : ℕ) (cards dealt next : List ℕ) → length cards ≤ place → length dealt ≤ place
    → IsExchangedTo mask place used cards dealt next → cards ≡ exchanged_cards mask 0 dealt next
all_exchanged mask place used cards dealt next h k so_far =
    sym (take_all place cards h)
    ∙ sym (append-nil (take place cards))
    ∙ sym (ap (λ ds. take place cards ++ exchanged_cards mask place ds (drop used next)) (drop_of_length-le dealt k))
    ∙ so_far
