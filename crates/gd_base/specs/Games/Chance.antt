-- What the recorded words of a play decide: stops and windows, line wins and prizes, cards and hands.
use Rattle.std.specs.Prelude.{ℕ, zero, suc, ◌+◌, ◌-◌, ◌*◌, ◌/◌, ◌%◌, ◌^◌, max, Bool, true, ◌&&◌, ◌||◌, ◌==◌, nat_le, if◌then◌else◌, List, [], ◌∷◌, length, map, take, drop, remove, slice_index, get_or, count_by, sum_by, take_while}
use Rattle.std.specs.List.{list_all, list_any}
use Rattle.gd_base.specs.declared.game.Colour.{Colour}
use Rattle.gd_base.specs.declared.game.Rank.{Rank}
use Rattle.gd_base.specs.declared.setup.Setup.{Setup}
use Rattle.gd_base.specs.declared.tables.TheConstants.{LINES, RUNS, SYMBOLS}
use Rattle.gd_base.specs.Setups.Tables.{ranks, deck}

-- one of n places, by a word
abbrev pub pick : ℕ → ℕ → ℕ
pick word n = word * n / 2 ^ 64

-- the least word that picks place i of n
abbrev pub word_for : ℕ → ℕ → ℕ
word_for i n = (i * 2 ^ 64 + (n - 1)) / n

abbrev pub word_at : List ℕ → ℕ → ℕ
word_at words k = slice_index words k

-- ================ reels

-- where the five reels stop
abbrev pub stops : List ℕ → List ℕ
stops words = map (λ w. pick w 32) (take 5 words)

-- the letters of a row, so many places behind the stops
abbrev pub row : ℕ → List (List ℕ) → List ℕ → List ℕ
row below [] stops = []
row below (strip ∷ strips) [] = []
row below (strip ∷ strips) (stop ∷ stops) = slice_index strip ((stop + below) % 32) ∷ row below strips stops

-- the three rows that are shown, from the top
abbrev pub window : Setup → List ℕ → List (List ℕ)
window setup words = map (λ below. row below setup.strips (stops words)) (0 ∷ 1 ∷ 2 ∷ [])

-- the letters on a line, from the left
abbrev pub letters_on : List (List ℕ) → ℕ → List ℕ → List ℕ
letters_on window reel [] = []
letters_on window reel (row ∷ rows) = slice_index (get_or window row []) reel ∷ letters_on window (reel + 1) rows

-- the longest beginning of a line that consists of one letter and of W, which is 87
abbrev pub run_length : ℕ → List ℕ → ℕ
run_length letter line = length (take_while (λ l. (l == letter) || (l == 87)) line)

-- the pay of a run: none below three letters
abbrev pub pay_of_run : List ℕ → ℕ → ℕ
pay_of_run pays n = if nat_le 3 n then slice_index pays (n - 3) else 0

abbrev pub greatest : List ℕ → ℕ
greatest [] = 0
greatest (x ∷ xs) = max x (greatest xs)

-- what each symbol pays on a line
abbrev pub pays_on : List ℕ → List ℕ → List (List ℕ) → List ℕ
pays_on line [] pays = []
pays_on line (letter ∷ letters) [] = []
pays_on line (letter ∷ letters) (own ∷ pays) = pay_of_run own (run_length letter line) ∷ pays_on line letters pays

-- the win of line n, from 1, in credits: the greatest that a symbol pays on it
abbrev pub line_pay : Setup → List (List ℕ) → ℕ → ℕ
line_pay setup window n = greatest (pays_on (letters_on window 0 (get_or LINES (n - 1) [])) SYMBOLS setup.reel_pays)

-- the wins of lines 1 to n, in credits
abbrev pub line_wins : Setup → List (List ℕ) → ℕ → ℕ
line_wins setup window zero = 0
line_wins setup window (suc n) = line_wins setup window n + line_pay setup window (suc n)

-- how many letters of the window are S, which is 83
abbrev pub scatter_count : List (List ℕ) → ℕ
scatter_count window = sum_by (λ row. count_by (λ l. l == 83) row) window

-- the prize behind a door, from 1, in credits for each credit of the bet
abbrev pub prize : Setup → List ℕ → ℕ → ℕ
prize setup words door = slice_index setup.prizes ((door - 1 + pick (word_at words 10) 5) % 5)

-- ================ cards

-- the cards that the words take, one after another, from those not yet dealt
abbrev pub cards_from : List ℕ → List ℕ → List ℕ
cards_from left [] = []
cards_from left (word ∷ words) =
    let place = pick word (length left) in
    slice_index left place ∷ cards_from (remove left place) words

-- the ten cards that words 0 to 9 deal: a hand, and those that may replace it
abbrev pub dealt_cards : List ℕ → List ℕ
dealt_cards words = cards_from deck (take 10 words)

abbrev pub hand : List ℕ → List ℕ
hand words = take 5 (dealt_cards words)

-- whether bit i of a mask is 1
abbrev pub has_bit : ℕ → ℕ → Bool
has_bit mask i = mask / 2 ^ i % 2 == 1

-- a hand from card i on: the held cards, and the next ones in the place of the others
abbrev pub exchanged_cards : ℕ → ℕ → List ℕ → List ℕ → List ℕ
exchanged_cards mask i [] next = []
exchanged_cards mask i (card ∷ cards) [] = card ∷ cards
exchanged_cards mask i (card ∷ cards) (new ∷ next) =
    if has_bit mask i then card ∷ exchanged_cards mask (i + 1) cards (new ∷ next) else new ∷ exchanged_cards mask (i + 1) cards next

abbrev pub final_hand : List ℕ → ℕ → List ℕ
final_hand words mask = exchanged_cards mask 0 (hand words) (drop 5 (dealt_cards words))

-- clubs, diamonds, hearts and spades, from 0
abbrev pub suit : ℕ → ℕ
suit card = card / 13

abbrev pub is_red : ℕ → Bool
is_red card = (suit card == 1) || (suit card == 2)

abbrev pub colour : ℕ → Colour
colour card = if is_red card then Colour.Red else Colour.Black

abbrev pub are_one_suit : List ℕ → Bool
are_one_suit [] = true
are_one_suit (card ∷ cards) = list_all (λ c. suit c == suit card) cards

-- how many cards have a rank
abbrev pub count_of_rank : List ℕ → ℕ → ℕ
count_of_rank cards rank = count_by (λ c. c % 13 == rank) cards

-- whether each of these ranks is among the cards
abbrev pub has_ranks : List ℕ → List ℕ → Bool
has_ranks cards wanted = list_all (λ r. nat_le 1 (count_of_rank cards r)) wanted

abbrev pub is_run : List ℕ → Bool
is_run cards = list_any (has_ranks cards) RUNS

-- how many of some ranks have exactly n cards
abbrev pub groups : ℕ → List ℕ → List ℕ → ℕ
groups n cards among = count_by (λ r. count_of_rank cards r == n) among

-- the first hand that applies
abbrev pub rank : List ℕ → Rank
rank cards =
    if are_one_suit cards && has_ranks cards (8 ∷ 9 ∷ 10 ∷ 11 ∷ 12 ∷ []) then Rank.RoyalFlush
    else if are_one_suit cards && is_run cards then Rank.StraightFlush
    else if groups 4 cards ranks == 1 then Rank.Four
    else if (groups 3 cards ranks == 1) && (groups 2 cards ranks == 1) then Rank.FullHouse
    else if are_one_suit cards then Rank.Flush
    else if is_run cards then Rank.Straight
    else if groups 3 cards ranks == 1 then Rank.Three
    else if groups 2 cards ranks == 2 then Rank.TwoPair
    else if groups 2 cards (9 ∷ 10 ∷ 11 ∷ 12 ∷ []) == 1 then Rank.Jacks
    else Rank.Nothing

-- the place of a hand in the list of pays
abbrev pub rank_place : Rank → ℕ
rank_place Rank.RoyalFlush = 0
rank_place Rank.StraightFlush = 1
rank_place Rank.Four = 2
rank_place Rank.FullHouse = 3
rank_place Rank.Flush = 4
rank_place Rank.Straight = 5
rank_place Rank.Three = 6
rank_place Rank.TwoPair = 7
rank_place Rank.Jacks = 8
rank_place Rank.Nothing = 9

-- what a hand pays, in credits for each credit of the bet
abbrev pub hand_pay : Setup → Rank → ℕ
hand_pay setup hand = slice_index setup.poker_pays (rank_place hand)
