-- Hands of five cards: what makes one, which cards may still be dealt beside it, and what a hold makes of it.
use Rattle.std.specs.Prelude.{ℕ, Bool, true, ◌&&◌, ◌==◌, if◌then◌else◌, not, nat_lt, List, [], ◌∷◌, take, drop, filter}
use Rattle.std.specs.List.{list_all, list_any}
use Rattle.gd_base.specs.declared.game.Rank.{Rank}
use Rattle.gd_base.specs.Games.Chance.{are_one_suit, cards_from, exchanged_cards, groups, is_run}
use Rattle.gd_base.specs.Setups.Tables.{deck, ranks}

-- whether a card is among some
abbrev pub has_card : List ℕ → ℕ → Bool
has_card cards card = list_any (λ c. c == card) cards

-- whether no card stands twice
abbrev pub are_distinct : List ℕ → Bool
are_distinct [] = true
are_distinct (card ∷ cards) = not (has_card cards card) && are_distinct cards

-- whether each is a card of the deck
abbrev pub are_of_deck : List ℕ → Bool
are_of_deck cards = list_all (λ c. nat_lt c 52) cards

-- the cards of the deck that are not in a hand, in rising order
abbrev pub cards_left : List ℕ → List ℕ
cards_left hand = filter (λ c. not (has_card hand c)) deck

-- a hand after a hold: words 5 to 9 take cards from those that are left, and these stand, in their order from left to
-- right, in the place of the cards that aren't held
abbrev pub replaced_hand : List ℕ → ℕ → List ℕ → List ℕ
replaced_hand hand mask words = exchanged_cards mask 0 hand (cards_from (cards_left hand) (take 5 (drop 5 words)))

-- ================ parts of the rank

-- the rank of a hand that is no straight, has no five of a suit, no four of a rank and no full house
abbrev pub lower_rank : List ℕ → Rank
lower_rank cards =
    if groups 3 cards ranks == 1 then Rank.Three
    else if groups 2 cards ranks == 2 then Rank.TwoPair
    else if groups 2 cards (9 ∷ 10 ∷ 11 ∷ 12 ∷ []) == 1 then Rank.Jacks
    else Rank.Nothing

-- the rank of a hand that is no straight flush and has no four of a rank and no full house
abbrev pub middle_rank : List ℕ → Rank
middle_rank cards =
    if are_one_suit cards then Rank.Flush
    else if is_run cards then Rank.Straight
    else lower_rank cards
