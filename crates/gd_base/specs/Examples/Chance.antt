-- Worked rows of what the words of a play decide, to be computed under the built-in setup.
use Rattle.std.specs.Prelude.{◌≡◌, ℕ, List, [], ◌∷◌, codes, map, replicate}
use Rattle.gd_base.specs.declared.game.Rank.{Rank}
use Rattle.gd_base.specs.declared.tables.TheConstants.{PRIZES, REEL_PAYS, STRIPS, SYMBOLS}
use Rattle.gd_base.specs.Setups.BuiltIn.{built_in_setup}
use Rattle.gd_base.specs.Games.Chance.{word_for, window, prize, line_wins, scatter_count, hand, final_hand, rank, hand_pay}
use Rattle.gd_base.specs.Texts.Names.{card_name}

-- a block of zeros
abbrev pub zeros : List ℕ
zeros = replicate 16 0

-- three scatters, and the prizes turned by two
abbrev pub pick_words : List ℕ
pick_words = word_for 7 32 ∷ 0 ∷ word_for 13 32 ∷ 0 ∷ 0 ∷ 0 ∷ 0 ∷ 0 ∷ 0 ∷ 0 ∷ word_for 2 5 ∷ 0 ∷ 0 ∷ 0 ∷ 0 ∷ 0 ∷ []

-- ten to ace of clubs
abbrev pub royal_words : List ℕ
royal_words = word_for 8 52 ∷ word_for 8 51 ∷ word_for 8 50 ∷ word_for 8 49 ∷ word_for 8 48 ∷ replicate 11 0

-- ace to five of clubs
abbrev pub ace_words : List ℕ
ace_words = word_for 12 52 ∷ replicate 15 0

-- a line win of five credits on the first line
abbrev pub gamble_words : List ℕ
gamble_words = word_for 12 32 ∷ word_for 7 32 ∷ word_for 4 32 ∷ replicate 13 0

-- the least words for places
pub record LeastWords : Type 0 where
  pub seventh_stop : word_for 7 32 ≡ 0x3800000000000000
  pub thirteenth_stop : word_for 13 32 ≡ 0x6800000000000000
  pub second_prize : word_for 2 5 ≡ 0x6666666666666667

-- windows from the top row, what their lines win, and a prize
pub record Windows : Type 0 where
  pub of_zeros : window built_in_setup zeros ≡ codes "WSAFC" ∷ codes "AFDCF" ∷ codes "BEBEB" ∷ []
  pub win_of_zeros : line_wins built_in_setup (window built_in_setup zeros) 9 ≡ 0
  pub of_pick : window built_in_setup pick_words ≡ codes "SSSFC" ∷ codes "AFACF" ∷ codes "BEDEB" ∷ []
  pub win_of_pick : line_wins built_in_setup (window built_in_setup pick_words) 9 ≡ 0
  pub scatters_of_pick : scatter_count (window built_in_setup pick_words) ≡ 3
  pub prize_of_pick : prize built_in_setup pick_words 2 ≡ 10
  pub of_gambles : window built_in_setup gamble_words ≡ codes "EWCFC" ∷ codes "FFFCF" ∷ codes "AEWEB" ∷ []
  pub win_of_gambles : line_wins built_in_setup (window built_in_setup gamble_words) 1 ≡ 5

-- hands, their ranks, and what they pay for a credit
pub record Hands : Type 0 where
  pub of_zeros : map card_name (hand zeros) ≡ codes "2c" ∷ codes "3c" ∷ codes "4c" ∷ codes "5c" ∷ codes "6c" ∷ []
  pub royal : rank (final_hand royal_words 31) ≡ Rank.RoyalFlush
  pub pay_of_royal : hand_pay built_in_setup (rank (final_hand royal_words 31)) ≡ 250
  pub of_ace : map card_name (final_hand ace_words 31) ≡ codes "Ac" ∷ codes "2c" ∷ codes "3c" ∷ codes "4c" ∷ codes "5c" ∷ []
  pub ace_low : rank (final_hand ace_words 31) ≡ Rank.StraightFlush

-- ================ the tables, written out once more

pub record TableRows : Type 0 where
  pub strips : STRIPS
      ≡ codes "WABCDEFSABCDEFABCDEFBCDEFCDEFDEF" ∷ codes "SFEDCBAWFEDCBAFEDCBAFEDCBFEDCFED" ∷ codes "ADBECFWADBECFSADBECFDBECFDECFDEF"
      ∷ codes "FCEBDASFCEBDAWFCEBDAFCEBDFCEDFED" ∷ codes "CFBEADSCFBEADWCFBEADCFBEDCFEDFED" ∷ []
  pub symbols : SYMBOLS ≡ codes "WABCDEF"
  pub pays : REEL_PAYS ≡ (100 ∷ 500 ∷ 2000 ∷ []) ∷ (50 ∷ 200 ∷ 1000 ∷ []) ∷ (30 ∷ 100 ∷ 400 ∷ []) ∷ (20 ∷ 60 ∷ 200 ∷ []) ∷ (10 ∷ 30 ∷ 100 ∷ [])
      ∷ (5 ∷ 20 ∷ 60 ∷ []) ∷ (5 ∷ 15 ∷ 50 ∷ []) ∷ []
  pub prizes : PRIZES ≡ 2 ∷ 4 ∷ 6 ∷ 10 ∷ 20 ∷ []
  pub hands : built_in_setup.poker_pays ≡ 250 ∷ 50 ∷ 25 ∷ 9 ∷ 6 ∷ 4 ∷ 3 ∷ 2 ∷ 1 ∷ []

-- what nine lines win in a window of these rows
abbrev pub wins_of : List ℕ → List ℕ → List ℕ → ℕ
wins_of top middle bottom = line_wins built_in_setup (top ∷ middle ∷ bottom ∷ []) 9

-- A window with A on the five places of one line, and S on all others, wins on that line alone. With four of them, or three, it
-- wins the less, with two nothing.
pub record LineRows : Type 0 where
  pub line_one : wins_of (codes "SSSSS") (codes "AAAAA") (codes "SSSSS") ≡ 1000
  pub line_two : wins_of (codes "AAAAA") (codes "SSSSS") (codes "SSSSS") ≡ 1000
  pub line_three : wins_of (codes "SSSSS") (codes "SSSSS") (codes "AAAAA") ≡ 1000
  pub line_four : wins_of (codes "ASSSA") (codes "SASAS") (codes "SSASS") ≡ 1000
  pub line_five : wins_of (codes "SSASS") (codes "SASAS") (codes "ASSSA") ≡ 1000
  pub line_six : wins_of (codes "AASSS") (codes "SSASS") (codes "SSSAA") ≡ 1000
  pub line_seven : wins_of (codes "SSSAA") (codes "SSASS") (codes "AASSS") ≡ 1000
  pub line_eight : wins_of (codes "SAAAS") (codes "ASSSA") (codes "SSSSS") ≡ 1000
  pub line_nine : wins_of (codes "SSSSS") (codes "ASSSA") (codes "SAAAS") ≡ 1000
  pub four_places : wins_of (codes "SSSSS") (codes "AAAAS") (codes "SSSSS") ≡ 200
  pub three_places : wins_of (codes "SSSSA") (codes "AAASS") (codes "SSSSS") ≡ 50
  pub two_places : wins_of (codes "SSAAA") (codes "AASSS") (codes "SSSSS") ≡ 0
  pub not_from_the_left : wins_of (codes "SSSSS") (codes "SAAAA") (codes "SSSSS") ≡ 0
  pub with_wild : wins_of (codes "SSSSS") (codes "AWASS") (codes "SSSSS") ≡ 50
  pub of_wilds : wins_of (codes "SSSSS") (codes "WWWWA") (codes "SSSSS") ≡ 1000

-- five ranks in a row of two suits are a straight, with the ace above the king or below the two and nowhere between
pub record Straights : Type 0 where
  pub from_ace : rank (12 ∷ 13 ∷ 1 ∷ 2 ∷ 3 ∷ []) ≡ Rank.Straight
  pub from_two : rank (0 ∷ 14 ∷ 2 ∷ 3 ∷ 4 ∷ []) ≡ Rank.Straight
  pub from_three : rank (1 ∷ 15 ∷ 3 ∷ 4 ∷ 5 ∷ []) ≡ Rank.Straight
  pub from_four : rank (2 ∷ 16 ∷ 4 ∷ 5 ∷ 6 ∷ []) ≡ Rank.Straight
  pub from_five : rank (3 ∷ 17 ∷ 5 ∷ 6 ∷ 7 ∷ []) ≡ Rank.Straight
  pub from_six : rank (4 ∷ 18 ∷ 6 ∷ 7 ∷ 8 ∷ []) ≡ Rank.Straight
  pub from_seven : rank (5 ∷ 19 ∷ 7 ∷ 8 ∷ 9 ∷ []) ≡ Rank.Straight
  pub from_eight : rank (6 ∷ 20 ∷ 8 ∷ 9 ∷ 10 ∷ []) ≡ Rank.Straight
  pub from_nine : rank (7 ∷ 21 ∷ 9 ∷ 10 ∷ 11 ∷ []) ≡ Rank.Straight
  pub from_ten : rank (8 ∷ 22 ∷ 10 ∷ 11 ∷ 12 ∷ []) ≡ Rank.Straight
  pub from_jack : rank (9 ∷ 23 ∷ 11 ∷ 12 ∷ 0 ∷ []) ≡ Rank.Nothing
  pub from_queen : rank (10 ∷ 24 ∷ 12 ∷ 0 ∷ 1 ∷ []) ≡ Rank.Nothing
  pub from_king : rank (11 ∷ 25 ∷ 0 ∷ 1 ∷ 2 ∷ []) ≡ Rank.Nothing
  pub with_a_gap : rank (0 ∷ 14 ∷ 2 ∷ 3 ∷ 5 ∷ []) ≡ Rank.Nothing
