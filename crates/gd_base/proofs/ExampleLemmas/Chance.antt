-- Worked rows of what the words of a play decide, by computation.
use Rattle.std.specs.Prelude.{refl}
use Rattle.gd_base.specs.Examples.Chance.{LeastWords, Windows, Hands, LineRows, Straights, TableRows}

pub least_words : LeastWords
least_words = record { seventh_stop = refl; thirteenth_stop = refl; second_prize = refl }

pub windows : Windows
windows = record {
  of_zeros = refl;
  win_of_zeros = refl;
  of_pick = refl;
  win_of_pick = refl;
  scatters_of_pick = refl;
  prize_of_pick = refl;
  of_gambles = refl;
  win_of_gambles = refl;
}

pub hands : Hands
hands = record { of_zeros = refl; royal = refl; pay_of_royal = refl; of_ace = refl; ace_low = refl }

pub table_rows : TableRows
table_rows = record { strips = refl; symbols = refl; pays = refl; prizes = refl; hands = refl }

pub line_rows : LineRows
line_rows = record { line_one = refl; line_two = refl; line_three = refl; line_four = refl; line_five = refl; line_six = refl; line_seven = refl; line_eight = refl; line_nine = refl; four_places = refl; three_places = refl; two_places = refl; not_from_the_left = refl; with_wild = refl; of_wilds = refl }

pub straights : Straights
straights = record { from_ace = refl; from_two = refl; from_three = refl; from_four = refl; from_five = refl; from_six = refl; from_seven = refl; from_eight = refl; from_nine = refl; from_ten = refl; from_jack = refl; from_queen = refl; from_king = refl; with_a_gap = refl }
