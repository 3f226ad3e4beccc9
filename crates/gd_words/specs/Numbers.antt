-- Numbers in decimal, without sign and without leading zeros.
use Rattle.std.specs.Prelude.{ℕ, ◌^◌, nat_le, nat_lt, ◌&&◌, if◌then◌else◌, List, decimal, option_and_then, Option, None, Some}
use Rattle.std.specs.Str.{bytes_eq}
use Rattle.std.specs.Str.Parse.{digits_value}
use Rattle.gd_words.specs.declared.limits.TheConstants.{LEAST_ITEMS, MOST_ITEMS}

-- the number below 2 ^ 64 whose decimal digits the text is
unfoldable pub number_of : List ℕ → Option ℕ
number_of text =
    if nat_lt (digits_value 10 text) (2 ^ 64) && bytes_eq text (decimal (digits_value 10 text))
    then Some (digits_value 10 text) else None

abbrev pub items_number : ℕ → Option ℕ
items_number n = if nat_le LEAST_ITEMS n && nat_le n MOST_ITEMS then Some n else None

-- the number of items that the text says
abbrev pub items_of : List ℕ → Option ℕ
items_of text = option_and_then items_number (number_of text)
