-- The item that a line says, computed from its words.
use Rattle.std.specs.Prelude.{ℕ, ◌+◌, ◌*◌, ◌==◌, nat_le, Bool, true, ◌&&◌, if◌then◌else◌, List, [], ◌∷◌, codes, decimal, find, length, slice_index, option_map, option_and_then, ok_or, Option, None, Some, Result, Err}
use Rattle.std.specs.List.{list_all, slice_split}
use Rattle.std.specs.Str.{bytes_eq}
use Rattle.std.specs.Str.Parse.{digits_value}
use Rattle.gd_base.specs.declared.game.Colour.{Colour}
use Rattle.gd_base.specs.declared.event.Event.{Event}
use Rattle.gd_base.specs.declared.step.What.{What}
use Rattle.gd_base.specs.Texts.Names.{device_name, game_name}
use Rattle.gd_disk.specs.declared.disk.CutUnit.{CutUnit}
use Rattle.gd_script.specs.declared.item.Item.{Item}
use Rattle.gd_script.specs.declared.item.LineFault.{LineFault}
use Rattle.gd_script.specs.declared.item.OrderWord.{OrderWord}
use Rattle.gd_disk.specs.declared.side.Side.{Side}
use Rattle.gd_script.specs.declared.keyword.Keyword.{Keyword}
use Rattle.gd_script.specs.declared.keyword.TheConstants.{KEYWORDS}
use Rattle.gd_base.specs.declared.limits.TheConstants.{HELD_CARDS, MOST_AMOUNT, MOST_PICK}
use Rattle.gd_disk.specs.declared.limits.TheConstants.{MOST_TORN}
use Rattle.gd_script.specs.declared.limits.TheConstants.{COMMENT_MARK, LAST_PLACE, LAST_PRINTABLE, LEAST_CUT, LEAST_PICK, LINE_LEN, MOST_BET, MOST_CUT, MOST_MASK, MOST_NUMBER, ONE, SPACE, ZERO}
use Rattle.gd_script.specs.declared.tables.TheConstants.{DEVICES, DOORS, GAMES, SHOWN, SIDES, TILTS, UNITS}
use Rattle.gd_base.specs.Texts.Names.{door_name, tilt_name}
use Rattle.gd_script.specs.Names.{unit_name, side_name, what_name}

-- ================ words

-- what stands between the spaces
abbrev pub words : List ℕ → List (List ℕ)
words text = slice_split (λ b. b == SPACE) text

-- the words of what stands behind a space, if there is one
abbrev pub words_behind : Option (List ℕ) → List (List ℕ)
words_behind None = []
words_behind (Some text) = words text

-- the one of them that has this name
unfoldable pub value_named : {T : Type 0} → (T → List ℕ) → List T → List ℕ → Option T
value_named name all text = find (λ one. bytes_eq (name one) text) all

abbrev pub keyword_name : Keyword → List ℕ
keyword_name Keyword.Bill = codes "bill"
keyword_name Keyword.BillJam = codes "bill-jam"
keyword_name Keyword.StackerFull = codes "stacker-full"
keyword_name Keyword.Coin = codes "coin"
keyword_name Keyword.CoinJam = codes "coin-jam"
keyword_name Keyword.Voucher = codes "voucher"
keyword_name Keyword.Printed = codes "printed"
keyword_name Keyword.PrintFail = codes "print-fail"
keyword_name Keyword.PaperOut = codes "paper-out"
keyword_name Keyword.CoinPaid = codes "coin-paid"
keyword_name Keyword.HopperEmpty = codes "hopper-empty"
keyword_name Keyword.Open = codes "open"
keyword_name Keyword.Shut = codes "shut"
keyword_name Keyword.Play = codes "play"
keyword_name Keyword.Pick = codes "pick"
keyword_name Keyword.Hold = codes "hold"
keyword_name Keyword.Red = codes "red"
keyword_name Keyword.Black = codes "black"
keyword_name Keyword.Take = codes "take"
keyword_name Keyword.CashOut = codes "cashout"
keyword_name Keyword.ClearTilt = codes "clear-tilt"
keyword_name Keyword.Handpay = codes "handpay"
keyword_name Keyword.Again = codes "again"
keyword_name Keyword.As = codes "as"
keyword_name Keyword.Off = codes "off"
keyword_name Keyword.On = codes "on"
keyword_name Keyword.Cut = codes "cut"
keyword_name Keyword.Alter = codes "alter"
keyword_name Keyword.Clear = codes "clear"
keyword_name Keyword.Show = codes "show"
keyword_name Keyword.Order = codes "order"

unfoldable pub keyword_of : List ℕ → Option Keyword
keyword_of word = value_named keyword_name KEYWORDS word

-- the only word
abbrev pub only_word : List (List ℕ) → Option (List ℕ)
only_word (a ∷ []) = Some a
only_word _ = None

-- the two words
abbrev pub word_pair : List (List ℕ) → Option (List ℕ × List ℕ)
word_pair (a ∷ b ∷ []) = Some (a, b)
word_pair _ = None

-- ================ fields

abbrev pub option_map_both : {A B C : Type 0} → (A → B → C) → Option A → Option B → Option C
option_map_both f (Some a) (Some b) = Some (f a b)
option_map_both f _ _ = None

-- the number in this range whose decimal digits the word is, without sign and without leading zeros
unfoldable pub number_in : ℕ → ℕ → List ℕ → Option ℕ
number_in least most word =
    if nat_le least (digits_value 10 word) && nat_le (digits_value 10 word) most
    && bytes_eq word (decimal (digits_value 10 word))
    then Some (digits_value 10 word) else None

abbrev pub amount_in_word : List ℕ → Option ℕ
amount_in_word word = number_in 0 MOST_AMOUNT word

abbrev pub number_of : List ℕ → Option ℕ
number_of word = number_in 0 MOST_NUMBER word

-- a digit of `hold`
abbrev pub bit_of : ℕ → Option ℕ
bit_of c = if c == ZERO then Some 0 else if c == ONE then Some 1 else None

abbrev pub bit_at : List ℕ → ℕ → Option ℕ
bit_at word i = bit_of (slice_index word i)

abbrev pub mask_of : Option ℕ → Option ℕ → Option ℕ → Option ℕ → Option ℕ → Option ℕ
mask_of (Some a) (Some b) (Some c) (Some d) (Some e) = Some (a + 2 * b + 4 * c + 8 * d + 16 * e)
mask_of _ _ _ _ _ = None

-- the mask of five digits, the first for the first card
unfoldable pub hold_of : List ℕ → Option ℕ
hold_of word =
    if length word == HELD_CARDS
    then mask_of (bit_at word 0) (bit_at word 1) (bit_at word 2) (bit_at word 3) (bit_at word 4) else None

-- an order's number, or none for the open one
unfoldable pub order_of : List ℕ → Option (Option ℕ)
order_of word = if bytes_eq word (codes "open") then Some None else option_map Some (number_of word)

-- ================ events

-- of a line that is one word
unfoldable pub bare_event : Keyword → Option Event
bare_event Keyword.BillJam = Some Event.BillJam
bare_event Keyword.StackerFull = Some Event.StackerFull
bare_event Keyword.CoinJam = Some Event.CoinJam
bare_event Keyword.PaperOut = Some Event.PaperOut
bare_event Keyword.Red = Some (Event.Gamble Colour.Red)
bare_event Keyword.Black = Some (Event.Gamble Colour.Black)
bare_event Keyword.Take = Some Event.Take
bare_event Keyword.CashOut = Some Event.CashOut
bare_event Keyword.Handpay = Some Event.HandpayDone
bare_event _ = None

abbrev pub voucher_of : Option (List ℕ × List ℕ) → Option Event
voucher_of None = None
voucher_of (Some p) = option_map_both Event.VoucherIn (number_of p.0) (amount_in_word p.1)

abbrev pub play_of : Option (List ℕ × List ℕ) → Option Event
play_of None = None
play_of (Some p) = option_map_both Event.Play (value_named game_name GAMES p.0) (number_in 0 MOST_BET p.1)

-- of a line of this first word, by the words behind it
unfoldable pub event_with : Keyword → List (List ℕ) → Option Event
event_with Keyword.Bill fields = option_map Event.Bill (option_and_then amount_in_word (only_word fields))
event_with Keyword.Coin fields = option_map Event.Coin (option_and_then amount_in_word (only_word fields))
event_with Keyword.Voucher fields = voucher_of (word_pair fields)
event_with Keyword.Printed fields = option_map Event.Printed (option_and_then number_of (only_word fields))
event_with Keyword.PrintFail fields = option_map Event.PrintFail (option_and_then number_of (only_word fields))
event_with Keyword.CoinPaid fields = option_map Event.CoinPaid (option_and_then number_of (only_word fields))
event_with Keyword.HopperEmpty fields = option_map Event.HopperEmpty (option_and_then number_of (only_word fields))
event_with Keyword.Open fields =
    option_map Event.DoorOpen (option_and_then (value_named door_name DOORS) (only_word fields))
event_with Keyword.Shut fields =
    option_map Event.DoorShut (option_and_then (value_named door_name DOORS) (only_word fields))
event_with Keyword.Play fields = play_of (word_pair fields)
event_with Keyword.Pick fields =
    option_map Event.Pick (option_and_then (number_in LEAST_PICK MOST_PICK) (only_word fields))
event_with Keyword.Hold fields = option_map Event.Hold (option_and_then hold_of (only_word fields))
event_with Keyword.ClearTilt fields =
    option_map Event.ClearTilt (option_and_then (value_named tilt_name TILTS) (only_word fields))
event_with _ fields = None

abbrev pub event_by : Option Keyword → List (List ℕ) → Option Event
event_by None fields = None
event_by (Some keyword) [] = bare_event keyword
event_by (Some keyword) (field ∷ fields) = event_with keyword (field ∷ fields)

unfoldable pub event_of : List (List ℕ) → Option Event
event_of [] = None
event_of (first ∷ fields) = event_by (keyword_of first) fields

-- ================ items

unfoldable pub bare_item : Keyword → Option Item
bare_item Keyword.Off = Some Item.Off
bare_item Keyword.On = Some Item.On
bare_item Keyword.Clear = Some Item.Clear
bare_item Keyword.Order = Some (Item.Show What.Order)
bare_item keyword = option_map Item.Event (bare_event keyword)

abbrev pub numbered_item : List (List ℕ) → Option Item
numbered_item [] = None
numbered_item (number ∷ event) = option_map_both Item.As (number_of number) (event_of event)

abbrev pub cut_of : Option CutUnit → Option (List ℕ × List ℕ) → Option Item
cut_of (Some unit) (Some p) =
    option_map_both (Item.Cut unit) (number_in LEAST_CUT MOST_CUT p.0) (number_in 0 MOST_TORN p.1)
cut_of _ _ = None

abbrev pub alter_of : Option Side → Option (List ℕ × List ℕ) → Option Item
alter_of (Some side) (Some p) =
    option_map_both (Item.Alter side) (number_in 0 LAST_PLACE p.0) (number_in 0 MOST_MASK p.1)
alter_of _ _ = None

abbrev pub cut_item : List (List ℕ) → Option Item
cut_item [] = None
cut_item (unit ∷ fields) = cut_of (value_named unit_name UNITS unit) (word_pair fields)

abbrev pub alter_item : List (List ℕ) → Option Item
alter_item [] = None
alter_item (side ∷ fields) = alter_of (value_named side_name SIDES side) (word_pair fields)

unfoldable pub item_with : Keyword → List (List ℕ) → Option Item
item_with Keyword.Printed fields =
    option_map (Item.OrderEvent OrderWord.Printed) (option_and_then order_of (only_word fields))
item_with Keyword.PrintFail fields =
    option_map (Item.OrderEvent OrderWord.PrintFail) (option_and_then order_of (only_word fields))
item_with Keyword.CoinPaid fields =
    option_map (Item.OrderEvent OrderWord.CoinPaid) (option_and_then order_of (only_word fields))
item_with Keyword.HopperEmpty fields =
    option_map (Item.OrderEvent OrderWord.HopperEmpty) (option_and_then order_of (only_word fields))
item_with Keyword.Again fields =
    option_map Item.Again (option_and_then (value_named device_name DEVICES) (only_word fields))
item_with Keyword.As fields = numbered_item fields
item_with Keyword.Cut fields = cut_item fields
item_with Keyword.Alter fields = alter_item fields
item_with Keyword.Show fields = option_map Item.Show (option_and_then (value_named what_name SHOWN) (only_word fields))
item_with keyword fields = option_map Item.Event (event_with keyword fields)

abbrev pub item_by : Option Keyword → List (List ℕ) → Option Item
item_by None fields = None
item_by (Some keyword) [] = bare_item keyword
item_by (Some keyword) (field ∷ fields) = item_with keyword (field ∷ fields)

unfoldable pub item_of_words : List (List ℕ) → Option Item
item_of_words [] = None
item_of_words (first ∷ fields) = item_by (keyword_of first) fields

-- ================ lines

abbrev pub is_printable : ℕ → Bool
is_printable b = nat_le SPACE b && nat_le b LAST_PRINTABLE

-- an empty line, or one that begins with `#`
abbrev pub is_comment : List ℕ → Bool
is_comment [] = true
is_comment (b ∷ bytes) = b == COMMENT_MARK && list_all is_printable bytes

-- the item that a line says; None where it is no line of the grammar
unfoldable pub item_of : List ℕ → Option Item
item_of line = if is_comment line then Some Item.Skip else item_of_words (words line)

-- what reading a line answers
unfoldable pub read_of : List ℕ → Result Item LineFault
read_of line = if nat_le (length line) LINE_LEN then ok_or (item_of line) LineFault.NotALine else Err LineFault.TooLong
