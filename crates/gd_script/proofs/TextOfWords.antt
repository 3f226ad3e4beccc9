-- Words put into a line, and found there again.
use Rattle.std.proofs.Common.{◌≡◌, ℕ, ◌*◌, ◌<◌, ◌≤◌, ◌==◌, nat_le, Bool, true, false, ◌&&◌, if◌then◌else◌, List, [], ◌∷◌, All, codes, decimal, get_or, length, Option, None, Some, refl, ap, ◌∙◌, arith, length-append}
use Rattle.std.proofs.lemmas.Bool.Decides.{nat_tests}
use Rattle.std.proofs.lemmas.Fmt.{length-decimal-le}
use Rattle.std.proofs.lemmas.List.Elements.{All-append, All-cons, All-from_get_or, All-get_or}
use Rattle.std.proofs.lemmas.List.Splits.{slice_split_none, slice_split_at}
use Rattle.std.proofs.lemmas.List.Sums.{AllPass-from_list_all}
use Rattle.std.specs.Int.{IsInRange}
use Rattle.std.specs.List.{join_with_byte, list_all}
use Rattle.gd_base.specs.declared.game.Colour.{Colour}
use Rattle.gd_base.specs.declared.device.Device.{Device}
use Rattle.gd_base.specs.declared.condition.Door.{Door}
use Rattle.gd_base.specs.declared.event.Event.{Event}
use Rattle.gd_base.specs.declared.game.Game.{Game}
use Rattle.gd_base.specs.declared.condition.Tilt.{Tilt}
use Rattle.gd_base.specs.declared.step.What.{What}
use Rattle.gd_base.specs.Games.Chance.{has_bit}
use Rattle.gd_base.specs.Texts.Names.{device_name, game_name}
use Rattle.gd_base.specs.Texts.OfViews.{bits}
use Rattle.gd_disk.specs.declared.disk.CutUnit.{CutUnit}
use Rattle.gd_script.specs.declared.item.Item.{Item}
use Rattle.gd_script.specs.declared.item.OrderWord.{OrderWord}
use Rattle.gd_disk.specs.declared.side.Side.{Side}
use Rattle.gd_script.specs.declared.limits.TheConstants.{MOST_NUMBER}
use Rattle.gd_script.specs.Grammar.{event_words, InGrammar, IsLineEvent, IsOrderNumber, IsPrintable, item_words, order_number, show_words}
use Rattle.gd_base.specs.Texts.Names.{door_name, tilt_name}
use Rattle.gd_script.specs.Names.{order_name, side_name, unit_name, what_name}
use Rattle.gd_script.specs.Reading.{words}
use Rattle.gd_script.proofs.NameTables.{Each}
use Rattle.gd_script.proofs.Numbers.{both, decimal_digit_at, from_at_most}

-- ================ a word

is_word_byte : ℕ → Bool
is_word_byte b = nat_le 33 b && nat_le b 126

abbrev pub IsWordByte : ℕ → Type 0
IsWordByte b = (33 ≤ b) × (b ≤ 126)

-- printable bytes without a space, at most 20 of them
abbrev pub IsWord : List ℕ → Type 0
IsWord word = All IsWordByte word × (length word ≤ 20)

word_byte : (b : ℕ) → is_word_byte b ≡ true → IsWordByte b
unfolding is_word_byte
word_byte b e = let t = both (nat_le 33 b) (nat_le b 126) e in (from_at_most 33 b t.0, from_at_most b 126 t.1)

of_word_bytes : (word : List ℕ) → list_all is_word_byte word ≡ true → All IsWordByte word
of_word_bytes word e =
    let pass = AllPass-from_list_all is_word_byte word e in
    All-from_get_or IsWordByte word 0 (λ i lt. word_byte (get_or word i 0) (All-get_or (λ b. is_word_byte b ≡ true) word i 0 lt pass))

-- a text whose bytes are known
known : (word : List ℕ) → (list_all is_word_byte word && nat_le (length word) 20) ≡ true → IsWord word
known word e = let t = both (list_all is_word_byte word) (nat_le (length word) 20) e in (of_word_bytes word t.0, from_at_most (length word) 20 t.1)

number_byte : (b : ℕ) → IsInRange 48 57 b → IsWordByte b
number_byte b h = (omega (arith, h), omega (arith, h))

number_word : (n : ℕ) → n ≤ MOST_NUMBER → IsWord (decimal n)
number_word n h =
    (All-from_get_or IsWordByte (decimal n) 0 (λ i lt. number_byte (get_or (decimal n) i 0) (decimal_digit_at n (omega arith) i lt)), length-decimal-le 20 n (omega arith) (omega arith) (omega arith))

digit_byte : (b : Bool) → is_word_byte (if b then 49 else 48) ≡ true
unfolding is_word_byte
digit_byte true = refl
digit_byte false = refl

five_digits : (a b c d e : Bool)
    → list_all is_word_byte ((if a then 49 else 48) ∷ (if b then 49 else 48) ∷ (if c then 49 else 48) ∷ (if d then 49 else 48) ∷ (if e then 49 else 48) ∷ []) ≡ true
five_digits a b c d e = rw (digit_byte a, digit_byte b, digit_byte c, digit_byte d, digit_byte e) refl

bits_word : (mask : ℕ) → IsWord (bits mask 0 5)
bits_word mask = (of_word_bytes (bits mask 0 5) (five_digits (has_bit mask 0) (has_bit mask 1) (has_bit mask 2) (has_bit mask 3) (has_bit mask 4)), omega arith)

-- ================ names

door_word : (door : Door) → IsWord (door_name door)
unfolding is_word_byte
door_word Door.Logic = known (door_name Door.Logic) refl
door_word door = known (door_name door) refl

tilt_word : (tilt : Tilt) → IsWord (tilt_name tilt)
unfolding is_word_byte
tilt_word Tilt.BillJam = known (tilt_name Tilt.BillJam) refl
tilt_word tilt = known (tilt_name tilt) refl

game_word : (game : Game) → IsWord (game_name game)
unfolding is_word_byte
game_word Game.Reels = known (game_name Game.Reels) refl
game_word game = known (game_name game) refl

device_word : (device : Device) → IsWord (device_name device)
unfolding is_word_byte
device_word Device.Bill = known (device_name Device.Bill) refl
device_word device = known (device_name device) refl

order_word : (kind : OrderWord) → IsWord (order_name kind)
unfolding is_word_byte
order_word OrderWord.Printed = known (order_name OrderWord.Printed) refl
order_word kind = known (order_name kind) refl

unit_word : (unit : CutUnit) → IsWord (unit_name unit)
unfolding is_word_byte
unit_word CutUnit.Call = known (unit_name CutUnit.Call) refl
unit_word unit = known (unit_name unit) refl

side_word : (side : Side) → IsWord (side_name side)
unfolding is_word_byte
side_word Side.A = known (side_name Side.A) refl
side_word side = known (side_name side) refl

what_word : (what : What) → IsWord (what_name what)
unfolding is_word_byte
what_word What.Meters = known (what_name What.Meters) refl
what_word what = known (what_name what) refl

-- ================ the words of each line

pub event_of_words : (e : Event) → IsLineEvent e → Each IsWord (event_words e)
unfolding is_word_byte
event_of_words (Event.Bill value) h = (known (codes "bill") refl, (number_word value (omega arith), tt))
event_of_words (Event.Coin value) h = (known (codes "coin") refl, (number_word value (omega arith), tt))
event_of_words (Event.VoucherIn id value) h = (known (codes "voucher") refl, (number_word id h.0, (number_word value (omega (arith, h.1)), tt)))
event_of_words (Event.Printed order) h = (known (codes "printed") refl, (number_word order h, tt))
event_of_words (Event.PrintFail order) h = (known (codes "print-fail") refl, (number_word order h, tt))
event_of_words (Event.CoinPaid order) h = (known (codes "coin-paid") refl, (number_word order h, tt))
event_of_words (Event.HopperEmpty order) h = (known (codes "hopper-empty") refl, (number_word order h, tt))
event_of_words (Event.DoorOpen door) h = (known (codes "open") refl, (door_word door, tt))
event_of_words (Event.DoorShut door) h = (known (codes "shut") refl, (door_word door, tt))
event_of_words (Event.Play game bet) h = (known (codes "play") refl, (game_word game, (number_word bet (omega arith), tt)))
event_of_words (Event.Pick door) h = (known (codes "pick") refl, (number_word door (omega (arith, h.1)), tt))
event_of_words (Event.Hold mask) h = (known (codes "hold") refl, (bits_word mask, tt))
event_of_words (Event.Gamble Colour.Red) h = (known (codes "red") refl, tt)
event_of_words (Event.Gamble Colour.Black) h = (known (codes "black") refl, tt)
event_of_words (Event.ClearTilt tilt) h = (known (codes "clear-tilt") refl, (tilt_word tilt, tt))
event_of_words Event.BillJam h = (known (codes "bill-jam") refl, tt)
event_of_words Event.StackerFull h = (known (codes "stacker-full") refl, tt)
event_of_words Event.CoinJam h = (known (codes "coin-jam") refl, tt)
event_of_words Event.PaperOut h = (known (codes "paper-out") refl, tt)
event_of_words Event.Take h = (known (codes "take") refl, tt)
event_of_words Event.CashOut h = (known (codes "cashout") refl, tt)
event_of_words Event.HandpayDone h = (known (codes "handpay") refl, tt)
event_of_words Event.Start h = absurd h

order_number_word : (order : Option ℕ) → IsOrderNumber order → IsWord (order_number order)
unfolding is_word_byte
order_number_word None h = known (codes "open") refl
order_number_word (Some n) h = number_word n h

show_of_words : (what : What) → Each IsWord (show_words what)
unfolding is_word_byte
show_of_words What.Order = (known (codes "order") refl, tt)
show_of_words what = (known (codes "show") refl, (what_word what, tt))

pub item_of_its_words : (item : Item) → InGrammar item → Each IsWord (item_words item)
unfolding is_word_byte
item_of_its_words (Item.Event e) h = event_of_words e h.0
item_of_its_words (Item.OrderEvent kind order) h = (order_word kind, (order_number_word order h, tt))
item_of_its_words (Item.Again device) h = (known (codes "again") refl, (device_word device, tt))
item_of_its_words (Item.As number e) h = (known (codes "as") refl, (number_word number h.0, event_of_words e h.1))
item_of_its_words Item.Off h = (known (codes "off") refl, tt)
item_of_its_words Item.On h = (known (codes "on") refl, tt)
item_of_its_words (Item.Cut unit count torn) h = (known (codes "cut") refl, (unit_word unit, (number_word count (omega (arith, h.1)), (number_word torn (omega (arith, h.2)), tt))))
item_of_its_words (Item.Alter side at mask) h = (known (codes "alter") refl, (side_word side, (number_word at (omega (arith, h.0)), (number_word mask (omega (arith, h.1)), tt))))
item_of_its_words Item.Clear h = (known (codes "clear") refl, tt)
item_of_its_words (Item.Show what) h = show_of_words what
item_of_its_words Item.Skip h = (known (codes "#") refl, tt)

-- how many there are
pub event_has_words : (e : Event) → IsLineEvent e → (0 < length (event_words e)) × (length (event_words e) ≤ 3)
event_has_words Event.Start h = absurd h
event_has_words e h = (omega arith, omega arith)

pub item_has_words : (item : Item) → InGrammar item → (0 < length (item_words item)) × (length (item_words item) ≤ 5)
item_has_words (Item.Event e) h = let n = event_has_words e h.0 in (n.0, omega (arith, n.1))
item_has_words (Item.As number e) h = let n = event_has_words e h.1 in (omega arith, omega (arith, n.1))
item_has_words (Item.Show What.Order) h = (omega arith, omega arith)
item_has_words (Item.Show what) h = (omega arith, omega arith)
item_has_words item h = (omega arith, omega arith)

-- ================ the line and its words

no_space_byte : (b : ℕ) → IsWordByte b → (b == 32) ≡ false
no_space_byte b h = grind (arith, nat_tests)

no_space : (word : List ℕ) → All IsWordByte word → All (λ b. (b == 32) ≡ false) word
no_space word h = All-from_get_or (λ b. (b == 32) ≡ false) word 0 (λ i lt. no_space_byte (get_or word i 0) (All-get_or IsWordByte word i 0 lt h))

join_split : (word : List ℕ) (rest : List (List ℕ)) → Each IsWord (word ∷ rest) → words (join_with_byte 32 (word ∷ rest)) ≡ word ∷ rest
join_split word [] h = slice_split_none (λ b. b == 32) word (no_space word h.0.0)
join_split word (next ∷ rest) h = slice_split_at (λ b. b == 32) word 32 (join_with_byte 32 (next ∷ rest)) (no_space word h.0.0) refl ∙ ap (λ ws. word ∷ ws) (join_split next rest h.1)

pub words_found : (ws : List (List ℕ)) → 0 < length ws → Each IsWord ws → words (join_with_byte 32 ws) ≡ ws
words_found [] n h = absurd (omega arith)
words_found (word ∷ rest) n h = join_split word rest h

pub line_short : (ws : List (List ℕ)) → Each IsWord ws → length (join_with_byte 32 ws) ≤ 21 * length ws
line_short [] h = omega arith
line_short (word ∷ []) h = omega (arith, h.0.1)
line_short (word ∷ next ∷ rest) h =
    let more = line_short (next ∷ rest) h.1 in omega (arith, h.0.1, more, length-append word (32 ∷ join_with_byte 32 (next ∷ rest)))

printable_word : (word : List ℕ) → All IsWordByte word → All IsPrintable word
printable_word word h = All-from_get_or IsPrintable word 0 (λ i lt. let b = All-get_or IsWordByte word i 0 lt h in (omega (arith, b), omega (arith, b)))

pub line_printable : (ws : List (List ℕ)) → Each IsWord ws → All IsPrintable (join_with_byte 32 ws)
line_printable [] h = All-from_get_or IsPrintable [] 0 (λ i lt. absurd (omega arith))
line_printable (word ∷ []) h = printable_word word h.0.0
line_printable (word ∷ next ∷ rest) h =
    All-append IsPrintable word (32 ∷ join_with_byte 32 (next ∷ rest)) (printable_word word h.0.0)
    (All-cons IsPrintable 32 (join_with_byte 32 (next ∷ rest)) (omega arith, omega arith) (line_printable (next ∷ rest) h.1))
