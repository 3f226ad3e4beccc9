-- The grammar of a script: a table of the words of each item's line, and the ranges of its fields.
use Rattle.std.specs.Prelude.{ℕ, ◌≡◌, ◌≢◌, ◌≤◌, List, [], ◌∷◌, All, codes, decimal, Option, Some, None}
use Rattle.std.specs.List.{join_with_byte}
use Rattle.gd_base.specs.declared.device.Device.{Device}
use Rattle.gd_base.specs.declared.event.Event.{Event}
use Rattle.gd_base.specs.declared.step.What.{What}
use Rattle.gd_base.specs.Texts.Names.{device_name, game_name, colour_name}
use Rattle.gd_base.specs.Texts.OfViews.{bits}
use Rattle.gd_script.specs.declared.item.Item.{Item}
use Rattle.gd_base.specs.declared.limits.TheConstants.{HELD_CARDS, MOST_AMOUNT, MOST_HOLD, MOST_PICK}
use Rattle.gd_disk.specs.declared.limits.TheConstants.{MOST_TORN}
use Rattle.gd_script.specs.declared.limits.TheConstants.{COMMENT_MARK, LAST_PLACE, LAST_PRINTABLE, LEAST_CUT, LEAST_PICK, MOST_BET, MOST_CUT, MOST_MASK, MOST_NUMBER, SPACE}
use Rattle.gd_base.specs.Texts.Names.{door_name, tilt_name}
use Rattle.gd_script.specs.Names.{order_name, unit_name, side_name, what_name}

-- ================ the words of a line

abbrev pub event_words : Event → List (List ℕ)
event_words (Event.Bill value) = codes "bill" ∷ decimal value ∷ []
event_words Event.BillJam = codes "bill-jam" ∷ []
event_words Event.StackerFull = codes "stacker-full" ∷ []
event_words (Event.Coin value) = codes "coin" ∷ decimal value ∷ []
event_words Event.CoinJam = codes "coin-jam" ∷ []
event_words (Event.VoucherIn id value) = codes "voucher" ∷ decimal id ∷ decimal value ∷ []
event_words (Event.Printed order) = codes "printed" ∷ decimal order ∷ []
event_words (Event.PrintFail order) = codes "print-fail" ∷ decimal order ∷ []
event_words Event.PaperOut = codes "paper-out" ∷ []
event_words (Event.CoinPaid order) = codes "coin-paid" ∷ decimal order ∷ []
event_words (Event.HopperEmpty order) = codes "hopper-empty" ∷ decimal order ∷ []
event_words (Event.DoorOpen door) = codes "open" ∷ door_name door ∷ []
event_words (Event.DoorShut door) = codes "shut" ∷ door_name door ∷ []
event_words (Event.Play game bet) = codes "play" ∷ game_name game ∷ decimal bet ∷ []
event_words (Event.Pick door) = codes "pick" ∷ decimal door ∷ []
event_words (Event.Hold mask) = codes "hold" ∷ bits mask 0 HELD_CARDS ∷ []
event_words (Event.Gamble colour) = colour_name colour ∷ []
event_words Event.Take = codes "take" ∷ []
event_words Event.CashOut = codes "cashout" ∷ []
event_words (Event.ClearTilt tilt) = codes "clear-tilt" ∷ tilt_name tilt ∷ []
event_words Event.HandpayDone = codes "handpay" ∷ []
event_words Event.Start = []

-- `open` stands for the number of the open order
abbrev pub order_number : Option ℕ → List ℕ
order_number None = codes "open"
order_number (Some order) = decimal order

abbrev pub show_words : What → List (List ℕ)
show_words What.Order = codes "order" ∷ []
show_words what = codes "show" ∷ what_name what ∷ []

abbrev pub item_words : Item → List (List ℕ)
item_words (Item.Event event) = event_words event
item_words (Item.OrderEvent kind order) = order_name kind ∷ order_number order ∷ []
item_words (Item.Again device) = codes "again" ∷ device_name device ∷ []
item_words (Item.As number event) = codes "as" ∷ decimal number ∷ event_words event
item_words Item.Off = codes "off" ∷ []
item_words Item.On = codes "on" ∷ []
item_words (Item.Cut unit count torn) = codes "cut" ∷ unit_name unit ∷ decimal count ∷ decimal torn ∷ []
item_words (Item.Alter side at mask) = codes "alter" ∷ side_name side ∷ decimal at ∷ decimal mask ∷ []
item_words Item.Clear = codes "clear" ∷ []
item_words (Item.Show what) = show_words what
item_words Item.Skip = codes "#" ∷ []

-- the words with one space between each two
abbrev pub line_text : Item → List ℕ
line_text item = join_with_byte SPACE (item_words item)

-- ================ which items have a line

abbrev pub IsNumber : ℕ → Type 0
IsNumber n = n ≤ MOST_NUMBER

-- the ranges of an event's fields; no line says that the power came back
abbrev pub IsLineEvent : Event → Type 0
IsLineEvent (Event.Bill value) = value ≤ MOST_AMOUNT
IsLineEvent (Event.Coin value) = value ≤ MOST_AMOUNT
IsLineEvent (Event.VoucherIn id value) = IsNumber id × (value ≤ MOST_AMOUNT)
IsLineEvent (Event.Printed order) = IsNumber order
IsLineEvent (Event.PrintFail order) = IsNumber order
IsLineEvent (Event.CoinPaid order) = IsNumber order
IsLineEvent (Event.HopperEmpty order) = IsNumber order
IsLineEvent (Event.Play game bet) = bet ≤ MOST_BET
IsLineEvent (Event.Pick door) = (LEAST_PICK ≤ door) × (door ≤ MOST_PICK)
IsLineEvent (Event.Hold mask) = mask ≤ MOST_HOLD
IsLineEvent Event.Start = ⊥
IsLineEvent _ = Unit {0}

-- an event of an order stands alone as `OrderEvent`, and behind `as` as the event that it is
abbrev pub NamesNoOrder : Event → Type 0
NamesNoOrder (Event.Printed order) = ⊥
NamesNoOrder (Event.PrintFail order) = ⊥
NamesNoOrder (Event.CoinPaid order) = ⊥
NamesNoOrder (Event.HopperEmpty order) = ⊥
NamesNoOrder _ = Unit {0}

abbrev pub IsOrderNumber : Option ℕ → Type 0
IsOrderNumber None = Unit {0}
IsOrderNumber (Some order) = IsNumber order

-- the items that a line can say
abbrev pub InGrammar : Item → Type 0
InGrammar (Item.Event event) = IsLineEvent event × NamesNoOrder event
InGrammar (Item.OrderEvent kind order) = IsOrderNumber order
InGrammar (Item.Again device) = device ≢ Device.Power
InGrammar (Item.As number event) = IsNumber number × IsLineEvent event
InGrammar (Item.Cut unit count torn) = (LEAST_CUT ≤ count) × (count ≤ MOST_CUT) × (torn ≤ MOST_TORN)
InGrammar (Item.Alter side at mask) = (at ≤ LAST_PLACE) × (mask ≤ MOST_MASK)
InGrammar _ = Unit {0}

-- ================ what a line says

-- from the space to the tilde
abbrev pub IsPrintable : ℕ → Type 0
IsPrintable b = (SPACE ≤ b) × (b ≤ LAST_PRINTABLE)

-- an empty line, or one that begins with `#`
abbrev pub IsComment : List ℕ → Type 0
IsComment [] = Unit {0}
IsComment (b ∷ bytes) = (b ≡ COMMENT_MARK) × All IsPrintable bytes

-- the line says the item: it is a comment, or it is the item's words
abbrev pub Says : List ℕ → Item → Type 0
Says line Item.Skip = IsComment line
Says line item = (line ≡ line_text item) × InGrammar item
