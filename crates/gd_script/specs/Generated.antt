-- The items of a soak run, each by the run's seed and the item's place, from 0.
use Rattle.std.specs.Prelude.{ℕ, ◌+◌, ◌*◌, ◌/◌, ◌%◌, ◌^◌, ◌==◌, nat_le, Bool, true, false, not, if◌then◌else◌, List, [], ◌∷◌, map, slice_index, bit_xor, None}
use Rattle.std.specs.List.{range_with_len}
use Rattle.gd_base.specs.declared.condition.Door.{Door}
use Rattle.gd_base.specs.declared.condition.Tilt.{Tilt}
use Rattle.gd_base.specs.declared.event.Event.{Event}
use Rattle.gd_base.specs.declared.game.Colour.{Colour}
use Rattle.gd_base.specs.declared.game.Game.{Game}
use Rattle.gd_disk.specs.declared.disk.CutUnit.{CutUnit}
use Rattle.gd_script.specs.declared.item.Item.{Item}
use Rattle.gd_script.specs.declared.item.OrderWord.{OrderWord}

-- ================ random words

-- a word, combined by exclusive or with itself, moved down by so many bits
abbrev pub folded : ℕ → ℕ → ℕ
folded word places = bit_xor word (word / 2 ^ places)

-- word k of SplitMix64 from a seed, from 0
unfoldable pub random_word : ℕ → ℕ → ℕ
random_word seed k =
    let start = (seed + (k + 1) * 0x9E3779B97F4A7C15) % 2 ^ 64 in
    let once = folded start 30 * 0xBF58476D1CE4E5B9 % 2 ^ 64 in
    let twice = folded once 27 * 0x94D049BB133111EB % 2 ^ 64 in
    folded twice 31

-- ================ items

-- a cut of the power in one of the next six syncs, by the rest of a word
abbrev pub cut_by : ℕ → Item
cut_by rest = Item.Cut CutUnit.Sync (1 + rest % 6) (rest % 4)

-- a bill, in cents
abbrev pub bill_by : ℕ → Event
bill_by rest = Event.Bill (slice_index (100 ∷ 500 ∷ 1000 ∷ 2000 ∷ 5000 ∷ 10000 ∷ []) (rest % 6))

-- the main door, opened or shut
abbrev pub door_by : ℕ → Event
door_by rest = if rest % 2 == 0 then Event.DoorOpen Door.Main else Event.DoorShut Door.Main

-- a stuck bill, or what the attendant does
abbrev pub attendance_by : ℕ → Event
attendance_by rest =
    if rest % 3 == 0 then Event.BillJam
    else if rest % 3 == 1 then Event.ClearTilt Tilt.BillJam
    else Event.HandpayDone

-- the item of place k by its kind, 0 to 31, and by the rest of a word: each test names the last kind of its row
unfoldable pub item_by_kind : ℕ → ℕ → ℕ → Item
item_by_kind k kind rest =
    if nat_le kind 5 then Item.Event (bill_by rest)
    else if nat_le kind 6 then Item.Event (Event.Coin 25)
    else if nat_le kind 7 then Item.Event (Event.VoucherIn (k + 1) (1 + rest % 10000))
    else if nat_le kind 13 then Item.Event (Event.Play Game.Reels (1 + rest % 9))
    else if nat_le kind 17 then Item.Event (Event.Play Game.Poker (1 + rest % 5))
    else if nat_le kind 20 then Item.Event (Event.Hold (rest % 32))
    else if nat_le kind 22 then Item.Event (Event.Pick (1 + rest % 5))
    else if nat_le kind 23 then Item.Event (Event.Gamble Colour.Black)
    else if nat_le kind 24 then Item.Event (Event.Gamble Colour.Red)
    else if nat_le kind 26 then Item.Event Event.Take
    else if nat_le kind 27 then Item.Event Event.CashOut
    else if nat_le kind 28 then Item.OrderEvent OrderWord.Printed None
    else if nat_le kind 29 then Item.OrderEvent OrderWord.CoinPaid None
    else if nat_le kind 30 then Item.Event (door_by rest)
    else Item.Event (attendance_by rest)

-- the item of place k: a cut in the middle of each 500, and else by the kind and the rest of the place's word
unfoldable pub generated : ℕ → ℕ → Item
generated seed k =
    let word = random_word seed k in
    if k % 500 == 250 then cut_by (word / 32)
    else item_by_kind k (word % 32) (word / 32)

-- the first n items of a run
abbrev pub items_generated : (seed n : ℕ) → List Item
items_generated seed n = map (generated seed) (range_with_len 0 n)

-- ================ what comes among them

-- the power came back: no line of a script says it
abbrev pub is_start : Event → Bool
is_start Event.Start = true
is_start _ = false

-- an event that a line can say, under its device's next number, an event of an order, or a cut
abbrev pub is_soak_item : Item → Bool
is_soak_item (Item.Event event) = not (is_start event)
is_soak_item (Item.OrderEvent kind order) = true
is_soak_item (Item.Cut unit count torn) = true
is_soak_item _ = false

-- so many of the first n items are cuts
abbrev pub cuts_generated : ℕ → ℕ
cuts_generated n = (n + 249) / 500
