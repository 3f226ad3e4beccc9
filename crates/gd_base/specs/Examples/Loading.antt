-- Worked rows of what payloads spell, to be computed.
use Rattle.std.specs.Prelude.{◌≡◌, ℕ, ◌+◌, true, false, List, [], ◌∷◌, ◌++◌, take, drop, replicate, option_map, None}
use Rattle.gd_base.specs.declared.play.PlayRecord.{PlayRecord}
use Rattle.gd_base.specs.Examples.Histories.{first_bill, open_pick, open_coins, cancelled, evening}
use Rattle.gd_base.specs.Examples.Payloads.{empty, with_digest}
use Rattle.gd_base.specs.Histories.View.{View}
use Rattle.gd_base.specs.Payloads.Bytes.{payload_of}
use Rattle.gd_base.specs.Payloads.ListsIn.{lists_in}
use Rattle.gd_base.specs.Payloads.Loading.{spelled}
use Rattle.gd_base.specs.Payloads.Spelled.{Spelled, Shows, Foreign, Unreadable}
use Rattle.gd_base.specs.Setups.BuiltIn.{built_in_setup}

-- what a payload spells to the built-in machine, under the digest of these views, and under another
abbrev pub told_of : List ℕ → Spelled View
told_of payload = spelled built_in_setup (replicate 32 7) payload

abbrev pub told_elsewhere : List ℕ → Spelled View
told_elsewhere payload = spelled built_in_setup (replicate 32 8) payload

-- a payload with another byte at a place
abbrev pub with_byte : ℕ → ℕ → List ℕ → List ℕ
with_byte place byte payload = take place payload ++ byte ∷ drop (place + 1) payload

-- and what that of the empty view spells then
abbrev pub altered : ℕ → ℕ → Spelled View
altered place byte = told_of (with_byte place byte (payload_of empty))

-- an open pick whose wager is a cent more than that of its bet
abbrev pub with_wager : PlayRecord → PlayRecord
with_wager p = record p { wager = p.wager + 1 }

abbrev pub other_wager : View
other_wager = record (with_digest open_pick) { play = option_map with_wager open_pick.play }

-- ================ the rows

-- views of histories are shown by their payloads, with an open play, order or handpay, and with lists of recall
pub record AreShown : Type 0 where
  pub of_empty : told_of (payload_of empty) ≡ Shows empty
  pub of_bill : told_of (payload_of (with_digest first_bill)) ≡ Shows (with_digest first_bill)
  pub of_pick : told_of (payload_of (with_digest open_pick)) ≡ Shows (with_digest open_pick)
  pub of_order : told_of (payload_of (with_digest open_coins)) ≡ Shows (with_digest open_coins)
  pub of_handpay : told_of (payload_of (with_digest cancelled)) ≡ Shows (with_digest cancelled)
  pub of_evening : told_of (payload_of (with_digest evening)) ≡ Shows (with_digest evening)

-- under another digest that of the payload is told; the rules of the setup are tried under its own digest alone
pub record AreForeign : Type 0 where
  pub of_empty : told_elsewhere (payload_of empty) ≡ Foreign (replicate 32 7)
  pub of_wager : told_elsewhere (payload_of other_wager) ≡ Foreign (replicate 32 7)
  pub of_wager_here : told_of (payload_of other_wager) ≡ Unreadable

-- one byte of the empty view's payload changed: a door or a tilt that is named, and another digest
pub record OneByte : Type 0 where
  pub main_door : altered 176 2 ≡ Shows (record empty { doors = false ∷ true ∷ false ∷ false ∷ [] })
  pub hopper_empty : altered 177 32 ≡ Shows (record empty { tilts = false ∷ false ∷ false ∷ false ∷ false ∷ true ∷ [] })
  pub digest : altered 31 8 ≡ Foreign (replicate 31 7 ++ 8 ∷ [])

-- and then none is spelled: counts and amounts that break the rules, bits that nothing has, kinds, numbers of records
-- that aren't there, and a byte that isn't zero in a zero's place; nor under another digest, nor with a byte more
pub record NoneSpelled : Type 0 where
  pub count : altered 39 1 ≡ Unreadable
  pub balance : altered 47 1 ≡ Unreadable
  pub door_bit : altered 176 16 ≡ Unreadable
  pub tilt_bit : altered 177 64 ≡ Unreadable
  pub handpay_kind : altered 178 1 ≡ Unreadable
  pub handpay_zero : altered 179 1 ≡ Unreadable
  pub order_kind : altered 188 2 ≡ Unreadable
  pub reply_kind : altered 216 3 ≡ Unreadable
  pub one_play : altered 317 1 ≡ Unreadable
  pub many_bills : altered 320 255 ≡ Unreadable
  pub head_zero : altered 511 1 ≡ Unreadable
  pub open_play : altered 512 1 ≡ Unreadable
  pub list_zero : altered 5956 1 ≡ Unreadable
  pub last_zero : altered 16383 1 ≡ Unreadable
  pub elsewhere : told_elsewhere (with_byte 511 1 (payload_of empty)) ≡ Unreadable
  pub longer : told_of (payload_of empty ++ 0 ∷ []) ≡ Unreadable
  pub no_lists_of_longer : lists_in (payload_of empty ++ 0 ∷ []) ≡ None
