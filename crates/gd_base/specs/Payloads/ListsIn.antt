-- Which lists a payload has, and what of it belongs to them: the places from LISTS_AT on, LISTS_LEN of them, and those
-- from PLAYS_AT on.
use Rattle.std.specs.Prelude.{◌≡◌, ℕ, ◌+◌, ◌-◌, ◌≤◌, min, Bool, ◌&&◌, if◌then◌else◌, IsTrue, List, [], ◌∷◌, ◌++◌, length, take, drop, flat_map, Option, Some, None}
use Rattle.gd_base.specs.declared.layout.TheConstants.{LISTS_AT, LISTS_LEN, PLAY_LEN, EVENT_LEN, BILL_LEN, VOUCHER_LEN, PLAYS_AT, PLAYS_LEN, EVENTS_AT, EVENTS_LEN, BILLS_AT, BILLS_LEN, VOUCHERS_AT, VOUCHERS_LEN, REST_LEN}
use Rattle.gd_base.specs.declared.records.TheConstants.{PLAYS_KEPT, EVENTS_KEPT, BILLS_KEPT, VOUCHERS_KEPT}
use Rattle.gd_base.specs.Judging.Product.{same_numbers}
use Rattle.gd_base.specs.Payloads.Bytes.{two, filled_part, play_bytes, event_bytes, bill_bytes, voucher_bytes}
use Rattle.gd_base.specs.Payloads.Reading.{part, two_at, play_read, event_read, bill_read, voucher_read, records_in}
use Rattle.gd_base.specs.Payloads.ViewRules.{all_true}
use Rattle.gd_base.specs.Payloads.Lists.{Lists}
use Rattle.gd_base.specs.Payloads.Recorded.{are_recorded}

-- all that isn't the lists'
abbrev pub outside : List ℕ → List ℕ
outside payload = take LISTS_AT payload ++ part (LISTS_AT + LISTS_LEN) (PLAYS_AT - LISTS_AT - LISTS_LEN) payload

-- ================ lists read

-- the records that stand in the places of the lists, at most as many as are kept
abbrev pub lists_read : List ℕ → Lists
lists_read payload =
    let numbers = part LISTS_AT LISTS_LEN payload in record {
      plays = records_in (play_read 0) PLAY_LEN (min (two_at 0 numbers) PLAYS_KEPT) (part PLAYS_AT PLAYS_LEN payload);
      events = records_in event_read EVENT_LEN (min (two_at 2 numbers) EVENTS_KEPT) (part EVENTS_AT EVENTS_LEN payload);
      bills = records_in bill_read BILL_LEN (min (two_at 4 numbers) BILLS_KEPT) (part BILLS_AT BILLS_LEN payload);
      vouchers = records_in voucher_read VOUCHER_LEN (min (two_at 6 numbers) VOUCHERS_KEPT) (drop VOUCHERS_AT payload);
    }

-- ================ lists written

-- records one after the other, and zeros behind them
abbrev pub row_of : {A : Type 0} → (A → List ℕ) → ℕ → List A → List ℕ
row_of bytes size xs = filled_part size (flat_map bytes xs)

-- how many records each list has
abbrev pub numbers_of : Lists → List ℕ
numbers_of l = filled_part LISTS_LEN (two (length l.plays) ++ two (length l.events) ++ two (length l.bills) ++ two (length l.vouchers))

-- the lists' bytes stand in the places of the lists
pub record StandIn (payload : List ℕ) (l : Lists) : Type 0 where
  pub numbers : part LISTS_AT LISTS_LEN payload ≡ numbers_of l
  pub plays : part PLAYS_AT PLAYS_LEN payload ≡ row_of play_bytes PLAYS_LEN l.plays
  pub events : part EVENTS_AT EVENTS_LEN payload ≡ row_of event_bytes EVENTS_LEN l.events
  pub bills : part BILLS_AT BILLS_LEN payload ≡ row_of bill_bytes BILLS_LEN l.bills
  pub vouchers : drop VOUCHERS_AT payload ≡ row_of voucher_bytes (VOUCHERS_LEN + REST_LEN) l.vouchers

-- the same as tests
abbrev pub stand_tests : List ℕ → Lists → List Bool
stand_tests payload l =
    same_numbers (part LISTS_AT LISTS_LEN payload) (numbers_of l) ∷ same_numbers (part PLAYS_AT PLAYS_LEN payload) (row_of play_bytes PLAYS_LEN l.plays)
    ∷ same_numbers (part EVENTS_AT EVENTS_LEN payload) (row_of event_bytes EVENTS_LEN l.events)
    ∷ same_numbers (part BILLS_AT BILLS_LEN payload) (row_of bill_bytes BILLS_LEN l.bills)
    ∷ same_numbers (drop VOUCHERS_AT payload) (row_of voucher_bytes (VOUCHERS_LEN + REST_LEN) l.vouchers) ∷ []

abbrev pub stand_in : List ℕ → Lists → Bool
stand_in payload l = all_true (stand_tests payload l)

-- ================ the lists of a payload

-- a payload has these lists: they are such as can be recorded, no more of each than are kept, and their bytes stand there
pub record HasLists (payload : List ℕ) (l : Lists) : Type 0 where
  pub recorded : IsTrue (are_recorded l)
  pub plays_kept : length l.plays ≤ PLAYS_KEPT
  pub events_kept : length l.events ≤ EVENTS_KEPT
  pub bills_kept : length l.bills ≤ BILLS_KEPT
  pub vouchers_kept : length l.vouchers ≤ VOUCHERS_KEPT
  pub stand : StandIn payload l

-- the one way to read them: the records that stand there, where written again they are what stands there
unfoldable pub lists_in : List ℕ → Option Lists
lists_in payload = let l = lists_read payload in if are_recorded l && stand_in payload l then Some l else None
