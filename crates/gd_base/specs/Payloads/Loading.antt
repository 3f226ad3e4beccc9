-- What a payload spells, as a function: the view that is read of it, where that view written again is the payload, and
-- then by the rules of a view, by its digest, and by the rules of the setup, in this order.
use Rattle.std.specs.Prelude.{ℕ, if◌then◌else◌, List, take, slice_index, Option, Some, None}
use Rattle.gd_base.specs.declared.layout.TheConstants.{SETUP_DIGEST_LEN, COUNT_AT, BALANCE_AT, TOTALS_AT, DOORS_AT, TILTS_AT, HANDPAY_AT, ORDER_AT, ORDERS_AT, ORDER_AMOUNT_AT, KEPT_AT, OPEN_AT}
use Rattle.gd_base.specs.declared.setup.Setup.{Setup}
use Rattle.gd_base.specs.Judging.Product.{same_numbers}
use Rattle.gd_base.specs.Payloads.Bytes.{payload_of}
use Rattle.gd_base.specs.Payloads.ListsIn.{lists_read}
use Rattle.gd_base.specs.Payloads.Reading.{number_at, sixteen_at, flags_of, handpay_read, order_of, kept_reads, open_read}
use Rattle.gd_base.specs.Payloads.Spelled.{Spelled, Shows, Foreign, Unreadable}
use Rattle.gd_base.specs.Payloads.ViewRules.{is_possible, is_possible_under}
use Rattle.gd_base.specs.Histories.View.{View}

-- the view that stands in the places of a payload, whatever bytes these are
abbrev pub view_read : List ℕ → View
view_read payload = record {
  digest = take SETUP_DIGEST_LEN payload;
  count = number_at COUNT_AT payload;
  balance = number_at BALANCE_AT payload;
  totals = sixteen_at TOTALS_AT payload;
  doors = flags_of 4 (slice_index payload DOORS_AT);
  tilts = flags_of 6 (slice_index payload TILTS_AT);
  play = open_read OPEN_AT payload;
  orders = number_at ORDERS_AT payload;
  order = order_of (slice_index payload ORDER_AT) (number_at ORDERS_AT payload) (number_at ORDER_AMOUNT_AT payload);
  handpay = handpay_read HANDPAY_AT payload;
  kept = kept_reads 9 KEPT_AT payload;
  plays = (lists_read payload).plays;
  events = (lists_read payload).events;
  bills = (lists_read payload).bills;
  vouchers = (lists_read payload).vouchers;
}

-- a view that was read of bytes, if these are the bytes of that view
abbrev pub found_in_row : (List ℕ → View) → List ℕ → Option View
found_in_row read row = if same_numbers (payload_of (read row)) row then Some (read row) else None

-- the one view that a payload can spell
unfoldable pub found_in : List ℕ → Option View
found_in payload = found_in_row view_read payload

-- what is told of a view that keeps the rules of a view, and of one that was found
abbrev pub told_under : Setup → List ℕ → View → Spelled View
told_under setup digest v =
    if same_numbers v.digest digest then (if is_possible_under setup v then Shows v else Unreadable) else Foreign v.digest

abbrev pub told : Setup → List ℕ → Option View → Spelled View
told setup digest None = Unreadable
told setup digest (Some v) = if is_possible v then told_under setup digest v else Unreadable

-- what a payload spells to a machine of this setup, whose digest is given
unfoldable pub spelled : Setup → List ℕ → List ℕ → Spelled View
spelled setup digest payload = told setup digest (found_in payload)
