-- The view of a machine that is put together from parts and from the lists that a payload has.
use Rattle.std.specs.Prelude.{ℕ, List, map, sum, Option, Some, None}
use Rattle.gd_base.specs.Histories.View.{View}
use Rattle.gd_base.specs.Histories.ViewOf.{empty_view}
use Rattle.gd_base.specs.Payloads.Lists.{Lists}
use Rattle.gd_machine.specs.declared.parts.MachineParts.{MachineParts}

-- where there are no lists it is the empty one
abbrev pub restored : List ℕ → MachineParts → Option Lists → View
restored digest parts None = empty_view digest
restored digest parts (Some lists) = record {
  digest = digest;
  count = sum (map (λ k. k.0) parts.kept);
  balance = parts.account.balance;
  totals = parts.account.totals;
  doors = parts.conditions.doors;
  tilts = parts.conditions.tilts;
  play = parts.open_play;
  orders = parts.payout.orders;
  order = parts.payout.order;
  handpay = parts.payout.handpay;
  kept = parts.kept;
  plays = lists.plays;
  events = lists.events;
  bills = lists.bills;
  vouchers = lists.vouchers;
}
