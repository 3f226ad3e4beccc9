-- What a machine is in contracts: its setup and its view.
use Rattle.std.specs.Prelude.{IsTrue}
use Rattle.gd_base.specs.declared.setup.Setup.{Setup}
use Rattle.gd_base.specs.Histories.View.{View}
use Rattle.gd_base.specs.Payloads.ViewRules.{is_possible, is_possible_under}
use Rattle.gd_machine.specs.declared.machine.Machine.{Machine}
use Rattle.gd_play.specs.PlayMachine.{play_machine_play}

abbrev pub machine_setup : Machine → Setup
machine_setup m = m.setup

abbrev pub machine_view : Machine → View
machine_view m = record {
  digest = m.digest;
  count = m.count;
  balance = m.account.balance;
  totals = m.account.totals;
  doors = m.conditions.doors;
  tilts = m.conditions.tilts;
  play = play_machine_play m.plays;
  orders = m.payout.orders;
  order = m.payout.order;
  handpay = m.payout.handpay;
  kept = m.kept;
  plays = m.recall.lists.plays;
  events = m.recall.lists.events;
  bills = m.recall.lists.bills;
  vouchers = m.recall.lists.vouchers;
}

-- a view that keeps all rules of a view under its setup
pub record IsWhole (setup : Setup) (v : View) : Type 0 where
  pub possible : IsTrue (is_possible v)
  pub under : IsTrue (is_possible_under setup v)
