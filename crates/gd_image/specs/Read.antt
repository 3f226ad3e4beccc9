-- The view that fields beside the lists and lists make together.
use Rattle.std.specs.Prelude.{Bool, true, false, option_copied}
use Rattle.gd_base.specs.declared.step.Loaded.{Loaded}
use Rattle.gd_base.specs.Histories.View.{View}
use Rattle.gd_base.specs.Payloads.Lists.{Lists}
use Rattle.gd_image.specs.declared.fields.Fields.{Fields}
use Rattle.gd_image.specs.declared.read_fields.ReadFields.{ReadFields}

abbrev pub view_by : Fields → Lists → View
view_by f l = record {
  digest = f.digest.now;
  count = f.count;
  balance = f.account.now.balance;
  totals = f.account.now.totals;
  doors = f.conditions.now.doors;
  tilts = f.conditions.now.tilts;
  play = option_copied f.open_play;
  orders = f.payout.now.orders;
  order = f.payout.now.order;
  handpay = f.payout.now.handpay;
  kept = f.kept.now;
  plays = l.plays;
  events = l.events;
  bills = l.bills;
  vouchers = l.vouchers;
}

abbrev pub read_view : ReadFields → Lists → View
read_view f l = record {
  digest = f.digest;
  count = f.count;
  balance = f.parts.account.balance;
  totals = f.parts.account.totals;
  doors = f.parts.conditions.doors;
  tilts = f.parts.conditions.tilts;
  play = f.parts.open_play;
  orders = f.parts.payout.orders;
  order = f.parts.payout.order;
  handpay = f.parts.payout.handpay;
  kept = f.parts.kept;
  plays = l.plays;
  events = l.events;
  bills = l.bills;
  vouchers = l.vouchers;
}

-- a view with other lists
abbrev pub with_lists : Lists → View → View
with_lists l v = record v { plays = l.plays; events = l.events; bills = l.bills; vouchers = l.vouchers }

abbrev pub is_read : Loaded → Bool
is_read Loaded.Read = true
is_read _ = false
