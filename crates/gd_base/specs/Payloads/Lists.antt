-- The four lists that are recalled, each with its newest record first.
use Rattle.std.specs.Prelude.{List, []}
use Rattle.gd_base.specs.declared.play.PlayRecord.{PlayRecord}
use Rattle.gd_base.specs.declared.records.BillRecord.{BillRecord}
use Rattle.gd_base.specs.declared.records.EventRecord.{EventRecord}
use Rattle.gd_base.specs.declared.records.VoucherRecord.{VoucherRecord}
use Rattle.gd_base.specs.Histories.View.{View}

pub record Lists : Type 0 where
  pub plays : List PlayRecord
  pub events : List EventRecord
  pub bills : List BillRecord
  pub vouchers : List VoucherRecord

abbrev pub no_lists : Lists
no_lists = record { plays = []; events = []; bills = []; vouchers = [] }

-- the lists of a view
abbrev pub lists_of : View → Lists
lists_of v = record { plays = v.plays; events = v.events; bills = v.bills; vouchers = v.vouchers }
