use Rattle.std.proofs.Common.{◌≡◌, ◌^◌, map}
use Rattle.gd_base.specs.Payloads.ViewRules.{fall_from}
use Rattle.gd_recall.proofs.rows.fall.Given as goal

abbrev pub invariant-loop-record : goal.invariant-loop-record
invariant-loop-record g l =
    fall_from l.limit (map g.R.ListRecord.place_of l.record-iterator) ≡ fall_from (2 ^ 64) (map g.R.ListRecord.place_of l.records.items)
