use Rattle.std.proofs.Common.{◌≡◌, ◌≤◌, ◌-◌, ◌*◌, ◌++◌, length}
use Rattle.gd_base.specs.Payloads.Reading.{records_in}
use Rattle.gd_recall.proofs.rows.read_row.Given as goal

abbrev pub invariant-loop : goal.invariant-loop
invariant-loop g l = record {
  capacity : l.records.capacity ≡ l.fn.records.capacity;
  number : length l.records.items ≡ l.counter;
  room : g.R.ListRecord.LEN * (l.count - l.counter) ≤ length l.rest;
  records : l.records.items ++ records_in g.R.ListRecord.record_of g.R.ListRecord.LEN (l.count - l.counter) l.rest ≡ records_in g.R.ListRecord.record_of g.R.ListRecord.LEN l.count l.row;
}
