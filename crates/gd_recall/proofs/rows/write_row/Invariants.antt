use Rattle.std.proofs.Common.{◌≡◌, ◌≤◌, ◌+◌, ◌*◌, ◌++◌, length, take, true}
use Rattle.std.specs.List.{list_all, flat_map}
use Rattle.gd_recall.proofs.rows.write_row.Given as goal

abbrev pub invariant-loop-record : goal.invariant-loop-record
invariant-loop-record g l = record {
  room : l.place + g.R.ListRecord.LEN * length l.record-iterator ≤ length l.row;
  recorded : list_all g.R.ListRecord.test l.record-iterator ≡ true;
  written : take l.place l.row ++ flat_map g.R.ListRecord.bytes_of l.record-iterator ≡ flat_map g.R.ListRecord.bytes_of l.records.items;
}
