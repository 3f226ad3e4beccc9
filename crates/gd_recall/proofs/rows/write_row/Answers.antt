use Rattle.std.proofs.Common.{rules, ◌≡◌, ◌∙◌, ap, ℕ, ◌+◌, ◌-◌, ◌∷◌, ◌++◌, length, take, arith}
use Rattle.std.specs.List.{flat_map}
use borrow.Rule.Slice.PartMut.{put_mid}
use Rattle.gd_recall.proofs.RowSteps.{room_step, recorded_step, written_step, same_length}
use Rattle.gd_recall.proofs.rows.write_row.Goals as goal

pub loop-record-preserved : goal.loop-record-preserved
loop-record-preserved g c =
    let l = c.loop-record in
    let x = c.in-Some.record.now in
    let t = c.next.new.self in
    let size = g.R.ListRecord.LEN in
    let new = c.write.new.into in
    let k = l.place + c.LEN.result - l.place in
    let e : l.record-iterator ≡ x ∷ t = c.in-Some.ensures.steps in
    let room = room_step x t l.record-iterator e size l.place (length l.row) l.invariant.room in
    let is_size : c.LEN.result ≡ size = c.LEN.ensures in
    let is_more : c.LEN-place.result ≡ size = c.LEN-place.ensures in
    let long : length new ≡ k = search rules in
    let same : length (put_mid l.place k l.row new) ≡ length l.row = same_length x t l.record-iterator e l.place k l.row new (omega (arith, room, is_size)) long in
    record {
      room = omega (arith, room, same, is_more);
      recorded = recorded_step x t l.record-iterator e g.R.ListRecord.test l.invariant.recorded;
      written = ap (λ (n : ℕ). take (l.place + n) (put_mid l.place k l.row new) ++ flat_map g.R.ListRecord.bytes_of t) is_more
          ∙ written_step x t l.record-iterator e g.R.ListRecord.bytes_of size l.place k l.row new (flat_map g.R.ListRecord.bytes_of c.args.records.now.items) (omega (arith, room)) c.write.ensures
          (omega (arith, long, is_size)) l.invariant.written;
    }
