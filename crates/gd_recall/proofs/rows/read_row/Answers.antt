use Rattle.std.proofs.Common.{◌≡◌, ◌∙◌, ap, ℕ, ◌+◌, ◌-◌, ◌<◌, [], ◌∷◌, ◌++◌, length, take, drop, length-append, arith}
use Rattle.circular_buffer.specs.Buffer.{Buffer}
use Rattle.gd_base.specs.Payloads.Reading.{records_in}
use Rattle.gd_recall.proofs.RowSteps.{read_step, room_left, kept_all}
use Rattle.gd_recall.proofs.rows.read_row.Goals as goal

pub loop-preserved : goal.loop-preserved
loop-preserved g c =
    let l = c.loop in
    let size = g.R.ListRecord.LEN in
    let read = g.R.ListRecord.record_of in
    let i = l.counter in
    let count = c.args.count in
    let one = c.split_at.result.0.now in
    let more = c.split_at.result.1.now in
    let x = c.read.result in
    let lt : i < count = c.loop-test.true in
    let is_size : c.LEN.result ≡ size = c.LEN.ensures in
    let capacity : l.records.capacity ≡ c.args.records.now.capacity = l.invariant.capacity in
    let room : length l.records.items < l.records.capacity = omega (arith, lt, l.invariant.number, capacity, c.requires.room) in
    let pushed : c.push_back.new.self.items ≡ l.records.items ++ (x ∷ []) =
    ap (λ (b : Buffer g.row.R.Denot). b.items) c.push_back.ensures.items ∙ kept_all read size l.records.capacity l.records.items x room in
    let front : one ≡ take size l.rest.now = c.split_at.ensures.front ∙ ap (λ (n : ℕ). take n l.rest.now) is_size in
    let back : more ≡ drop size l.rest.now = c.split_at.ensures.back ∙ ap (λ (n : ℕ). drop n l.rest.now) is_size in
    let is_read : x ≡ read one = c.read.ensures in
    let fewer = room_left read size count i (length l.rest.now) lt l.invariant.room in
    record {
      capacity = ap (λ (b : Buffer g.row.R.Denot). b.capacity) c.push_back.ensures.items ∙ capacity;
      number = ap length pushed ∙ omega (arith, length-append l.records.items (x ∷ []), l.invariant.number);
      room = omega (arith, fewer, c.split_at.ensures.back_len, is_size);
      records = (λ j. pushed j ++ records_in read size (count - (i + 1)) more)
          ∙ (λ j. (l.records.items ++ (is_read j ∷ [])) ++ records_in read size (count - (i + 1)) more)
          ∙ read_step read size count i l.records.items (records_in read size count c.args.row.now) l.rest.now one more lt front back l.invariant.records;
    }
