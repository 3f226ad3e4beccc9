use Rattle.std.proofs.Common.{◌≡◌, rules, arith, sym}
use Rattle.std.proofs.lemmas.List.{with_items_is}
use Rattle.std.specs.Vec.{with_items}
use Rattle.gd_disk.proofs.medium.Medium.write.Goals as goal

pub invariant_of-self-clause-marked : goal.invariant_of-self-clause-marked
invariant_of-self-clause-marked c =
    let marks_is : (with_items c.args.self.now.marks c.write_marked.new.marks).items ≡ c.write_marked.new.marks = with_items_is c.args.self.now.marks c.write_marked.new.marks (omega arith) in
    let current_is : (with_items c.args.self.now.current c.write_marked.new.current).items ≡ c.write_marked.new.current = with_items_is c.args.self.now.current c.write_marked.new.current (omega arith) in
    rw marks_is (rw current_is (rw (sym c.deref.ensures.value) c.write_marked.ensures.marked))

pub invariant_of-self-clause-span : goal.invariant_of-self-clause-span
invariant_of-self-clause-span c =
    let marks_is : (with_items c.args.self.now.marks c.write_marked.new.marks).items ≡ c.write_marked.new.marks = with_items_is c.args.self.now.marks c.write_marked.new.marks (omega arith) in
    rw marks_is (search (arith, rules))

pub returns-clause-loss : goal.returns-clause-loss
returns-clause-loss c =
    let marks_is : (with_items c.args.self.now.marks c.write_marked.new.marks).items ≡ c.write_marked.new.marks = with_items_is c.args.self.now.marks c.write_marked.new.marks (omega arith) in
    rw marks_is (rw (sym c.deref.ensures.value) (rw (sym c.deref_mut-2.ensures.value) c.write_marked.ensures.loss))
