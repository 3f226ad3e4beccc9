use Rattle.std.proofs.Common.{◌∙◌}
use Rattle.gd_disk.proofs.Runs.{at_end}
use Rattle.gd_store.specs.Making.{BootsOver, IsMaking}
use Rattle.gd_store.specs.Writing.{From}
use Rattle.gd_store.specs.declared.copy.layout.TheConstants.{LAYOUT}
use Rattle.gd_store.specs.Room.{room_payload}
use Rattle.gd_top.proofs.TrialLemmas.MadeMemory.{made_in, made_told}
use Rattle.gd_top.proofs.memory.making.make_empty.Goals as goal

pub returns-in-Done-clause-made : goal.returns-in-Done-clause-made
returns-in-Done-clause-made g c =
    let parts = c.args.parts in
    let made = g.D.Disk.state c.in-Done.disk in
    record {
      size = c.in-Done.ensures.answer.size ∙ c.requires.size;
      both = λ image may. made_in (g.C.Core.meaning parts.core) (room_payload c.fill.new.room) image (g.C.Core.view parts.core) made.seen (c.in-Done.ensures.synced image may) c.in-Done.ensures.done c.fill.ensures c.requires.empty;
      spelled = (room_payload c.fill.new.room, c.fill.ensures);
      run = c.in-Done.ensures.run.whole;
      found = c.in-Done.ensures.answer.found;
    }

pub returns-in-Done-clause-shown : goal.returns-in-Done-clause-shown
returns-in-Done-clause-shown g c =
    let parts = c.args.parts in
    made_told (g.C.Core.meaning parts.core) (room_payload c.fill.new.room) (g.C.Core.view parts.core) (g.D.Disk.state c.in-Done.disk).seen c.in-Done.ensures.done c.fill.ensures c.requires.empty

pub returns-in-Off-clause-unmade : goal.returns-in-Off-clause-unmade
returns-in-Off-clause-unmade g c = λ is_on.
    let parts = c.args.parts in
    let old = g.D.Disk.state parts.disk in
    let left = g.D.Disk.state c.in-Off.disk in
    let payload = room_payload c.fill.new.room in
    record {
      size = c.in-Off.ensures.answer.size ∙ c.requires.size;
      is_off = c.in-Off.ensures.answer.goes_off;
      found = c.in-Off.ensures.answer.found;
      failed = c.in-Off.ensures.run.failed is_on;
      fewer = c.in-Off.ensures.syncs.fewer;
      near = λ synced image may.
          let was = at_end old left (From old (IsMaking LAYOUT payload)) (c.in-Off.ensures.any_moment synced) image may in
          let over = at_end old left (From old (BootsOver LAYOUT payload)) (c.in-Off.ensures.boots synced) image may in
          record { payload = payload; spelled = c.fill.ensures; before = was.0; was_there = was.1; making = was.2; other = over.0; also_there = over.1; boots = over.2 };
    }
