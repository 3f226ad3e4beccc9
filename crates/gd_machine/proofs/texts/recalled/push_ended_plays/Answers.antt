use Rattle.std.proofs.Common.{◌∙◌, sym, arith}
use Rattle.gd_base.specs.Payloads.ViewRules.{is_play_record}
use Rattle.gd_base.specs.Texts.OfViews.{ended_lines}
use Rattle.gd_machine.proofs.Lists.{next_record, one_there, kept_at}
use Rattle.gd_machine.proofs.texts.recalled.push_ended_plays.Goals as goal

pub unreachable-requires : goal.unreachable-requires
unreachable-requires c = one_there c.args.recall.now.lists.plays c.loop-i.i (omega (arith, c.loop-i-test.true, c.play_count-i-end.ensures.count)) (sym c.play.ensures.play ∙ c.in_default.is)

pub push_ended-requires-clause-record : goal.push_ended-requires-clause-record
push_ended-requires-clause-record c = kept_at is_play_record c.args.recall.now.lists.plays c.loop-i.i c.in-Some.play (sym c.play.ensures.play ∙ c.in-Some.is) c.requires.records

pub loop-i-preserved : goal.loop-i-preserved
loop-i-preserved c = record {
  bytes = next_record (ended_lines c.args.setup.now) c.args.recall.now.lists.plays c.loop-i.i c.in-Some.play c.args.text.now.bytes c.loop-i.text.bytes c.push_ended.new.text.bytes c.loop-i.invariant.bytes
      (sym c.play.ensures.play ∙ c.in-Some.is) c.push_ended.ensures.bytes;
  room = omega (arith, c.push_ended.ensures.room, c.loop-i.invariant.room);
}
