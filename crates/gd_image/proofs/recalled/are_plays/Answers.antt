use Rattle.std.proofs.Common.{◌∙◌, sym}
use Rattle.gd_base.specs.Payloads.ViewRules.{is_play_record}
use Rattle.gd_image.proofs.Testing.{broken, decides, none_left}
use Rattle.gd_image.proofs.recalled.are_plays.Goals as goal

pub returns-then-not-is_whole_record : goal.returns-then-not-is_whole_record
returns-then-not-is_whole_record c =
    broken is_play_record c.args.recall.now.lists.plays c.loop-i.i c.in-Some.play (sym c.play.ensures.play ∙ c.in-Some.is) (sym c.is_whole_record.ensures ∙ c.if-not-is_whole_record.true) c.loop-i.invariant

pub returns-in-None : goal.returns-in-None
returns-in-None c = none_left is_play_record c.args.recall.now.lists.plays c.loop-i.i (sym c.play.ensures.play ∙ c.in-None.is) c.loop-i.invariant

pub loop-i-preserved : goal.loop-i-preserved
loop-i-preserved c =
    decides is_play_record c.args.recall.now.lists.plays c.loop-i.i c.in-Some.play (sym c.play.ensures.play ∙ c.in-Some.is) (sym c.is_whole_record.ensures ∙ c.if-not-is_whole_record.false) c.loop-i.invariant
