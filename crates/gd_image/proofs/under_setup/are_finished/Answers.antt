use Rattle.std.proofs.Common.{◌∙◌, sym}
use Rattle.gd_base.specs.Payloads.ViewRules.{is_play_record}
use Rattle.gd_image.specs.Plays.{has_ended}
use Rattle.gd_image.proofs.Testing.{broken, decides, none_left, passed_at}
use Rattle.gd_image.proofs.under_setup.are_finished.Goals as goal

pub is_finished-requires : goal.is_finished-requires
is_finished-requires c = passed_at is_play_record c.args.recall.now.lists.plays c.loop-i.i c.in-Some.play (sym c.play.ensures.play ∙ c.in-Some.is) c.requires

pub returns-then-not-is_finished : goal.returns-then-not-is_finished
returns-then-not-is_finished c =
    broken (has_ended c.args.setup.now) c.args.recall.now.lists.plays c.loop-i.i c.in-Some.play (sym c.play.ensures.play ∙ c.in-Some.is) (sym c.is_finished.ensures ∙ c.if-not-is_finished.true) c.loop-i.invariant

pub returns-in-None : goal.returns-in-None
returns-in-None c = none_left (has_ended c.args.setup.now) c.args.recall.now.lists.plays c.loop-i.i (sym c.play.ensures.play ∙ c.in-None.is) c.loop-i.invariant

pub loop-i-preserved : goal.loop-i-preserved
loop-i-preserved c =
    decides (has_ended c.args.setup.now) c.args.recall.now.lists.plays c.loop-i.i c.in-Some.play (sym c.play.ensures.play ∙ c.in-Some.is) (sym c.is_finished.ensures ∙ c.if-not-is_finished.false) c.loop-i.invariant
