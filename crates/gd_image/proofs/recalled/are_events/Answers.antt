use Rattle.std.proofs.Common.{◌∙◌, sym}
use Rattle.gd_base.specs.Payloads.ViewRules.{is_event}
use Rattle.gd_image.proofs.Testing.{broken, decides, none_left}
use Rattle.gd_image.proofs.recalled.are_events.Goals as goal

pub returns-then-not-is_event : goal.returns-then-not-is_event
returns-then-not-is_event c =
    broken is_event c.args.recall.now.lists.events c.loop-i.i c.in-Some.event (sym c.event.ensures.event ∙ c.in-Some.is) (sym c.is_event.ensures ∙ c.if-not-is_event.true) c.loop-i.invariant

pub returns-in-None : goal.returns-in-None
returns-in-None c = none_left is_event c.args.recall.now.lists.events c.loop-i.i (sym c.event.ensures.event ∙ c.in-None.is) c.loop-i.invariant

pub loop-i-preserved : goal.loop-i-preserved
loop-i-preserved c =
    decides is_event c.args.recall.now.lists.events c.loop-i.i c.in-Some.event (sym c.event.ensures.event ∙ c.in-Some.is) (sym c.is_event.ensures ∙ c.if-not-is_event.false) c.loop-i.invariant
