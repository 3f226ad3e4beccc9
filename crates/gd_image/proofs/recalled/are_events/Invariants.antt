use Rattle.std.proofs.Common.{◌≡◌, drop}
use Rattle.std.specs.List.{list_all}
use Rattle.gd_base.specs.Payloads.ViewRules.{is_event}
use Rattle.gd_image.proofs.recalled.are_events.Given as goal

abbrev pub invariant-loop-i : goal.invariant-loop-i
invariant-loop-i l = list_all is_event (drop l.i l.recall.lists.events) ≡ list_all is_event l.recall.lists.events
