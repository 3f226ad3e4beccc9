use Rattle.std.proofs.Common.{◌≡◌, drop}
use Rattle.std.specs.List.{list_all}
use Rattle.gd_base.specs.Payloads.ViewRules.{is_play_record}
use Rattle.gd_image.proofs.recalled.are_plays.Given as goal

abbrev pub invariant-loop-i : goal.invariant-loop-i
invariant-loop-i l = list_all is_play_record (drop l.i l.recall.lists.plays) ≡ list_all is_play_record l.recall.lists.plays
