use Rattle.std.proofs.Common.{◌≡◌, drop}
use Rattle.std.specs.List.{list_all}
use Rattle.gd_image.specs.Plays.{has_ended}
use Rattle.gd_image.proofs.under_setup.are_finished.Given as goal

abbrev pub invariant-loop-i : goal.invariant-loop-i
invariant-loop-i l = list_all (has_ended l.setup) (drop l.i l.recall.lists.plays) ≡ list_all (has_ended l.setup) l.recall.lists.plays
