use Rattle.std.proofs.Common.{◌≡◌, drop}
use Rattle.gd_games.specs.File.{first_broken}
use Rattle.gd_games.proofs.faults.first_broken.Given as goal

abbrev pub invariant-loop-is_kept : goal.invariant-loop-is_kept
invariant-loop-is_kept l = first_broken (drop l.is_kept-index l.rows) ≡ first_broken l.rows
