use Rattle.std.proofs.Common.{◌≡◌, ◌≤◌, ◌*◌, ◌^◌}
use Rattle.gd_base.specs.Games.Stage.{win_after}
use Rattle.gd_games.proofs.gambling.win_after.Given as goal

abbrev pub invariant-loop-turn : goal.invariant-loop-turn
invariant-loop-turn l = record {
  win : l.win ≡ win_after l.words l.colours l.base l.turn;
  most : l.win ≤ 9000000 * 2 ^ l.turn;
}
