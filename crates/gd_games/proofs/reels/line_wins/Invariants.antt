use Rattle.std.proofs.Common.{◌≡◌, ◌≤◌, ◌*◌}
use Rattle.gd_base.specs.Games.Chance.{line_wins}
use Rattle.gd_games.proofs.reels.line_wins.Given as goal

abbrev pub invariant-loop-line : goal.invariant-loop-line
invariant-loop-line l = record {
  wins : l.wins ≡ line_wins l.setup l.shown.rows l.line;
  most : l.wins ≤ 5000 * l.line;
}
