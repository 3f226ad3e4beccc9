use Rattle.std.proofs.Common.{arith}
use Rattle.gd_games.proofs.Turning.{power_small}
use Rattle.gd_games.proofs.gambling.win_after.Goals as goal

pub turned-win-requires-clause-win : goal.turned-win-requires-clause-win
turned-win-requires-clause-win c = omega (arith, power_small c.loop-turn.turn (omega arith))
