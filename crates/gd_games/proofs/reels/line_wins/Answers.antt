use Rattle.std.proofs.Common.{◌+◌, ℕ, ap, ◌∙◌, sym, arith, add-one}
use Rattle.gd_base.specs.Games.Chance.{line_wins, line_pay}
use Rattle.gd_games.proofs.reels.line_wins.Goals as goal

pub loop-line-preserved : goal.loop-line-preserved
loop-line-preserved c =
    let setup = c.args.setup.now in
    let rows = c.args.shown.now.rows in
    let line = c.loop-line.line in
    let pay = c.line_pay-wins.ensures.pay ∙ ap (line_pay setup rows) (add-one line) in
    record {
      wins = ap (λ (n : ℕ). n + c.line_pay-wins.result) c.loop-line.invariant.wins ∙ ap (λ (n : ℕ). line_wins setup rows line + n) pay ∙ sym (ap (line_wins setup rows) (add-one line));
      most = omega (arith, c.line_pay-wins.ensures.most, c.loop-line.invariant.most);
    }
