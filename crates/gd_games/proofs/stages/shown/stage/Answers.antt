use Rattle.std.proofs.Common.{◌∙◌, sym, arith, ap}
use Rattle.gd_base.specs.Games.Stage.{gamble_stage}
use Rattle.gd_base.specs.declared.play.Stage.{Stage}
use Rattle.gd_games.proofs.Turning.{stage_known, known_small}
use Rattle.gd_games.proofs.stages.shown.stage.Goals as goal

pub returns-in-Some : goal.returns-in-Some
returns-in-Some c =
    let setup = c.args.setup.now in
    let words = c.args.words.now in
    let choices = c.args.choices.now in
    let known = sym c.in-Some.ensures.win in
    let shown = c.gamble_stage.ensures ∙ ap (gamble_stage setup choices.turns) c.win_after-win.ensures in
    record {
      stage = shown ∙ sym (stage_known setup c.args.game c.args.bet words choices c.in-Some.base known);
      most = λ legal. let small = known_small setup c.args.game c.args.bet words choices c.in-Some.base known c.in-Some.ensures.most legal in omega (arith, small, ap (λ (s : Stage). s.win) shown);
    }
