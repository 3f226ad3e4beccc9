use Rattle.std.proofs.Common.{◌∙◌, sym, ap, Bool, if◌then◌else◌, Some, None, ℕ, arith}
use Rattle.gd_base.specs.declared.play.StageOpen.{StageOpen}
use Rattle.gd_base.specs.Games.Stage.{gamble_stage, is_stage, win_after}
use Rattle.gd_games.proofs.Turning.{power_small, stopped}
use Rattle.gd_games.proofs.gambling.win_if_turned.Goals as goal

pub turned-win-requires-clause-win : goal.turned-win-requires-clause-win
turned-win-requires-clause-win c = omega (arith, power_small c.loop-turn.turn (omega arith))

pub returns-then-not-may_turn : goal.returns-then-not-may_turn
returns-then-not-may_turn c =
    let setup = c.args.setup.now in
    let words = c.args.words.now in
    let turn = c.loop-turn.turn in
    let shut = ap (λ (w : ℕ). is_stage (gamble_stage setup turn w).phase StageOpen.Gamble) (sym c.loop-turn.invariant.win) ∙ sym c.may_turn.ensures ∙ c.if-not-may_turn.true in
    let never = stopped setup words c.args.colours c.args.base turn c.args.turns (omega arith) shut in
    ap (λ (b : Bool). if b then Some (win_after words c.args.colours c.args.base c.args.turns) else None) (sym never)
