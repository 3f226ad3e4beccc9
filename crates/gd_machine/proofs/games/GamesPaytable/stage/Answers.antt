use Rattle.gd_games.proofs.Allowed.{choice_allowed, turns_allowed}
use Rattle.gd_machine.proofs.games.GamesPaytable.stage.Goals as goal

pub stage-requires-clause-choice : goal.stage-requires-clause-choice
stage-requires-clause-choice c = choice_allowed c.args.self.now.setup c.args.game c.args.bet c.args.words.now c.args.choices.now c.requires.choices

pub stage-requires-clause-turns : goal.stage-requires-clause-turns
stage-requires-clause-turns c = turns_allowed c.args.self.now.setup c.args.game c.args.bet c.args.words.now c.args.choices.now c.requires.choices
