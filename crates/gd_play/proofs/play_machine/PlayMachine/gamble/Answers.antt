use Rattle.std.proofs.Common.{◌+◌, ◌<◌, ap, ◌∙◌, rules, ℕ}
use Rattle.gd_base.specs.Histories.Rounds.{choices_of}
use Rattle.gd_base.specs.Games.Stage.{are_choices}
use Rattle.gd_play.proofs.Held.{gamble_held}
use Rattle.gd_base.proofs.StageLemmas.Turns.{one_turn_more}
use Rattle.gd_play.proofs.play_machine.PlayMachine.gamble.Goals as goal

pub overflow_add-play : goal.overflow_add-play
overflow_add-play g c =
    let now = c.args.self.now in
    let facts = gamble_held (g.P.Paytable.setup now.table) now.play c.in-Some.play now.phase c.in-Some.is c.in-Gamble.is now.kept in
    let few : c.in-Some.play.turns < 5 = facts.turns in
    search rules

pub with_colour-requires-clause-turns : goal.with_colour-requires-clause-turns
with_colour-requires-clause-turns g c =
    let now = c.args.self.now in
    (gamble_held (g.P.Paytable.setup now.table) now.play c.in-Some.play now.phase c.in-Some.is c.in-Gamble.is now.kept).turns

pub go_on-requires-clause-choices : goal.go_on-requires-clause-choices
go_on-requires-clause-choices g c =
    let now = c.args.self.now in
    let p = c.in-Some.play in
    let setup = g.P.Paytable.setup now.table in
    let facts = gamble_held setup now.play p now.phase c.in-Some.is c.in-Gamble.is now.kept in
    ap (λ (n : ℕ). are_choices setup p.game p.bet p.words (record { choice = p.choice; turns = p.turns + 1; colours = n })) c.with_colour.ensures
    ∙ one_turn_more setup p.game p.bet p.words (choices_of p) c.args.colour facts.choices facts.stage
