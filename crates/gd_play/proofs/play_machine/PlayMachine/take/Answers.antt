use Rattle.std.proofs.Common.{ap, ◌∙◌, sym, Some, ℕ}
use Rattle.gd_base.specs.declared.event.Event.{Event}
use Rattle.gd_play.proofs.Held.{held}
use Rattle.gd_play.specs.Moving.{play_after}
use Rattle.gd_play.proofs.play_machine.PlayMachine.take.Goals as goal

-- the win of its stage is kept already
pub returns-clause-play : goal.returns-clause-play
returns-clause-play g c =
    let now = c.args.self.now in
    let setup = g.P.Paytable.setup now.table in
    let p = c.in-Some.field-0 in
    let facts = held setup now.play p now.phase c.in-Some.is now.kept in
    c.in-Some.is ∙ ap (λ (n : ℕ). Some (record p { win = n })) facts.win ∙ sym (ap (play_after setup Event.Take) c.in-Some.is)
