use Rattle.std.proofs.Common.{◌∙◌, ap, sym, [], ◌∷◌, ℕ, nat_le}
use Rattle.gd_base.specs.Histories.Credit.{wager}
use Rattle.gd_account.specs.Judging.{wager_refusal}
use Rattle.gd_machine.specs.Words.{machine_view}
use Rattle.gd_machine.proofs.PlaysBegun.{first_five, not_taken, taken_where_covered}
use Rattle.gd_machine.proofs.machine.Machine.is_play_taken.Goals as goal

pub returns-then-is_ok : goal.returns-then-is_ok
returns-then-is_ok c =
    let m = c.args.self.now in
    let v = machine_view m in
    (λ x. nat_le (c.from.ensures x) (c.balance.ensures x))
    ∙ ap (λ (cost : ℕ). nat_le cost v.balance) c.wager.ensures
    ∙ taken_where_covered (first_five m.setup v c.args.game c.args.bet) c.check_new_play.result v.balance (wager m.setup c.args.bet) c.check_new_play.ensures (sym c.is_ok.ensures.value ∙ c.if-is_ok.true)

pub returns-else-is_ok : goal.returns-else-is_ok
returns-else-is_ok c =
    let m = c.args.self.now in
    let v = machine_view m in
    c.if-is_ok.false
    ∙ not_taken (first_five m.setup v c.args.game c.args.bet) (wager_refusal v.balance (wager m.setup c.args.bet) ∷ []) c.check_new_play.result c.check_new_play.ensures (sym c.is_ok.ensures.value ∙ c.if-is_ok.false)
