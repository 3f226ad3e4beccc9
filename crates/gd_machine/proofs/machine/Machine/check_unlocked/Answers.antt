use Rattle.std.proofs.Common.{◌≡◌, ◌∙◌, ap, sym, refl, is_some, Option}
use Rattle.gd_account.specs.Judging.{outcome}
use Rattle.gd_base.specs.declared.condition.Condition.{Condition}
use Rattle.gd_base.specs.Histories.Conditions.{lock}
use Rattle.gd_base.specs.Judging.Rule.{locked_up}
use Rattle.gd_machine.specs.Words.{machine_view}
use Rattle.gd_machine.proofs.machine.Machine.check_unlocked.Goals as goal

pub returns-in-None : goal.returns-in-None
returns-in-None c =
    let v = machine_view c.args.self.now in
    let told : c.shown_condition.result ≡ lock v = c.shown_condition.ensures v refl refl (sym (c.is_some-handpay.ensures ∙ ap is_some c.open_handpay.ensures)) in
    ap (λ (x : Option Condition). outcome (locked_up x)) (sym c.in-None.is ∙ told)

pub returns-in-Some : goal.returns-in-Some
returns-in-Some c =
    let v = machine_view c.args.self.now in
    let told : c.shown_condition.result ≡ lock v = c.shown_condition.ensures v refl refl (sym (c.is_some-handpay.ensures ∙ ap is_some c.open_handpay.ensures)) in
    ap (λ (x : Option Condition). outcome (locked_up x)) (sym c.in-Some.is ∙ told)
