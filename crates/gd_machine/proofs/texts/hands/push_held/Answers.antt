use Rattle.std.proofs.Common.{◌∙◌, ap, sym, ◌++◌, Option, ℕ}
use Rattle.gd_base.specs.Texts.OfViews.{held_line}
use Rattle.gd_machine.proofs.texts.hands.push_held.Goals as goal

pub returns-in-Some-clause-bytes : goal.returns-in-Some-clause-bytes
returns-in-Some-clause-bytes c =
    c.push_hold.ensures.bytes ∙ ap (λ (choice : Option ℕ). c.args.text.now.bytes ++ held_line c.args.play.now choice) (sym c.in-Some.is)
