use Rattle.std.proofs.Common.{◌∙◌, ap, sym}
use Rattle.toml.proofs.Views.{view-Array}
use Rattle.toml.specs.View.{view}
use Rattle.gd_base.specs.declared.limits.TheConstants.{MOST_PAY}
use Rattle.gd_games.specs.Values.{are_credits, is_number, number_in}
use Rattle.gd_games.proofs.Lists.{counted_pass}
use Rattle.gd_games.proofs.rules.are_credits.Goals as goal

pub returns-in-Array : goal.returns-in-Array
returns-in-Array c =
    c.are_credits_in.ensures ∙ counted_pass number_in (is_number 0 MOST_PAY) c.args.count c.in-Array.items.items
    ∙ sym (ap (are_credits c.args.count) (ap view c.in-Array.is ∙ view-Array c.in-Array.items))
