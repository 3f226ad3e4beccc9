use Rattle.std.proofs.Common.{◌∙◌, ap, sym}
use Rattle.toml.proofs.Views.{view-Array}
use Rattle.toml.specs.View.{view}
use Rattle.gd_games.specs.Values.{are_bills_in}
use Rattle.gd_games.proofs.Lists.{bills_pass}
use Rattle.gd_games.proofs.rules.are_bills.Goals as goal

pub returns-in-Array : goal.returns-in-Array
returns-in-Array c =
    c.are_bills_items.ensures ∙ bills_pass c.in-Array.items.items
    ∙ sym (ap are_bills_in (ap view c.in-Array.is ∙ view-Array c.in-Array.items))
