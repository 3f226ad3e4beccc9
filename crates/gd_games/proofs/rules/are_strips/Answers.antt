use Rattle.std.proofs.Common.{◌∙◌, ap, sym}
use Rattle.toml.proofs.Views.{view-Array}
use Rattle.toml.specs.View.{view}
use Rattle.gd_games.specs.Values.{are_five_strips, is_strip, text_in}
use Rattle.gd_games.proofs.Lists.{counted_pass}
use Rattle.gd_games.proofs.rules.are_strips.Goals as goal

pub returns-in-Array : goal.returns-in-Array
returns-in-Array c =
    c.are_strips_in.ensures ∙ counted_pass text_in is_strip 5 c.in-Array.items.items
    ∙ sym (ap are_five_strips (ap view c.in-Array.is ∙ view-Array c.in-Array.items))
