use Rattle.std.proofs.Common.{◌∙◌, ap, sym}
use Rattle.toml.proofs.Views.{view-Array}
use Rattle.toml.specs.View.{view}
use Rattle.gd_games.specs.Kinds.{is_integer, is_list_of}
use Rattle.gd_games.proofs.Lists.{items_pass}
use Rattle.gd_games.proofs.types.is_integers.Goals as goal

pub returns-in-Array : goal.returns-in-Array
returns-in-Array c =
    c.are_integers.ensures ∙ items_pass is_integer c.in-Array.items.items
    ∙ sym (ap (is_list_of is_integer) (ap view c.in-Array.is ∙ view-Array c.in-Array.items))
