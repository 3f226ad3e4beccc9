use Rattle.std.proofs.Common.{◌∙◌, ap, sym, length, ◌==◌}
use Rattle.std.specs.List.{list_all}
use Rattle.toml.proofs.Views.{view-Array}
use Rattle.toml.specs.View.{view}
use Rattle.gd_base.proofs.BoolTests.{both, is_so}
use Rattle.gd_games.specs.Values.{are_five_strips, is_strip, text_in, texts_in}
use Rattle.gd_games.proofs.Lists.{counted_pass, items_read}
use Rattle.gd_games.proofs.values.strips.Goals as goal

pub copy_strips-requires-clause-count : goal.copy_strips-requires-clause-count
copy_strips-requires-clause-count c =
    let items = c.in-Array.items.items in
    let whole = counted_pass text_in is_strip 5 items ∙ sym (ap are_five_strips (ap view c.in-Array.is ∙ view-Array c.in-Array.items)) ∙ c.requires in
    is_so (length items) 5 (both (length items == 5) (list_all (λ v. is_strip (view v)) items) whole).0

pub copy_strips-requires-clause-rule : goal.copy_strips-requires-clause-rule
copy_strips-requires-clause-rule c =
    let items = c.in-Array.items.items in
    let whole = counted_pass text_in is_strip 5 items ∙ sym (ap are_five_strips (ap view c.in-Array.is ∙ view-Array c.in-Array.items)) ∙ c.requires in
    (both (length items == 5) (list_all (λ v. is_strip (view v)) items) whole).1

pub returns-in-Array : goal.returns-in-Array
returns-in-Array c =
    let items = c.in-Array.items.items in
    c.copy_strips.ensures.strips ∙ sym (items_read text_in items) ∙ sym (ap texts_in (ap view c.in-Array.is ∙ view-Array c.in-Array.items))
