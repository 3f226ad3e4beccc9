use Rattle.std.proofs.Common.{◌∙◌, ap, sym, length, ◌==◌}
use Rattle.std.specs.List.{list_all}
use Rattle.toml.proofs.Views.{view-Array}
use Rattle.toml.specs.View.{view}
use Rattle.gd_base.proofs.BoolTests.{both, is_so}
use Rattle.gd_base.specs.declared.limits.TheConstants.{MOST_PAY}
use Rattle.gd_games.specs.Values.{are_credits, is_number, number_in, numbers_in}
use Rattle.gd_games.proofs.Lists.{counted_pass, items_read}
use Rattle.gd_games.proofs.values.copy_list.Goals as goal

pub copy_credits-requires-clause-count : goal.copy_credits-requires-clause-count
copy_credits-requires-clause-count c =
    let items = c.in-Array.items.items in
    let count = length c.args.into.now in
    let whole = counted_pass number_in (is_number 0 MOST_PAY) count items ∙ sym (ap (are_credits count) (ap view c.in-Array.is ∙ view-Array c.in-Array.items)) ∙ c.requires in
    is_so (length items) count (both (length items == count) (list_all (λ v. is_number 0 MOST_PAY (view v)) items) whole).0

pub copy_credits-requires-clause-rule : goal.copy_credits-requires-clause-rule
copy_credits-requires-clause-rule c =
    let items = c.in-Array.items.items in
    let count = length c.args.into.now in
    let whole = counted_pass number_in (is_number 0 MOST_PAY) count items ∙ sym (ap (are_credits count) (ap view c.in-Array.is ∙ view-Array c.in-Array.items)) ∙ c.requires in
    (both (length items == count) (list_all (λ v. is_number 0 MOST_PAY (view v)) items) whole).1

pub returns-in-Array : goal.returns-in-Array
returns-in-Array c =
    let items = c.in-Array.items.items in
    record {
      numbers = c.copy_credits.ensures.numbers ∙ sym (items_read number_in items) ∙ sym (ap numbers_in (ap view c.in-Array.is ∙ view-Array c.in-Array.items));
    }
