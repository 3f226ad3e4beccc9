use Rattle.std.proofs.Common.{◌≡◌, ◌∙◌, ap, sym, ℕ, List, ◌++◌, ◌-◌, length, map, replicate, nat_le, ◌&&◌, rules}
use Rattle.std.specs.List.{list_all}
use Rattle.std.proofs.lemmas.List.{length-map}
use Rattle.toml.proofs.Views.{view-Array}
use Rattle.toml.specs.View.{view}
use Rattle.gd_base.proofs.BoolTests.{at_most, both}
use Rattle.gd_base.specs.declared.limits.TheConstants.{MOST_AMOUNT, MOST_BILLS}
use Rattle.gd_base.specs.Setups.SetupRules.{rise_above}
use Rattle.gd_games.specs.File.{filled}
use Rattle.gd_games.specs.Values.{are_bills_in, is_number, number_in, numbers_in}
use Rattle.gd_games.proofs.Copied.{zeros_left}
use Rattle.gd_games.proofs.Lists.{bills_pass, items_read}
use Rattle.gd_games.proofs.values.bills.Goals as goal

pub copy_amounts-requires-clause-count : goal.copy_amounts-requires-clause-count
copy_amounts-requires-clause-count c =
    let items = c.in-Array.items.items in
    let whole = bills_pass items ∙ sym (ap are_bills_in (ap view c.in-Array.is ∙ view-Array c.in-Array.items)) ∙ c.requires in
    let first = (both (nat_le (length items) MOST_BILLS && list_all (λ v. is_number 1 MOST_AMOUNT (view v)) items) (rise_above 0 (map (λ v. number_in (view v)) items)) whole).0 in
    at_most (length items) MOST_BILLS (both (nat_le (length items) MOST_BILLS) (list_all (λ v. is_number 1 MOST_AMOUNT (view v)) items) first).0

pub copy_amounts-requires-clause-rule : goal.copy_amounts-requires-clause-rule
copy_amounts-requires-clause-rule c =
    let items = c.in-Array.items.items in
    let whole = bills_pass items ∙ sym (ap are_bills_in (ap view c.in-Array.is ∙ view-Array c.in-Array.items)) ∙ c.requires in
    let first = (both (nat_le (length items) MOST_BILLS && list_all (λ v. is_number 1 MOST_AMOUNT (view v)) items) (rise_above 0 (map (λ v. number_in (view v)) items)) whole).0 in
    (both (nat_le (length items) MOST_BILLS) (list_all (λ v. is_number 1 MOST_AMOUNT (view v)) items) first).1

pub returns-in-Array-clause-values : goal.returns-in-Array-clause-values
returns-in-Array-clause-values c =
    let items = c.in-Array.items.items in
    let read = sym (items_read number_in items) ∙ sym (ap numbers_in (ap view c.in-Array.is ∙ view-Array c.in-Array.items)) in
    c.copy_amounts.ensures.numbers
    ∙ ap (λ (l : List ℕ). map (λ v. number_in (view v)) items ++ l) (zeros_left (length items) 8)
    ∙ ap (λ (n : ℕ). map (λ v. number_in (view v)) items ++ replicate (8 - n) 0) (sym (length-map items (λ v. number_in (view v))))
    ∙ ap filled read

pub returns-in-Array-clause-count : goal.returns-in-Array-clause-count
returns-in-Array-clause-count c =
    let items = c.in-Array.items.items in
    let read = sym (items_read number_in items) ∙ sym (ap numbers_in (ap view c.in-Array.is ∙ view-Array c.in-Array.items)) in
    let count = sym (length-map items (λ v. number_in (view v))) ∙ ap (λ (l : List ℕ). length l) read in
    let long : c.len-count.result ≡ length items = search rules in
    long ∙ count
