use Rattle.std.proofs.Common.{◌≡◌, ◌∙◌, ap, subst, List, ℕ, Some, None, arith, rules}
use Rattle.toml.specs.Parse.{parse_document}
use Rattle.toml.specs.View.{table_view}
use Rattle.gd_games.specs.declared.fault.SetupFault.{SetupFault}
use Rattle.gd_games.specs.File.{fault_in}
use Rattle.gd_games.proofs.Documents.{if_err, if_ok, is_document, not_toml, not_utf8, too_long}
use Rattle.gd_games.proofs.reading.read_setup.Goals as goal

pub returns-then-bytes-gt-MOST_FILE_LEN-clause-fault : goal.returns-then-bytes-gt-MOST_FILE_LEN-clause-fault
returns-then-bytes-gt-MOST_FILE_LEN-clause-fault c = λ f is.
    let text : SetupFault.Text ≡ f = cc is in
    ap fault_in (too_long c.args.bytes.now (omega arith)) ∙ ap Some text

pub returns-in_default-clause-fault : goal.returns-in_default-clause-fault
returns-in_default-clause-fault c = λ f is.
    let text : SetupFault.Text ≡ f = cc is in
    ap fault_in (not_utf8 c.args.bytes.now c.in_default.ensures.cases.0) ∙ ap Some text

pub returns-else-is_memory-clause-fault : goal.returns-else-is_memory-clause-fault
returns-else-is_memory-clause-fault c = λ f is.
    let text : SetupFault.Text ≡ f = cc is in
    let refused : parse_document c.in-Ok.text.now ≡ None = search rules in
    let none = subst (λ (t : List ℕ). parse_document t ≡ None) c.in-Ok.ensures.cases.0 refused in
    ap fault_in (not_toml c.args.bytes.now none) ∙ ap Some text

pub returns-in-Ok-table_from_str-clause-setup : goal.returns-in-Ok-table_from_str-clause-setup
returns-in-Ok-table_from_str-clause-setup c =
    let ms = table_view c.in-Ok-table_from_str.table in
    let whole = c.in-Ok.ensures.cases in
    let read = subst (λ (t : List ℕ). parse_document t ≡ Some ms) whole.0 c.in-Ok-table_from_str.ensures.ok in
    let is = is_document c.args.bytes.now ms (omega arith) whole.1 read in
    if_ok c.table_setup.result _ _ (λ s facts. record { members = ms; is = is; unbroken = ap fault_in is ∙ facts.0; values = facts.1 }) c.table_setup.ensures.setup

pub returns-in-Ok-table_from_str-clause-fault : goal.returns-in-Ok-table_from_str-clause-fault
returns-in-Ok-table_from_str-clause-fault c =
    let ms = table_view c.in-Ok-table_from_str.table in
    let whole = c.in-Ok.ensures.cases in
    let read = subst (λ (t : List ℕ). parse_document t ≡ Some ms) whole.0 c.in-Ok-table_from_str.ensures.ok in
    let is = is_document c.args.bytes.now ms (omega arith) whole.1 read in
    if_err c.table_setup.result _ _ (λ e told f same. ap fault_in is ∙ told f same) c.table_setup.ensures.fault
