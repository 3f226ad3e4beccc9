use Rattle.std.proofs.Common.{◌≡◌, true, arith, ◌∙◌, sym}
use Rattle.gd_script.proofs.Numbers.{in_range, not_digits, not_plain, out_of_range, too_long}
use Rattle.gd_script.proofs.fields.read_number.Goals as goal

pub returns-then-not-starts_plainly-clause-value :
    goal.returns-then-not-starts_plainly-clause-value
returns-then-not-starts_plainly-clause-value c = not_plain _ _ _ (omega arith) (λ plain. let h : c.starts_plainly.result ≡ true = c.starts_plainly.ensures.1 plain in cc)

pub returns-then-word-gt-NUMBER_LEN-clause-value :
    goal.returns-then-word-gt-NUMBER_LEN-clause-value
returns-then-word-gt-NUMBER_LEN-clause-value c = too_long _ _ _ (omega arith) c.if-word-gt-NUMBER_LEN.true

pub returns-in_err-value-clause-value : goal.returns-in_err-value-clause-value
returns-in_err-value-clause-value c = c.from_residual.ensures ∙ not_digits _ _ _ (omega arith) (sym c.in_err-value.was ∙ c.read_digits.ensures)

pub returns-then-value-from-clause-value : goal.returns-then-value-from-clause-value
returns-then-value-from-clause-value c = out_of_range _ _ _ c.in_ok-value.value (sym c.in_ok-value.was ∙ c.read_digits.ensures) (λ a b. omega arith)

pub returns-then-value-from-2-clause-value : goal.returns-then-value-from-2-clause-value
returns-then-value-from-2-clause-value c = out_of_range _ _ _ c.in_ok-value.value (sym c.in_ok-value.was ∙ c.read_digits.ensures) (λ a b. omega arith)

pub returns-clause-value : goal.returns-clause-value
returns-clause-value c =
    in_range _ _ _ c.in_ok-value.value (omega arith) (c.starts_plainly.ensures.0 c.if-not-starts_plainly.false) (sym c.in_ok-value.was ∙ c.read_digits.ensures) (omega arith) (omega arith)
