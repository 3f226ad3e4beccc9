use Rattle.std.proofs.Common.{◌∙◌, ap, ok_or, sym}
use Rattle.gd_script.specs.declared.item.LineFault.{LineFault}
use Rattle.gd_script.proofs.WholeLines.{long, ok_in_grammar, not_a_line_exactly, ok_exactly, read_whole}
use Rattle.gd_script.proofs.reading.read_line.Goals as goal

pub returns-then-line-gt-LINE_LEN-clause-value : goal.returns-then-line-gt-LINE_LEN-clause-value
returns-then-line-gt-LINE_LEN-clause-value c = sym (long c.args.line.now c.if-line-gt-LINE_LEN.true)

pub returns-clause-value : goal.returns-clause-value
returns-clause-value c = c.ok_or.ensures.value ∙ (ap (λ o. ok_or o LineFault.NotALine) c.read_item.ensures ∙ read_whole c.args.line.now c.if-line-gt-LINE_LEN.false)

pub returns-clause-item : goal.returns-clause-item
returns-clause-item c = ok_exactly c.args.line.now c.ok_or.result (returns-clause-value c)

pub returns-clause-not_a_line : goal.returns-clause-not_a_line
returns-clause-not_a_line c = not_a_line_exactly c.args.line.now c.ok_or.result (returns-clause-value c)

pub returns-clause-grammar : goal.returns-clause-grammar
returns-clause-grammar c = ok_in_grammar c.args.line.now c.ok_or.result (returns-clause-value c)
