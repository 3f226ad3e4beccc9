use Rattle.std.proofs.Common.{ap, option_copied}
use Rattle.gd_script.proofs.SplitLemmas.{not_only}
use Rattle.gd_script.proofs.words.only_word.Goals as goal

pub returns-in_default-Some : goal.returns-in_default-Some
returns-in_default-Some c = not_only c.args.text.now c.split_first.result.0.now c.in_default-Some.field-0-1.now (option_copied c.split_first.result.1) c.split_first.ensures (ap option_copied c.in_default-Some.is-1)
