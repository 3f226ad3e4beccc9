use Rattle.std.proofs.Common.{arith}
use Rattle.gd_base.proofs.TextLemmas.Digits.{at_most_ten, none_in_front}
use Rattle.gd_base.proofs.text.push_ten_digits.Goals as goal

pub loop-init : goal.loop-init
loop-init c = record {
  within = at_most_ten c.args.n c.format-digits.result.now c.format-digits.ensures.text c.requires.small;
  from = omega arith;
  bytes = none_in_front _ _;
}
