use Rattle.std.proofs.Common.{arith, ◌∙◌}
use Rattle.gd_script.proofs.HoldBits.{more_bits}
use Rattle.gd_script.proofs.printing.push_bits.Goals as goal

pub loop-card-preserved : goal.loop-card-preserved
loop-card-preserved c = record {
  bytes = c.push_str.ensures.bytes ∙ more_bits c.args.mask c.loop-card.card _ _ _ c.loop-card-test.true c.loop-card.invariant.bytes c.bit.ensures.digit;
  room = omega arith;
}
