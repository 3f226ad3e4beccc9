use Rattle.std.proofs.Common.{arith, ◌^◌}
use Rattle.gd_machine.proofs.Empty.{each_below}
use Rattle.gd_machine.proofs.machine.stepping.words_fit.Goals as goal

pub returns : goal.returns
returns c = each_below (2 ^ 64) c.args.words.now (λ i. omega (arith, c.type_inv.words i))
