use Rattle.std.proofs.Common.{arith}
use Rattle.gd_machine.proofs.Empty.{each_below}
use Rattle.gd_machine.proofs.machine.bytes_fit.Goals as goal

pub returns : goal.returns
returns c = each_below 256 c.args.bytes.now (λ i. omega (arith, c.type_inv.bytes i))
