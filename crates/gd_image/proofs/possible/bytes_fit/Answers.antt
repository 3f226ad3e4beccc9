use Rattle.std.proofs.Common.{arith}
use Rattle.gd_image.proofs.Testing.{each_byte}
use Rattle.gd_image.proofs.possible.bytes_fit.Goals as goal

pub returns : goal.returns
returns c = each_byte c.args.bytes.now (λ i. omega (arith, c.type_inv.bytes i))
