use Rattle.std.proofs.Common.{rules}
use Rattle.gd_store.specs.Copy.{header_start}
use Rattle.gd_store.proofs.copy.sealing.header_prefix.Goals as goal

pub returns : goal.returns
unfolding header_start
returns c = search rules
